-- Bits one behind the other in a window; a packed number is read exactly where its bits stand.
use Prim.Native.Nat.{ℕ, ◌+◌, ◌-◌, ◌*◌, ◌/◌, ◌%◌, ◌^◌, ◌≤◌, ◌<◌}
use mathlib.Core.Path.{◌≡◌, refl, sym, ap, ap₂, ◌∙◌}
use mathlib.Core.Bool.{Bool, true, false}
use native.Mathlib.Nat.{lt_of_lt_of_le}
use native.Mathlib.Omega.{arith}
use lib.Dec.{leb}
use lib.Pow.{pow_mono}
use borrow.Author.Tests.{leb-true, leb-false}
use Rattle.bits.specs.Bits.{field}
use Rattle.bits.specs.Packed.{Packed, whole, packed}
use Rattle.std.specs.Prelude.{Ok, Err}
use Rattle.bits.proofs.FieldLaws.{field_none, field_split, field_low, field_high}
use Rattle.framing.specs.Windows.{Window, got, reading_of, reading}
use Rattle.framing.specs.Grammar.{Bits, no_bits_lem, ◌then◌, Num, num_bits, IsNum}
use Rattle.framing.proofs.NumberBits.{low_part, high_part, Written, written_from, read_from}

-- ---- spans: the bits b stand in the window from bit p to bit q

pub record Span (w : Window) (p q : ℕ) (b : Bits) : Type 0 where
  pub ends : q ≡ p + b.size
  pub within : q ≤ w.size
  pub same : field w.bits p b.size ≡ b.number

-- as many bits as their size says
abbrev pub Below : Bits → Type 0
Below b = b.number < 2 ^ b.size

pub span_none : (w : Window) (p : ℕ) → p ≤ w.size → Span w p p no_bits_lem
span_none w p h = record { ends = omega arith; within = h; same = field_none w.bits p }

pub span_join : (w : Window) (p q r : ℕ) (a b : Bits) → Span w p q a → Span w q r b → Span w p r (a then b)
span_join w p q r a b s t =
    let e = s.ends in
    let e₂ = t.ends in
    record {
      ends = omega arith;
      within = t.within;
      same =
          field_split w.bits p a.size b.size
          ∙ ap₂ (λ (x y : ℕ). x + 2 ^ a.size * y) s.same (ap (λ (k : ℕ). field w.bits k b.size) (sym e) ∙ t.same);
    }

pub span_first : (w : Window) (p r : ℕ) (a b : Bits) → Below a → Span w p r (a then b) → Span w p (p + a.size) a
span_first w p r a b h s =
    let e = s.ends in
    let l = s.within in
    let d : a.size ≤ a.size + b.size = omega arith in
    record {
      ends = refl;
      within = omega arith;
      same =
          sym (field_low w.bits p a.size (a.size + b.size) d)
          ∙ ap (λ (x : ℕ). x % 2 ^ a.size) s.same
          ∙ low_part a.number a.size b.number h;
    }

pub span_second : (w : Window) (p r : ℕ) (a b : Bits) → Below a → Span w p r (a then b) → Span w (p + a.size) r b
span_second w p r a b h s =
    let e = s.ends in
    let d : a.size ≤ a.size + b.size = omega arith in
    let d₂ : a.size + b.size - a.size ≡ b.size = omega arith in
    record {
      ends = omega arith;
      within = s.within;
      same =
          ap (λ (k : ℕ). field w.bits (p + a.size) k) (sym d₂)
          ∙ sym (field_high w.bits p (a.size + b.size) a.size d)
          ∙ ap (λ (x : ℕ). x / 2 ^ a.size) s.same
          ∙ high_part a.number a.size b.number h;
    }

-- ---- packed numbers

module _ (w : Window) (p : ℕ) where
  got_whole : (v b : ℕ) → reading w p ≡ got v b → packed w.bits w.size p ≡ whole v b
  unfolding reading
  got_whole v b e = go (packed w.bits w.size p) refl e
    where
      go : (r : Packed) → packed w.bits w.size p ≡ r → reading_of r ≡ got v b → packed w.bits w.size p ≡ whole v b
      go (Ok x) f g = f ∙ ap₂ whole (cc) (cc)
      go (Err why) f g = let z : ◌≡◌ {A = ℕ} 0 1 = cc in absurd (omega arith)

  -- a number that is read stands there
  pub read_num : (v b : ℕ) → reading w p ≡ got v b → IsNum (record { value = v; bytes = b }) × Span w p (p + 8 * b) (num_bits (record { value = v; bytes = b }))
  unfolding packed
  read_num v b e =
      let r = written_from 4 w.bits w.size p v b (got_whole v b e) in
      let m = r.most in
      let f = r.fits in (
        record { some = r.some; most = omega arith; fits = r.fits; word = word r },
        record { ends = refl; within = r.inside; same = r.bits },
      )
    where
      word : Written 4 w.bits w.size p v b → v < 2 ^ 32
      word r = go (leb b 4) refl
        where
          go : (x : Bool) → leb b 4 ≡ x → v < 2 ^ 32
          go true k = let l : b ≤ 4 = leb-true _ _ k in lt_of_lt_of_le r.fits (pow_mono {j = 32} (omega arith))
          go false k = let l : 4 < b = leb-false _ _ k in let m = r.most in r.last (omega arith)

  -- and one that stands there is read
  pub num_read : (n : Num) (q : ℕ) → IsNum n → Span w p q (num_bits n) → reading w p ≡ got n.value n.bytes
  unfolding reading packed
  num_read n q ok s =
      let e = s.ends in
      let l = s.within in
      ap reading_of
      (read_from 4 w.bits w.size p n.value n.bytes
      (record {
        some = ok.some;
        most = (let z = ok.most in omega arith);
        fits = ok.fits;
        last = λ z. ok.word;
        inside = omega arith;
        bits = s.same;
      }))
