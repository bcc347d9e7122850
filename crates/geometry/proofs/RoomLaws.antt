-- The laws of room that is tested once: bits that are there are fields of the bytes, and a part that stands in them is what its own read gives.
use Rattle.std.specs.Prelude.{if◌then◌else◌, Result, Ok, Err}
use Prim.Native.Nat.{ℕ, zero, suc, ◌+◌, ◌-◌, ◌*◌, ◌/◌, ◌%◌, ◌^◌, ◌≤◌, ◌<◌}
use mathlib.Core.Path.{◌≡◌, refl, sym, ap, ap₂, ◌∙◌, subst}
use mathlib.Core.Bool.{Bool, true, false}
use mathlib.Core.List.{List}
use native.Mathlib.Nat.{one-mul, pow-succ'}
use native.Mathlib.Omega.{arith}
use lib.Dec.{ltb, eqb}
use lib.Pow.{pow_pos}
use borrow.Author.Tests.{le-leb, le-ltb, ne_eqb}
use Rattle.bits.specs.Bits.{num, field}
use Rattle.bits.proofs.ChoiceLaws.{by_cases}
use Rattle.bits.proofs.FieldLaws.{field_lt, field_low, field_high, field_field, field_empty, placed, inside}
use Rattle.bits.proofs.Never.{never}
use Rattle.bitio.specs.Cursors.{bits_of, good, window, bad_cursor_lem, at_cursor, asking, skipped, remaining_of, seen}
use Rattle.bitio.specs.Reads.{read_bit_lem, read_bits_lem, widest_read}
use Rattle.bitio.specs.Numbers.{log2, serialized_top, serialized_at, read_serialized_int_lem}
use Rattle.bitio.proofs.CursorLaws.{good_true, good_le, window_field, at_bad, at_good, asking_enough}
use Rattle.bitio.proofs.ReadLaws.{skip_done}
use Rattle.bitio.proofs.NumberLaws.{log2_is}
use Rattle.bitio.specs.declared.Cursor.{Cursor}
use Rattle.bitio.specs.declared.Read.{Read}
use Rattle.bitio.specs.declared.Refusal.{Refusal}
use Rattle.bitio.specs.declared.Refusal.TheVariants.{TooFew}
use Rattle.geometry.specs.Parts.{at, up_to, and_then, unread, axis_at, part_at, three, three_at, apart, axis_in_lem, axis_bits_lem, axis_behind, axes_in}
use Rattle.geometry.specs.Movements.{flags, flags_at}
use Rattle.geometry.proofs.PartLaws.{three_read, axis_set, axis_clear, size_is}
use Rattle.geometry.specs.declared.parts.Part.TheVariants.{Bits, Axis, Integer}
use Rattle.geometry.specs.declared.parts.Three.{Three}

-- ---- an axis whose bit is the lowest of a number

-- a bit times a number
at_most : (b k : ℕ) → b < 2 → b * k ≤ k
at_most zero k h = omega arith
at_most (suc zero) k h = omega arith
at_most (suc (suc b)) k h = absurd (omega arith)

-- an axis takes its bit and at most w more
pub axis_small : (all w : ℕ) {a : ℕ} → a ≡ axis_bits_lem all w → a ≤ w + 1
axis_small all w e =
    let o : all % 2 < 2 = omega arith in
    let u : all % 2 * w ≤ w = at_most (all % 2) w o in
    omega arith

-- an axis at the lowest bit: the bit times the number behind it
pub axis_number : (all w : ℕ) → w ≤ 20 → all % 2 * (all / 2 % ((1 * 2 ^ w) % 18446744073709551616)) ≡ axis_in_lem all w
unfolding field
axis_number all w h = rw (size_is w (omega arith)) (go (all % 2) (omega arith))
  where
    go : (b : ℕ) → b < 2 → b * (all / 2 % 2 ^ w) ≡ (all / 2 ^ 1) % 2 ^ (b * w)
    go zero l = let z : 0 * w ≡ 0 = omega arith in rw z (omega arith)
    go (suc zero) l = let z : 1 * w ≡ w = omega arith in rw z (one-mul (all / 2 % 2 ^ w))
    go (suc (suc b)) l = absurd (omega arith)

-- three take no more than three times that
pub axes_few : (all w : ℕ) →
    let behind = axis_behind all w in
    let last = axis_behind behind w in
    axis_bits_lem all w + axis_bits_lem behind w + axis_bits_lem last w ≤ 3 * (w + 1)
axes_few all w =
    let behind = axis_behind all w in
    let last = axis_behind behind w in
    omega (arith, axis_small all w refl, axis_small behind w refl, axis_small last w refl)

-- ---- bits that are there

-- bits that were skipped are there
pub room_there : (s : List ℕ) (c : Cursor) (n : ℕ) {next : ℕ} → Ok next ≡ skipped s c n
    → (good s c ≡ true) × (c.pos + n ≤ c.len) × (c.start + c.len ≤ bits_of s) × (next ≡ c.pos + n)
room_there s c n {next} e =
    let d = skip_done s c n next (sym e) in
    let a : skipped s c n ≡ Ok (c.pos + n)
    = at_good s c (λ W. asking c.len c.pos n (Ok (c.pos + n))) d.0 ∙ asking_enough c.len c.pos n (Ok (c.pos + n)) d.1 in
    let z : next ≡ c.pos + n = cc in
    (d.0, d.1, (good_le s c d.0).1, z)

-- and so are those that remain
pub left_there : (s : List ℕ) (c : Cursor) {left : ℕ} → Ok left ≡ remaining_of s c
    → (good s c ≡ true) × (c.pos + left ≡ c.len) × (c.start + c.len ≤ bits_of s)
left_there s c {left} e =
    by_cases (good s c)
    (λ g. let a = at_good s c (λ W. Ok (c.len - c.pos)) g in
    let z : left ≡ c.len - c.pos = cc in
    let l = good_le s c g in
    (g, omega arith, l.1))
    (λ g. let a = at_bad s c (λ W. Ok (c.len - c.pos)) g in
    let z : ◌≡◌ {A = ℕ} 0 1 = cc in
    never z)

module _ (s : List ℕ) (c : Cursor) (g : good s c ≡ true) where
  still_good : (p : ℕ) → p ≤ c.len → good s (at c p) ≡ true
  still_good p h = good_true s (at c p) h (good_le s c g).1

  -- n bits at p, which are bits of the bytes from k on
  pub bits_there : (n p k : ℕ) {x q : ℕ} → n ≤ 64 → p + n ≤ c.len → k ≡ c.start + p → q ≡ p + n → x ≡ field (num s) k n
      → Ok (up_to x q) ≡ read_bits_lem s (at c p) n
  unfolding read_bits_lem
  bits_there n p k {x} {q} w h ek eq ex =
      let l : p ≤ c.len = omega arith in
      ap₂ (λ (y o : ℕ). Ok (up_to y o)) (ex ∙ ap (λ (j : ℕ). field (num s) j n) ek ∙ sym (window_field s (at c p) p n h)) eq
      ∙ sym (at_good s (at c p) _ (still_good p l) ∙ simp (le-ltb _ _ w) (asking_enough _ _ _ _ h))

  -- a bit at p
  pub bit_there : (p k : ℕ) {x q : ℕ} → p + 1 ≤ c.len → k ≡ c.start + p → q ≡ p + 1 → x ≡ field (num s) k 1
      → Ok (up_to (eqb x 1) q) ≡ read_bit_lem s (at c p)
  unfolding seen
  bit_there p k {x} {q} h ek eq ex =
      let l : p ≤ c.len = omega arith in
      let f : x ≡ field (window s (at c p)) p 1 = ex ∙ ap (λ (j : ℕ). field (num s) j 1) ek ∙ sym (window_field s (at c p) p 1 h) in
      let t : skipped s (at c p) 1 ≡ Ok q
      = at_good s (at c p) (λ W. asking c.len p 1 (Ok (p + 1))) (still_good p l) ∙ asking_enough c.len p 1 (Ok (p + 1)) h ∙ ap Ok (sym eq) in
      sym (ap₂ (λ (y : ℕ) (k : Result ℕ Refusal). seen (eqb y 1) k) (sym f) t)

  -- three numbers of n bits
  pub three_there : (n : ℕ) {a x y z q : ℕ} → n ≤ 64 → c.pos + 3 * n ≤ c.len → a ≡ c.start + c.pos → q ≡ c.pos + 3 * n
      → x ≡ field (num s) a n → y ≡ field (num s) (a + n) n → z ≡ field (num s) (a + n + n) n → Ok (up_to (three x y z) q) ≡ three_at s (Bits n) c
  unfolding part_at
  three_there n {a} w h ea eq ex ey ez =
      three_read s (Bits n) c
      (bits_there n c.pos a w (omega arith) ea refl ex)
      (bits_there n (c.pos + n) (a + n) w (omega arith) (omega arith) refl ey)
      (bits_there n (c.pos + n + n) (a + n + n) w (omega arith) (omega arith) (omega arith) ez)

  -- of 32 bits, the first two in one word
  pub singles_there : {a two z q : ℕ} → c.pos + 96 ≤ c.len → a ≡ c.start + c.pos → q ≡ c.pos + 96
      → two ≡ field (num s) a 64 → z ≡ field (num s) (a + 64) 32 → Ok (up_to (three (two % 2 ^ 32) (two / 2 ^ 32) z) q) ≡ three_at s (Bits 32) c
  singles_there {a} {two} {z} h ea eq e₂ ez =
      three_there 32 (omega arith) (omega arith) ea (omega arith)
      (ap (λ (x : ℕ). x % 2 ^ 32) e₂ ∙ field_low (num s) a 32 64 (omega arith))
      (ap (λ (x : ℕ). x / 2 ^ 32) e₂ ∙ field_high (num s) a 64 32 (omega arith))
      (placed (num s) (a + 64) (a + 32 + 32) 32 z (omega arith) ez)

  -- an axis at p: its bit b, and w bits if b is 1
  axis_there : (w p k : ℕ) {b x q : ℕ} → w ≤ 64 → p + (1 + b * w) ≤ c.len → k ≡ c.start + p → b ≡ field (num s) k 1
      → x ≡ field (num s) (k + 1) (b * w) → q ≡ p + (1 + b * w) → Ok (up_to x q) ≡ axis_at s (at c p) w
  axis_there w p k {b} {x} {q} l h ek eb ex eq = go b (subst (λ (y : ℕ). y < 2) (sym eb) (field_lt (num s) k 1)) h eb ex eq
    where
      go : (b : ℕ) → b < 2 → p + (1 + b * w) ≤ c.len → b ≡ field (num s) k 1 → x ≡ field (num s) (k + 1) (b * w) → q ≡ p + (1 + b * w)
          → Ok (up_to x q) ≡ axis_at s (at c p) w
      go zero lt h eb ex eq =
          let z : x ≡ 0 = ex ∙ sym (field_empty (num s) (k + 1) (0 * w) (omega arith)) in
          let t : q ≡ p + 1 = omega arith in
          ap₂ (λ (y o : ℕ). Ok (up_to y o)) z t ∙ axis_clear s (at c p) w (p + 1) (bit_there p k {x = 0} (omega arith) ek refl eb)
      go (suc zero) lt h eb ex eq =
          let o : 1 * w ≡ w = omega arith in
          axis_set s (at c p) w (p + 1) (bit_there p k {x = 1} (omega arith) ek refl eb)
          (bits_there w (p + 1) (k + 1) l (omega arith) (omega arith) (omega arith) (ex ∙ ap (field (num s) (k + 1)) o))
      go (suc (suc b)) lt h eb ex eq = absurd (omega arith)

  -- an axis at p, cut from n bits that start with it, and the bits behind it
  axis_cut : (w n p k all : ℕ) →
      let m = all % 2 * w in
      let a = 1 + m in
      w ≤ 64 → a ≤ n → p + a ≤ c.len → k ≡ c.start + p → all ≡ field (num s) k n
      → (Ok (up_to (field all 1 m) (p + a)) ≡ axis_at s (at c p) w) × (all / 2 ^ a ≡ field (num s) (k + a) (n - a))
  axis_cut w n p k all l u h ek e =
      let m = all % 2 * w in
      let b : all % 2 ≡ field (num s) k 1 = ap (λ (y : ℕ). y % 2 ^ 1) e ∙ field_low (num s) k 1 n (omega arith) in
      let f : field all 1 m ≡ field (num s) (k + 1) m = ap (λ (y : ℕ). field y 1 m) e ∙ field_field (num s) k n 1 m (omega arith) in
      (axis_there w p k l h ek b f refl, ap (λ (y : ℕ). y / 2 ^ (1 + m)) e ∙ field_high (num s) k n (1 + m) (omega arith))

  -- three axes, cut from m bits whose first n hold them
  pub axes_there : (w n m k all : ℕ) → w ≤ 20 → c.pos + n ≤ c.len → n ≤ m → k ≡ c.start + c.pos → all ≡ field (num s) k m →
      let behind = axis_behind all w in
      let last = axis_behind behind w in
      axis_bits_lem all w + axis_bits_lem behind w + axis_bits_lem last w ≤ n
      → Ok (axes_in all w c.pos) ≡ three_at s (Axis w) c
  unfolding part_at
  axes_there w n m k all l h i ek e u =
      let a = axis_bits_lem all w in
      let behind = axis_behind all w in
      let b = axis_bits_lem behind w in
      let last = axis_behind behind w in
      let r₁ = axis_cut w m c.pos k all (omega arith) (omega arith) (omega arith) ek e in
      let r₂ = axis_cut w (m - a) (c.pos + a) (k + a) behind (omega arith) (omega arith) (omega arith) (omega arith) r₁.1 in
      let r₃ = axis_cut w (m - a - b) (c.pos + a + b) (k + a + b) last (omega arith) (omega arith) (omega arith) (omega arith) r₂.1 in
      three_read s (Axis w) c r₁.0 r₂.0 r₃.0

  -- the same, as they were cut
  pub axes_left : (w n k all : ℕ) {t : Read Three} → w ≤ 20 → c.pos + n ≤ c.len → k ≡ c.start + c.pos → all ≡ field (num s) k n
      → t ≡ axes_in all w 0 → t.next ≤ n → Ok (up_to t.value (c.pos + t.next)) ≡ three_at s (Axis w) c
  axes_left w n k all {t} l h ek e cut u =
      let a = axis_bits_lem all w in
      let behind = axis_behind all w in
      let b = axis_bits_lem behind w in
      let last = axis_behind behind w in
      let d = axis_bits_lem last w in
      let ev : t.value ≡ three (axis_in_lem all w) (axis_in_lem behind w) (axis_in_lem last w) = ap (λ (r : Read Three). r.value) cut in
      let eq : t.next ≡ 0 + a + b + d = ap (λ (r : Read Three). r.next) cut in
      let f : c.pos + t.next ≡ c.pos + a + b + d = omega arith in
      rw (ev, f) (axes_there w n n k all l h (omega arith) ek e (omega arith))

  -- four flags, in one field
  pub flags_there : {a four q : ℕ} → c.pos + 4 ≤ c.len → a ≡ c.start + c.pos → q ≡ c.pos + 4 → four ≡ field (num s) a 4
      → Ok (up_to (flags (eqb (four % 2) 1) (eqb (four / 2 % 2) 1) (eqb (four / 4 % 2) 1) (eqb (four / 8 % 2) 1)) q) ≡ flags_at s c
  unfolding flags_at and_then unread
  flags_there {a} {four} {q} h ea eq e =
      let p = c.pos in
      let f₁ : four % 2 ≡ field (num s) a 1 = ap (λ (x : ℕ). x % 2 ^ 1) e ∙ field_low (num s) a 1 4 (omega arith) in
      let f₂ : four / 2 % 2 ≡ field (num s) (a + 1) 1 = inside (num s) a 4 1 1 (a + 1) four refl (omega arith) e in
      let f₃ : four / 4 % 2 ≡ field (num s) (a + 2) 1 = inside (num s) a 4 2 1 (a + 2) four refl (omega arith) e in
      let f₄ : four / 8 % 2 ≡ field (num s) (a + 3) 1 = inside (num s) a 4 3 1 (a + 3) four refl (omega arith) e in
      let h₁ = sym (bit_there p a (omega arith) ea refl f₁) in
      let h₂ = sym (bit_there (p + 1) (a + 1) (omega arith) (omega arith) refl f₂) in
      let h₃ = sym (bit_there (p + 1 + 1) (a + 2) (omega arith) (omega arith) refl f₃) in
      let h₄ = sym (bit_there (p + 1 + 1 + 1) (a + 3) {q = q} (omega arith) (omega arith) (omega arith) f₄) in
      rw (h₁, h₂, h₃, h₄)

-- a read whose room is short is refused as skipping its bits is
pub read_refused : (s : List ℕ) (c : Cursor) (n : ℕ) {r : Refusal} → n ≤ 64 → Err r ≡ skipped s c n → Err r ≡ read_bits_lem s c n
unfolding read_bits_lem at_cursor asking
read_refused s c n {r} w e = simp (le-ltb widest_read n w) (go (good s c) (ltb c.len (c.pos + n)) e)
  where
    go : (a d : Bool)
        → Err r ≡ (if a then (if d then Err (TooFew c.pos c.len n) else Ok (c.pos + n)) else Err (bad_cursor_lem s c))
        → ◌≡◌ {A = Result (Read ℕ) Refusal} (Err r) (if a then (if d then Err (TooFew c.pos c.len n) else Ok (up_to (field (window s c) c.pos n) (c.pos + n))) else Err (bad_cursor_lem s c))
    go true true e = cc
    go true false e = let z : ◌≡◌ {A = ℕ} 0 1 = cc in never z
    go false d e = cc

-- m being a power of 2, its low bits leave no top bit open
power_log : (s : List ℕ) (c : Cursor) (m : ℕ) → (m ≡ 0 → ⊥) → log2 m ≤ 64 → m ≡ 2 ^ log2 m → read_serialized_int_lem s c m ≡ read_bits_lem s c (log2 m)
unfolding read_bits_lem at_cursor serialized_at serialized_top
power_log s c m nz w e =
    simp (ne_eqb m 0 nz, le-leb m (field (window s c) c.pos (log2 m) + 2 ^ log2 m) (omega arith), le-ltb widest_read (log2 m) w)

-- a serialized integer whose maximum is a power of 2 is that many bits
pub power_maximum : (s : List ℕ) (c : Cursor) (b : ℕ) → b < 32 → read_serialized_int_lem s c (2 ^ b) ≡ read_bits_lem s c b
power_maximum s c b h =
    let p : 0 < 2 ^ b = pow_pos b in
    let t : 2 ^ suc b ≡ 2 * 2 ^ b = pow-succ' 2 b in
    let e : log2 (2 ^ b) ≡ b = log2_is b (2 ^ b) h (omega arith) (omega arith) in
    power_log s c (2 ^ b) (λ z. omega arith) (omega arith) (sym (ap (λ (k : ℕ). 2 ^ k) e)) ∙ ap (read_bits_lem s c) e

-- three integers with maximum 65,536 that are there, in one field
pub shorts_there : (s : List ℕ) (c : Cursor) {a all q : ℕ} → good s c ≡ true → c.pos + 48 ≤ c.len → a ≡ c.start + c.pos → q ≡ c.pos + 48
    → all ≡ field (num s) a 48 → Ok (up_to (apart 16 all) q) ≡ three_at s (Integer 65536) c
unfolding part_at
shorts_there s c {a} {all} {q} g h ea eq e =
    let part : (j : ℕ) → j + 16 ≤ 48 → field all j 16 ≡ field (num s) (a + j) 16
    = λ j l. ap (λ (x : ℕ). field x j 16) e ∙ field_field (num s) a 48 j 16 l in
    let at-16 : (d : Cursor) → read_bits_lem s d 16 ≡ read_serialized_int_lem s d 65536 = λ d. sym (power_maximum s d 16 (omega arith)) in
    three_read s (Integer 65536) c
    (bits_there s c g 16 c.pos (a + 0) (omega arith) (omega arith) (omega arith) refl (part 0 (omega arith)) ∙ at-16 c)
    (bits_there s c g 16 (c.pos + 16) (a + 16) (omega arith) (omega arith) (omega arith) refl (part 16 (omega arith)) ∙ at-16 (at c (c.pos + 16)))
    (bits_there s c g 16 (c.pos + 16 + 16) (a + 32) (omega arith) (omega arith) (omega arith) (omega arith) (part 32 (omega arith)) ∙ at-16 (at c (c.pos + 16 + 16)))
