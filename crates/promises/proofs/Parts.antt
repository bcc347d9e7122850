-- The parts of a vector, a normal, a rotation or a movement as bits that are asked for, and reading on behind them: at a good cursor a part is
-- refused exactly if its bits are not there, and else the next stands behind it.
use Rattle.std.specs.Prelude.{Result, Ok, Err}
use Prim.Native.Nat.{ℕ, suc, ◌+◌, ◌^◌, ◌≤◌}
use mathlib.Core.Path.{◌≡◌, sym, ap, ◌∙◌, subst}
use mathlib.Core.Bool.{Bool, true}
use mathlib.Core.List.{List, [], ◌∷◌}
use native.Mathlib.Omega.{arith}
use lib.Dec.{ltb}
use borrow.Author.Tests.{le-leb, le-ltb, ne_eqb}
use Rattle.bits.specs.Bits.{field}
use Rattle.bitio.specs.Cursors.{bits_of, good, window, asking, seen}
use Rattle.bitio.specs.Numbers.{log2, serialized_top, serialized_at, read_serialized_int_lem}
use Rattle.bitio.specs.Reads.{read_bit_lem, read_bits_lem, widest_read}
use Rattle.bitio.proofs.CursorLaws.{good_true, at_good}
use Rattle.bits.proofs.ChoiceLaws.{by_cases}
use Rattle.bitio.specs.declared.Cursor.{Cursor}
use Rattle.bitio.specs.declared.Read.{Read}
use Rattle.bitio.specs.declared.Refusal as bitio
use Rattle.geometry.specs.Parts.{at, up_to, and_then, axis_after, axis_at, part_at, three, three_at}
use Rattle.geometry.specs.declared.Refusal.TheVariants.{Unread}
use Rattle.geometry.specs.declared.parts.Part.{Part}
use Rattle.geometry.specs.declared.parts.Three.{Three}
use Rattle.promises.specs.MoveOrders.{is_set, lacking, axis_parts}
use Rattle.promises.proofs.Standing.{Seen, stops, first_or, ending, ask}

-- ---- a part as bits that are asked for

module _ (s : List ℕ) (c : Cursor) (fits : c.start + c.len ≤ bits_of s) where
  there : (p : ℕ) → p ≤ c.len → good s (at c p) ≡ true
  there p h = good_true s (at c p) h fits

  -- n bits at bit p.
  pub bits_asked : (n p : ℕ) → n ≤ 64 → p ≤ c.len → read_bits_lem s (at c p) n ≡ asking c.len p n (Ok (up_to (field (window s c) p n) (p + n)))
  unfolding read_bits_lem window
  bits_asked n p k h = at_good s (at c p) _ (there p h) ∙ simp (le-ltb widest_read n k)

  -- One bit, as a truth.
  pub bit_asked : (p : ℕ) → p ≤ c.len → read_bit_lem s (at c p) ≡ asking c.len p 1 (Ok (up_to (is_set (window s c) p) (p + 1)))
  unfolding seen asking window
  bit_asked p h =
      ap (seen (is_set (window s c) p)) (at_good s (at c p) (λ W. asking c.len p 1 (Ok (p + 1))) (there p h))
      ∙ by_cases (ltb c.len (p + 1)) (λ e. simp e) (λ e. simp e)

  -- a serialized integer whose maximum is a power of 2 never leaves its top bit open
  power_asked : (m p : ℕ) → m ≤ 2 ^ log2 m → (m ≡ 0 → ⊥) → p ≤ c.len
      → read_serialized_int_lem s (at c p) m ≡ asking c.len p (log2 m) (Ok (up_to (field (window s c) p (log2 m)) (p + log2 m)))
  unfolding serialized_at serialized_top window
  power_asked m p e nz h =
      at_good s (at c p) _ (there p h)
      ∙ simp (ne_eqb m 0 nz, le-leb m (field (window s c) p (log2 m) + 2 ^ log2 m) (omega arith))

  -- A serialized integer with a maximum of b bits is b bits.
  pub integer_asked : (m b p : ℕ) → log2 m ≡ b → m ≤ 2 ^ b → (m ≡ 0 → ⊥) → p ≤ c.len
      → read_serialized_int_lem s (at c p) m ≡ asking c.len p b (Ok (up_to (field (window s c) p b) (p + b)))
  integer_asked m b p l e nz h =
      subst (λ (k : ℕ). read_serialized_int_lem s (at c p) m ≡ asking c.len p k (Ok (up_to (field (window s c) p k) (p + k)))) l
      (power_asked m p (subst (λ (k : ℕ). m ≤ 2 ^ k) (sym l) e) nz h)

-- ---- reading on behind a part

module _ {A : Type 0} (view : Result A bitio.Refusal → Seen) (shows : (r : bitio.Refusal) → view (Err r) ≡ stops (Unread r)) where
  -- behind a part of n bits, which gives x
  pub then_read : {X : Type 0} (len p n : ℕ) (x : X) (b : Result X bitio.Refusal) (next : X → Result A bitio.Refusal) (z : Seen)
      → b ≡ asking len p n (Ok x) → (p + n ≤ len → view (next x) ≡ z) → view (and_then b next) ≡ first_or (lacking len p (n ∷ [])) z
  unfolding and_then
  then_read {X} len p n x b next z e h =
      ap (λ (k : Result X bitio.Refusal). view (and_then k next)) e ∙ ask (λ k. view (and_then k next)) (λ r. shows r) len p n (Ok x) z h

module _ {A : Type 0} (view : Result A bitio.Refusal → Seen) (shows : (r : bitio.Refusal) → view (Err r) ≡ stops (Unread r)) where
  -- behind an axis of w bits: its bit, and where that is set its number
  module _ (s : List ℕ) (c : Cursor) (fits : c.start + c.len ≤ bits_of s) (w : ℕ) (small : w ≤ 64) where
    -- Behind one of `suc k` axes the others follow.
    pub then_axis : (k p : ℕ) (next : Read ℕ → Result A bitio.Refusal) → p ≤ c.len
        → ((x q : ℕ) → q ≤ c.len → view (next (up_to x q)) ≡ ending c.len q (axis_parts k (window s c) w q))
        → view (and_then (axis_at s (at c p) w) next) ≡ ending c.len p (axis_parts (suc k) (window s c) w p)
    unfolding axis_parts first_or axis_after and_then
    then_axis k p next h f =
        by_cases (is_set (window s c) p)
        (λ e. rw e
        (then_read (λ b. view (and_then b next)) (λ r. shows r) c.len p 1 _ (read_bit_lem s (at c p)) _ _ (bit_asked s c fits p h ∙ ap (λ (b : Bool). asking c.len p 1 (Ok (up_to b (p + 1)))) e) (λ l.
        then_read view shows c.len (p + 1) w (up_to (field (window s c) (p + 1) w) (p + 1 + w)) _ next _ (bits_asked s c fits w (p + 1) small l) (λ m. f (field (window s c) (p + 1) w) (p + 1 + w) m))))
        (λ e. rw e
        (then_read (λ b. view (and_then b next)) (λ r. shows r) c.len p 1 _ (read_bit_lem s (at c p)) _ _ (bit_asked s c fits p h ∙ ap (λ (b : Bool). asking c.len p 1 (Ok (up_to b (p + 1)))) e) (λ l.
        f 0 (p + 1) l)))

-- ---- three parts, each of n bits

-- Three parts are refused at the first that isn't there, and else give their three numbers.
pub three_read : (s : List ℕ) (c : Cursor) (part : Part) (n : ℕ) (view : Result (Read Three) bitio.Refusal → Seen)
    → ((r : bitio.Refusal) → view (Err r) ≡ stops (Unread r))
    → ((q : ℕ) → q ≤ c.len → part_at s part (at c q) ≡ asking c.len q n (Ok (up_to (field (window s c) q n) (q + n))))
    → (p : ℕ) → p ≤ c.len → (z : Seen)
    → view (Ok (up_to (three (field (window s c) p n) (field (window s c) (p + n) n) (field (window s c) (p + n + n) n)) (p + n + n + n))) ≡ z
    → view (three_at s part (at c p)) ≡ first_or (lacking c.len p (n ∷ n ∷ n ∷ [])) z
unfolding three_at first_or
three_read s c part n view shows each p h z e =
    then_read view shows c.len p n (up_to (field (window s c) p n) (p + n)) (part_at s part (at c p)) _ _ (each p h) (λ h₁.
    then_read view shows c.len (p + n) n (up_to (field (window s c) (p + n) n) (p + n + n)) (part_at s part (at c (p + n))) _ _ (each (p + n) h₁) (λ h₂.
    then_read view shows c.len (p + n + n) n (up_to (field (window s c) (p + n + n) n) (p + n + n + n)) (part_at s part (at c (p + n + n))) _ _ (each (p + n + n) h₂) (λ h₃. e)))
