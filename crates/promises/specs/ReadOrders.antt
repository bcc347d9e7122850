-- The order of the refusals of the bit reader's calls (01, Refusal numbers), where bitio/specs/Order has none: the first whose condition holds is
-- given, and none if none holds.
use Rattle.std.specs.Prelude.{ℕ, zero, suc, ◌+◌, ◌*◌, ◌/◌, ◌%◌, ◌^◌, ◌&&◌, List, [], ◌∷◌, leb, ltb, eqb, if◌then◌else◌}
use Rattle.bits.specs.Bits.{field}
use Rattle.bits.specs.Packed.{most_bytes, fifth_most}
use Rattle.bits.specs.Refusals.{Rule, when}
use Rattle.bitio.specs.Cursors.{window}
use Rattle.bitio.specs.Numbers.{log2}
use Rattle.bitio.specs.Order.{bad_first, fewer}
use Rattle.bitio.specs.declared.Cursor.{Cursor}
use Rattle.bitio.specs.declared.Refusal.{Refusal}
use Rattle.bitio.specs.declared.Refusal.TheVariants.{TooFew, GoesOn, Overflows, NoMaximum}

-- a call that asks for no bits: 14
abbrev pub cursor_rules : List ℕ → Cursor → List (Rule Refusal)
cursor_rules s c = bad_first s c ∷ []

-- how many whole bytes that say that another follows stand at bit p of the len bits of W, at most `most`
unfoldable pub following : (most W len p : ℕ) → ℕ
following zero W len p = 0
following (suc most) W len p = if leb (p + 8) len && eqb (field W p 8 % 2) 1 then suc (following most W len (p + 8)) else 0

-- a packed number at bit p, behind whose first n bytes another follows: 7 if that one isn't whole; 8 if it would be the sixth; 9 if it is the fifth
-- and holds too much
abbrev pub packed_parts : (W len p n : ℕ) → List (Rule Refusal)
packed_parts W len p n =
    when (ltb n most_bytes && ltb len (p + 8 * n + 8)) (TooFew (p + 8 * n) len 8) ∷
    when (eqb n most_bytes) (GoesOn p) ∷
    when (eqb (suc n) most_bytes && ltb fifth_most (field W (p + 8 * n) 8 / 2)) (Overflows p) ∷ []

-- packed numbers: 14, 7, 8, 9
abbrev pub packed_rules : List ℕ → Cursor → List (Rule Refusal)
packed_rules s c = bad_first s c ∷ packed_parts (window s c) c.len c.pos (following most_bytes (window s c) c.len c.pos)

-- the top bit of a serialized integer whose low b bits are v: asked only where the maximum leaves it open
abbrev pub top_fewer : (len m b v p : ℕ) → Rule Refusal
top_fewer len m b v p = when (ltb (v + 2 ^ b) m && ltb len (p + 1)) (TooFew p len 1)

-- serialized integers: 14, 10, then 7 for the low bits and 7 for the top one
abbrev pub serialized_rules : List ℕ → Cursor → (m : ℕ) → List (Rule Refusal)
serialized_rules s c m =
    bad_first s c ∷
    when (eqb m 0) NoMaximum ∷
    fewer c (log2 m) ∷
    top_fewer c.len m (log2 m) (field (window s c) c.pos (log2 m)) (c.pos + log2 m) ∷ []
