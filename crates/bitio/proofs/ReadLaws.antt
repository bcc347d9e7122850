-- What an answer that was given says: the bits were there, the number has their width, and a packed number of the window is one of the bytes.
pub use Rattle.bitio.proofs.CursorLaws.{skip_done}
use Rattle.std.proofs.Common.{◌≡◌, ℕ, ◌+◌, ◌^◌, ◌<◌, List, sym, subst, Result, Ok, Err}
use Rattle.bits.specs.Bits.{num}
use Rattle.bits.specs.Packed.{packed}
use Rattle.bits.proofs.PackedLaws.{packed_window}
use Rattle.bits.proofs.Never.{never}
use Rattle.bits.proofs.FieldLaws.{field_lt}
use Rattle.bitio.specs.Cursors.{window, skipped, seen}
use Rattle.bitio.specs.Reads.{taken}
use Rattle.bitio.specs.declared.Cursor.{Cursor}
use Rattle.bitio.specs.declared.Read.{Read}
use Rattle.bitio.specs.declared.Refusal.{Refusal}

seen_value : {A : Type 0} (x : A) (y : Read A) (k : Result ℕ Refusal) → seen x k ≡ Ok y → y.value ≡ x
unfolding seen
seen_value x y (Ok n) e = cc
seen_value x y (Err r) e = let z : ◌≡◌ {A = ℕ} 0 1 = cc in never z

-- a number that was taken has the width that was asked
pub taken_lt : (s : List ℕ) (c : Cursor) (n : ℕ) (x : Read ℕ) → taken s c n ≡ Ok x → x.value < 2 ^ n
taken_lt s c n x e =
    subst (λ (y : ℕ). y < 2 ^ n) (sym (seen_value _ x (skipped s c n) e)) (field_lt (window s c) c.pos n)

-- the packed number at the cursor, as one of the bytes
pub packed_here : (s : List ℕ) (c : Cursor) → packed (window s c) c.len c.pos ≡ packed (num s) (c.start + c.len) (c.start + c.pos)
unfolding window
packed_here s c = packed_window (num s) c.start c.len c.pos
