-- A copy that is refused leaves its target alone.
use Rattle.std.proofs.Common.{◌≡◌, ℕ, List, ap, Err}
use Rattle.bits.specs.Bits.{field}
use Rattle.bitio.specs.Cursors.{window}
use Rattle.bitio.specs.Copies.{copy_answer, pasted, copy_target}
use Rattle.bitio.specs.declared.Cursor.{Cursor}
use Rattle.bitio.specs.declared.Refusal.{Refusal}

pub refused_target : (s : List ℕ) (c : Cursor) (n : ℕ) (d : List ℕ) (r : Refusal) → copy_answer s c n d ≡ Err r → copy_target s c n d ≡ d
unfolding pasted
refused_target s c n d r e = ap (pasted d n (field (window s c) c.pos n)) e
