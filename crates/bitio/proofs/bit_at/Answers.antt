-- `bitio::bit_at` meets its contract: the bit lies inside its byte (`inside`).
use native.Mathlib.Omega.{arith}
use Rattle.bits.proofs.FieldLaws.{inside}
use Rattle.bitio.proofs.bit_at.Goals as goal

pub returns : goal.returns
returns c = inside _ _ 8 _ 1 _ _ (omega arith) (omega arith) c.load_bytes-byte.ensures
