-- Padding bits are 0: a payload's bytes, as a number, are its bits and nothing above them (framing/proofs/PayloadBits).
use mathlib.Core.Path.{◌≡◌}
use Prim.Native.Nat.{ℕ, ◌*◌, ◌%◌, ◌^◌}
use mathlib.Core.List.{List}
use Rattle.bits.specs.Bits.{num}
use Rattle.bits.specs.Runs.{bytes_of}
use Rattle.framing.specs.Events.{Leaf, leaves}
use Rattle.framing.specs.Sinks.{Walker, Leafy, walk}
use Rattle.framing.specs.Records.{payload_of}
use Rattle.framing.specs.GrammarRules.{Each}
use Rattle.framing.proofs.EachEvent.{Proper, walk_may, leaves_may, each_map}
use Rattle.framing.proofs.PayloadBits.{bytes_number, payload_number}

-- ---- bytes and their number

pub value_bytes : (n v : ℕ) → num (bytes_of n v) ≡ v % 2 ^ (8 * n)
value_bytes n v = bytes_number n v

pub padded : (x : Leaf) → Proper x → num (payload_of x) ≡ x.payload
padded x h = payload_number x h

-- every leaf of a walk has a payload of `width` bits, so that its payload bytes are those bits and zeros above them (`padded`)
pub walk_proper : (k : Walker) (bytes : List ℕ) (n : ℕ) → Each Proper (leaves (walk k bytes n))
walk_proper k bytes n = each_map (λ x. Leafy k × Proper x) Proper (λ x h. h.1) (leaves (walk k bytes n)) (leaves_may k (walk k bytes n) (walk_may k bytes n))
