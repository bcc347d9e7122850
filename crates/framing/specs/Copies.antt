-- What the payloads of leaves are copies of (request 06), bit by bit.
use Rattle.std.specs.Prelude.{ℕ, ◌+◌, ◌*◌, ◌/◌, ◌%◌, ◌^◌, ◌≤◌, ◌<◌, ◌≡◌, List, length, get_or}
use Rattle.bits.specs.Runs.{bytes_for}
use Rattle.framing.specs.Events.{Leaf}
use Rattle.framing.specs.Records.{payload_of}

-- bit k of some bytes stands in byte k / 8, at place k % 8 from its low end; bits past the last byte are 0
abbrev pub bit_at : (bytes : List ℕ) (k : ℕ) → ℕ
bit_at bytes k = (get_or bytes (k / 8) 0 / 2 ^ (k % 8)) % 2

-- The buffer holds, from its byte `at` on, the bits of these bytes from bit `start` on, as many as `width`, and zeros above them up to a whole byte. The
-- bits copied are bits of the bytes, and a copy that has bits lies in the buffer.
pub record Copied (bytes : List ℕ) (start width : ℕ) (buffer : List ℕ) (at : ℕ) : Type 0 where
  pub same : (j : ℕ) → j < width → bit_at buffer (8 * at + j) ≡ bit_at bytes (start + j)
  pub zeros : (j : ℕ) → width ≤ j → j < 8 * bytes_for width → bit_at buffer (8 * at + j) ≡ 0
  pub of_bytes : start + width ≤ 8 * length bytes
  pub in_buffer : 0 < width → at + bytes_for width ≤ length buffer

-- a leaf's payload bytes are such a copy
abbrev pub LeafCopied : (bytes : List ℕ) → Leaf → Type 0
LeafCopied bytes x = Copied bytes x.start x.width (payload_of x) 0
