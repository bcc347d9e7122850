-- Bytes as one number, and a field of bits of a number. Eight bits come from each byte, its lowest first (`field_bit` in proofs/FieldLaws), and
-- a field begins with its lowest bit.
use Rattle.std.specs.Prelude.{ℕ, ◌+◌, ◌*◌, ◌/◌, ◌%◌, ◌^◌, ◌<◌, List, [], ◌∷◌, get_or}

-- the bytes as one number, the first byte lowest; the elements of a slice of u8 are bytes (`Bytes`)
unfoldable pub num : List ℕ → ℕ
num [] = 0
num (b ∷ s) = b + 2 ^ 8 * num s

-- n bits of the number N from bit p on, the first bit lowest
unfoldable pub field : (N p n : ℕ) → ℕ
field N p n = (N / 2 ^ p) % 2 ^ n

-- every element is a byte
abbrev pub Bytes : List ℕ → Type 0
Bytes s = (i : ℕ) → get_or s i 0 < 2 ^ 8
