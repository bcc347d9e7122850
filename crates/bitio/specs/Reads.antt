-- Reads of a fixed number of bits, the first bit lowest (01, Bits and numbers). Refusals 14 and 7 are those of skipping the bits; `read_bits`,
-- whose count is the caller's, has 13 between them.
use Rattle.std.specs.Prelude.{ℕ, ◌+◌, Bool, List, ℤ, ◌==◌, nat_lt, if◌then◌else◌, Result, Ok, Err}
use Rattle.bits.specs.Bits.{field}
use Rattle.bits.specs.TwosComplement.{twos}
use Rattle.bitio.specs.Cursors.{window, at_cursor, asking, skipped, seen}
use Rattle.bitio.specs.declared.Cursor.{Cursor}
use Rattle.bitio.specs.declared.Read.{Read}
use Rattle.bitio.specs.declared.Refusal.{Refusal}
use Rattle.bitio.specs.declared.Refusal.TheVariants.{TooMany}

-- the next n bits as the value that they give
abbrev pub read_lem : {A : Type 0} → (n : ℕ) → (given : ℕ → A) → List ℕ → Cursor → Result (Read A) Refusal
read_lem n given s c = seen (given (field (window s c) c.pos n)) (skipped s c n)

-- the next n bits as one number
abbrev pub taken : List ℕ → Cursor → (n : ℕ) → Result (Read ℕ) Refusal
taken s c n = read_lem n (λ x. x) s c

abbrev pub read_bit_lem : List ℕ → Cursor → Result (Read Bool) Refusal
read_bit_lem s c = read_lem 1 (λ x. x == 1) s c

abbrev pub read_u8_lem : List ℕ → Cursor → Result (Read ℕ) Refusal
read_u8_lem s c = taken s c 8

abbrev pub read_u16_lem : List ℕ → Cursor → Result (Read ℕ) Refusal
read_u16_lem s c = taken s c 16

abbrev pub read_u32_lem : List ℕ → Cursor → Result (Read ℕ) Refusal
read_u32_lem s c = taken s c 32

abbrev pub read_i32_lem : List ℕ → Cursor → Result (Read ℤ) Refusal
read_i32_lem s c = read_lem 32 (twos 32) s c

abbrev pub read_u64_lem : List ℕ → Cursor → Result (Read ℕ) Refusal
read_u64_lem s c = taken s c 64

-- the most bits that one read gives
abbrev pub widest_read : ℕ
widest_read = 64

-- `read_bits`, n bits: 13 if that is more than one read gives, then 7
unfoldable pub read_bits_lem : List ℕ → Cursor → (n : ℕ) → Result (Read ℕ) Refusal
read_bits_lem s c n =
    at_cursor s c
    (λ W. if nat_lt widest_read n then Err TooMany else asking c.len c.pos n (Ok (record { value = field W c.pos n; next = c.pos + n })))
