-- Each public call of bitio is determined by its contract: the answer, and a copy's target, equal what a definition gives.
use Prim.Native.Nat.{ℕ}
use mathlib.Core.Path.{◌≡◌}
use mathlib.Core.List.{List}
use Rattle.bitio.specs.Cursors.{opened, whole_of, position_of, length_of, remaining_of, end_of, skipped, skipped_all, sub_reader_lem}
use Rattle.bitio.specs.Reads.{read_bit_lem, read_bits_lem, read_u8_lem, read_u16_lem, read_u32_lem, read_i32_lem, read_u64_lem}
use Rattle.bitio.specs.Numbers.{read_int_packed_lem, read_serialized_int_lem}
use Rattle.bitio.specs.Copies.{CopiesBits}
use Rattle.bitio.specs.Refusals.{said, stands_after64}
use Rattle.bitio.specs.declared.Cursor.{Cursor}
use Rattle.bitio.specs.declared.Refusal.{Refusal}
use Rattle.promises.specs.Determining.{Determines, DeterminesAll}
use Rattle.promises.proofs.Determined.{one_equal, both_equal}

-- ---- readers

-- `open` has one answer.
pub one_open : (bytes : List ℕ) (count : ℕ) → Determines (λ r. r ≡ opened bytes count)
one_open bytes count = one_equal (opened bytes count)

-- `new` has one answer.
pub one_new : (bytes : List ℕ) → Determines (λ r. r ≡ whole_of bytes)
one_new bytes = one_equal (whole_of bytes)

-- `position` has one answer.
pub one_position : (bytes : List ℕ) (c : Cursor) → Determines (λ r. r ≡ position_of bytes c)
one_position bytes c = one_equal (position_of bytes c)

-- `len_bits` has one answer.
pub one_len_bits : (bytes : List ℕ) (c : Cursor) → Determines (λ r. r ≡ length_of bytes c)
one_len_bits bytes c = one_equal (length_of bytes c)

-- `bits_remaining` has one answer.
pub one_bits_remaining : (bytes : List ℕ) (c : Cursor) → Determines (λ r. r ≡ remaining_of bytes c)
one_bits_remaining bytes c = one_equal (remaining_of bytes c)

-- `at_end` has one answer.
pub one_at_end : (bytes : List ℕ) (c : Cursor) → Determines (λ r. r ≡ end_of bytes c)
one_at_end bytes c = one_equal (end_of bytes c)

-- `skip_bits` has one answer.
pub one_skip_bits : (bytes : List ℕ) (c : Cursor) (count : ℕ) → Determines (λ r. r ≡ skipped bytes c count)
one_skip_bits bytes c count = one_equal (skipped bytes c count)

-- `skip_remaining` has one answer.
pub one_skip_remaining : (bytes : List ℕ) (c : Cursor) → Determines (λ r. r ≡ skipped_all bytes c)
one_skip_remaining bytes c = one_equal (skipped_all bytes c)

-- `sub_reader` has one answer.
pub one_sub_reader : (bytes : List ℕ) (c : Cursor) (count : ℕ) → Determines (λ r. r ≡ sub_reader_lem bytes c count)
one_sub_reader bytes c count = one_equal (sub_reader_lem bytes c count)

-- ---- reads

-- `read_bit` has one answer.
pub one_read_bit : (bytes : List ℕ) (c : Cursor) → Determines (λ r. r ≡ read_bit_lem bytes c)
one_read_bit bytes c = one_equal (read_bit_lem bytes c)

-- `read_bits` has one answer.
pub one_read_bits : (bytes : List ℕ) (c : Cursor) (count : ℕ) → Determines (λ r. r ≡ read_bits_lem bytes c count)
one_read_bits bytes c count = one_equal (read_bits_lem bytes c count)

-- `read_u8` has one answer.
pub one_read_u8 : (bytes : List ℕ) (c : Cursor) → Determines (λ r. r ≡ read_u8_lem bytes c)
one_read_u8 bytes c = one_equal (read_u8_lem bytes c)

-- `read_u16` has one answer.
pub one_read_u16 : (bytes : List ℕ) (c : Cursor) → Determines (λ r. r ≡ read_u16_lem bytes c)
one_read_u16 bytes c = one_equal (read_u16_lem bytes c)

-- `read_u32` has one answer.
pub one_read_u32 : (bytes : List ℕ) (c : Cursor) → Determines (λ r. r ≡ read_u32_lem bytes c)
one_read_u32 bytes c = one_equal (read_u32_lem bytes c)

-- `read_i32` has one answer.
pub one_read_i32 : (bytes : List ℕ) (c : Cursor) → Determines (λ r. r ≡ read_i32_lem bytes c)
one_read_i32 bytes c = one_equal (read_i32_lem bytes c)

-- `read_u64` has one answer.
pub one_read_u64 : (bytes : List ℕ) (c : Cursor) → Determines (λ r. r ≡ read_u64_lem bytes c)
one_read_u64 bytes c = one_equal (read_u64_lem bytes c)

-- `read_int_packed` has one answer.
pub one_read_int_packed : (bytes : List ℕ) (c : Cursor) → Determines (λ r. r ≡ read_int_packed_lem bytes c)
one_read_int_packed bytes c = one_equal (read_int_packed_lem bytes c)

-- `read_serialized_int` has one answer.
pub one_read_serialized_int : (bytes : List ℕ) (c : Cursor) (max : ℕ) → Determines (λ r. r ≡ read_serialized_int_lem bytes c max)
one_read_serialized_int bytes c max = one_equal (read_serialized_int_lem bytes c max)

-- ---- copies

-- `copy_bits_to` has one answer and leaves its target in one state.
pub one_copy_bits_to : (bytes : List ℕ) (c : Cursor) (count : ℕ) (dst : List ℕ)
    → DeterminesAll (CopiesBits bytes c count dst)
one_copy_bits_to bytes c count dst = both_equal _ _

-- ---- what a refusal says

-- `said` has one answer.
pub one_said : (why : Refusal) → Determines (λ r. r ≡ said why)
one_said why = one_equal (said why)

-- `stands_after` has one answer.
pub one_stands_after : (why : Refusal) (at : ℕ) → Determines (λ r. r ≡ stands_after64 why at)
one_stands_after why at = one_equal (stands_after64 why at)
