-- Bits outside its window alter no answer of a call at a cursor, and no buffer: two lists of as many bytes that agree on the window's bits give the
-- same, since the definitions see the bytes only as the window's number and its length. The theorem on a call is `outside_` and the call's name.
use Rattle.std.specs.Prelude.{◌==◌, Result}
use Prim.Native.Nat.{ℕ, ◌+◌, ◌-◌, ◌*◌, ◌^◌, min}
use mathlib.Core.Path.{◌≡◌, sym, ap, ◌∙◌}
use mathlib.Core.List.{List}
use lib.ListN.{length}
use Rattle.bits.specs.TwosComplement.{twos}
use Rattle.bitio.specs.Cursors.{window, opened, whole_of, position_of, length_of, remaining_of, end_of, skipped, skipped_all, seen, sub_reader_lem}
use Rattle.bitio.specs.Reads.{read_bit_lem, read_bits_lem, read_u8_lem, read_u16_lem, read_u32_lem, read_i32_lem, read_u64_lem}
use Rattle.bitio.specs.Numbers.{read_int_packed_lem, read_serialized_int_lem}
use Rattle.bitio.specs.Copies.{CopiesBits}
use Rattle.bitio.proofs.Outside as bits
use Rattle.bitio.proofs.Outside.{same_window, outside_alters_nothing, outside_read}
use Rattle.bitio.specs.declared.Cursor.{Cursor}
use Rattle.bitio.specs.declared.Refusal.{Refusal}
use Rattle.geometry.specs.Vectors.{read_vector, read_normal}
use Rattle.geometry.specs.Rotations.{read_rotation_lem}
use Rattle.geometry.specs.Movements.{read_movement}
use Rattle.geometry.proofs.Outside as moves
use Rattle.geometry.specs.declared.RotatorQuantization.{RotatorQuantization}
use Rattle.geometry.specs.declared.VectorQuantization.{VectorQuantization}
use Rattle.promises.specs.Outside.{Agree}

-- ---- calls at a cursor

module _ (s t : List ℕ) (c : Cursor) (same : Agree s t c.start c.len) where
  one_window : window s c ≡ window t c
  one_window = same_window s t c same.same_bits

  as_many : length s ≡ length t
  as_many = same.as_many

  -- `position` answers the same.
  pub outside_position : position_of s c ≡ position_of t c
  outside_position = outside_alters_nothing s t c as_many one_window _

  -- `len_bits` answers the same.
  pub outside_len_bits : length_of s c ≡ length_of t c
  outside_len_bits = outside_alters_nothing s t c as_many one_window _

  -- `bits_remaining` answers the same.
  pub outside_bits_remaining : remaining_of s c ≡ remaining_of t c
  outside_bits_remaining = outside_alters_nothing s t c as_many one_window _

  -- `at_end` answers the same.
  pub outside_at_end : end_of s c ≡ end_of t c
  outside_at_end = outside_alters_nothing s t c as_many one_window _

  -- `skip_bits` answers the same.
  pub outside_skip_bits : (n : ℕ) → skipped s c n ≡ skipped t c n
  outside_skip_bits n = outside_alters_nothing s t c as_many one_window _

  -- `skip_remaining` answers the same.
  pub outside_skip_remaining : skipped_all s c ≡ skipped_all t c
  outside_skip_remaining = outside_alters_nothing s t c as_many one_window _

  -- `sub_reader` answers the same.
  pub outside_sub_reader : (n : ℕ) → sub_reader_lem s c n ≡ sub_reader_lem t c n
  outside_sub_reader n = ap (seen (record { start = c.start + c.pos; pos = 0; len = n })) (outside_skip_bits n)

  -- `read_bit` answers the same.
  pub outside_read_bit : read_bit_lem s c ≡ read_bit_lem t c
  outside_read_bit = outside_read s t c as_many one_window (λ x. x == 1) 1

  -- `read_bits` answers the same.
  pub outside_read_bits : (n : ℕ) → read_bits_lem s c n ≡ read_bits_lem t c n
  outside_read_bits n = bits.outside_bits s t c as_many one_window n

  -- `read_u8` answers the same.
  pub outside_read_u8 : read_u8_lem s c ≡ read_u8_lem t c
  outside_read_u8 = outside_read s t c as_many one_window (λ x. x) 8

  -- `read_u16` answers the same.
  pub outside_read_u16 : read_u16_lem s c ≡ read_u16_lem t c
  outside_read_u16 = outside_read s t c as_many one_window (λ x. x) 16

  -- `read_u32` answers the same.
  pub outside_read_u32 : read_u32_lem s c ≡ read_u32_lem t c
  outside_read_u32 = outside_read s t c as_many one_window (λ x. x) 32

  -- `read_i32` answers the same.
  pub outside_read_i32 : read_i32_lem s c ≡ read_i32_lem t c
  outside_read_i32 = outside_read s t c as_many one_window (twos 32) 32

  -- `read_u64` answers the same.
  pub outside_read_u64 : read_u64_lem s c ≡ read_u64_lem t c
  outside_read_u64 = outside_read s t c as_many one_window (λ x. x) 64

  -- `read_int_packed` answers the same.
  pub outside_read_int_packed : read_int_packed_lem s c ≡ read_int_packed_lem t c
  outside_read_int_packed = bits.outside_packed s t c as_many one_window

  -- `read_serialized_int` answers the same.
  pub outside_read_serialized_int : (m : ℕ) → read_serialized_int_lem s c m ≡ read_serialized_int_lem t c m
  outside_read_serialized_int m = bits.outside_serialized s t c as_many one_window m

  -- `copy_bits_to` answers the same and leaves the same target.
  pub outside_copy_bits_to : (n : ℕ) (d : List ℕ) (r q : Result ℕ Refusal) (x y : List ℕ) → CopiesBits s c n d r x → CopiesBits t c n d q y → (r ≡ q) × (x ≡ y)
  outside_copy_bits_to n d r q x y f g =
      let e = bits.outside_copy s t c as_many one_window n d in (f.0 ∙ e.0 ∙ sym g.0, f.1 ∙ e.1 ∙ sym g.1)

  -- `read_vector_net_quantize` answers the same.
  pub outside_read_vector_net_quantize : (scale : ℕ) → read_vector s c scale ≡ read_vector t c scale
  outside_read_vector_net_quantize scale = moves.outside_vector s t c as_many one_window scale

  -- `read_fixed_vector_normal` answers the same.
  pub outside_read_fixed_vector_normal : read_normal s c ≡ read_normal t c
  outside_read_fixed_vector_normal = moves.outside_normal s t c as_many one_window

  -- `read_rotation` answers the same.
  pub outside_read_rotation : (w : ℕ) → read_rotation_lem s c w ≡ read_rotation_lem t c w
  outside_read_rotation w = moves.outside_rotation s t c as_many one_window w

-- ---- calls by a bit count, from bit 0 on

-- Opening a reader looks at no bit, but only at how many bytes there are.
pub outside_open : (s t : List ℕ) (n : ℕ) → length s ≡ length t → opened s n ≡ opened t n
outside_open s t n h = bits.outside_opened s t n h

-- So does a reader of all bits.
pub outside_new : (s t : List ℕ) → length s ≡ length t → whole_of s ≡ whole_of t
outside_new s t h = ap (λ (k : ℕ). record { start = 0; pos = 0; len = min (8 * k) (2 ^ 64 - 1) }) h

-- `read_rep_movement` answers the same.
pub outside_read_rep_movement : (s t : List ℕ) (n : ℕ) (rotation : RotatorQuantization) (location : VectorQuantization) → Agree s t 0 n
    → read_movement s n rotation location ≡ read_movement t n rotation location
outside_read_rep_movement s t n rotation location same =
    moves.outside_movement s t n rotation location same.as_many (same_window s t (bits.front n) same.same_bits)
