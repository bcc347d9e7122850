-- However many bytes follow, and whatever they hold, a call at a cursor that is good in both lists answers the same: it looks at the window alone.
-- The theorem on a call is `longer_` and the call's name.
use Rattle.std.specs.Prelude.{◌==◌, Result}
use Prim.Native.Nat.{ℕ, ◌+◌}
use mathlib.Core.Path.{◌≡◌, sym, ap, ◌∙◌}
use mathlib.Core.List.{List}
use Rattle.bits.specs.Bits.{field}
use Rattle.bits.specs.TwosComplement.{twos}
use Rattle.bitio.specs.Cursors.{window, at_cursor, position_of, length_of, remaining_of, end_of, skipped, skipped_all, seen, sub_reader_lem}
use Rattle.bitio.specs.Reads.{read_lem, read_bit_lem, read_bits_lem, read_u8_lem, read_u16_lem, read_u32_lem, read_i32_lem, read_u64_lem}
use Rattle.bitio.specs.Numbers.{read_int_packed_lem, read_serialized_int_lem}
use Rattle.bitio.specs.Copies.{pasted, copy_answer, copy_target, CopiesBits}
use Rattle.bitio.proofs.Outside.{same_window, longer_alters_nothing}
use Rattle.bitio.specs.declared.Cursor.{Cursor}
use Rattle.bitio.specs.declared.Refusal.{Refusal}
use Rattle.promises.specs.Outside.{Inside}

module _ (s t : List ℕ) (c : Cursor) (same : Inside s t c) where
  one_window : window s c ≡ window t c
  one_window = same_window s t c same.same_bits

  -- What a call at the cursor makes of the window is the same.
  pub longer : {A : Type 0} (inside : ℕ → Result A Refusal) → at_cursor s c inside ≡ at_cursor t c inside
  longer inside = longer_alters_nothing s t c same.first same.second one_window inside

  pub longer_position : position_of s c ≡ position_of t c
  longer_position = longer _

  pub longer_len_bits : length_of s c ≡ length_of t c
  longer_len_bits = longer _

  pub longer_bits_remaining : remaining_of s c ≡ remaining_of t c
  longer_bits_remaining = longer _

  pub longer_at_end : end_of s c ≡ end_of t c
  longer_at_end = longer _

  pub longer_skip_bits : (n : ℕ) → skipped s c n ≡ skipped t c n
  longer_skip_bits n = longer _

  pub longer_skip_remaining : skipped_all s c ≡ skipped_all t c
  longer_skip_remaining = longer _

  pub longer_sub_reader : (n : ℕ) → sub_reader_lem s c n ≡ sub_reader_lem t c n
  longer_sub_reader n = ap (seen (record { start = c.start + c.pos; pos = 0; len = n })) (longer_skip_bits n)

  -- n bits, which every single read takes
  longer_read : {A : Type 0} (given : ℕ → A) (n : ℕ) → read_lem n given s c ≡ read_lem n given t c
  longer_read given n = λ i. seen (given (field (one_window i) c.pos n)) (longer_skip_bits n i)

  pub longer_read_bit : read_bit_lem s c ≡ read_bit_lem t c
  longer_read_bit = longer_read (λ x. x == 1) 1

  pub longer_read_bits : (n : ℕ) → read_bits_lem s c n ≡ read_bits_lem t c n
  unfolding read_bits_lem
  longer_read_bits n = longer _

  pub longer_read_u8 : read_u8_lem s c ≡ read_u8_lem t c
  longer_read_u8 = longer_read (λ x. x) 8

  pub longer_read_u16 : read_u16_lem s c ≡ read_u16_lem t c
  longer_read_u16 = longer_read (λ x. x) 16

  pub longer_read_u32 : read_u32_lem s c ≡ read_u32_lem t c
  longer_read_u32 = longer_read (λ x. x) 32

  pub longer_read_i32 : read_i32_lem s c ≡ read_i32_lem t c
  longer_read_i32 = longer_read (twos 32) 32

  pub longer_read_u64 : read_u64_lem s c ≡ read_u64_lem t c
  longer_read_u64 = longer_read (λ x. x) 64

  pub longer_read_int_packed : read_int_packed_lem s c ≡ read_int_packed_lem t c
  longer_read_int_packed = longer _

  pub longer_read_serialized_int : (m : ℕ) → read_serialized_int_lem s c m ≡ read_serialized_int_lem t c m
  longer_read_serialized_int m = longer _

  pub longer_copy_bits_to : (n : ℕ) (d : List ℕ) (r q : Result ℕ Refusal) (x y : List ℕ) → CopiesBits s c n d r x → CopiesBits t c n d q y → (r ≡ q) × (x ≡ y)
  longer_copy_bits_to n d r q x y f g =
      let a : copy_answer s c n d ≡ copy_answer t c n d = longer _ in
      let b : copy_target s c n d ≡ copy_target t c n d = λ i. pasted d n (field (one_window i) c.pos n) (a i) in
      (f.0 ∙ a ∙ sym g.0, f.1 ∙ b ∙ sym g.1)
