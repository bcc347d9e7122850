-- Each call of the bit reader is refused exactly when, and in the order that, document 01 says: its definition tests the cursor, the number asked
-- for and the bits left in that order. The theorem on a call is `refused_` and the call's name.
use Rattle.std.specs.Prelude.{Bool, ℤ, ◌==◌, Result}
use Prim.Native.Nat.{ℕ, ◌+◌, ◌^◌}
use mathlib.Core.Path.{◌≡◌, refl, ap, ◌∙◌}
use mathlib.Core.List.{List}
use mathlib.Core.Option.{none}
use lib.Dec.{leb, ltb, eqb}
use Rattle.bits.specs.Bits.{field}
use Rattle.bits.specs.Refusals.{first_of}
use Rattle.bits.specs.TwosComplement.{twos}
use Rattle.bitio.specs.Cursors.{good, window, at_cursor, asking, opened, position_of, length_of, remaining_of, end_of, skipped, skipped_all, sub_reader_lem}
use Rattle.bitio.specs.Reads.{read_bit_lem, read_bits_lem, read_u8_lem, read_u16_lem, read_u32_lem, read_i32_lem, read_u64_lem}
use Rattle.bitio.specs.Numbers.{log2, serialized_top, serialized_at, read_serialized_int_lem}
use Rattle.bitio.specs.Copies.{CopiesBits}
use Rattle.bitio.specs.Order.{opening_rules, taking_rules, reading_rules, copying_rules, refusal_of}
use Rattle.bits.proofs.ChoiceLaws.{by_cases}
use Rattle.bitio.proofs.RefusalOrder.{opening_order, skipping_order, seen_refused, read_order, reading_order, copying_order}
use Rattle.bitio.specs.declared.Cursor.{Cursor}
use Rattle.bitio.specs.declared.Read.{Read}
use Rattle.bitio.specs.declared.Refusal.{Refusal}
use Rattle.promises.proofs.TestLaws.{reached, missed}
use Rattle.promises.specs.ReadOrders.{cursor_rules, serialized_rules}

-- ---- a bad cursor alone

module _ (s : List ℕ) (c : Cursor) where
  -- A call that asks for no bits gives 14 for a bad cursor.
  at_cursor_lem : {A : Type 0} (inside : ℕ → Result A Refusal) → ((W : ℕ) → refusal_of (inside W) ≡ none)
      → refusal_of (at_cursor s c inside) ≡ first_of (cursor_rules s c)
  unfolding at_cursor first_of
  at_cursor_lem inside k = by_cases (good s c) (λ g. simp g (k (window s c))) (λ g. simp g)

  -- `position` gives 14.
  pub refused_position : (r : Result ℕ Refusal) → r ≡ position_of s c → refusal_of r ≡ first_of (cursor_rules s c)
  refused_position r f = ap refusal_of f ∙ at_cursor_lem _ (λ W. refl)

  -- `len_bits` gives 14.
  pub refused_len_bits : (r : Result ℕ Refusal) → r ≡ length_of s c → refusal_of r ≡ first_of (cursor_rules s c)
  refused_len_bits r f = ap refusal_of f ∙ at_cursor_lem _ (λ W. refl)

  -- `bits_remaining` gives 14.
  pub refused_bits_remaining : (r : Result ℕ Refusal) → r ≡ remaining_of s c → refusal_of r ≡ first_of (cursor_rules s c)
  refused_bits_remaining r f = ap refusal_of f ∙ at_cursor_lem _ (λ W. refl)

  -- `at_end` gives 14.
  pub refused_at_end : (r : Result Bool Refusal) → r ≡ end_of s c → refusal_of r ≡ first_of (cursor_rules s c)
  refused_at_end r f = ap refusal_of f ∙ at_cursor_lem _ (λ W. refl)

  -- `skip_remaining` gives 14.
  pub refused_skip_remaining : (r : Result ℕ Refusal) → r ≡ skipped_all s c → refusal_of r ≡ first_of (cursor_rules s c)
  refused_skip_remaining r f = ap refusal_of f ∙ at_cursor_lem _ (λ W. refl)

-- ---- opening: 1, 14

-- Opening a reader gives 1, 14.
pub refused_open : (s : List ℕ) (n : ℕ) (r : Result Cursor Refusal) → r ≡ opened s n → refusal_of r ≡ first_of (opening_rules s n)
refused_open s n r f = ap refusal_of f ∙ opening_order s n

-- ---- n bits: 14, 7

module _ (s : List ℕ) (c : Cursor) where
  -- A skip of n bits gives 14, 7.
  pub refused_skip_bits : (n : ℕ) (r : Result ℕ Refusal) → r ≡ skipped s c n → refusal_of r ≡ first_of (taking_rules s c n)
  refused_skip_bits n r f = ap refusal_of f ∙ skipping_order s c n

  -- An inner window is refused as the skip of its bits is.
  pub refused_sub_reader : (n : ℕ) (r : Result (Read Cursor) Refusal) → r ≡ sub_reader_lem s c n → refusal_of r ≡ first_of (taking_rules s c n)
  refused_sub_reader n r f = ap refusal_of f ∙ seen_refused _ (skipped s c n) ∙ skipping_order s c n

  -- `read_bit` gives 14, 7.
  pub refused_read_bit : (r : Result (Read Bool) Refusal) → r ≡ read_bit_lem s c → refusal_of r ≡ first_of (taking_rules s c 1)
  refused_read_bit r f = ap refusal_of f ∙ read_order (λ x. x == 1) s c 1

  -- `read_u8` gives 14, 7.
  pub refused_read_u8 : (r : Result (Read ℕ) Refusal) → r ≡ read_u8_lem s c → refusal_of r ≡ first_of (taking_rules s c 8)
  refused_read_u8 r f = ap refusal_of f ∙ read_order (λ x. x) s c 8

  -- `read_u16` gives 14, 7.
  pub refused_read_u16 : (r : Result (Read ℕ) Refusal) → r ≡ read_u16_lem s c → refusal_of r ≡ first_of (taking_rules s c 16)
  refused_read_u16 r f = ap refusal_of f ∙ read_order (λ x. x) s c 16

  -- `read_u32` gives 14, 7.
  pub refused_read_u32 : (r : Result (Read ℕ) Refusal) → r ≡ read_u32_lem s c → refusal_of r ≡ first_of (taking_rules s c 32)
  refused_read_u32 r f = ap refusal_of f ∙ read_order (λ x. x) s c 32

  -- `read_i32` gives 14, 7.
  pub refused_read_i32 : (r : Result (Read ℤ) Refusal) → r ≡ read_i32_lem s c → refusal_of r ≡ first_of (taking_rules s c 32)
  refused_read_i32 r f = ap refusal_of f ∙ read_order (twos 32) s c 32

  -- `read_u64` gives 14, 7.
  pub refused_read_u64 : (r : Result (Read ℕ) Refusal) → r ≡ read_u64_lem s c → refusal_of r ≡ first_of (taking_rules s c 64)
  refused_read_u64 r f = ap refusal_of f ∙ read_order (λ x. x) s c 64

  -- `read_bits` gives 14, 13, 7.
  pub refused_read_bits : (n : ℕ) (r : Result (Read ℕ) Refusal) → r ≡ read_bits_lem s c n → refusal_of r ≡ first_of (reading_rules s c n)
  refused_read_bits n r f = ap refusal_of f ∙ reading_order s c n

  -- A copy gives 14 for the cursor, 14 for the target, 7.
  pub refused_copy_bits_to : (n : ℕ) (d : List ℕ) (r : Result ℕ Refusal) (end : List ℕ) → CopiesBits s c n d r end → refusal_of r ≡ first_of (copying_rules s c n d)
  refused_copy_bits_to n d r end f = ap refusal_of f.0 ∙ copying_order s c n d

  -- A serialized integer: its low bits, then its top one.
  pub serialized_order : (m : ℕ) → refusal_of (read_serialized_int_lem s c m) ≡ first_of (serialized_rules s c m)
  unfolding at_cursor serialized_at serialized_top asking first_of
  serialized_order m =
      by_cases (good s c)
      (λ g. by_cases (eqb m 0)
      (λ z. simp (g, z))
      (λ z. by_cases (ltb c.len (c.pos + log2 m))
      (λ l. simp (g, z, l))
      (λ l. by_cases (leb m (field (window s c) c.pos (log2 m) + 2 ^ log2 m))
      (λ t. simp (g, z, l, t, reached m (field (window s c) c.pos (log2 m) + 2 ^ log2 m) t))
      (λ t. by_cases (ltb c.len (c.pos + log2 m + 1))
      (λ k. simp (g, z, l, t, missed m (field (window s c) c.pos (log2 m) + 2 ^ log2 m) t, k))
      (λ k. simp (g, z, l, t, missed m (field (window s c) c.pos (log2 m) + 2 ^ log2 m) t, k))))))
      (λ g. simp g)

  -- A serialized integer gives 14, 10, then 7, for its low bits or its top one.
  pub refused_read_serialized_int : (m : ℕ) (r : Result (Read ℕ) Refusal) → r ≡ read_serialized_int_lem s c m → refusal_of r ≡ first_of (serialized_rules s c m)
  refused_read_serialized_int m r f = ap refusal_of f ∙ serialized_order m
