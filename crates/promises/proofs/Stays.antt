-- A refused single read leaves the cursor where it stood: it is refused for its cursor, for what is asked, or at its one part, which begins there. The
-- theorem on a call is `stays_` and the call's name.
use Rattle.std.specs.Prelude.{if◌then◌else◌, ℤ, Result, Ok, Err}
use Prim.Native.Nat.{ℕ, ◌^◌, ◌<◌}
use mathlib.Core.Path.{◌≡◌, refl, sym, ap, ◌∙◌, subst}
use mathlib.Core.Bool.{Bool, true, false}
use mathlib.Core.List.{List, [], ◌∷◌}
use mathlib.Core.Option.{Option, some}
use native.Mathlib.Nat.{mod-eq_of_lt}
use Rattle.bits.specs.Refusals.{Rule, first_of}
use Rattle.bitio.specs.Cursors.{skipped, skipped_all, sub_reader_lem}
use Rattle.bitio.specs.Copies.{copy_answer, copy_target, CopiesBits}
use Rattle.bitio.specs.Order.{taking_rules, reading_rules, copying_rules, refusal_of}
use Rattle.bitio.specs.Reads.{read_bit_lem, read_bits_lem, read_u8_lem, read_u16_lem, read_u32_lem, read_i32_lem, read_u64_lem}
use Rattle.bitio.specs.Refusals.{stands_after_lem, as64}
use Rattle.bitio.specs.declared.Cursor.{Cursor}
use Rattle.bitio.specs.declared.Read.{Read}
use Rattle.bitio.specs.declared.Refusal.{Refusal}
use Rattle.exports.specs.Calls.{vrf_read_bits_lem, CopiesForC}
use Rattle.exports.specs.ReadResults.{cursor_of_lem, read_result, copy_result}
use Rattle.exports.specs.declared.VrfCursor.{VrfCursor}
use Rattle.exports.specs.declared.VrfRead.{VrfRead}
use Rattle.promises.specs.ReadOrders.{cursor_rules}
use Rattle.promises.specs.Stays.{Stays, StaysInC}
use Rattle.promises.proofs.RefusedReads.{refused_skip_bits, refused_skip_remaining, refused_sub_reader, refused_read_bit, refused_read_bits, refused_read_u8, refused_read_u16, refused_read_u32, refused_read_i32, refused_read_u64, refused_copy_bits_to}

-- each rule gives a refusal after which the cursor stands where it stood
StayAll : (at : ℕ) → List (Rule Refusal) → Type 0
StayAll at [] = Unit
StayAll at (r ∷ rs) = (stands_after_lem at r.gives ≡ at) × StayAll at rs

-- then so does the first that holds
first_stays : (at : ℕ) (rs : List (Rule Refusal)) → StayAll at rs → Stays at (first_of rs)
unfolding first_of StayAll
first_stays at [] h = tt
first_stays at (r ∷ rs) h = go r.holds (first_stays at rs h.1)
  where
    go : (b : Bool) → Stays at (first_of rs) → Stays at (if b then some r.gives else first_of rs)
    go true rest = h.0
    go false rest = rest

module _ (s : List ℕ) (c : Cursor) where
  -- a refusal that is the first of such rules
  stays : (rs : List (Rule Refusal)) → StayAll c.pos rs → {o : Option Refusal} → o ≡ first_of rs → Stays c.pos o
  stays rs h f = subst (Stays c.pos) (sym f) (first_stays c.pos rs h)

  taking : (n : ℕ) → StayAll c.pos (taking_rules s c n)
  unfolding StayAll
  taking n = (refl, (refl, tt))

  -- Skipping n bits.
  pub stays_skip_bits : (n : ℕ) (r : Result ℕ Refusal) → r ≡ skipped s c n → Stays c.pos (refusal_of r)
  stays_skip_bits n r e = stays (taking_rules s c n) (taking n) (refused_skip_bits s c n r e)

  -- Skipping all that are left.
  pub stays_skip_remaining : (r : Result ℕ Refusal) → r ≡ skipped_all s c → Stays c.pos (refusal_of r)
  unfolding StayAll
  stays_skip_remaining r e = stays (cursor_rules s c) (refl, tt) (refused_skip_remaining s c r e)

  -- An inner window of n bits.
  pub stays_sub_reader : (n : ℕ) (r : Result (Read Cursor) Refusal) → r ≡ sub_reader_lem s c n → Stays c.pos (refusal_of r)
  stays_sub_reader n r e = stays (taking_rules s c n) (taking n) (refused_sub_reader s c n r e)

  -- One bit.
  pub stays_read_bit : (r : Result (Read Bool) Refusal) → r ≡ read_bit_lem s c → Stays c.pos (refusal_of r)
  stays_read_bit r e = stays (taking_rules s c 1) (taking 1) (refused_read_bit s c r e)

  -- n bits.
  pub stays_read_bits : (n : ℕ) (r : Result (Read ℕ) Refusal) → r ≡ read_bits_lem s c n → Stays c.pos (refusal_of r)
  unfolding StayAll
  stays_read_bits n r e = stays (reading_rules s c n) (refl, (refl, (refl, tt))) (refused_read_bits s c n r e)

  -- A u8.
  pub stays_read_u8 : (r : Result (Read ℕ) Refusal) → r ≡ read_u8_lem s c → Stays c.pos (refusal_of r)
  stays_read_u8 r e = stays (taking_rules s c 8) (taking 8) (refused_read_u8 s c r e)

  -- A u16.
  pub stays_read_u16 : (r : Result (Read ℕ) Refusal) → r ≡ read_u16_lem s c → Stays c.pos (refusal_of r)
  stays_read_u16 r e = stays (taking_rules s c 16) (taking 16) (refused_read_u16 s c r e)

  -- A u32.
  pub stays_read_u32 : (r : Result (Read ℕ) Refusal) → r ≡ read_u32_lem s c → Stays c.pos (refusal_of r)
  stays_read_u32 r e = stays (taking_rules s c 32) (taking 32) (refused_read_u32 s c r e)

  -- An i32.
  pub stays_read_i32 : (r : Result (Read ℤ) Refusal) → r ≡ read_i32_lem s c → Stays c.pos (refusal_of r)
  stays_read_i32 r e = stays (taking_rules s c 32) (taking 32) (refused_read_i32 s c r e)

  -- A u64.
  pub stays_read_u64 : (r : Result (Read ℕ) Refusal) → r ≡ read_u64_lem s c → Stays c.pos (refusal_of r)
  stays_read_u64 r e = stays (taking_rules s c 64) (taking 64) (refused_read_u64 s c r e)

  -- A copy of n bits.
  pub stays_copy_bits_to : (n : ℕ) (d : List ℕ) (r : Result ℕ Refusal) (end : List ℕ) → CopiesBits s c n d r end → Stays c.pos (refusal_of r)
  unfolding StayAll
  stays_copy_bits_to n d r end e = stays (copying_rules s c n d) (refl, (refl, (refl, tt))) (refused_copy_bits_to s c n d r end e)

-- ---- for C

-- a position of 64 bits
in_64 : (at p : ℕ) → p ≡ at → at < 2 ^ 64 → as64 p ≡ at
in_64 at p e h = ap as64 e ∙ mod-eq_of_lt h

module _ (s : List ℕ) (cursor : VrfCursor) where
  -- `vrf_read_bits`.
  pub stays_vrf_read_bits : (n : ℕ) (r : VrfRead) → r ≡ vrf_read_bits_lem s cursor n → StaysInC cursor.pos r
  stays_vrf_read_bits n r e =
      let a = read_bits_lem s (cursor_of_lem cursor) n in
      subst (StaysInC cursor.pos) (sym e) (go a (stays_read_bits s (cursor_of_lem cursor) n a refl))
    where
      go : (a : Result (Read ℕ) Refusal) → Stays cursor.pos (refusal_of a) → StaysInC cursor.pos (read_result cursor.pos a)
      go (Ok x) st h z = absurd (z refl)
      go (Err r) st h z = in_64 cursor.pos _ st h

  -- `vrf_copy_bits`.
  pub stays_vrf_copy_bits : (n : ℕ) (d : List ℕ) (r : VrfRead) (end : List ℕ) → CopiesForC s cursor n d r end → StaysInC cursor.pos r
  stays_vrf_copy_bits n d r end e =
      let a = copy_answer s (cursor_of_lem cursor) n d in
      subst (StaysInC cursor.pos) (sym e.0) (go a (stays_copy_bits_to s (cursor_of_lem cursor) n d a (copy_target s (cursor_of_lem cursor) n d) (refl, refl)))
    where
      go : (a : Result ℕ Refusal) → Stays cursor.pos (refusal_of a) → StaysInC cursor.pos (copy_result cursor.pos a)
      go (Ok p) st h z = absurd (z refl)
      go (Err r) st h z = in_64 cursor.pos _ st h
