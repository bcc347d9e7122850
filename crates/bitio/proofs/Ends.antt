-- A read that succeeds ends in its window: it is given only where the bits that it takes are there.
use Rattle.bits.specs.declared.Broken.TheVariants as Num
use Rattle.std.proofs.Common.{◌≡◌, ℕ, ◌+◌, ◌^◌, ◌≤◌, Bool, eqb, ltb, leb, List, refl, subst, Result, Ok, Err}
use Rattle.std.specs.Prelude.{IfOk, ◌==◌}
use Rattle.bits.specs.Bits.{field}
use Rattle.bits.specs.Packed.{Packed, packed}
use Rattle.bits.proofs.ChoiceLaws.{by_cases}
use Rattle.bits.proofs.PackedLaws.{whole_within}
use Rattle.bitio.specs.Cursors.{window, skipped, seen}
use Rattle.bitio.specs.Reads.{read_lem, read_bit_lem, read_bits_lem, widest_read}
use Rattle.bitio.specs.Numbers.{log2, packed_answer, read_int_packed_lem, serialized_top, serialized_at, read_serialized_int_lem}
use Rattle.bitio.proofs.CursorLaws.{good_le, at_holds, asking_holds}
use Rattle.bitio.specs.declared.Cursor.{Cursor}
use Rattle.bitio.specs.declared.PackedNumber.{PackedNumber}
use Rattle.bitio.specs.declared.Read.{Read}
use Rattle.bitio.specs.declared.Refusal.{Refusal}

-- what is said of an answer: the position that it gives is at most len
module _ (len : ℕ) where
  abbrev SkipWithin : Result ℕ Refusal → Type 0
  SkipWithin r = IfOk r (λ p. p ≤ len)

  abbrev ReadWithin : {A : Type 0} → Result (Read A) Refusal → Type 0
  ReadWithin r = IfOk r (λ x. x.next ≤ len)

  -- a read ends where the skip of its bits does
  seen_within : {A : Type 0} (x : A) (k : Result ℕ Refusal) → SkipWithin k → ReadWithin (seen x k)
  unfolding seen
  seen_within x (Ok p) h = h
  seen_within x (Err r) h = tt

  packed_answered : (W pos : ℕ) → pos ≤ len → (r : Packed) → packed W len pos ≡ r → ReadWithin (packed_answer len pos r)
  unfolding packed_answer
  packed_answered W pos h (Ok x) e = whole_within W len pos h x.value x.bytes e
  packed_answered W pos h (Err (Num.Cut n)) e = tt
  packed_answered W pos h (Err Num.GoesOn) e = tt
  packed_answered W pos h (Err Num.Overflows) e = tt

  top_within : (W m b v pos : ℕ) → pos ≤ len → ReadWithin (serialized_top W len m b v pos)
  unfolding serialized_top
  top_within W m b v pos h =
      by_cases (leb m (v + 2 ^ b)) (λ e. rw e h) (λ e. rw e (asking_holds len pos 1 _ ReadWithin (λ r. tt) (λ k. k)))

  low_within : (W m pos : ℕ) → ReadWithin (serialized_at W len m pos)
  unfolding serialized_at
  low_within W m pos =
      by_cases (eqb m 0) (λ e. rw e tt)
      (λ e. rw e (asking_holds len pos (log2 m) _ ReadWithin (λ r. tt)
      (λ k. top_within W m (log2 m) (field W pos (log2 m)) (pos + log2 m) k)))

module _ (s : List ℕ) (c : Cursor) where
  skip_within : (n : ℕ) → SkipWithin c.len (skipped s c n)
  skip_within n =
      at_holds s c _ (SkipWithin c.len) (λ r. tt) (λ g. asking_holds c.len c.pos n _ (SkipWithin c.len) (λ r. tt) (λ k. k))

  pub read_ends : {A : Type 0} (given : ℕ → A) (n : ℕ) (x : Read A) → read_lem n given s c ≡ Ok x → x.next ≤ c.len
  read_ends given n x e =
      subst (ReadWithin c.len) e (seen_within c.len (given (field (window s c) c.pos n)) (skipped s c n) (skip_within n))

  pub bit_ends : (x : Read Bool) → read_bit_lem s c ≡ Ok x → x.next ≤ c.len
  bit_ends x e = read_ends (λ b. b == 1) 1 x e

  bits_within : (n : ℕ) → ReadWithin c.len (read_bits_lem s c n)
  unfolding read_bits_lem
  bits_within n =
      at_holds s c _ (ReadWithin c.len) (λ r. tt) (λ g.
      by_cases (ltb widest_read n) (λ e. rw e tt)
      (λ e. rw e (asking_holds c.len c.pos n _ (ReadWithin c.len) (λ r. tt) (λ k. k))))

  pub bits_ends : (n : ℕ) (x : Read ℕ) → read_bits_lem s c n ≡ Ok x → x.next ≤ c.len
  bits_ends n x e = subst (ReadWithin c.len) e (bits_within n)

  pub packed_ends : (x : Read PackedNumber) → read_int_packed_lem s c ≡ Ok x → x.next ≤ c.len
  packed_ends x e =
      subst (ReadWithin c.len) e
      (at_holds s c _ (ReadWithin c.len) (λ r. tt) (λ g.
      packed_answered c.len (window s c) c.pos (good_le s c g).0 (packed (window s c) c.len c.pos) refl))

  pub serialized_ends : (m : ℕ) (x : Read ℕ) → read_serialized_int_lem s c m ≡ Ok x → x.next ≤ c.len
  serialized_ends m x e =
      subst (ReadWithin c.len) e (at_holds s c _ (ReadWithin c.len) (λ r. tt) (λ g. low_within c.len (window s c) m c.pos))
