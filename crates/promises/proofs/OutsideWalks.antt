-- Bits outside its window alter no answer of a walk or of the fast array, and none of their buffers: two runs over as many bytes that agree on the
-- window's bits, lent the same, give the same. As many bytes both hold the window, or both hold fewer bits.
use Prim.Native.Nat.{ℕ, ◌*◌, ◌≤◌, ◌<◌}
use mathlib.Core.Path.{◌≡◌, subst}
use mathlib.Core.List.{List}
use lib.Dec.{ltb}
use lib.ListN.{length}
use borrow.Author.Tests.{ltb-true, ltb-false}
use Rattle.bits.proofs.ChoiceLaws.{by_cases}
use Rattle.schema.specs.Tables.{Tables}
use Rattle.outputs.specs.Answers.{Lent}
use Rattle.array.specs.Calls.{struct_call, exact_call, Decodes, DecodesPairs}
use Rattle.array.specs.Refusals.{StructArray, ObjectArray}
use Rattle.fastarray.specs.Answers as F
use Rattle.fastarray.proofs.Outside as fast
use Rattle.fastarray.specs.declared.ChecksumMode.{ChecksumMode}
use Rattle.std.specs.Prelude.{Result}
use Rattle.fastarray.specs.declared.Delta.{Delta}
use Rattle.fastarray.specs.declared.Refusal.{Refusal}
use Rattle.promises.specs.Outside.{Agree, Alike, both_hold, both_fewer}
use Rattle.promises.proofs.LongerWalks.{longer_decode_struct_array, longer_decode_struct_array_exact, longer_decode_object_ref_array, one_run}

-- ---- walks

-- As many bytes are alike.
pub alike : (s t : List ℕ) (n : ℕ) → Agree s t 0 n → Alike s t n
alike s t n same =
    by_cases (ltb (8 * length s) n)
    (λ e. let h : 8 * length s < n = ltb-true (8 * length s) n e in both_fewer h (subst (λ (k : ℕ). 8 * k < n) same.as_many h))
    (λ e.
    let h : n ≤ 8 * length s = ltb-false (8 * length s) n e in
    both_hold (record { first = h; second = subst (λ (k : ℕ). n ≤ 8 * k) same.as_many h; same_bits = same.same_bits }))

module _ (s t : List ℕ) (n : ℕ) (same : Agree s t 0 n) where
  -- A struct walk answers the same and leaves the same buffers, under any tables.
  pub outside_decode_struct_array : (tables : Tables) (levels root : ℕ) (b : Lent) (r q : StructArray) (x y : Lent)
      → Decodes (struct_call s n tables levels root) b r x → Decodes (struct_call t n tables levels root) b q y → (r ≡ q) × (x ≡ y)
  outside_decode_struct_array = longer_decode_struct_array s t n (alike s t n same)

  -- An exact walk answers the same and leaves the same buffers.
  pub outside_decode_struct_array_exact : (declared declared_names_lem : List ℕ) (b : Lent) (r q : StructArray) (x y : Lent)
      → Decodes (exact_call s n declared declared_names_lem) b r x → Decodes (exact_call t n declared declared_names_lem) b q y → (r ≡ q) × (x ≡ y)
  outside_decode_struct_array_exact = longer_decode_struct_array_exact s t n (alike s t n same)

  -- An object walk answers the same and leaves the same pairs.
  pub outside_decode_object_ref_array : (b : List ℕ) (r q : ObjectArray) (x y : List ℕ)
      → DecodesPairs s n b r x → DecodesPairs t n b q y → (r ≡ q) × (x ≡ y)
  outside_decode_object_ref_array = longer_decode_object_ref_array s t n (alike s t n same)

-- ---- the fast array

-- As many bytes with the same bits hold the same body: only padding bits of the last byte lie outside.
pub agree_found : (s t : List ℕ) (n : ℕ) (mode : ChecksumMode) → Agree s t 0 n → F.found (F.call s n mode) ≡ F.found (F.call t n mode)
agree_found s t n mode same = fast.outside_found s t n mode same.as_many same.same_bits

-- A fast-array call answers the same and leaves the same buffers.
pub outside_decode_fast_array_delta : (s t : List ℕ) (n : ℕ) (mode : ChecksumMode) → Agree s t 0 n → (l : F.Lent) (r q : Result Delta Refusal) (x y : F.Lent)
    → F.Answered (F.call s n mode) l r x → F.Answered (F.call t n mode) l q y → (r ≡ q) × (x ≡ y)
outside_decode_fast_array_delta s t n mode same = one_run s t n mode (agree_found s t n mode same)
