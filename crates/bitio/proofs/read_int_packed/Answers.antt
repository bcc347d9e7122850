-- `bitio::read_int_packed` meets its contract: the window's number is one of the bytes, and each of its cases has its answer.
use Rattle.std.proofs.Common.{◌≡◌, ℕ, ◌+◌, Bool, List, sym, ap, ◌∙◌, arith, Result, Ok, Err}
use Rattle.bitio.proofs.CursorLaws.{ok_way}
use Rattle.bitio.proofs.ReadLaws.{packed_here}
use Rattle.bits.proofs.PackedLaws.{whole_within, whole_bytes, cut_within}
use Rattle.bits.specs.Bits.{num}
use Rattle.bits.specs.Packed.{packed}
use Rattle.bits.specs.Padded.{padded, found}
use Rattle.bits.proofs.PaddedLaws.{plain, plain_found, found_padded}
use Rattle.bits.specs.declared.Found.{Found}
use Rattle.bits.specs.declared.Broken.{Broken}
use Rattle.bitio.specs.Cursors.{good_or_refused_lem}
use Rattle.bitio.specs.Numbers.{packed_number, packed_answer, read_int_packed_lem}
use Rattle.bitio.specs.declared.Cursor.{Cursor}
use Rattle.bitio.specs.declared.Read.{Read}
use Rattle.bitio.specs.declared.PackedNumber.{PackedNumber}
use Rattle.bitio.specs.declared.Refusal.{Refusal}
use Rattle.bitio.proofs.read_int_packed.Goals as goal

-- whether it is padded, as it was found out
told : (v n p : ℕ) {b : Bool} → b ≡ padded v n
    → ◌≡◌ {A = Result (Read PackedNumber) Refusal} (Ok (record { value = record { value = v; bytes = n; padded = b }; next = p })) (Ok (record { value = packed_number v n; next = p }))
told v n p e = ap (λ (b : Bool). Ok (record { value = record { value = v; bytes = n; padded = b }; next = p })) e

-- what was found at the cursor is what the contract names
found_here : (s : List ℕ) (c : Cursor) (u : Unit {0}) (x : Result Found Broken) → Ok u ≡ good_or_refused_lem s c
    → x ≡ found (packed (num s) (c.start + c.len) (c.start + c.pos)) → packed_answer c.len c.pos (plain x) ≡ read_int_packed_lem s c
found_here s c u x g e = sym (ok_way s c _ u g ∙ ap (packed_answer c.len c.pos) (packed_here s c ∙ plain_found _ e))

pub overflow_mul-next : goal.overflow_mul-next
overflow_mul-next c =
    let w = c.in_ok-good_or_refused.ensures in
    omega (arith, whole_within _ _ _ (omega arith) _ _ (plain_found _ c.in-Ok.ensures))

pub overflow_add-next : goal.overflow_add-next
overflow_add-next c =
    let w = c.in_ok-good_or_refused.ensures in
    omega (arith, whole_within _ _ _ (omega arith) _ _ (plain_found _ c.in-Ok.ensures))

pub overflow_cast-taken : goal.overflow_cast-taken
overflow_cast-taken c = omega (arith, whole_bytes _ _ _ _ _ (plain_found _ c.in-Ok.ensures))

pub overflow_mul-stop : goal.overflow_mul-stop
overflow_mul-stop c =
    let w = c.in_ok-good_or_refused.ensures in
    omega (arith, cut_within _ _ _ (omega arith) _ (plain_found _ (sym (c.in-Err-Cut.is ∙ ap Err (rw c.in-Err-Cut.is at c.in-Err-Cut.field-0-is)) ∙ c.packed_at-found.ensures)))

pub overflow_add-stop : goal.overflow_add-stop
overflow_add-stop c =
    let w = c.in_ok-good_or_refused.ensures in
    omega (arith, cut_within _ _ _ (omega arith) _ (plain_found _ (sym (c.in-Err-Cut.is ∙ ap Err (rw c.in-Err-Cut.is at c.in-Err-Cut.field-0-is)) ∙ c.packed_at-found.ensures)))

pub returns-in-Ok : goal.returns-in-Ok
unfolding packed_answer
returns-in-Ok c =
    let e = c.in-Ok.ensures in
    told _ _ _ (found_padded _ e) ∙ found_here _ _ _ _ c.in_ok-good_or_refused.ensures.value e

pub returns-in-Err-Cut : goal.returns-in-Err-Cut
unfolding packed_answer
returns-in-Err-Cut c = found_here _ _ _ _ c.in_ok-good_or_refused.ensures.value (sym (c.in-Err-Cut.is ∙ ap Err (rw c.in-Err-Cut.is at c.in-Err-Cut.field-0-is)) ∙ c.packed_at-found.ensures)

pub returns-in-Err-GoesOn : goal.returns-in-Err-GoesOn
unfolding packed_answer
returns-in-Err-GoesOn c = found_here _ _ _ _ c.in_ok-good_or_refused.ensures.value (sym (c.in-Err-GoesOn.is ∙ ap Err (rw c.in-Err-GoesOn.is at c.in-Err-GoesOn.field-0-is)) ∙ c.packed_at-found.ensures)

pub returns-in-Err-Overflows : goal.returns-in-Err-Overflows
unfolding packed_answer
returns-in-Err-Overflows c = found_here _ _ _ _ c.in_ok-good_or_refused.ensures.value (sym (c.in-Err-Overflows.is ∙ ap Err (rw c.in-Err-Overflows.is at c.in-Err-Overflows.field-0-is)) ∙ c.packed_at-found.ensures)
