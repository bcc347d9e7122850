-- `bitio::read_serialized_int` meets its contract: the low bits are read, and the top bit where the maximum leaves it open.
use Rattle.std.proofs.Common.{◌≡◌, ℕ, ◌+◌, ◌*◌, ◌%◌, ◌^◌, ◌<◌, ◌≤◌, sym, ap, ◌∙◌, mul-le-mul_right, arith, Result, Ok}
use Rattle.bits.proofs.FieldLaws.{bound}
use Rattle.bitio.specs.Cursors.{window}
use Rattle.bitio.specs.Numbers.{serialized_top, read_serialized_int_lem}
use Rattle.bitio.specs.declared.Read.{Read}
use Rattle.bitio.specs.declared.Refusal.{Refusal}
use Rattle.bitio.proofs.CursorLaws.{passed_on, ok_way, window_field}
use Rattle.bitio.proofs.NumberLaws.{serialized_few, serialized_low, top_few, top_open}
use Rattle.bitio.proofs.read_serialized_int.Goals as goal
use Rattle.bitio.proofs.read_serialized_int.Goals.{After-field_of-v}

pub returns-in_err-at : goal.returns-in_err-at
returns-in_err-at c =
    passed_on _ _ c.from_residual-in_err-at.ensures.1
    ∙ sym (ok_way _ _ _ _ c.in_ok-good_or_refused.ensures.value
    ∙ serialized_few _ _ _ _ _ c.if-max-eq0.false c.log2_of-width.ensures.value _ c.in_err-at.ensures.value)

-- after the low bits the rest is due
rest : (c : After-field_of-v) →
    let a = c.args in
    read_serialized_int_lem a.bytes.now a.c a.max
    ≡ serialized_top (window a.bytes.now a.c) a.c.len a.max c.log2_of-width.result c.field_of-v.result c.in_ok-at.at
rest c =
    ok_way _ _ _ _ c.in_ok-good_or_refused.ensures.value
    ∙ serialized_low _ _ _ _ _ c.if-max-eq0.false c.log2_of-width.ensures.value _ _
    (c.field_of-v.ensures ∙ sym (window_field _ _ _ _ c.in_ok-at.ensures.within)) c.in_ok-at.ensures.value

pub returns-in_err-next : goal.returns-in_err-next
returns-in_err-next c =
    let w = c.log2_of-width.ensures in
    passed_on _ _ c.from_residual-in_err-next.ensures.1
    ∙ sym (rest (goal.at.returns-in_err-next c).After-field_of-v ∙ top_few _ _ _ _ _ _ (omega arith) _ c.in_err-next.ensures.value)

-- the top bit is worth at most the power that it stands for
top_bit : (b w : ℕ) → b < 2 ^ 1 → b * 2 ^ w ≤ 2 ^ w
top_bit b w h = let k : b ≤ 1 = omega arith in omega (arith, mul-le-mul_right (2 ^ w) k)

pub overflow_add-value : goal.overflow_add-value
overflow_add-value c =
    let w = c.log2_of-width.ensures in
    let b = bound _ _ _ _ c.bit_at-bit.ensures in
    omega (arith, b, top_bit _ c.log2_of-width.result b, bound _ _ _ _ c.field_of-v.ensures)

pub overflow_cast-value-2 : goal.overflow_cast-value-2
overflow_cast-value-2 c =
    let w = c.log2_of-width.ensures in
    let b = bound _ _ _ _ c.bit_at-bit.ensures in
    omega (arith, b, top_bit _ c.log2_of-width.result b, bound _ _ _ _ c.field_of-v.ensures)

-- two sums of equals
same_sum : (v next x y : ℕ) → x ≡ y
    → ◌≡◌ {A = Result (Read ℕ) Refusal} (Ok (record { value = v + x; next = next })) (Ok (record { value = v + y; next = next }))
same_sum v next x y e = ap (λ (k : ℕ). Ok (record { value = v + k; next = next })) e

pub returns : goal.returns
returns c =
    let w = c.log2_of-width.result in
    let b = c.bit_at-bit.result in
    let t : b * 2 ^ w ≤ 2 ^ w = top_bit b w (bound _ _ _ _ c.bit_at-bit.ensures) in
    let k : 2 ^ w < 2 ^ 64 = omega arith in
    let e : (b * 2 ^ w) % 2 ^ 64 ≡ b * 2 ^ w = omega arith in
    same_sum c.field_of-v.result c.in_ok-next.next _ _ e
    ∙ sym (rest (goal.at.returns c).After-field_of-v ∙ top_open _ _ _ _ _ _ (omega arith) _ _
    (c.bit_at-bit.ensures ∙ sym (window_field _ _ _ _ c.in_ok-next.ensures.within)) c.in_ok-next.ensures.value)
