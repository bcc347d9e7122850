-- `bits::decimal::write_decimal` meets its contract: the digits are written where they fit, and the place after them is the sum.
use native.Mathlib.Omega.{arith}
use mathlib.Core.Path.{sym, ap, ◌∙◌}
use Rattle.bits.specs.Decimals.{place_after_lem}
use Rattle.bits.proofs.RunLaws.{store_fits, store_out}
use Rattle.bits.proofs.decimal.write_decimal.Goals as goal

pub returns-then-d-k : goal.returns-then-d-k
returns-then-d-k c =
    let k = c.decimal_length-k.ensures in
    (c.saturating_add-end.ensures ∙ ap (place_after_lem _) k, sym (store_out _ _ _ (omega arith)))

pub returns-then-d-k-2 : goal.returns-then-d-k-2
returns-then-d-k-2 c =
    let k = c.decimal_length-k.ensures in
    (c.saturating_add-end.ensures ∙ ap (place_after_lem _) k, sym (store_out _ _ _ (omega arith)))

pub put_digits-requires : goal.put_digits-requires
put_digits-requires c = let k = c.decimal_length-k.ensures in omega arith

pub returns : goal.returns
returns c =
    let k = c.decimal_length-k.ensures in
    (c.saturating_add-end.ensures ∙ ap (place_after_lem _) k, c.put_digits.ensures ∙ sym (store_fits _ _ _ (omega arith)))
