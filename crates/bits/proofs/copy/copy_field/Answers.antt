-- `bits::copy::copy_field` meets its contract: the whole words are there, and the bits behind them make the last bytes (`words_end`).
use Rattle.bits.proofs.RunLaws.{words_end}
use native.Mathlib.Omega.{arith}
use Rattle.bits.proofs.copy.copy_field.Goals as goal

pub overflow_add-at : goal.overflow_add-at
overflow_add-at c = omega arith

pub returns : goal.returns
returns c =
    words_end _ _ _ _ _ _ _ c.field_of-w.ensures c.copy_words.ensures c.store_tail.ensures
