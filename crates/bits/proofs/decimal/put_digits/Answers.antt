-- `bits::decimal::put_digits` meets its contract: the digits stand from j on, and those of v are still to be written before them.
use native.Mathlib.Omega.{arith}
use mathlib.Core.Path.{refl, sym}
use mathlib.Core.List.{[], append-nil}
use lib.ListN.{length-set}
use Rattle.bits.proofs.RunLaws.{put_none}
use Rattle.bits.proofs.DecimalLaws.{digit_there, digits_left, digit_left, written_more, written_last}
use Rattle.bits.proofs.decimal.put_digits.Goals as goal

pub loop-j-init : goal.loop-j-init
loop-j-init c =
    record {
      run = [];
      whole = append-nil _;
      place = omega arith;
      now_is = sym (put_none _ _);
      same = refl;
      room = omega arith;
      below = omega arith;
      small = omega arith;
    }

pub loop-j-preserved : goal.loop-j-preserved
loop-j-preserved c =
    let w = c.loop-j.invariant in
    written_more _ _ _ _ _ _ w (digits_left _ _ _ _ _ _ w c.loop-j-test.true) _ refl (simp length-set)

pub overflow_add-d-2 : goal.overflow_add-d-2
overflow_add-d-2 c = let l = digit_left _ _ _ _ _ _ c.loop-j.invariant c.loop-j-test.false in omega arith

pub overflow_cast-d-2 : goal.overflow_cast-d-2
overflow_cast-d-2 c = let l = digit_left _ _ _ _ _ _ c.loop-j.invariant c.loop-j-test.false in omega arith

pub bounds-d-at : goal.bounds-d-at
bounds-d-at c = let t = digit_there _ _ _ _ _ _ c.loop-j.invariant in omega arith

pub returns : goal.returns
returns c =
    let w = c.loop-j.invariant in
    written_last _ _ _ _ _ _ w (digit_left _ _ _ _ _ _ w c.loop-j-test.false)
