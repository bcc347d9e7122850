-- `bits::copy::copy_words` meets its contract: behind k words the buffer holds the first 8 k bytes of the field, and each turn adds a word.
use native.Mathlib.Omega.{arith}
use mathlib.Core.Path.{◌≡◌}
use Prim.Native.Nat.{◌/◌}
use Rattle.bits.proofs.RunLaws.{put_no_bytes, words_more}
use Rattle.bits.proofs.copy.copy_words.Goals as goal

pub loop-k-init : goal.loop-k-init
loop-k-init c = put_no_bytes _ _ _

pub loop-k-preserved : goal.loop-k-preserved
loop-k-preserved c = words_more _ _ _ _ _ _ _ _ (omega arith) c.word_at.ensures c.loop-k.invariant c.store64.ensures

pub returns : goal.returns
returns c =
    let e : c.loop-k.k ≡ c.args.count / 64 = omega arith in
    rw e at c.loop-k.invariant
