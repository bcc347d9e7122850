-- `bits::copy::store_tail` meets its contract: the first j bytes of the part are stored, and v is what is left of w above them.
use native.Mathlib.Omega.{arith}
use mathlib.Core.Path.{◌≡◌, refl, sym, ap, ◌∙◌}
use native.Mathlib.Nat.{div-one}
use Prim.Native.Nat.{ℕ}
use lib.ListN.{length, length-drop}
use lib.Seq.{length-take-le, take_all}
use Rattle.bits.specs.Runs.{bytes_of}
use Rattle.bits.proofs.RunLaws.{tail_step, part_run, length_bytes_of}
use Rattle.bits.proofs.copy.store_tail.Goals as goal

pub loop-x-init : goal.loop-x-init
unfolding bytes_of
loop-x-init c = record { now_is = refl; left_is = sym (div-one _) }

pub loop-x-preserved : goal.loop-x-preserved
loop-x-preserved c =
    let v = c.loop-x.invariant in
    let t = tail_step _ _ _ _ (omega arith) v.now_is v.left_is in
    record { now_is = t.0; left_is = t.1 }

pub returns : goal.returns
returns c =
    let l = c.loop-x in
    let many : length l.x-items ≡ c.args.n =
    l.auto.x-items ∙ length-take-le _ _ (simp length-drop (omega arith)) ∙ omega arith in
    let all : l.x-index ≡ length l.x-items = omega (arith, l.auto.x-items) in
    let whole : l.x-items ≡ bytes_of c.args.n c.args.w =
    sym (take_all l.x-index l.x-items (omega arith)) ∙ l.invariant.now_is ∙ ap (λ (k : ℕ). bytes_of k c.args.w) (all ∙ many) in
    part_run _ _ _ _ _ whole (omega (arith, length_bytes_of c.args.n c.args.w))
