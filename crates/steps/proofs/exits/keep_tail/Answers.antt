-- A tail is kept as a leaf where a walk keeps tails and bits remain.
use Rattle.std.proofs.Common.{take, sym, refl, ◌∙◌}
use Rattle.steps.proofs.StopLaws.{tail_object, tail_end, tail_kept}
use Rattle.steps.proofs.LentLaws.{lent_same}
use Rattle.steps.proofs.exits.keep_tail.Goals as goal

pub returns-then-not-gives_leaves : goal.returns-then-not-gives_leaves
returns-then-not-gives_leaves c = λ inside.
    let a = c.args in
    let object = sym c.gives_leaves.ensures ∙ c.if-not-gives_leaves.true in
    record { out = tail_object a.walk inside a.piece.now.bytes.now a.piece.now.base a.at a.piece.now.end (take a.plen a.out.now.path.now) _ object; kept = refl; lent = lent_same _ }

pub returns-then-at-piece : goal.returns-then-at-piece
returns-then-at-piece c = λ inside.
    let a = c.args in
    let leafy = sym c.gives_leaves.ensures ∙ c.if-not-gives_leaves.false in
    record { out = tail_end a.walk inside a.piece.now.bytes.now a.piece.now.base a.at a.piece.now.end (take a.plen a.out.now.path.now) _ leafy c.if-at-piece.true; kept = refl; lent = lent_same _ }

pub returns : goal.returns
returns c = λ inside.
    let leafy = sym c.gives_leaves.ensures ∙ c.if-not-gives_leaves.false in
    let a = c.args in
    record { out = tail_kept a.walk inside a.piece.now.bytes.now a.piece.now.base a.at a.piece.now.end (take a.plen a.out.now.path.now) _ leafy _ _ c.requires.0 c.if-at-piece.false c.put_tail.ensures.out; kept = c.put_tail.ensures.kept; lent = c.put_tail.ensures.lent }
