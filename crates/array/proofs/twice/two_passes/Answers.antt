-- Each exit is one of the cases that the passes may come to.
use borrow.Author.Rules.{rules}
use mathlib.Core.Path.{sym, ap, ◌∙◌}
use Rattle.steps.specs.Tally.{played}
use Rattle.array.specs.Passing.{too_short, has_room}
use Rattle.array.proofs.PassLaws.{starts_fresh, needs_in, held_in, stats_in, pads_in}
use Rattle.array.proofs.twice.two_passes.Goals as goal

pub measure-need-requires : goal.measure-need-requires
measure-need-requires c =
    c.requires

pub returns-then-not-has_room : goal.returns-then-not-has_room
returns-then-not-has_room c =
    too_short (needs_in _ _ _ _ _ c.measure-need.ensures c.extent_of-filled.ensures)
    (sym c.has_room.ensures ∙ c.if-not-has_room.true)

pub pass-requires : goal.pass-requires
pass-requires c =
    c.requires

pub returns : goal.returns
returns c =
    let again = c.pass.ensures.played ∙ ap (played _) (starts_fresh _ _ _ _ (search rules)) in
    has_room (needs_in _ _ _ _ _ c.measure-need.ensures c.extent_of-filled.ensures)
    (sym c.has_room.ensures ∙ c.if-not-has_room.false) (held_in _ _ _ _ _ again _ _ _ (search rules) (search rules) (search rules)) (c.stats_of-stats.ensures ∙ stats_in _ _ _ _ _ again)
    (c.window_verdict-verdict.ensures _ _) (c.padded_of-padded.ensures ∙ pads_in _ _ _ _ _ again)
