use Rattle.std.proofs.Common.{◌-◌, ap, ◌∙◌}
use Rattle.fab_commit.proofs.RunLemmas.Beginning.{left_is}
use Rattle.fab_commit.proofs.run.state.moves_left.Goals as goal

pub returns-else-state : goal.returns-else-state
returns-else-state c =
    let s = c.args.state.now in
    ap (λ m. m - s.stage.done) c.moves.ensures.value
    ∙ left_is s.ended s.stage.index s.stage.done c.args.schedule.now.moves s.done s.stage.t c.if-state.false c.requires.place (c.requires.inside c.if-state.false)
