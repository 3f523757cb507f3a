use Rattle.std.proofs.Common.{sym, ◌∙◌, arith}
use Rattle.fab_run.proofs.PointStages.{earlier}
use Rattle.fab_run.proofs.point_reading.stage_field.Goals as goal

pub returns-then-stage-clause-read : goal.returns-then-stage-clause-read
returns-then-stage-clause-read c =
    let at = c.in-Some.stage in
    let known = earlier c.args.schedule.now c.last_index-last.result at.0 c.last_index-last.ensures.reached c.if-stage-last.true in
    record {
      says = sym c.stage_in.ensures ∙ c.in-Some.is;
      within = (known, omega (arith, c.if-stage-moves.true, c.moves.ensures.value), c.if-stage.true);
    }
