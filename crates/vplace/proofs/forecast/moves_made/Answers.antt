use Rattle.std.proofs.Common.{arith}
use Rattle.fab_commit.proofs.RunLemmas.Standings.{place_fits}
use Rattle.vplace.proofs.forecast.moves_made.Goals as goal

pub overflow_mul-result : goal.overflow_mul-result
overflow_mul-result c =
    let p = c.args.point.now in
    let fits = place_fits p.schedule c.requires.stage.0 c.moves.result p.stage c.moves.ensures.value c.requires.lawful c.requires.stage.1 c.requires.left in
    omega (arith, fits.0)

pub overflow_add-result : goal.overflow_add-result
overflow_add-result c =
    let p = c.args.point.now in
    let fits = place_fits p.schedule c.requires.stage.0 c.moves.result p.stage c.moves.ensures.value c.requires.lawful c.requires.stage.1 c.requires.left in
    omega (arith, fits.1)
