use Rattle.std.proofs.Common.{ℕ, ◌+◌, ◌*◌, ◌≤◌, max, sym, ap, subst, arith}
use Rattle.fab_site.specs.Placement.{IsLegal}
use Rattle.fab_commit.proofs.RunLemmas.Standings.{place_fits}
use Rattle.fab_commit.proofs.run.state.state_at.Goals as goal

pub returns-clause-sound : goal.returns-clause-sound
returns-clause-sound g c =
    let s = c.args.stage in
    let given = c.args.given.now in
    let place = ap (λ (m : ℕ). s.index * m + s.done) c.moves-moves.ensures.value in
    record {
      legal = subst (IsLegal given.design.now given.grid.now given.fixed) (sym c.in_ok-live.ensures.sites) c.requires.legal;
      array = c.in_ok-live.ensures.grid;
      cost = c.in_ok-cost.ensures;
      place = place;
      counted = (c.requires.counted.0, subst (λ n. c.args.total ≤ n) (sym place) c.requires.counted.1);
      stage = (c.requires.stage, c.requires.left);
    }

pub overflow_mul-result : goal.overflow_mul-result
overflow_mul-result g c =
    let grid = c.args.given.now.grid.now in
    let fits = place_fits c.args.given.now.schedule (max grid.nx grid.ny) c.moves-moves.result c.args.stage c.moves-moves.ensures.value c.moves-moves.ensures.lawful c.requires.stage c.requires.left in
    omega (arith, fits.0)

pub overflow_add-result : goal.overflow_add-result
overflow_add-result g c =
    let grid = c.args.given.now.grid.now in
    let fits = place_fits c.args.given.now.schedule (max grid.nx grid.ny) c.moves-moves.result c.args.stage c.moves-moves.ensures.value c.moves-moves.ensures.lawful c.requires.stage c.requires.left in
    omega (arith, fits.1)
