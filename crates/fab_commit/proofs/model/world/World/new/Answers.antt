use Rattle.std.proofs.Common.{[], ap, ◌∙◌}
use Rattle.fab_commit.specs.Run.Commits.{run}
use Rattle.fab_commit.specs.Model.World.{world}
use Rattle.fab_commit.proofs.model.world.World.new.Goals as goal

pub invariant_of-result : goal.invariant_of-result
invariant_of-result g c =
    let words = g.W.Words.moves c.args.words in
    let r = run c.args.design.now c.args.grid.now c.args.fixed words c.args.schedule in (
      c.in_ok-state.ensures.whole r c.moves-moves.ensures.lawful c.in_ok-live.ensures.sound,
      record {
        first = c.args.placement.sites;
        events = [];
        legal = c.requires.legal;
        here = c.in_ok-state.ensures.stands ∙ ap world c.in_ok-live.ensures.stands;
        ways = c.in_ok-state.ensures.ways;
      },
    )

pub returns : goal.returns
returns g c =
    let here = c.in_ok-state.ensures.stands ∙ ap world c.in_ok-live.ensures.stands in
    let ways = c.in_ok-state.ensures.ways in
    (λ i. record { design = c.args.design.now; grid = c.args.grid.now; fixed = c.args.fixed; plan = c.args.schedule; words = c.args.words; world = here i; ways = ways i })
