use Rattle.std.proofs.Common.{refl}
use Rattle.fab_commit.specs.Run.Commits.{run_for}
use Rattle.fab_commit.specs.declared.run.point.Point.{Point}
use Rattle.fab_commit.proofs.RunLemmas.Standings.{point_is, stands_there}
use Rattle.fab_commit.proofs.run.point.point_with.Goals as goal

pub returns-clause-stands : goal.returns-clause-stands
returns-clause-stands g c =
    let s = c.args.state.now in
    let made : Point = record { schedule = c.args.given.now.schedule; stage = s.stage; total = s.total; fixed = c.args.fixed; placement = c.args.placement } in
    stands_there (run_for g.W.Words.moves c.args.given.now) s made c.requires.sound c.requires.going
    (record { schedule = refl; stage = refl; total = refl; fixed = c.requires.fixed; placement = c.requires.placement })

pub returns-clause-lawful : goal.returns-clause-lawful
returns-clause-lawful g c =
    let s = c.args.state.now in
    let made : Point = record { schedule = c.args.given.now.schedule; stage = s.stage; total = s.total; fixed = c.args.fixed; placement = c.args.placement } in
    point_is (run_for g.W.Words.moves c.args.given.now) s made c.requires.sound c.requires.going
    (record { schedule = refl; stage = refl; total = refl; fixed = c.requires.fixed; placement = c.requires.placement })
