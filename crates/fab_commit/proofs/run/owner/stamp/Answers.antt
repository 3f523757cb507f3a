use Rattle.std.proofs.Common.{◌≡◌, true, sym, ◌∙◌}
use Rattle.fab_move.specs.StampTables.{kept_stamp}
use Rattle.fab_commit.proofs.RunLemmas.Owning.{stamped_now}
use Rattle.fab_commit.proofs.run.owner.stamp.Goals as goal

pub touch-requires-clause-within : goal.touch-requires-clause-within
touch-requires-clause-within g c = c.requires.within c.in-Some.swap c.in-Some.is

pub returns-in-Some-clause-stamped : goal.returns-in-Some-clause-stamped
returns-in-Some-clause-stamped g c j is log before are =
    let d = c.args.given.now.design.now in
    let grid = c.args.given.now.grid.now in
    let took = is.accepted in
    let there = is.swap in
    let yes : j.accepted ≡ true = cc in
    stamped_now d log c.args.number j c.in-Some.swap (kept_stamp grid c.args.stamps.now) (kept_stamp grid c.touch.new.self) before yes (sym there ∙ c.in-Some.is) c.touch.ensures.touched are
