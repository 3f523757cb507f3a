use Rattle.std.proofs.Common.{sym, subst}
use Rattle.std.specs.List.{All}
use Rattle.fab_commit.specs.Run.Commits.{run_for, standing_of}
use Rattle.fab_commit.specs.Serial.{judged_here}
use Rattle.fab_commit.specs.Model.Worlds.{HasBlocks}
use Rattle.fab_commit.proofs.RunLemmas.Committing.{decided_lawful}
use Rattle.fab_commit.proofs.ModelLemmas.Happening.{blocks_after}
use Rattle.fab_commit.proofs.model.world_state.make.Goals as goal

pub returns-clause-blocks : goal.returns-clause-blocks
returns-clause-blocks g c =
    let r = run_for g.W.Words.moves c.args.given.now in
    let d = c.args.given.now.design.now in
    let s = c.args.live.now in
    let j = judged_here r (standing_of s) s.done in
    let is = c.requires.decides in
    let lawful = decided_lawful c.args.given.now.grid.now s.placement.sites c.args.decision.now j is c.requires.lawful in
    let after = blocks_after d c.args.given.now.grid.now s.placement.sites c.args.accepted.now.items s.done j c.requires.sound.legal.all lawful c.requires.blocks in
    subst (All (HasBlocks d)) (sym (c.enter.ensures.items j is)) after
