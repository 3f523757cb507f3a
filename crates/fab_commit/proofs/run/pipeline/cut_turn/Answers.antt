use Rattle.std.proofs.Common.{length, refl}
use Rattle.fab_commit.specs.declared.run.owner.Owner.{Owner}
use Rattle.fab_commit.specs.Run.Commits.{run_for}
use Rattle.fab_commit.proofs.RunLemmas.InTurns.{gone_nowhere, owned_cleared}
use Rattle.fab_commit.proofs.run.pipeline.cut_turn.Goals as goal

pub returns-clause-gone : goal.returns-clause-gone
returns-clause-gone g c t at =
    let s = c.args.pipeline.now in
    let o : Owner = record { state = s.owner.state; swaps = c.clear.new.self; stamps = s.owner.stamps; redone = s.owner.redone } in
    gone_nowhere (run_for g.W.Words.moves c.args._given.now) t s.owner o (record { base = s.base; moves = length s.ahead.items }) _ at
    (record { stands = refl; accepted = refl; swaps = c.clear.ensures.items; stamps = refl; redone = refl })
    (owned_cleared (run_for g.W.Words.moves c.args._given.now) s.owner o at.owned refl refl refl) refl refl
