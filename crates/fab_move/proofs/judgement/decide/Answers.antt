use Rattle.std.proofs.Common.{refl}
use Rattle.fab_move.specs.Judge.{problem}
use Rattle.fab_move.proofs.Judgements.{decided_on}
use Rattle.fab_move.proofs.judgement.decide.Goals as goal

pub returns-clause-decided : goal.returns-clause-decided
returns-clause-decided g c =
    let p = problem c.args.view.now.design.now c.args.view.now.grid.now c.args.view.now.fixed.now (g.W.Words.moves c.args.view.now.words.now) in
    let found = c.proposed-proposal in
    decided_on p c.args.view.now.placement.now.sites c.args.k c.args.view.now.t c.args.view.now.range (p.words c.args.k) found.result.1 found.result.0 c.weigh.result refl found.ensures.word found.ensures.value c.weigh.ensures.decided
