use Rattle.fab_commit.proofs.ModelLemmas.Proposing.{seeds_give_words}
use Rattle.fab_commit.proofs.ModelLemmas.Reasons.{legal_by_kinds, placements_stay_legal}
use Rattle.fab_commit.proofs.laws.placements_stay_legal.Goals as goal

pub returns-clause-legal : goal.returns-clause-legal
returns-clause-legal c = placements_stay_legal

pub returns-clause-seeds : goal.returns-clause-seeds
returns-clause-seeds c = seeds_give_words

pub returns-clause-kinds : goal.returns-clause-kinds
returns-clause-kinds c = legal_by_kinds
