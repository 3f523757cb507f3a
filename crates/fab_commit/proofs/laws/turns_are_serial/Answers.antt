use Rattle.fab_commit.proofs.ModelLemmas.TurnLaws.{cut_turns_lead_on, every_batch_is_serial, redone_by_stamps, turns_are_reached, turns_lead_on, ways_of_turns}
use Rattle.fab_commit.proofs.laws.turns_are_serial.Goals as goal

pub returns-clause-reached : goal.returns-clause-reached
returns-clause-reached c = turns_are_reached

pub returns-clause-turn : goal.returns-clause-turn
returns-clause-turn c = turns_lead_on

pub returns-clause-cut : goal.returns-clause-cut
returns-clause-cut c = cut_turns_lead_on

pub returns-clause-batches : goal.returns-clause-batches
returns-clause-batches c = every_batch_is_serial

pub returns-clause-ways : goal.returns-clause-ways
returns-clause-ways c = ways_of_turns

pub returns-clause-stamps : goal.returns-clause-stamps
returns-clause-stamps c = redone_by_stamps
