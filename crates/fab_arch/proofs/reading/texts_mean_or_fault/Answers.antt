use Rattle.fab_arch.proofs.Accepted.{no_fault_in}
use Rattle.fab_arch.proofs.Standing.{meaning_of}
use Rattle.fab_arch.proofs.reading.texts_mean_or_fault.Goals as goal

pub returns : goal.returns
returns c = λ ls. (λ ratio pins a. no_fault_in ls ratio pins a, λ none. meaning_of ls none)
