use Rattle.fab_net.proofs.Accepted.{no_fault_in, meaning_of}
use Rattle.fab_net.proofs.reading.texts_mean_or_fault.Goals as goal

pub returns : goal.returns
returns c = λ arch ls. (λ d n. no_fault_in arch ls d n, λ none. meaning_of arch ls none)
