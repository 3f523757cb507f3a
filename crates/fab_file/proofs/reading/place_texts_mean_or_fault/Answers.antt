use Rattle.fab_file.proofs.Meaning.{place_texts}
use Rattle.fab_file.proofs.reading.place_texts_mean_or_fault.Goals as goal

pub returns : goal.returns
returns c = place_texts
