use Rattle.fab_file.proofs.Meaning.{location_texts}
use Rattle.fab_file.proofs.location_texts.location_texts_mean_or_fault.Goals as goal

pub returns : goal.returns
returns c = location_texts
