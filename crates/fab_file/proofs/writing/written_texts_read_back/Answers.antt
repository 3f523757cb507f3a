use Rattle.fab_file.proofs.Back.{reads_back}
use Rattle.fab_file.proofs.writing.written_texts_read_back.Goals as goal

pub returns : goal.returns
returns c = reads_back
