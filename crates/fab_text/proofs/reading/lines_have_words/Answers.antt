use Rattle.fab_text.proofs.Clean.{lines_have_words}
use Rattle.fab_text.proofs.reading.lines_have_words.Goals as goal

pub returns : goal.returns
returns c = lines_have_words
