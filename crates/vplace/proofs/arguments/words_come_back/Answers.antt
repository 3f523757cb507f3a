use Rattle.vplace.proofs.WordsBack.{words_come_back}
use Rattle.vplace.proofs.arguments.words_come_back.Goals as goal

pub returns : goal.returns
returns c = words_come_back
