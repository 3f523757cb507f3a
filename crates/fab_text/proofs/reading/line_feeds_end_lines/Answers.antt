use Rattle.fab_text.proofs.Numbering.{feeds_end, texts_end}
use Rattle.fab_text.proofs.reading.line_feeds_end_lines.Goals as goal

pub returns-clause-feed : goal.returns-clause-feed
returns-clause-feed c = feeds_end

pub returns-clause-end : goal.returns-clause-end
returns-clause-end c = texts_end
