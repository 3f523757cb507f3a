use Rattle.fab_text.proofs.Numbering.{counted, first_number}
use Rattle.fab_text.proofs.reading.lines_are_numbered_by_line_feeds.Goals as goal

pub returns-clause-counted : goal.returns-clause-counted
returns-clause-counted c = counted

pub returns-clause-first : goal.returns-clause-first
returns-clause-first c = first_number
