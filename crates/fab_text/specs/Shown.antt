-- A line that a reader returned, as a line of the text (our own).
use Rattle.std.specs.Prelude.{map}
use Rattle.fab_text.specs.declared.spans.Line.{Line}
use Rattle.fab_text.specs.Lines.{TextLine}

-- a line, as contracts see it
abbrev pub shown : Line → TextLine
shown l = record { number = l.number; words = map (λ w. w.now) l.words.items; spans = l.spans.items }
