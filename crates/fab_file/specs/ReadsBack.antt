-- What is written reads back (our own).
use Rattle.std.specs.Prelude.{ℕ, ◌≡◌, true, List, []}
use Rattle.fab_text.specs.Lines.{lines}
use Rattle.fab_arch.specs.declared.array.Site.{Site}
use Rattle.fab_arch.specs.Grid.{GridShape, AreLimits}
use Rattle.fab_net.specs.Netlist.{Netlist, IsLawful}
use Rattle.fab_site.specs.Placement.{IsLegal}
use Rattle.fab_file.specs.Place.{StandsFor}
use Rattle.fab_file.specs.Written.{are_labels, place_text}

-- the text of a legal placement stands for it
abbrev pub ReadBack : Type 0
ReadBack = (net arch : List ℕ) (d : Netlist) (g : GridShape) (sites : List Site) → are_labels net arch ≡ true → IsLawful d → AreLimits g.nx g.ny g.io_rat → IsLegal d g [] sites
    → StandsFor d g (lines (place_text net arch d g sites)) sites
