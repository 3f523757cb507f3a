-- Pins by the numbers of their nets (our own).
use Rattle.std.specs.Prelude.{ℕ, ◌==◌, Bool, List, [], ◌∷◌, if◌then◌else◌, slice_index_or}
use Rattle.fab_text.specs.declared.spans.Span.{Span}
use Rattle.fab_net.specs.declared.netlist_types.Pin.{Pin}
use Rattle.fab_net.specs.declared.netlist_types.Terminal.{Terminal}
use Rattle.fab_net.specs.Text.{PinOf}

-- a pin's net, with its terminal
abbrev pub net_entry : Pin → ℕ × Terminal
net_entry p = (p.net, record { block = record { 0 = p.block }; pin = p.pin })

-- the pin drives its net
abbrev pub drives_its : Pin → Bool
drives_its p = p.drives

-- a pin's net, and whether the pin drives it
abbrev pub driver_entry : Pin → ℕ × Bool
driver_entry p = (p.net, p.drives)

-- the place of a net's first pin
abbrev pub span_at : ℕ → List Pin → Span
span_at net [] = record { start = 0; stop = 0 }
span_at net (p ∷ ps) = if p.net == net then p.span else span_at net ps

-- a pin with the name of its net instead of the number: the name is looked up in `names`
abbrev pub pin_of : List (List ℕ) → Pin → PinOf
pin_of names p = record { block = p.block; pin = p.pin; name = slice_index_or names p.net []; span = p.span; drives = p.drives }
