-- A design, as a netlist (our own).
use Rattle.std.specs.Prelude.{ℕ, List, Bool}
use Rattle.fab_net.specs.declared.netlist_types.BlockKind.{BlockKind}
use Rattle.fab_net.specs.declared.netlist_types.Terminal.{Terminal}
use Rattle.fab_net.specs.Netlist.{Netlist}

-- the netlist of four tables
abbrev pub netlist : List BlockKind → List (List ℕ) → List (List Terminal) → List Bool → Netlist
netlist kinds names terminals globals = record { kinds = kinds; names = names; terminals = terminals; globals = globals }
