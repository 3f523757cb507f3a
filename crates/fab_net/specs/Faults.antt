-- The first fault of a netlist text. Its order is our own.
use Rattle.std.specs.Prelude.{ℕ, ◌-◌, ◌≡◌, ◌==◌, Bool, false, not, ◌&&◌, nat_lt, nat_le, List, [], ◌∷◌, ◌++◌, if◌then◌else◌, is_some, length, map, filter, count_by, Option, Some, None}
use Rattle.std.specs.Str.{bytes_eq}
use Rattle.fab_text.specs.Lines.{TextLine}
use Rattle.fab_text.specs.FirstFault.{or_else, unless, fault_of_all}
use Rattle.fab_text.specs.declared.spans.Span.{Span}
use Rattle.fab_arch.specs.declared.architecture.PinKind.{PinKind}
use Rattle.fab_net.specs.declared.netlist_types.BlockKind.{BlockKind}
use Rattle.fab_net.specs.declared.netlist_types.BlockKind.TheVariants.{InputPad}
use Rattle.fab_net.specs.declared.netlist_types.Head.{Head}
use Rattle.fab_net.specs.declared.netlist_types.Head.TheVariants as head
use Rattle.fab_net.specs.declared.fault.NetFault.{NetFault}
use Rattle.fab_net.specs.declared.fault.NetFault.TheVariants.{UnknownWord, NoName, PinlistWithoutBlock, MissingPinlist, PinCount, SubblockWithoutLogic, DuplicateBlock, NoDriver, TwoDrivers, TooLarge, NoMemory}
use Rattle.fab_net.specs.Names.{number_of}
use Rattle.fab_net.specs.Netlist.{Netlist, is_logic}
use Rattle.fab_net.specs.Text.{Section, PinOf, head_of, sections, is_pinlist, entries_in, pins_at, pins_in, net_names, is_driver, name_at, name_in, span_of_name, no_span, pin_count, IsNetlist}

-- the last section, whose block is open for a pinlist or a subblock
abbrev pub open_section : List Section → Option Section
open_section [] = None
open_section (s ∷ []) = Some s
open_section (s ∷ t ∷ ts) = open_section (t ∷ ts)

-- the place of the name of a section's block, if the section has no pinlist
abbrev pub without_pinlist : Option Section → Option Span
without_pinlist None = None
without_pinlist (Some s) = if length (filter is_pinlist s.body) == 0 then Some (span_of_name s.opening) else None

-- the place of the open block's name, if the block still has no pinlist
abbrev pub awaiting : List TextLine → Option Span
awaiting before = without_pinlist (open_section (sections before))

-- the fault of a block without a pinlist
abbrev pub missing_fault : Option Span → Option NetFault
missing_fault None = None
missing_fault (Some span) = Some (MissingPinlist span)

-- the first fault of a line that opens a block
abbrev pub open_fault : List TextLine → TextLine → Option NetFault
open_fault before l =
    or_else (missing_fault (awaiting before))
    (or_else (unless (nat_lt 1 (length l.words)) (NoName l.number))
    (or_else (unless (not (is_some (number_of (name_at l) (map name_in (sections before))))) (DuplicateBlock l.number))
    (unless (nat_lt (length (sections before)) 65535) (TooLarge l.number))))

-- the kind of the open block. If no block is open, the line is faulty whatever the kind
abbrev pub open_kind : Option Section → BlockKind
open_kind None = InputPad
open_kind (Some s) = s.kind

-- the pins that a pinlist adds
abbrev pub pins_added : List PinKind → List TextLine → TextLine → List PinOf
pins_added arch before l = pins_at arch (open_kind (open_section (sections before))) (length (sections before) - 1) 0 (entries_in l)

-- whether the terminals and nets are within the limits
abbrev pub are_few : List PinOf → Bool
are_few pins = nat_le (length pins) 1048576 && nat_le (length (net_names pins)) 65535

-- the first fault of a pinlist
abbrev pub pinlist_fault : List PinKind → List TextLine → TextLine → Option NetFault
pinlist_fault arch before l =
    or_else (unless (is_some (awaiting before)) (PinlistWithoutBlock l.number))
    (or_else (unless (length (entries_in l) == pin_count arch (open_kind (open_section (sections before)))) (PinCount l.number))
    (unless (are_few (pins_in arch before ++ pins_added arch before l)) (TooLarge l.number)))

-- the open block is a logic block
abbrev pub is_logic_open : Option Section → Bool
is_logic_open None = false
is_logic_open (Some s) = is_logic s.kind

-- the first fault of a line, by its first word
abbrev pub fault_by : List PinKind → List TextLine → TextLine → Head → Option NetFault
fault_by arch before l (head.Opens kind) = open_fault before l
fault_by arch before l head.Pinlist = pinlist_fault arch before l
fault_by arch before l head.Subblock = unless (is_logic_open (open_section (sections before))) (SubblockWithoutLogic l.number)
fault_by arch before l head.Global = None
fault_by arch before l head.Unknown = Some (UnknownWord l.number)

-- the first fault of a line that follows others
abbrev pub fault_of : List PinKind → List TextLine → TextLine → Option NetFault
fault_of arch before l = fault_by arch before l (head_of l)

-- the place where a net is first named in a pinlist
abbrev pub first_span : List PinOf → List ℕ → Span
first_span [] name = no_span
first_span (p ∷ ps) name = if bytes_eq name p.name then p.span else first_span ps name

-- the fault of a net whose number of drivers is not one
abbrev pub net_fault : List PinOf → List ℕ → Option NetFault
net_fault pins name =
    if count_by (is_driver name) pins == 1 then None
    else if count_by (is_driver name) pins == 0 then Some (NoDriver (first_span pins name))
    else Some (TwoDrivers (first_span pins name))

-- the fault of the first of these nets that has one
abbrev pub driver_fault : List PinOf → List (List ℕ) → Option NetFault
driver_fault pins [] = None
driver_fault pins (n ∷ ns) = or_else (net_fault pins n) (driver_fault pins ns)

-- the first fault of a whole text whose lines have none
abbrev pub text_fault : List PinKind → List TextLine → Option NetFault
text_fault arch ls = or_else (missing_fault (awaiting ls)) (driver_fault (pins_in arch ls) (net_names (pins_in arch ls)))

-- the first fault of a text
abbrev pub first_fault : List PinKind → List TextLine → Option NetFault
first_fault arch ls = fault_of_all (fault_of arch) (text_fault arch) ls

-- a returned fault is `fault`, or out of memory, which may come for any text
abbrev pub FaultIs : NetFault → Option NetFault → Type 0
FaultIs NoMemory fault = Unit {0}
FaultIs e fault = fault ≡ Some e

-- the lines of a text either mean a netlist or have a first fault, never both
abbrev pub MeansOrFaults : List PinKind → List TextLine → Type 0
MeansOrFaults arch ls =
    ((d : Netlist) → IsNetlist arch ls d → first_fault arch ls ≡ None)
    × (first_fault arch ls ≡ None → (d : Netlist) × IsNetlist arch ls d)
