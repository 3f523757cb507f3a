-- What the lines read so far mean, as one value. A reader keeps it between two lines, and the next line adds to it (our own).
use Rattle.std.specs.List.{All}
use Rattle.std.specs.Prelude.{ℕ, ◌≡◌, ◌≤◌, ◌<◌, ◌-◌, ◌==◌, not, nat_lt, List, [], ◌∷◌, ◌++◌, is_some, length, map, drop, slice_get, filter, Option, Some, None, Result, Ok, Err, Bool, false}
use Rattle.fab_text.specs.Lines.{TextLine}
use Rattle.fab_text.specs.LineWords.{AreWords}
use Rattle.fab_text.specs.FirstFault.{or_else, unless}
use Rattle.fab_text.specs.declared.spans.Span.{Span}
use Rattle.fab_arch.specs.declared.architecture.PinKind.{PinKind}
use Rattle.fab_net.specs.declared.netlist_types.BlockKind.{BlockKind}
use Rattle.fab_net.specs.declared.netlist_types.BlockKind.TheVariants.{InputPad}
use Rattle.fab_net.specs.declared.netlist_types.Head.{Head}
use Rattle.fab_net.specs.declared.netlist_types.Head.TheVariants as head
use Rattle.fab_net.specs.declared.fault.NetFault.{NetFault}
use Rattle.fab_net.specs.declared.fault.NetFault.TheVariants.{UnknownWord, NoName, PinlistWithoutBlock, PinCount, SubblockWithoutLogic, DuplicateBlock, TooLarge}
use Rattle.fab_net.specs.Names.{number_of, AllDistinct}
use Rattle.fab_net.specs.Netlist.{Netlist, is_logic}
use Rattle.fab_net.specs.Text.{PinOf, head_of, is_open, sections, entries_in, pins_at, pins_from, net_names, terminals_of, is_global_in, global_names, name_at, name_in, kind_in, span_of_name, pin_count}
use Rattle.fab_net.specs.Faults.{awaiting, missing_fault, are_few, driver_fault}

-- what the lines read so far mean: kinds and names of blocks; the place of the last block's name while its pinlist is missing; pins; names
-- of global nets
pub record Said : Type 0 where
  pub kinds : List BlockKind
  pub names : List (List ℕ)
  pub awaiting : Option Span
  pub pins : List PinOf
  pub globals : List (List ℕ)

-- what the lines `ls` mean
abbrev pub said : List PinKind → List TextLine → Said
said arch ls = record { kinds = map kind_in (sections ls); names = map name_in (sections ls); awaiting = awaiting ls; pins = pins_from arch 0 (sections ls); globals = global_names ls }

-- the kind of the last block
abbrev pub last_kind : List BlockKind → Option BlockKind
last_kind kinds = slice_get kinds (length kinds - 1)

-- the kind, or that of a pad if there is no block
abbrev pub kind_or_pad : Option BlockKind → BlockKind
kind_or_pad (Some k) = k
kind_or_pad None = InputPad

-- the last block is a logic block
abbrev pub is_logic_last : Option BlockKind → Bool
is_logic_last (Some k) = is_logic k
is_logic_last None = false

-- the words that name a net
abbrev pub connected : List (List ℕ) → List (List ℕ)
connected words = filter (λ w. not (is_open w)) words

-- the pins that a line adds to the last block
abbrev pub pins_more : List PinKind → List BlockKind → TextLine → List PinOf
pins_more arch kinds l = pins_at arch (kind_or_pad (last_kind kinds)) (length kinds - 1) 0 (entries_in l)

-- the first fault of a line that opens a block
abbrev pub opens_fault : Said → TextLine → Option NetFault
opens_fault s l =
    or_else (missing_fault s.awaiting)
    (or_else (unless (nat_lt 1 (length l.words)) (NoName l.number))
    (or_else (unless (not (is_some (number_of (name_at l) s.names))) (DuplicateBlock l.number))
    (unless (nat_lt (length s.names) 65535) (TooLarge l.number))))

-- the first fault of a pinlist
abbrev pub pins_fault : List PinKind → Said → TextLine → Option NetFault
pins_fault arch s l =
    or_else (unless (is_some s.awaiting) (PinlistWithoutBlock l.number))
    (or_else (unless (length (entries_in l) == pin_count arch (kind_or_pad (last_kind s.kinds))) (PinCount l.number))
    (unless (are_few (s.pins ++ pins_more arch s.kinds l)) (TooLarge l.number)))

-- the first fault of a line, by its first word
abbrev pub said_fault_by : List PinKind → Said → TextLine → Head → Option NetFault
said_fault_by arch s l (head.Opens kind) = opens_fault s l
said_fault_by arch s l head.Pinlist = pins_fault arch s l
said_fault_by arch s l head.Subblock = unless (is_logic_last (last_kind s.kinds)) (SubblockWithoutLogic l.number)
said_fault_by arch s l head.Global = None
said_fault_by arch s l head.Unknown = Some (UnknownWord l.number)

-- the first fault of a line that follows lines which mean `s`
abbrev pub said_fault : List PinKind → Said → TextLine → Option NetFault
said_fault arch s l = said_fault_by arch s l (head_of l)

-- the fault of a result, if it is one
abbrev pub err_of : {A : Type 0} → Result A NetFault → Option NetFault
err_of (Ok value) = None
err_of (Err e) = Some e

-- the first fault at the end of the text
abbrev pub end_fault : Said → Option NetFault
end_fault s = or_else (missing_fault s.awaiting) (driver_fault s.pins (net_names s.pins))

-- what the lines mean with one more that opens a block
abbrev pub opened : Said → BlockKind → TextLine → Said
opened s kind l = record { kinds = s.kinds ++ kind ∷ []; names = s.names ++ name_at l ∷ []; awaiting = Some (span_of_name l); pins = s.pins; globals = s.globals }

-- what the lines mean with one more that is a pinlist
abbrev pub with_pins : List PinKind → Said → TextLine → Said
with_pins arch s l = record { kinds = s.kinds; names = s.names; awaiting = None; pins = s.pins ++ pins_more arch s.kinds l; globals = s.globals }

-- what the lines mean with one more that names global nets
abbrev pub with_globals : Said → TextLine → Said
with_globals s l = record { kinds = s.kinds; names = s.names; awaiting = s.awaiting; pins = s.pins; globals = s.globals ++ drop 1 l.words }

-- what the lines mean with one more, by its first word
abbrev pub after_by : List PinKind → Said → TextLine → Head → Said
after_by arch s l (head.Opens kind) = opened s kind l
after_by arch s l head.Pinlist = with_pins arch s l
after_by arch s l head.Subblock = s
after_by arch s l head.Global = with_globals s l
after_by arch s l head.Unknown = s

-- what the lines mean with one more
abbrev pub after : List PinKind → Said → TextLine → Said
after arch s l = after_by arch s l (head_of l)

-- the netlist of what the lines mean
abbrev pub netlist_said : Said → Netlist
netlist_said s = record { kinds = s.kinds; names = s.names; terminals = map (terminals_of s.pins) (net_names s.pins); globals = map (is_global_in s.globals) (net_names s.pins) }

-- what holds after all lines of a text are taken, and before the last checks
pub record IsReady (s : Said) : Type 0 where
  pub distinct : AllDistinct s.names
  pub words : AreWords s.names
  pub named : length s.names ≡ length s.kinds
  pub few_blocks : length s.kinds ≤ 65535
  pub few_terminals : length s.pins ≤ 1048576
  pub few_nets : length (net_names s.pins) ≤ 65535
  pub within : All (λ p. p.block < length s.kinds) s.pins
