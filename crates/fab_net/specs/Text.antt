-- What a netlist text means (VPR manual). After the lines ahead of the first block, its lines form sections. A section is a line that opens
-- a block, and the lines after it up to the next such line. The limits are our own.
use Rattle.std.specs.Prelude.{ℕ, ◌+◌, ◌≡◌, ◌≤◌, ◌<◌, Bool, true, false, ◌&&◌, List, [], ◌∷◌, ◌++◌, if◌then◌else◌, length, map, filter, count_by, drop, slice_get, slice_index_or, codes, Option, Some, None}
use Rattle.std.specs.List.{list_any, AllByRecursion, flat_map}
use Rattle.std.specs.Str.{bytes_eq}
use Rattle.fab_text.specs.Lines.{TextLine}
use Rattle.fab_text.specs.declared.spans.Span.{Span}
use Rattle.fab_arch.specs.declared.architecture.PinKind.{PinKind}
use Rattle.fab_arch.specs.declared.architecture.PinKind.TheVariants.{Reads, Drives}
use Rattle.fab_net.specs.declared.netlist_types.BlockKind.{BlockKind}
use Rattle.fab_net.specs.declared.netlist_types.BlockKind.TheVariants.{InputPad, OutputPad, Logic}
use Rattle.fab_net.specs.declared.netlist_types.Terminal.{Terminal}
use Rattle.fab_net.specs.declared.netlist_types.Head.{Head}
use Rattle.fab_net.specs.declared.netlist_types.Head.TheVariants as head
use Rattle.fab_net.specs.Names.{first_names, AllDistinct}
use Rattle.fab_net.specs.Netlist.{Netlist}

-- what a line is, by its first word
abbrev pub head_word : Option (List ℕ) → Head
head_word None = head.Unknown
head_word (Some w) =
    if bytes_eq w (codes ".input") then head.Opens InputPad
    else if bytes_eq w (codes ".output") then head.Opens OutputPad
    else if bytes_eq w (codes ".clb") then head.Opens Logic
    else if bytes_eq w (codes "pinlist:") then head.Pinlist
    else if bytes_eq w (codes "subblock:") then head.Subblock
    else if bytes_eq w (codes ".global") then head.Global
    else head.Unknown

-- what a line is, by its first word
unfoldable pub head_of : TextLine → Head
head_of l = head_word (slice_get l.words 0)

-- a word, and its place in the text
pub record Entry : Type 0 where
  pub name : List ℕ
  pub span : Span

-- words with their places
abbrev pub entries : List (List ℕ) → List Span → List Entry
entries [] spans = []
entries (w ∷ ws) [] = []
entries (w ∷ ws) (s ∷ ss) = record { name = w; span = s } ∷ entries ws ss

-- the words after the first
abbrev pub entries_in : TextLine → List Entry
entries_in l = entries (drop 1 l.words) (drop 1 l.spans)

-- the place of a word that the line does not have. Such a line is faulty
abbrev pub no_span : Span
no_span = record { start = 0; stop = 0 }

-- the second word of a line, which names the block that the line opens
abbrev pub name_at : TextLine → List ℕ
name_at l = slice_index_or l.words 1 []

-- the place of a line's second word
abbrev pub span_of_name : TextLine → Span
span_of_name l = slice_index_or l.spans 1 no_span

-- a section: the line that opens a block, and the lines up to the next block
pub record Section : Type 0 where
  pub kind : BlockKind
  pub opening : TextLine
  pub body : List TextLine

-- the lines ahead of the first block, with `l` put before them: `l` and `rest`, or none if `l` opens a block. `Head` is the first word of
-- `l`
abbrev pub ahead_by : Head → TextLine → List TextLine → List TextLine
ahead_by (head.Opens kind) l rest = []
ahead_by head.Pinlist l rest = l ∷ rest
ahead_by head.Subblock l rest = l ∷ rest
ahead_by head.Global l rest = l ∷ rest
ahead_by head.Unknown l rest = l ∷ rest

-- the lines ahead of the first block
abbrev pub ahead : List TextLine → List TextLine
ahead [] = []
ahead (l ∷ ls) = ahead_by (head_of l) l (ahead ls)

-- the sections `later`. If `l` opens a block, its section comes first: `l` and the lines `body`
abbrev pub sections_by : Head → TextLine → List TextLine → List Section → List Section
sections_by (head.Opens kind) l body later = record { kind = kind; opening = l; body = body } ∷ later
sections_by head.Pinlist l body later = later
sections_by head.Subblock l body later = later
sections_by head.Global l body later = later
sections_by head.Unknown l body later = later

-- the sections of a text, one for each block
abbrev pub sections : List TextLine → List Section
sections [] = []
sections (l ∷ ls) = sections_by (head_of l) l (ahead ls) (sections ls)

-- the first word is that of a pinlist
abbrev pub is_pinlist_head : Head → Bool
is_pinlist_head (head.Opens kind) = false
is_pinlist_head head.Pinlist = true
is_pinlist_head head.Subblock = false
is_pinlist_head head.Global = false
is_pinlist_head head.Unknown = false

-- the line is a pinlist
abbrev pub is_pinlist : TextLine → Bool
is_pinlist l = is_pinlist_head (head_of l)

-- the names on a line of global nets; none on a line with another first word
abbrev pub globals_by : Head → TextLine → List (List ℕ)
globals_by (head.Opens kind) l = []
globals_by head.Pinlist l = []
globals_by head.Subblock l = []
globals_by head.Global l = drop 1 l.words
globals_by head.Unknown l = []

-- the names on a `.global` line
abbrev pub globals_in : TextLine → List (List ℕ)
globals_in l = globals_by (head_of l) l

-- the names on `.global` lines
abbrev pub global_names : List TextLine → List (List ℕ)
global_names ls = flat_map globals_in ls

-- a pin on a net: the numbers of its block and of the pin, the name of its net with its place in the text, and
-- whether it drives the net
pub record PinOf : Type 0 where
  pub block : ℕ
  pub pin : ℕ
  pub name : List ℕ
  pub span : Span
  pub drives : Bool

-- `open` marks a pin on no net
abbrev pub is_open : List ℕ → Bool
is_open name = bytes_eq name (codes "open")

-- the pin drives its net
abbrev pub is_drives : PinKind → Bool
is_drives Reads = false
is_drives Drives = true

-- whether pin `i` drives its net. The pin of an input pad does, that of an output pad does not, and for a logic block the architecture says
-- it. A pin that the architecture does not have drives nothing
abbrev pub drives_at : List PinKind → BlockKind → ℕ → Bool
drives_at arch InputPad i = true
drives_at arch OutputPad i = false
drives_at arch Logic i = is_drives (slice_index_or arch i Reads)

-- those of a block's pins that are on nets, from its entries. The first entry is pin `i`
abbrev pub pins_at : List PinKind → BlockKind → ℕ → ℕ → List Entry → List PinOf
pins_at arch kind block i [] = []
pins_at arch kind block i (e ∷ es) =
    if is_open e.name then pins_at arch kind block (i + 1) es
    else record { block = block; pin = i; name = e.name; span = e.span; drives = drives_at arch kind i } ∷ pins_at arch kind block (i + 1) es

-- the pins of a block's pinlists
abbrev pub pins_of_lines : List PinKind → BlockKind → ℕ → List TextLine → List PinOf
pins_of_lines arch kind block ls = flat_map (λ l. pins_at arch kind block 0 (entries_in l)) ls

-- those of the sections' pins that are on nets. The first section is block number `block`
abbrev pub pins_from : List PinKind → ℕ → List Section → List PinOf
pins_from arch block [] = []
pins_from arch block (s ∷ ss) = pins_of_lines arch s.kind block (filter is_pinlist s.body) ++ pins_from arch (block + 1) ss

-- all pins on nets of a text, in order
abbrev pub pins_in : List PinKind → List TextLine → List PinOf
pins_in arch ls = pins_from arch 0 (sections ls)

-- the name of a pin's net
abbrev pub net_of_pin : PinOf → List ℕ
net_of_pin p = p.name

-- the nets of pins, by first appearance
abbrev pub net_names : List PinOf → List (List ℕ)
net_names pins = first_names (map net_of_pin pins)

-- the pin is on this net
abbrev pub is_on : List ℕ → PinOf → Bool
is_on name p = bytes_eq name p.name

-- the pin is on this net and drives it
abbrev pub is_driver : List ℕ → PinOf → Bool
is_driver name p = bytes_eq name p.name && p.drives

-- the terminal of a pin
abbrev pub terminal_of : PinOf → Terminal
terminal_of p = record { block = record { 0 = p.block }; pin = p.pin }

-- the terminals of a net: the pins with its name
abbrev pub terminals_of : List PinOf → List ℕ → List Terminal
terminals_of pins name = map terminal_of (filter (is_on name) pins)

-- how many pins a block has
abbrev pub pin_count : List PinKind → BlockKind → ℕ
pin_count arch InputPad = 1
pin_count arch OutputPad = 1
pin_count arch Logic = length arch

-- only `.global` lines are allowed ahead of the first block
abbrev pub IsLineAhead : Head → Type 0
IsLineAhead (head.Opens kind) = ⊥
IsLineAhead head.Pinlist = ⊥
IsLineAhead head.Subblock = ⊥
IsLineAhead head.Global = Unit {0}
IsLineAhead head.Unknown = ⊥

-- the lines that may follow the line of a block: pinlists, `.global` lines, and for a logic block also `subblock:` lines
abbrev pub IsBodyLine : BlockKind → Head → Type 0
IsBodyLine kind (head.Opens other) = ⊥
IsBodyLine kind head.Pinlist = Unit {0}
IsBodyLine kind head.Subblock = kind ≡ Logic
IsBodyLine kind head.Global = Unit {0}
IsBodyLine kind head.Unknown = ⊥

-- a section without fault: its block has a name, its lines are of the kinds allowed there, and exactly one is a pinlist. The pinlist has an
-- entry for each pin of the block
pub record IsSection (arch : List PinKind) (s : Section) : Type 0 where
  pub named : 1 < length s.opening.words
  pub lines : AllByRecursion (λ l. IsBodyLine s.kind (head_of l)) s.body
  pub pinlist : TextLine
  pub one : filter is_pinlist s.body ≡ pinlist ∷ []
  pub pins : length (entries_in pinlist) ≡ pin_count arch s.kind

-- the kind of a section's block
abbrev pub kind_in : Section → BlockKind
kind_in s = s.kind

-- the name of a section's block
abbrev pub name_in : Section → List ℕ
name_in s = name_at s.opening

-- the net is among the global ones
abbrev pub is_global_in : List (List ℕ) → List ℕ → Bool
is_global_in globals name = list_any (bytes_eq name) globals

-- exactly one pin drives the net
abbrev pub HasOneDriver : List PinOf → List ℕ → Type 0
HasOneDriver pins name = count_by (is_driver name) pins ≡ 1

-- the netlist of sections, from their pins and the names of global nets
abbrev pub netlist_of : List Section → List PinOf → List (List ℕ) → Netlist
netlist_of ss pins globals = record {
  kinds = map kind_in ss;
  names = map name_in ss;
  terminals = map (terminals_of pins) (net_names pins);
  globals = map (is_global_in globals) (net_names pins);
}

-- what lines mean: only `.global` lines ahead of the first block, each section is lawful, names of blocks are distinct, the
-- limits are kept, each net has exactly one driver, and the netlist is that of the sections
pub record IsNetlist (arch : List PinKind) (ls : List TextLine) (d : Netlist) : Type 0 where
  pub lines_ahead : AllByRecursion (λ l. IsLineAhead (head_of l)) (ahead ls)
  pub lawful : AllByRecursion (IsSection arch) (sections ls)
  pub distinct : AllDistinct (map name_in (sections ls))
  pub few_blocks : length (sections ls) ≤ 65535
  pub few_terminals : length (pins_in arch ls) ≤ 1048576
  pub few_nets : length (net_names (pins_in arch ls)) ≤ 65535
  pub driven : AllByRecursion (HasOneDriver (pins_in arch ls)) (net_names (pins_in arch ls))
  pub netlist : d ≡ netlist_of (sections ls) (pins_in arch ls) (global_names ls)
