-- The sections of a text, one line on.
use Rattle.std.proofs.Common.{◌≡◌, ℕ, ◌+◌, ◌-◌, ◌<◌, true, false, List, [], ◌∷◌, ◌++◌, Some, length, map, refl, sym, ap, ◌∙◌, arith, append_assoc, suc}
use Rattle.std.proofs.lemmas.List.{append-nil, flat_map_more}
use Rattle.std.proofs.lemmas.List.Elements.{filter-append}
use Rattle.std.specs.Prelude.{filter}
use Rattle.std.specs.Option.{option_map}
use Rattle.fab_text.specs.Lines.{TextLine}
use Rattle.fab_arch.specs.declared.architecture.PinKind.{PinKind}
use Rattle.fab_net.specs.declared.netlist_types.BlockKind.{BlockKind}
use Rattle.fab_net.specs.declared.netlist_types.Head.{Head}
use Rattle.fab_net.specs.declared.netlist_types.Head.TheVariants as head
use Rattle.fab_net.specs.Text.{Section, head_of, ahead, ahead_by, sections, sections_by, is_pinlist, entries_in, pins_at, pins_of_lines, pins_from, kind_in, name_in, globals_in, global_names}
use Rattle.fab_net.specs.Faults.{open_section, open_kind, is_logic_open}
use Rattle.fab_net.specs.Said.{last_kind, kind_or_pad, is_logic_last}

-- a line that opens no block
abbrev pub IsInner : Head → Type 0
IsInner (head.Opens kind) = ⊥
IsInner head.Pinlist = Unit {0}
IsInner head.Subblock = Unit {0}
IsInner head.Global = Unit {0}
IsInner head.Unknown = Unit {0}

abbrev pub grown_by : TextLine → Section → Section
grown_by l s = record { kind = s.kind; opening = s.opening; body = s.body ++ l ∷ [] }

-- the last section has one more line
abbrev pub grow : TextLine → List Section → List Section
grow l [] = []
grow l (s ∷ []) = grown_by l s ∷ []
grow l (s ∷ t ∷ ts) = s ∷ grow l (t ∷ ts)

-- the lines ahead have one more line where no section has begun
abbrev pub late : List Section → List TextLine → TextLine → List TextLine
late [] a l = a ++ l ∷ []
late (s ∷ ss) a l = a

inner_ahead : (h : Head) (l : TextLine) → IsInner h → ahead_by h l [] ≡ l ∷ []
inner_ahead (head.Opens kind) l i = absurd i
inner_ahead head.Pinlist l i = refl
inner_ahead head.Subblock l i = refl
inner_ahead head.Global l i = refl
inner_ahead head.Unknown l i = refl

inner_sections : (h : Head) (l : TextLine) → IsInner h → sections_by h l [] [] ≡ []
inner_sections (head.Opens kind) l i = absurd i
inner_sections head.Pinlist l i = refl
inner_sections head.Subblock l i = refl
inner_sections head.Global l i = refl
inner_sections head.Unknown l i = refl

late_cons : (x : TextLine) (a : List TextLine) (ss : List Section) (l : TextLine) → x ∷ late ss a l ≡ late ss (x ∷ a) l
late_cons x a [] l = refl
late_cons x a (s ∷ ss) l = refl

late_by : (h : Head) (x : TextLine) (a : List TextLine) (ss : List Section) (l : TextLine) → ahead_by h x (late ss a l) ≡ late (sections_by h x a ss) (ahead_by h x a) l
late_by (head.Opens kind) x a ss l = refl
late_by head.Pinlist x a ss l = late_cons x a ss l
late_by head.Subblock x a ss l = late_cons x a ss l
late_by head.Global x a ss l = late_cons x a ss l
late_by head.Unknown x a ss l = late_cons x a ss l

pub ahead_inner : (ls : List TextLine) (l : TextLine) → IsInner (head_of l) → ahead (ls ++ l ∷ []) ≡ late (sections ls) (ahead ls) l
ahead_inner [] l i = inner_ahead (head_of l) l i
ahead_inner (x ∷ ls) l i = ap (ahead_by (head_of x) x) (ahead_inner ls l i) ∙ late_by (head_of x) x (ahead ls) (sections ls) l

grow_open : (kind : BlockKind) (x : TextLine) (a : List TextLine) (ss : List Section) (l : TextLine) → sections_by (head.Opens kind) x (late ss a l) (grow l ss) ≡ grow l (sections_by (head.Opens kind) x a ss)
grow_open kind x a [] l = refl
grow_open kind x a (s ∷ ss) l = refl

grow_by : (h : Head) (x : TextLine) (a : List TextLine) (ss : List Section) (l : TextLine) → sections_by h x (late ss a l) (grow l ss) ≡ grow l (sections_by h x a ss)
grow_by (head.Opens kind) x a ss l = grow_open kind x a ss l
grow_by head.Pinlist x a ss l = refl
grow_by head.Subblock x a ss l = refl
grow_by head.Global x a ss l = refl
grow_by head.Unknown x a ss l = refl

-- a line that opens no block
pub sections_inner : (ls : List TextLine) (l : TextLine) → IsInner (head_of l) → sections (ls ++ l ∷ []) ≡ grow l (sections ls)
sections_inner [] l i = inner_sections (head_of l) l i
sections_inner (x ∷ ls) l i =
    ap (λ a. sections_by (head_of x) x a (sections (ls ++ l ∷ []))) (ahead_inner ls l i)
    ∙ ap (sections_by (head_of x) x (late (sections ls) (ahead ls) l)) (sections_inner ls l i)
    ∙ grow_by (head_of x) x (ahead ls) (sections ls) l

pub ahead_opens : (ls : List TextLine) (l : TextLine) (kind : BlockKind) → head_of l ≡ head.Opens kind → ahead (ls ++ l ∷ []) ≡ ahead ls
ahead_opens [] l kind h = rw h refl
ahead_opens (x ∷ ls) l kind h = ap (ahead_by (head_of x) x) (ahead_opens ls l kind h)

abbrev pub begun : BlockKind → TextLine → Section
begun kind l = record { kind = kind; opening = l; body = [] }

push_by : (h : Head) (x : TextLine) (a : List TextLine) (ss : List Section) (s : Section) → sections_by h x a (ss ++ s ∷ []) ≡ sections_by h x a ss ++ s ∷ []
push_by (head.Opens kind) x a ss s = refl
push_by head.Pinlist x a ss s = refl
push_by head.Subblock x a ss s = refl
push_by head.Global x a ss s = refl
push_by head.Unknown x a ss s = refl

-- a line that opens a block
pub sections_opens : (ls : List TextLine) (l : TextLine) (kind : BlockKind) → head_of l ≡ head.Opens kind → sections (ls ++ l ∷ []) ≡ sections ls ++ begun kind l ∷ []
sections_opens [] l kind h = rw h refl
sections_opens (x ∷ ls) l kind h =
    ap (λ a. sections_by (head_of x) x a (sections (ls ++ l ∷ []))) (ahead_opens ls l kind h)
    ∙ ap (sections_by (head_of x) x (ahead ls)) (sections_opens ls l kind h)
    ∙ push_by (head_of x) x (ahead ls) (sections ls) (begun kind l)

-- what a section keeps as it grows

pub grow_kinds : (l : TextLine) (ss : List Section) → map kind_in (grow l ss) ≡ map kind_in ss
grow_kinds l [] = refl
grow_kinds l (s ∷ []) = refl
grow_kinds l (s ∷ t ∷ ts) = ap (λ ks. s.kind ∷ ks) (grow_kinds l (t ∷ ts))

pub grow_names : (l : TextLine) (ss : List Section) → map name_in (grow l ss) ≡ map name_in ss
grow_names l [] = refl
grow_names l (s ∷ []) = refl
grow_names l (s ∷ t ∷ ts) = ap (λ ns. name_in s ∷ ns) (grow_names l (t ∷ ts))

pub grow_len : (l : TextLine) (ss : List Section) → length (grow l ss) ≡ length ss
grow_len l [] = refl
grow_len l (s ∷ []) = refl
grow_len l (s ∷ t ∷ ts) = let r = grow_len l (t ∷ ts) in omega arith

pub open_grow : (l : TextLine) (ss : List Section) → open_section (grow l ss) ≡ option_map (grown_by l) (open_section ss)
open_grow l [] = refl
open_grow l (s ∷ []) = refl
open_grow l (s ∷ t ∷ []) = refl
open_grow l (s ∷ t ∷ u ∷ us) = open_grow l (t ∷ u ∷ us)

pub open_push : (ss : List Section) (s : Section) → open_section (ss ++ s ∷ []) ≡ Some s
open_push [] s = refl
open_push (t ∷ []) s = refl
open_push (t ∷ u ∷ us) s = open_push (u ∷ us) s

-- the pinlists of a section, one line on
pub one_more_pinlist : (body : List TextLine) (l : TextLine) → is_pinlist l ≡ true → filter is_pinlist (body ++ l ∷ []) ≡ filter is_pinlist body ++ l ∷ []
one_more_pinlist body l h = filter-append is_pinlist body (l ∷ []) ∙ rw h refl

pub no_more_pinlist : (body : List TextLine) (l : TextLine) → is_pinlist l ≡ false → filter is_pinlist (body ++ l ∷ []) ≡ filter is_pinlist body
no_more_pinlist body l h = filter-append is_pinlist body (l ∷ []) ∙ rw h (append-nil (filter is_pinlist body))

-- the pins of a section, one pinlist on
pins_of_more : (arch : List PinKind) (kind : BlockKind) (b : ℕ) (ls : List TextLine) (l : TextLine) → pins_of_lines arch kind b (ls ++ l ∷ []) ≡ pins_of_lines arch kind b ls ++ pins_at arch kind b 0 (entries_in l)
pins_of_more arch kind b ls l = sym (flat_map_more (λ l. pins_at arch kind b 0 (entries_in l)) [] ls l)

pub pins_keep : (arch : List PinKind) (b : ℕ) (l : TextLine) (ss : List Section) → is_pinlist l ≡ false → pins_from arch b (grow l ss) ≡ pins_from arch b ss
pins_keep arch b l [] h = refl
pins_keep arch b l (s ∷ []) h = ap (λ ls. pins_of_lines arch s.kind b ls ++ []) (no_more_pinlist s.body l h)
pins_keep arch b l (s ∷ t ∷ ts) h = ap (λ ps. pins_of_lines arch s.kind b (filter is_pinlist s.body) ++ ps) (pins_keep arch (b + 1) l (t ∷ ts) h)

-- the kind of the open block, by the kinds of all
pub open_kind_is : (ss : List Section) → open_kind (open_section ss) ≡ kind_or_pad (last_kind (map kind_in ss))
open_kind_is [] = refl
open_kind_is (s ∷ []) = refl
open_kind_is (s ∷ t ∷ ts) = open_kind_is (t ∷ ts) ∙ ap kind_or_pad (sym (last_more s.kind t.kind (map kind_in ts)))
  where
    last_more : (k l : BlockKind) (ks : List BlockKind) → last_kind (k ∷ l ∷ ks) ≡ last_kind (l ∷ ks)
    last_more k l ks = let e : length (k ∷ l ∷ ks) - 1 ≡ suc (length (l ∷ ks) - 1) = omega arith in rw e refl

pub is_logic_is : (ss : List Section) → is_logic_open (open_section ss) ≡ is_logic_last (last_kind (map kind_in ss))
is_logic_is [] = refl
is_logic_is (s ∷ []) = refl
is_logic_is (s ∷ t ∷ ts) = is_logic_is (t ∷ ts) ∙ ap is_logic_last (sym (last_more s.kind t.kind (map kind_in ts)))
  where
    last_more : (k l : BlockKind) (ks : List BlockKind) → last_kind (k ∷ l ∷ ks) ≡ last_kind (l ∷ ks)
    last_more k l ks = let e : length (k ∷ l ∷ ks) - 1 ≡ suc (length (l ∷ ks) - 1) = omega arith in rw e refl

pub pins_grow : (arch : List PinKind) (b : ℕ) (l : TextLine) (ss : List Section) → is_pinlist l ≡ true → 0 < length ss
    → pins_from arch b (grow l ss) ≡ pins_from arch b ss ++ pins_at arch (open_kind (open_section ss)) (b + length ss - 1) 0 (entries_in l)
pins_grow arch b l [] h some = absurd (omega arith)
pins_grow arch b l (s ∷ []) h some =
    let n : b + 1 - 1 ≡ b = omega arith in
    let a = pins_of_lines arch s.kind b (filter is_pinlist s.body) in
    let z = pins_at arch s.kind b 0 (entries_in l) in
    ap (λ ls. pins_of_lines arch s.kind b ls ++ []) (one_more_pinlist s.body l h)
    ∙ ap (λ ps. ps ++ []) (pins_of_more arch s.kind b (filter is_pinlist s.body) l)
    ∙ append-nil (a ++ z) ∙ ap (λ xs. xs ++ z) (sym (append-nil a)) ∙ ap (λ k. (a ++ []) ++ pins_at arch s.kind k 0 (entries_in l)) (sym n)
pins_grow arch b l (s ∷ t ∷ ts) h some =
    let n : b + 1 + length (t ∷ ts) - 1 ≡ b + length (s ∷ t ∷ ts) - 1 = omega arith in
    let rest = pins_grow arch (b + 1) l (t ∷ ts) h (omega arith) in
    let a = pins_of_lines arch s.kind b (filter is_pinlist s.body) in
    let r = pins_from arch (b + 1) (t ∷ ts) in
    ap (λ xs. a ++ xs) rest ∙ sym (append_assoc a r _)
    ∙ ap (λ k. (a ++ r) ++ pins_at arch (open_kind (open_section (t ∷ ts))) k 0 (entries_in l)) n

pub pins_push : (arch : List PinKind) (b : ℕ) (ss : List Section) (kind : BlockKind) (l : TextLine) → pins_from arch b (ss ++ begun kind l ∷ []) ≡ pins_from arch b ss
pins_push arch b [] kind l = refl
pins_push arch b (t ∷ ts) kind l = ap (λ xs. pins_of_lines arch t.kind b (filter is_pinlist t.body) ++ xs) (pins_push arch (b + 1) ts kind l)

pub globals_push : (ls : List TextLine) (l : TextLine) → global_names (ls ++ l ∷ []) ≡ global_names ls ++ globals_in l
globals_push ls l = sym (flat_map_more globals_in [] ls l)
