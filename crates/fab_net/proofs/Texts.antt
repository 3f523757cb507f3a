-- What lines say, one line on.
use Rattle.std.proofs.Common.{◌≡◌, ℕ, ◌+◌, ◌-◌, ◌<◌, ◌≤◌, Bool, true, false, cond, eqb, List, [], ◌∷◌, ◌++◌, Option, None, length, map, refl, ap, ◌∙◌, arith}
use Rattle.std.proofs.lemmas.List.{append-nil, length-map, map_push, length-append}
use Rattle.std.proofs.lemmas.List.Elements.{All-nil, All-cons, All-append}
use Rattle.std.proofs.lemmas.Bool.{false≢true}
use Rattle.std.proofs.lemmas.Bool.Decides.{nat_tests}
use Rattle.std.specs.Prelude.{filter, is_some}
use Rattle.std.specs.List.{All}
use Rattle.fab_text.specs.Lines.{TextLine}
use Rattle.fab_text.specs.FirstFault.{or_else, unless}
use Rattle.fab_arch.specs.declared.architecture.PinKind.{PinKind}
use Rattle.fab_net.specs.declared.netlist_types.BlockKind.{BlockKind}
use Rattle.fab_net.specs.declared.netlist_types.Head.{Head}
use Rattle.fab_net.specs.declared.netlist_types.Head.TheVariants as head
use Rattle.fab_net.specs.declared.fault.NetFault.{NetFault}
use Rattle.fab_net.specs.Text.{Entry, Section, PinOf, head_of, sections, is_pinlist, is_open, drives_at, entries_in, pins_at, pins_of_lines, pins_from, kind_in, name_in, globals_by, global_names}
use Rattle.fab_net.specs.Faults.{open_section, without_pinlist, awaiting, fault_by, fault_of}
use Rattle.fab_net.specs.Said.{Said, said, said_fault, said_fault_by, opened, with_pins, after, after_by}
use Rattle.fab_net.proofs.Sections.{IsInner, begun, grow, sections_inner, sections_opens, grow_kinds, grow_names, open_push, one_more_pinlist, no_more_pinlist, pins_keep, pins_grow, pins_push, globals_push, open_kind_is, is_logic_is}

-- a line's fault is told by what the lines before it said

pub said_faults : (arch : List PinKind) (before : List TextLine) (l : TextLine) (h : Head) → fault_by arch before l h ≡ said_fault_by arch (said arch before) l h
said_faults arch before l (head.Opens kind) = rw (length-map (sections before) name_in) refl
said_faults arch before l head.Pinlist = rw (open_kind_is (sections before), length-map (sections before) kind_in) refl
said_faults arch before l head.Subblock = rw (is_logic_is (sections before)) refl
said_faults arch before l head.Global = refl
said_faults arch before l head.Unknown = refl

pub said_fault_is : (arch : List PinKind) (before : List TextLine) (l : TextLine) → fault_of arch before l ≡ said_fault arch (said arch before) l
said_fault_is arch before l = said_faults arch before l (head_of l)

said_of : List PinKind → List Section → List (List ℕ) → Said
said_of arch ss gs = record { kinds = map kind_in ss; names = map name_in ss; awaiting = without_pinlist (open_section ss); pins = pins_from arch 0 ss; globals = gs }

globals_keep : (ls : List TextLine) (l : TextLine) → globals_by (head_of l) l ≡ [] → global_names (ls ++ l ∷ []) ≡ global_names ls
globals_keep ls l h = globals_push ls l ∙ ap (λ x. global_names ls ++ x) h ∙ append-nil (global_names ls)

said_opens : (arch : List PinKind) (ls : List TextLine) (l : TextLine) (kind : BlockKind) → head_of l ≡ head.Opens kind → said arch (ls ++ l ∷ []) ≡ opened (said arch ls) kind l
unfolding said_of
said_opens arch ls l kind h =
    let none : globals_by (head_of l) l ≡ [] = rw h refl in
    ap (λ x. said_of arch x (global_names (ls ++ l ∷ []))) (sections_opens ls l kind h)
    ∙ ap (said_of arch (sections ls ++ begun kind l ∷ [])) (globals_keep ls l none)
    ∙ rw (map_push kind_in (sections ls) (begun kind l), map_push name_in (sections ls) (begun kind l), open_push (sections ls) (begun kind l), pins_push arch 0 (sections ls) kind l) refl

not_zero : (n : ℕ) → 0 < n → eqb n 0 ≡ false
not_zero n h = grind (arith, nat_tests)

pub one_more_is_some : (ls : List TextLine) (l : TextLine) → eqb (length (ls ++ l ∷ [])) 0 ≡ false
one_more_is_some ls l = let n = length-append ls (l ∷ []) in not_zero (length (ls ++ l ∷ [])) (omega arith)

-- a pinlist ends the waiting of its block
given_one : (l : TextLine) (ss : List Section) → is_pinlist l ≡ true → without_pinlist (open_section (grow l ss)) ≡ None
given_one l [] h = refl
given_one l (s ∷ []) h = rw (one_more_pinlist s.body l h, one_more_is_some (filter is_pinlist s.body) l) refl
given_one l (s ∷ t ∷ []) h = given_one l (t ∷ []) h
given_one l (s ∷ t ∷ u ∷ us) h = given_one l (t ∷ u ∷ us) h

-- no other line does
given_none : (l : TextLine) (ss : List Section) → is_pinlist l ≡ false → without_pinlist (open_section (grow l ss)) ≡ without_pinlist (open_section ss)
given_none l [] h = refl
given_none l (s ∷ []) h = rw (no_more_pinlist s.body l h) refl
given_none l (s ∷ t ∷ []) h = given_none l (t ∷ []) h
given_none l (s ∷ t ∷ u ∷ us) h = given_none l (t ∷ u ∷ us) h

some_section : (ss : List Section) → is_some (without_pinlist (open_section ss)) ≡ true → 0 < length ss
some_section [] h = absurd (false≢true h)
some_section (s ∷ ss) h = omega arith

said_pins : (arch : List PinKind) (ls : List TextLine) (l : TextLine) → head_of l ≡ head.Pinlist → is_some (awaiting ls) ≡ true → said arch (ls ++ l ∷ []) ≡ with_pins arch (said arch ls) l
unfolding said_of
said_pins arch ls l h k =
    let none : globals_by (head_of l) l ≡ [] = rw h refl in
    let inner : IsInner (head_of l) = rw h tt in
    let is : is_pinlist l ≡ true = rw h refl in
    ap (λ x. said_of arch x (global_names (ls ++ l ∷ []))) (sections_inner ls l inner)
    ∙ ap (said_of arch (grow l (sections ls))) (globals_keep ls l none)
    ∙ rw (grow_kinds l (sections ls), grow_names l (sections ls), given_one l (sections ls) is, pins_grow arch 0 l (sections ls) is (some_section (sections ls) k), open_kind_is (sections ls), length-map (sections ls) kind_in, zero_plus (length (sections ls))) refl
  where
    zero_plus : (n : ℕ) → 0 + n - 1 ≡ n - 1
    zero_plus n = omega arith

said_keeps : (arch : List PinKind) (ls : List TextLine) (l : TextLine) → IsInner (head_of l) → is_pinlist l ≡ false → said arch (ls ++ l ∷ []) ≡ said_of arch (sections ls) (global_names ls ++ globals_by (head_of l) l)
unfolding said_of
said_keeps arch ls l inner isnt =
    ap (λ x. said_of arch x (global_names (ls ++ l ∷ []))) (sections_inner ls l inner)
    ∙ ap (said_of arch (grow l (sections ls))) (globals_push ls l)
    ∙ rw (grow_kinds l (sections ls), grow_names l (sections ls), given_none l (sections ls) isnt, pins_keep arch 0 l (sections ls) isnt) refl

pub unless_true : (b : Bool) (e : NetFault) (f : Option NetFault) → or_else (unless b e) f ≡ None → (b ≡ true) × (f ≡ None)
unless_true true e f h = (refl, h)
unless_true false e f h = cc

said_by : (arch : List PinKind) (ls : List TextLine) (l : TextLine) (h : Head) → head_of l ≡ h → said_fault_by arch (said arch ls) l h ≡ None → said arch (ls ++ l ∷ []) ≡ after_by arch (said arch ls) l h
unfolding said_of
said_by arch ls l (head.Opens kind) h k = said_opens arch ls l kind h
said_by arch ls l head.Pinlist h k = said_pins arch ls l h (unless_true (is_some (awaiting ls)) _ _ k).0
said_by arch ls l head.Subblock h k = said_keeps arch ls l (rw h tt) (rw h refl) ∙ ap (λ x. said_of arch (sections ls) (global_names ls ++ globals_by x l)) h ∙ ap (said_of arch (sections ls)) (append-nil (global_names ls))
said_by arch ls l head.Global h k = said_keeps arch ls l (rw h tt) (rw h refl) ∙ ap (λ x. said_of arch (sections ls) (global_names ls ++ globals_by x l)) h
said_by arch ls l head.Unknown h k = cc

-- one more line that has no fault
pub said_push : (arch : List PinKind) (ls : List TextLine) (l : TextLine) → said_fault arch (said arch ls) l ≡ None → said arch (ls ++ l ∷ []) ≡ after arch (said arch ls) l
said_push arch ls l k = said_by arch ls l (head_of l) refl k

-- pins are on blocks that exist

pins_at_blocks : (arch : List PinKind) (kind : BlockKind) (block i limit : ℕ) (es : List Entry) → block < limit → All (λ p. p.block < limit) (pins_at arch kind block i es)
pins_at_blocks arch kind block i limit [] h = All-nil (λ (p : PinOf). p.block < limit)
pins_at_blocks arch kind block i limit (e ∷ es) h =
    let rest = pins_at_blocks arch kind block (i + 1) limit es h in
    either (is_open e.name) (record { block = block; pin = i; name = e.name; span = e.span; drives = drives_at arch kind i }) (pins_at arch kind block (i + 1) es) h rest
  where
    either : (b : Bool) (p : PinOf) (ps : List PinOf) → p.block < limit → All (λ p. p.block < limit) ps → All (λ p. p.block < limit) (cond b ps (p ∷ ps))
    either true p ps h k = k
    either false p ps h k = All-cons (λ (p : PinOf). p.block < limit) p ps h k

pins_of_blocks : (arch : List PinKind) (kind : BlockKind) (block limit : ℕ) (ls : List TextLine) → block < limit → All (λ p. p.block < limit) (pins_of_lines arch kind block ls)
pins_of_blocks arch kind block limit [] h = All-nil (λ (p : PinOf). p.block < limit)
pins_of_blocks arch kind block limit (l ∷ ls) h =
    All-append (λ (p : PinOf). p.block < limit) (pins_at arch kind block 0 (entries_in l)) (pins_of_lines arch kind block ls) (pins_at_blocks arch kind block 0 limit (entries_in l) h) (pins_of_blocks arch kind block limit ls h)

pins_from_blocks : (arch : List PinKind) (b limit : ℕ) (ss : List Section) → b + length ss ≤ limit → All (λ p. p.block < limit) (pins_from arch b ss)
pins_from_blocks arch b limit [] h = All-nil (λ (p : PinOf). p.block < limit)
pins_from_blocks arch b limit (s ∷ ss) h =
    All-append (λ (p : PinOf). p.block < limit) (pins_of_lines arch s.kind b (filter is_pinlist s.body)) (pins_from arch (b + 1) ss) (pins_of_blocks arch s.kind b limit (filter is_pinlist s.body) (omega arith)) (pins_from_blocks arch (b + 1) limit ss (omega arith))

pub said_blocks : (arch : List PinKind) (ls : List TextLine) (s : Said) → s ≡ said arch ls → All (λ p. p.block < length s.kinds) s.pins
said_blocks arch ls s h = rw h (pins_from_blocks arch 0 (length (map kind_in (sections ls))) (sections ls) (omega (arith, length-map (sections ls) kind_in)))
