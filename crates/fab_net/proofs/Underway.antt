-- Lines that are lawful so far: one more line keeps them so exactly where it has no fault.
use Rattle.std.proofs.Common.{◌≡◌, ℕ, ◌+◌, ◌-◌, ◌<◌, ◌≤◌, Bool, true, false, cond, eqb, ltb, leb, not, ◌||◌, List, [], ◌∷◌, ◌++◌, Option, Some, None, ◌⊎◌, length, map, refl, sym, ap, ◌∙◌, arith, append_assoc, inl, inr}
use Rattle.std.proofs.lemmas.List.{append-nil, length-append, map_push, map-append}
use Rattle.std.proofs.lemmas.Bool.{cases_Bool, false≢true, and_parts, and_from, leb-true, le-leb, ltb-true, lt-ltb, eqb-true, eq-eqb}
use Rattle.std.specs.Prelude.{filter, is_some}
use Rattle.std.specs.List.{AllByRecursion, list_any}
use Rattle.std.specs.Str.{bytes_eq}
use Rattle.fab_text.specs.Lines.{TextLine}
use Rattle.fab_text.specs.FirstFault.{or_else, unless}
use Rattle.fab_text.specs.declared.spans.Span.{Span}
use Rattle.fab_arch.specs.declared.architecture.PinKind.{PinKind}
use Rattle.fab_net.specs.declared.netlist_types.BlockKind.{BlockKind}
use Rattle.fab_net.specs.declared.netlist_types.BlockKind.TheVariants.{InputPad, OutputPad, Logic}
use Rattle.fab_net.specs.declared.netlist_types.Head.{Head}
use Rattle.fab_net.specs.declared.netlist_types.Head.TheVariants as head
use Rattle.fab_net.specs.declared.fault.NetFault.{NetFault}
use Rattle.fab_net.specs.Names.{AllDistinct, number_of, first_names}
use Rattle.fab_net.specs.Netlist.{is_logic}
use Rattle.fab_net.specs.Text.{Section, PinOf, head_of, ahead, sections, is_pinlist, entries_in, pins_at, pins_from, pins_in, net_names, net_of_pin, name_at, name_in, span_of_name, pin_count, IsLineAhead, IsBodyLine, IsSection}
use Rattle.fab_net.specs.Faults.{open_section, without_pinlist, awaiting, missing_fault, open_kind, is_logic_open, pins_added, are_few, fault_by, fault_of}
use Rattle.fab_net.proofs.Naming.{has_number, other_way, first_names_push}
use Rattle.fab_net.proofs.Sections.{IsInner, begun, grow, grown_by, late, ahead_inner, ahead_opens, sections_inner, sections_opens, grow_names, grow_len, one_more_pinlist, no_more_pinlist, pins_keep, pins_grow, pins_push}
use Rattle.fab_net.proofs.Texts.{unless_true}
use Rattle.fab_net.proofs.Pushing.{any_push}

-- one more element, and one less

pub all_push : {X : Type 0} (P : X → Type 0) (xs : List X) (x : X) → AllByRecursion P xs → P x → AllByRecursion P (xs ++ x ∷ [])
all_push P [] x h k = (k, tt)
all_push P (y ∷ ys) x h k = (h.0, all_push P ys x h.1 k)

all_pop : {X : Type 0} (P : X → Type 0) (xs : List X) (x : X) → AllByRecursion P (xs ++ x ∷ []) → AllByRecursion P xs × P x
all_pop P [] x h = (tt, h.0)
all_pop P (y ∷ ys) x h = let r = all_pop P ys x h.1 in ((h.0, r.0), r.1)

or_none : (a b : Bool) → (a || b) ≡ false → (a ≡ false) × (b ≡ false)
or_none true b h = absurd (false≢true (sym h))
or_none false b h = (refl, h)

pub distinct_push : (xs : List (List ℕ)) (x : List ℕ) → AllDistinct xs → list_any (bytes_eq x) xs ≡ false → AllDistinct (xs ++ x ∷ [])
distinct_push [] x d h = (refl, tt)
distinct_push (n ∷ ns) x d h =
    let b = or_none (bytes_eq x n) (list_any (bytes_eq x) ns) h in
    (any_push (bytes_eq n) ns x ∙ rw (d.0, other_way x n b.0) refl, distinct_push ns x d.1 b.1)

distinct_pop : (xs : List (List ℕ)) (x : List ℕ) → AllDistinct (xs ++ x ∷ []) → AllDistinct xs × (list_any (bytes_eq x) xs ≡ false)
distinct_pop [] x d = (tt, refl)
distinct_pop (n ∷ ns) x d =
    let b = or_none (list_any (bytes_eq n) ns) (bytes_eq n x) (sym (any_push (bytes_eq n) ns x) ∙ d.0) in
    let r = distinct_pop ns x d.1 in
    ((b.0, r.0), rw (other_way n x b.1, r.1) refl)

longer : (x : List ℕ) (names : List (List ℕ)) (b : Bool) → length names ≤ length (cond b names (names ++ x ∷ []))
longer x names true = omega arith
longer x names false = let n = length-append names (x ∷ []) in omega arith

one_more_name : (ns : List (List ℕ)) (x : List ℕ) → length (first_names ns) ≤ length (first_names (ns ++ x ∷ []))
one_more_name ns x = rw (first_names_push ns x) (longer x (first_names ns) (is_some (number_of x (first_names ns))))

more_names : (ns ms : List (List ℕ)) → length (first_names ns) ≤ length (first_names (ns ++ ms))
more_names ns [] = let e : first_names (ns ++ []) ≡ first_names ns = ap first_names (append-nil ns) in omega (arith, ap length e)
more_names ns (m ∷ ms) =
    let a = one_more_name ns m in
    let b = more_names (ns ++ m ∷ []) ms in
    let e : first_names ((ns ++ m ∷ []) ++ ms) ≡ first_names (ns ++ m ∷ ms) = ap first_names (append_assoc ns (m ∷ []) ms) in
    omega (arith, a, b, ap length e)

-- fewer pins have no more nets
fewer_nets : (ps qs : List PinOf) → length (net_names ps) ≤ length (net_names (ps ++ qs))
fewer_nets ps qs = let e : first_names (map net_of_pin (ps ++ qs)) ≡ first_names (map net_of_pin ps ++ map net_of_pin qs) = ap first_names (map-append net_of_pin ps qs) in omega (arith, more_names (map net_of_pin ps) (map net_of_pin qs), ap length e)

-- sections, the last of which may still lack its pinlist

pub record HasPins (arch : List PinKind) (s : Section) : Type 0 where
  pub line : TextLine
  pub one : filter is_pinlist s.body ≡ line ∷ []
  pub pins : length (entries_in line) ≡ pin_count arch s.kind

pub record IsBegun (arch : List PinKind) (s : Section) : Type 0 where
  pub named : 1 < length s.opening.words
  pub lines : AllByRecursion (λ l. IsBodyLine s.kind (head_of l)) s.body
  pub pinlist : (filter is_pinlist s.body ≡ []) ⊎ HasPins arch s

abbrev pub AreFine : List PinKind → List Section → Type 0
AreFine arch [] = Unit {0}
AreFine arch (s ∷ []) = IsBegun arch s
AreFine arch (s ∷ t ∷ ts) = IsSection arch s × AreFine arch (t ∷ ts)

whole : (arch : List PinKind) (s : Section) → IsBegun arch s → without_pinlist (Some s) ≡ None → IsSection arch s
whole arch s b h = elim b.pinlist [
  | inl e ↦ let n : Some (span_of_name s.opening) ≡ None = rw e at h in cc
  | inr p ↦ record { named = b.named; lines = b.lines; pinlist = p.line; one = p.one; pins = p.pins }
]

begun_of : (arch : List PinKind) (s : Section) → IsSection arch s → IsBegun arch s
begun_of arch s w = record { named = w.named; lines = w.lines; pinlist = inr (record { line = w.pinlist; one = w.one; pins = w.pins }) }

given : (arch : List PinKind) (s : Section) → IsSection arch s → without_pinlist (Some s) ≡ None
given arch s w = rw w.one refl

fine_push : (arch : List PinKind) (ss : List Section) (s : Section) → AreFine arch ss → without_pinlist (open_section ss) ≡ None → IsBegun arch s → AreFine arch (ss ++ s ∷ [])
fine_push arch [] s f h b = b
fine_push arch (t ∷ []) s f h b = (whole arch t f h, b)
fine_push arch (t ∷ u ∷ us) s f h b = (f.0, fine_push arch (u ∷ us) s f.1 h b)

pub record Popped (arch : List PinKind) (ss : List Section) (s : Section) : Type 0 where
  pub fine : AreFine arch ss
  pub given : without_pinlist (open_section ss) ≡ None
  pub begun : IsBegun arch s

fine_pop : (arch : List PinKind) (ss : List Section) (s : Section) → AreFine arch (ss ++ s ∷ []) → Popped arch ss s
fine_pop arch [] s f = record { fine = tt; given = refl; begun = f }
fine_pop arch (t ∷ []) s f = record { fine = begun_of arch t f.0; given = given arch t f.0; begun = f.1 }
fine_pop arch (t ∷ u ∷ us) s f = let r = fine_pop arch (u ∷ us) s f.1 in record { fine = (f.0, r.fine); given = r.given; begun = r.begun }

-- where no section waits, all are whole
pub all_whole : (arch : List PinKind) (ss : List Section) → AreFine arch ss → without_pinlist (open_section ss) ≡ None → AllByRecursion (IsSection arch) ss
all_whole arch [] f h = tt
all_whole arch (s ∷ []) f h = (whole arch s f h, tt)
all_whole arch (s ∷ t ∷ ts) f h = (f.0, all_whole arch (t ∷ ts) f.1 h)

pub all_fine : (arch : List PinKind) (ss : List Section) → AllByRecursion (IsSection arch) ss → AreFine arch ss × (without_pinlist (open_section ss) ≡ None)
all_fine arch [] h = (tt, refl)
all_fine arch (s ∷ []) h = (begun_of arch s h.0, given arch s h.0)
all_fine arch (s ∷ t ∷ ts) h = let r = all_fine arch (t ∷ ts) h.1 in ((h.0, r.0), r.1)

-- a line that is no pinlist

abbrev pub Allows : List Section → Head → Type 0
Allows ss h = (s : Section) → open_section ss ≡ Some s → IsBodyLine s.kind h

grow_line : (arch : List PinKind) (l : TextLine) (s : Section) → is_pinlist l ≡ false → IsBodyLine s.kind (head_of l) → IsBegun arch s → IsBegun arch (grown_by l s)
grow_line arch l s h k b =
    let same = no_more_pinlist s.body l h in
    record {
      named = b.named;
      lines = all_push (λ l. IsBodyLine s.kind (head_of l)) s.body l b.lines k;
      pinlist = elim b.pinlist [
        | inl e ↦ inl (same ∙ e)
        | inr p ↦ inr (record { line = p.line; one = same ∙ p.one; pins = p.pins })
      ];
    }

shrink_line : (arch : List PinKind) (l : TextLine) (s : Section) → is_pinlist l ≡ false → IsBegun arch (grown_by l s) → IsBegun arch s × IsBodyLine s.kind (head_of l)
shrink_line arch l s h b =
    let same = no_more_pinlist s.body l h in
    let r = all_pop (λ l. IsBodyLine s.kind (head_of l)) s.body l b.lines in (
      record {
        named = b.named;
        lines = r.0;
        pinlist = elim b.pinlist [
          | inl e ↦ inl (sym same ∙ e)
          | inr p ↦ inr (record { line = p.line; one = sym same ∙ p.one; pins = p.pins })
        ];
      },
      r.1,
    )

fine_line : (arch : List PinKind) (l : TextLine) (ss : List Section) → is_pinlist l ≡ false → Allows ss (head_of l) → AreFine arch ss → AreFine arch (grow l ss)
fine_line arch l [] h k f = tt
fine_line arch l (s ∷ []) h k f = grow_line arch l s h (k s refl) f
fine_line arch l (s ∷ t ∷ []) h k f = (f.0, fine_line arch l (t ∷ []) h k f.1)
fine_line arch l (s ∷ t ∷ u ∷ us) h k f = (f.0, fine_line arch l (t ∷ u ∷ us) h k f.1)

only_some : (s t : Section) → Some s ≡ Some t → s ≡ t
only_some s t h = cc

less_line : (arch : List PinKind) (l : TextLine) (ss : List Section) → is_pinlist l ≡ false → AreFine arch (grow l ss) → AreFine arch ss × Allows ss (head_of l)
less_line arch l [] h f = (tt, λ s e. none_some s e)
  where
    none_some : (s : Section) → None ≡ Some s → IsBodyLine s.kind (head_of l)
    none_some s e = cc
less_line arch l (s ∷ []) h f = let r = shrink_line arch l s h f in (r.0, λ t e. rw (sym (only_some s t e)) r.1)
less_line arch l (s ∷ t ∷ []) h f = let r = less_line arch l (t ∷ []) h f.1 in ((f.0, r.0), r.1)
less_line arch l (s ∷ t ∷ u ∷ us) h f = let r = less_line arch l (t ∷ u ∷ us) h f.1 in ((f.0, r.0), r.1)

-- a pinlist

none_of : (ls : List TextLine) → eqb (length ls) 0 ≡ true → ls ≡ []
none_of [] h = refl
none_of (l ∷ ls) h = let e : length (l ∷ ls) ≡ 0 = eqb-true (length (l ∷ ls)) 0 h in absurd (omega arith)

no_pinlist : (s : Section) → is_some (without_pinlist (Some s)) ≡ true → filter is_pinlist s.body ≡ []
no_pinlist s h = elim (cases_Bool (eqb (length (filter is_pinlist s.body)) 0)) [
  | inl y ↦ none_of (filter is_pinlist s.body) y
  | inr n ↦ let e : false ≡ true = rw n at h in absurd (false≢true e)
]

waits : (s : Section) → filter is_pinlist s.body ≡ [] → is_some (without_pinlist (Some s)) ≡ true
waits s h = rw h refl

only_one : {X : Type 0} (xs : List X) (y z : X) → xs ++ y ∷ [] ≡ z ∷ [] → (xs ≡ []) × (y ≡ z)
only_one [] y z h = (refl, cc)
only_one (x ∷ xs) y z h = let n = ap length h in absurd (omega (arith, n, length-append xs (y ∷ [])))

grow_pins : (arch : List PinKind) (l : TextLine) (s : Section) → head_of l ≡ head.Pinlist → is_some (without_pinlist (Some s)) ≡ true → length (entries_in l) ≡ pin_count arch s.kind → IsBegun arch s → IsBegun arch (grown_by l s)
grow_pins arch l s h w n b =
    let is : is_pinlist l ≡ true = rw h refl in
    record {
      named = b.named;
      lines = all_push (λ l. IsBodyLine s.kind (head_of l)) s.body l b.lines (rw h tt);
      pinlist = inr (record { line = l; one = one_more_pinlist s.body l is ∙ rw (no_pinlist s w) refl; pins = n });
    }

shrink_pins : (arch : List PinKind) (l : TextLine) (s : Section) → head_of l ≡ head.Pinlist → IsBegun arch (grown_by l s) → IsBegun arch s × (is_some (without_pinlist (Some s)) ≡ true) × (length (entries_in l) ≡ pin_count arch s.kind)
shrink_pins arch l s h b =
    let is : is_pinlist l ≡ true = rw h refl in
    let more = one_more_pinlist s.body l is in
    let r = all_pop (λ l. IsBodyLine s.kind (head_of l)) s.body l b.lines in
    elim b.pinlist [
      | inl e ↦ let n = ap length (sym more ∙ e) in absurd (omega (arith, n, length-append (filter is_pinlist s.body) (l ∷ [])))
      | inr p ↦
          let o = only_one (filter is_pinlist s.body) l p.line (sym more ∙ p.one) in
          (record { named = b.named; lines = r.0; pinlist = inl o.0 }, waits s o.0, ap (λ x. length (entries_in x)) o.1 ∙ p.pins)
    ]

fine_pins : (arch : List PinKind) (l : TextLine) (ss : List Section) → head_of l ≡ head.Pinlist → is_some (without_pinlist (open_section ss)) ≡ true → length (entries_in l) ≡ pin_count arch (open_kind (open_section ss)) → AreFine arch ss → AreFine arch (grow l ss)
fine_pins arch l [] h w n f = tt
fine_pins arch l (s ∷ []) h w n f = grow_pins arch l s h w n f
fine_pins arch l (s ∷ t ∷ []) h w n f = (f.0, fine_pins arch l (t ∷ []) h w n f.1)
fine_pins arch l (s ∷ t ∷ u ∷ us) h w n f = (f.0, fine_pins arch l (t ∷ u ∷ us) h w n f.1)

less_pins : (arch : List PinKind) (l : TextLine) (ss : List Section) → head_of l ≡ head.Pinlist → 0 < length ss → AreFine arch (grow l ss)
    → AreFine arch ss × (is_some (without_pinlist (open_section ss)) ≡ true) × (length (entries_in l) ≡ pin_count arch (open_kind (open_section ss)))
less_pins arch l [] h some f = absurd (omega arith)
less_pins arch l (s ∷ []) h some f = shrink_pins arch l s h f
less_pins arch l (s ∷ t ∷ []) h some f = let r = less_pins arch l (t ∷ []) h (omega arith) f.1 in ((f.0, r.0), r.1, r.2)
less_pins arch l (s ∷ t ∷ u ∷ us) h some f = let r = less_pins arch l (t ∷ u ∷ us) h (omega arith) f.1 in ((f.0, r.0), r.1, r.2)

-- lines that are lawful so far

pub record Underway (arch : List PinKind) (ls : List TextLine) : Type 0 where
  pub lines_ahead : AllByRecursion (λ l. IsLineAhead (head_of l)) (ahead ls)
  pub fine : AreFine arch (sections ls)
  pub distinct : AllDistinct (map name_in (sections ls))
  pub few_blocks : length (sections ls) ≤ 65535
  pub few_terminals : length (pins_in arch ls) ≤ 1048576
  pub few_nets : length (net_names (pins_in arch ls)) ≤ 65535

pub at_start : (arch : List PinKind) → Underway arch []
at_start arch = record { lines_ahead = tt; fine = tt; distinct = tt; few_blocks = omega arith; few_terminals = omega arith; few_nets = omega arith }

none_both : (f g : Option NetFault) → or_else f g ≡ None → (f ≡ None) × (g ≡ None)
none_both None g h = (refl, h)
none_both (Some e) g h = cc

no_missing : (a : Option Span) → missing_fault a ≡ None → a ≡ None
no_missing None h = refl
no_missing (Some s) h = cc

unless_is : (b : Bool) (e : NetFault) → unless b e ≡ None → b ≡ true
unless_is true e h = refl
unless_is false e h = cc

not_true : (b : Bool) → not b ≡ true → b ≡ false
not_true true h = absurd (false≢true h)
not_true false h = refl

-- a line that opens a block

opens_on : (arch : List PinKind) (ls : List TextLine) (l : TextLine) (kind : BlockKind) → head_of l ≡ head.Opens kind → fault_by arch ls l (head.Opens kind) ≡ None → Underway arch ls → Underway arch (ls ++ l ∷ [])
opens_on arch ls l kind h k u =
    let a = none_both (missing_fault (awaiting ls)) _ k in
    let b = unless_true (ltb 1 (length l.words)) _ _ a.1 in
    let c = unless_true (not (is_some (number_of (name_at l) (map name_in (sections ls))))) _ _ b.1 in
    let d = unless_is (ltb (length (sections ls)) 65535) _ c.1 in
    let ss = sections_opens ls l kind h in
    let pins : pins_in arch (ls ++ l ∷ []) ≡ pins_in arch ls = ap (pins_from arch 0) ss ∙ pins_push arch 0 (sections ls) kind l in
    let none : list_any (bytes_eq (name_at l)) (map name_in (sections ls)) ≡ false = sym (has_number (name_at l) (map name_in (sections ls))) ∙ not_true _ c.0 in
    record {
      lines_ahead = rw (ahead_opens ls l kind h) u.lines_ahead;
      fine = rw ss (fine_push arch (sections ls) (begun kind l) u.fine (no_missing (awaiting ls) a.0) (record { named = ltb-true 1 (length l.words) b.0; lines = tt; pinlist = inl refl }));
      distinct = rw (ss, map_push name_in (sections ls) (begun kind l)) (distinct_push (map name_in (sections ls)) (name_at l) u.distinct none);
      few_blocks = let n = ltb-true (length (sections ls)) 65535 d in omega (arith, n, ap length ss, length-append (sections ls) (begun kind l ∷ []));
      few_terminals = rw pins u.few_terminals;
      few_nets = rw pins u.few_nets;
    }

opens_back : (arch : List PinKind) (ls : List TextLine) (l : TextLine) (kind : BlockKind) → head_of l ≡ head.Opens kind → Underway arch (ls ++ l ∷ []) → Underway arch ls × (fault_by arch ls l (head.Opens kind) ≡ None)
opens_back arch ls l kind h u =
    let ss = sections_opens ls l kind h in
    let pins : pins_in arch (ls ++ l ∷ []) ≡ pins_in arch ls = ap (pins_from arch 0) ss ∙ pins_push arch 0 (sections ls) kind l in
    let p = fine_pop arch (sections ls) (begun kind l) (rw ss at u.fine) in
    let d = distinct_pop (map name_in (sections ls)) (name_at l) (rw (ss, map_push name_in (sections ls) (begun kind l)) at u.distinct) in
    let n : length (sections ls) < 65535 = omega (arith, u.few_blocks, ap length ss, length-append (sections ls) (begun kind l ∷ [])) in
    let few : ltb (length (sections ls)) 65535 ≡ true = lt-ltb (length (sections ls)) 65535 n in
    let named : ltb 1 (length l.words) ≡ true = lt-ltb 1 (length l.words) p.begun.named in
    let none : is_some (number_of (name_at l) (map name_in (sections ls))) ≡ false = has_number (name_at l) (map name_in (sections ls)) ∙ d.1 in
    let waiting : awaiting ls ≡ None = p.given in (
      record {
        lines_ahead = rw (ahead_opens ls l kind h) at u.lines_ahead;
        fine = p.fine;
        distinct = d.0;
        few_blocks = omega arith;
        few_terminals = rw pins at u.few_terminals;
        few_nets = rw pins at u.few_nets;
      },
      rw (waiting, named, none, few) refl,
    )

-- a pinlist

late_some : (ss : List Section) (a : List TextLine) (l : TextLine) → 0 < length ss → late ss a l ≡ a
late_some [] a l h = absurd (omega arith)
late_some (s ∷ ss) a l h = refl

some_section : (ss : List Section) → is_some (without_pinlist (open_section ss)) ≡ true → 0 < length ss
some_section [] h = absurd (false≢true h)
some_section (s ∷ ss) h = omega arith

pins_on : (arch : List PinKind) (ls : List TextLine) (l : TextLine) → head_of l ≡ head.Pinlist → fault_by arch ls l head.Pinlist ≡ None → Underway arch ls → Underway arch (ls ++ l ∷ [])
pins_on arch ls l h k u =
    let a = unless_true (is_some (awaiting ls)) _ _ k in
    let b = unless_true (eqb (length (entries_in l)) (pin_count arch (open_kind (open_section (sections ls))))) _ _ a.1 in
    let c = unless_is (are_few (pins_in arch ls ++ pins_added arch ls l)) _ b.1 in
    let few = and_parts (leb (length (pins_in arch ls ++ pins_added arch ls l)) 1048576) (leb (length (net_names (pins_in arch ls ++ pins_added arch ls l))) 65535) c in
    let inner : IsInner (head_of l) = rw h tt in
    let is : is_pinlist l ≡ true = rw h refl in
    let some = some_section (sections ls) a.0 in
    let ss = sections_inner ls l inner in
    let pins : pins_in arch (ls ++ l ∷ []) ≡ pins_in arch ls ++ pins_added arch ls l = ap (pins_from arch 0) ss ∙ pins_grow arch 0 l (sections ls) is some ∙ ap (λ n. pins_in arch ls ++ pins_at arch (open_kind (open_section (sections ls))) n 0 (entries_in l)) (zero_plus (length (sections ls))) in
    record {
      lines_ahead = rw (ahead_inner ls l inner, late_some (sections ls) (ahead ls) l some) u.lines_ahead;
      fine = rw ss (fine_pins arch l (sections ls) h a.0 (eqb-true (length (entries_in l)) (pin_count arch (open_kind (open_section (sections ls)))) b.0) u.fine);
      distinct = rw (ss, grow_names l (sections ls)) u.distinct;
      few_blocks = omega (arith, u.few_blocks, ap length ss, grow_len l (sections ls));
      few_terminals = rw pins (leb-true (length (pins_in arch ls ++ pins_added arch ls l)) 1048576 few.0);
      few_nets = rw pins (leb-true (length (net_names (pins_in arch ls ++ pins_added arch ls l))) 65535 few.1);
    }
  where
    zero_plus : (n : ℕ) → 0 + n - 1 ≡ n - 1
    zero_plus n = omega arith

-- a line ahead of all blocks
ahead_last : (ss : List Section) (a : List TextLine) (l : TextLine) → AllByRecursion (λ l. IsLineAhead (head_of l)) (late ss a l) → (0 < length ss) ⊎ IsLineAhead (head_of l)
ahead_last [] a l h = inr (all_pop (λ l. IsLineAhead (head_of l)) a l h).1
ahead_last (s ∷ ss) a l h = inl (omega arith)

ahead_less : (ss : List Section) (a : List TextLine) (l : TextLine) → AllByRecursion (λ l. IsLineAhead (head_of l)) (late ss a l) → AllByRecursion (λ l. IsLineAhead (head_of l)) a
ahead_less [] a l h = (all_pop (λ l. IsLineAhead (head_of l)) a l h).0
ahead_less (s ∷ ss) a l h = h

pins_back : (arch : List PinKind) (ls : List TextLine) (l : TextLine) → head_of l ≡ head.Pinlist → Underway arch (ls ++ l ∷ []) → Underway arch ls × (fault_by arch ls l head.Pinlist ≡ None)
pins_back arch ls l h u =
    let inner : IsInner (head_of l) = rw h tt in
    let is : is_pinlist l ≡ true = rw h refl in
    let lates = rw (ahead_inner ls l inner) at u.lines_ahead in
    let some : 0 < length (sections ls) = elim (ahead_last (sections ls) (ahead ls) l lates) [ inl p ↦ p | inr q ↦ absurd (no_pinlist_ahead (head_of l) h q) ] in
    let ss = sections_inner ls l inner in
    let f = less_pins arch l (sections ls) h some (rw ss at u.fine) in
    let pins : pins_in arch (ls ++ l ∷ []) ≡ pins_in arch ls ++ pins_added arch ls l = ap (pins_from arch 0) ss ∙ pins_grow arch 0 l (sections ls) is some ∙ ap (λ n. pins_in arch ls ++ pins_at arch (open_kind (open_section (sections ls))) n 0 (entries_in l)) (zero_plus (length (sections ls))) in
    let terminals : length (pins_in arch ls ++ pins_added arch ls l) ≤ 1048576 = rw pins at u.few_terminals in
    let nets : length (net_names (pins_in arch ls ++ pins_added arch ls l)) ≤ 65535 = rw pins at u.few_nets in
    let few : are_few (pins_in arch ls ++ pins_added arch ls l) ≡ true = and_from _ _ (le-leb (length (pins_in arch ls ++ pins_added arch ls l)) 1048576 terminals) (le-leb (length (net_names (pins_in arch ls ++ pins_added arch ls l))) 65535 nets) in
    let waiting : is_some (awaiting ls) ≡ true = f.1 in
    let count : eqb (length (entries_in l)) (pin_count arch (open_kind (open_section (sections ls)))) ≡ true = eq-eqb _ _ f.2 in (
      record {
        lines_ahead = ahead_less (sections ls) (ahead ls) l lates;
        fine = f.0;
        distinct = rw (ss, grow_names l (sections ls)) at u.distinct;
        few_blocks = omega (arith, u.few_blocks, ap length ss, grow_len l (sections ls));
        few_terminals = omega (arith, terminals, length-append (pins_in arch ls) (pins_added arch ls l));
        few_nets = omega (arith, nets, fewer_nets (pins_in arch ls) (pins_added arch ls l));
      },
      rw (waiting, count, few) refl,
    )
  where
    zero_plus : (n : ℕ) → 0 + n - 1 ≡ n - 1
    zero_plus n = omega arith

    no_pinlist_ahead : (h : Head) → h ≡ head.Pinlist → IsLineAhead h → ⊥
    no_pinlist_ahead h e k = rw e at k

-- other lines

inner_on : (arch : List PinKind) (ls : List TextLine) (l : TextLine) → IsInner (head_of l) → is_pinlist l ≡ false → AllByRecursion (λ l. IsLineAhead (head_of l)) (late (sections ls) (ahead ls) l) → Allows (sections ls) (head_of l) → Underway arch ls → Underway arch (ls ++ l ∷ [])
inner_on arch ls l inner isnt lates allows u =
    let ss = sections_inner ls l inner in
    let pins : pins_in arch (ls ++ l ∷ []) ≡ pins_in arch ls = ap (pins_from arch 0) ss ∙ pins_keep arch 0 l (sections ls) isnt in
    record {
      lines_ahead = rw (ahead_inner ls l inner) lates;
      fine = rw ss (fine_line arch l (sections ls) isnt allows u.fine);
      distinct = rw (ss, grow_names l (sections ls)) u.distinct;
      few_blocks = omega (arith, u.few_blocks, ap length ss, grow_len l (sections ls));
      few_terminals = rw pins u.few_terminals;
      few_nets = rw pins u.few_nets;
    }

inner_back : (arch : List PinKind) (ls : List TextLine) (l : TextLine) → IsInner (head_of l) → is_pinlist l ≡ false → Underway arch (ls ++ l ∷ []) → Underway arch ls × Allows (sections ls) (head_of l) × ((0 < length (sections ls)) ⊎ IsLineAhead (head_of l))
inner_back arch ls l inner isnt u =
    let ss = sections_inner ls l inner in
    let pins : pins_in arch (ls ++ l ∷ []) ≡ pins_in arch ls = ap (pins_from arch 0) ss ∙ pins_keep arch 0 l (sections ls) isnt in
    let lates = rw (ahead_inner ls l inner) at u.lines_ahead in
    let f = less_line arch l (sections ls) isnt (rw ss at u.fine) in (
      record {
        lines_ahead = ahead_less (sections ls) (ahead ls) l lates;
        fine = f.0;
        distinct = rw (ss, grow_names l (sections ls)) at u.distinct;
        few_blocks = omega (arith, u.few_blocks, ap length ss, grow_len l (sections ls));
        few_terminals = rw pins at u.few_terminals;
        few_nets = rw pins at u.few_nets;
      },
      f.1,
      ahead_last (sections ls) (ahead ls) l lates,
    )

logic_is : (k : BlockKind) → is_logic k ≡ true → k ≡ Logic
logic_is InputPad h = absurd (false≢true h)
logic_is OutputPad h = absurd (false≢true h)
logic_is Logic h = refl

-- a subblock needs an open logic block
logic_open : (o : Option Section) → is_logic_open o ≡ true → (s : Section) → o ≡ Some s → s.kind ≡ Logic
logic_open None h s e = absurd (false≢true h)
logic_open (Some t) h s e = let same : t ≡ s = only_some t s e in ap (λ x. x.kind) (sym same) ∙ logic_is t.kind h

some_open : (ss : List Section) → is_logic_open (open_section ss) ≡ true → 0 < length ss
some_open [] h = absurd (false≢true h)
some_open (s ∷ ss) h = omega arith

open_is : (ss : List Section) → 0 < length ss → (s : Section) × (open_section ss ≡ Some s)
open_is [] h = absurd (omega arith)
open_is (s ∷ []) h = (s, refl)
open_is (s ∷ t ∷ ts) h = open_is (t ∷ ts) (omega arith)

late_global : (ss : List Section) (a : List TextLine) (l : TextLine) → IsLineAhead (head_of l) → AllByRecursion (λ l. IsLineAhead (head_of l)) a → AllByRecursion (λ l. IsLineAhead (head_of l)) (late ss a l)
late_global [] a l h k = all_push (λ l. IsLineAhead (head_of l)) a l k h
late_global (s ∷ ss) a l h k = k

on_by : (arch : List PinKind) (ls : List TextLine) (l : TextLine) (h : Head) → head_of l ≡ h → fault_by arch ls l h ≡ None → Underway arch ls → Underway arch (ls ++ l ∷ [])
on_by arch ls l (head.Opens kind) h k u = opens_on arch ls l kind h k u
on_by arch ls l head.Pinlist h k u = pins_on arch ls l h k u
on_by arch ls l head.Subblock h k u =
    let o = unless_is (is_logic_open (open_section (sections ls))) _ k in
    inner_on arch ls l (rw h tt) (rw h refl) (rw (late_some (sections ls) (ahead ls) l (some_open (sections ls) o)) u.lines_ahead) (λ s e. rw h (logic_open (open_section (sections ls)) o s e)) u
on_by arch ls l head.Global h k u = inner_on arch ls l (rw h tt) (rw h refl) (late_global (sections ls) (ahead ls) l (rw h tt) u.lines_ahead) (λ s e. rw h tt) u
on_by arch ls l head.Unknown h k u = cc

back_by : (arch : List PinKind) (ls : List TextLine) (l : TextLine) (h : Head) → head_of l ≡ h → Underway arch (ls ++ l ∷ []) → Underway arch ls × (fault_by arch ls l h ≡ None)
back_by arch ls l (head.Opens kind) h u = opens_back arch ls l kind h u
back_by arch ls l head.Pinlist h u = pins_back arch ls l h u
back_by arch ls l head.Subblock h u =
    let r = inner_back arch ls l (rw h tt) (rw h refl) u in
    let some : 0 < length (sections ls) = elim r.2 [ inl p ↦ p | inr q ↦ absurd (rw h at q) ] in
    let o = open_is (sections ls) some in
    let logic : o.0.kind ≡ Logic = rw h at (r.1 o.0 o.1) in
    (r.0, rw (o.1, logic) refl)
back_by arch ls l head.Global h u = let r = inner_back arch ls l (rw h tt) (rw h refl) u in (r.0, refl)
back_by arch ls l head.Unknown h u =
    let r = inner_back arch ls l (rw h tt) (rw h refl) u in
    absurd (elim r.2 [
      | inl p ↦ let o = open_is (sections ls) p in (rw h at (r.1 o.0 o.1))
      | inr q ↦ (rw h at q)
    ])

-- one more line without a fault
pub on : (arch : List PinKind) (ls : List TextLine) (l : TextLine) → fault_of arch ls l ≡ None → Underway arch ls → Underway arch (ls ++ l ∷ [])
on arch ls l k u = on_by arch ls l (head_of l) refl k u

-- one line less
pub back : (arch : List PinKind) (ls : List TextLine) (l : TextLine) → Underway arch (ls ++ l ∷ []) → Underway arch ls × (fault_of arch ls l ≡ None)
back arch ls l u = back_by arch ls l (head_of l) refl u
