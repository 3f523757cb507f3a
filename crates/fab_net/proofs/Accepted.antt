-- What has a meaning has no fault, and one meaning; and lines without a fault have one.
use Rattle.std.proofs.Common.{◌≡◌, ℕ, ◌+◌, ◌<◌, ◌≤◌, Bool, true, false, cond, eqb, ◌&&◌, List, [], ◌∷◌, ◌++◌, Option, Some, None, length, get_or, drop, suc, zero, refl, sym, ap, ◌∙◌, append_assoc, inl, inr, arith}
use Rattle.std.proofs.lemmas.List.{append-nil, drop_more, drop_all, length-map}
use Rattle.std.proofs.lemmas.List.Sums.{sum_by-cons, length-filter}
use Rattle.std.proofs.lemmas.Bool.{eqb-true, eq-eqb, cases_Bool}
use Rattle.std.specs.Prelude.{count_by, filter}
use Rattle.std.specs.List.{AllByRecursion}
use Rattle.fab_text.specs.Lines.{TextLine}
use Rattle.fab_text.specs.FirstFault.{or_else, fault_behind}
use Rattle.fab_text.specs.declared.spans.Span.{Span}
use Rattle.fab_arch.specs.declared.architecture.PinKind.{PinKind}
use Rattle.fab_net.specs.declared.fault.NetFault.{NetFault}
use Rattle.fab_net.specs.declared.fault.NetFault.TheVariants.{UnknownWord, NoName, PinlistWithoutBlock, MissingPinlist, PinCount, SubblockWithoutLogic, DuplicateBlock, NoDriver, TwoDrivers, TooLarge, NoMemory}
use Rattle.fab_net.specs.Netlist.{Netlist}
use Rattle.fab_net.specs.Text.{PinOf, net_names, is_driver, is_on, terminal_of, terminals_of, sections, pins_in, netlist_of, global_names, IsNetlist, HasOneDriver}
use Rattle.fab_net.specs.Faults.{awaiting, missing_fault, driver_fault, net_fault, first_span, fault_of, text_fault, first_fault, FaultIs}
use Rattle.fab_net.proofs.Underway.{Underway, at_start, on, back, all_whole, all_fine}

pub one_is_none : (pins : List PinOf) (name : List ℕ) → count_by (is_driver name) pins ≡ 1 → net_fault pins name ≡ None
one_is_none pins name h = let t : eqb (count_by (is_driver name) pins) 1 ≡ true = eq-eqb _ _ h in rw t refl

driven_is_none : (pins : List PinOf) (names : List (List ℕ)) → AllByRecursion (HasOneDriver pins) names → driver_fault pins names ≡ None
driven_is_none pins [] h = refl
driven_is_none pins (n ∷ ns) h = let f = one_is_none pins n h.0 in rw f (driven_is_none pins ns h.1)

none_both : (f g : Option NetFault) → or_else f g ≡ None → (f ≡ None) × (g ≡ None)
none_both None g h = (refl, h)
none_both (Some e) g h = cc

none_is_one : (pins : List PinOf) (name : List ℕ) → net_fault pins name ≡ None → count_by (is_driver name) pins ≡ 1
none_is_one pins name h = elim (cases_Bool (eqb (count_by (is_driver name) pins) 1)) [
  | inl t ↦ eqb-true _ _ t
  | inr t ↦ elim (cases_Bool (eqb (count_by (is_driver name) pins) 0)) [
    | inl z ↦ let e : Some (NoDriver (first_span pins name)) ≡ None = rw (t, z) at h in cc
    | inr z ↦ let e : Some (TwoDrivers (first_span pins name)) ≡ None = rw (t, z) at h in cc
  ]
]

pub none_is_driven : (pins : List PinOf) (names : List (List ℕ)) → driver_fault pins names ≡ None → AllByRecursion (HasOneDriver pins) names
none_is_driven pins [] h = tt
none_is_driven pins (n ∷ ns) h = let b = none_both (net_fault pins n) (driver_fault pins ns) h in (none_is_one pins n b.0, none_is_driven pins ns b.1)

none_missing : (a : Option Span) → missing_fault a ≡ None → a ≡ None
none_missing None h = refl
none_missing (Some s) h = cc

-- lines that are lawful so far, and all of whose blocks and nets are complete, mean a netlist
pub meaning : (arch : List PinKind) (ls : List TextLine) → Underway arch ls → text_fault arch ls ≡ None → IsNetlist arch ls (netlist_of (sections ls) (pins_in arch ls) (global_names ls))
meaning arch ls u k =
    let b = none_both (missing_fault (awaiting ls)) (driver_fault (pins_in arch ls) (net_names (pins_in arch ls))) k in
    record {
      lines_ahead = u.lines_ahead;
      lawful = all_whole arch (sections ls) u.fine (none_missing (awaiting ls) b.0);
      distinct = u.distinct;
      few_blocks = u.few_blocks;
      few_terminals = u.few_terminals;
      few_nets = u.few_nets;
      driven = none_is_driven (pins_in arch ls) (net_names (pins_in arch ls)) b.1;
      netlist = refl;
    }

underway_of : (arch : List PinKind) (ls : List TextLine) (d : Netlist) → IsNetlist arch ls d → Underway arch ls
underway_of arch ls d n = record { lines_ahead = n.lines_ahead; fine = (all_fine arch (sections ls) n.lawful).0; distinct = n.distinct; few_blocks = n.few_blocks; few_terminals = n.few_terminals; few_nets = n.few_nets }

-- what is lawful so far was lawful before
front : (arch : List PinKind) (xs ys : List TextLine) → Underway arch (xs ++ ys) → Underway arch xs
front arch xs [] u = let e = append-nil xs in rw e at u
front arch xs (y ∷ ys) u = let e = append_assoc xs (y ∷ []) ys in (back arch xs y (front arch (xs ++ y ∷ []) ys (rw e u))).0

no_fault_behind : (arch : List PinKind) (before ls : List TextLine) → Underway arch (before ++ ls) → fault_behind (fault_of arch) (text_fault arch) before ls ≡ text_fault arch (before ++ ls)
no_fault_behind arch before [] u = ap (text_fault arch) (sym (append-nil before))
no_fault_behind arch before (l ∷ ls) u =
    let e = append_assoc before (l ∷ []) ls in
    let more : Underway arch ((before ++ l ∷ []) ++ ls) = rw e u in
    let f : fault_of arch before l ≡ None = (back arch before l (front arch (before ++ l ∷ []) ls more)).1 in
    rw f (no_fault_behind arch (before ++ l ∷ []) ls more ∙ ap (text_fault arch) e)

pub no_fault_in : (arch : List PinKind) (ls : List TextLine) (d : Netlist) → IsNetlist arch ls d → first_fault arch ls ≡ None
no_fault_in arch ls d n =
    let waiting : awaiting ls ≡ None = (all_fine arch (sections ls) n.lawful).1 in
    no_fault_behind arch [] ls (underway_of arch ls d n) ∙ rw waiting (driven_is_none (pins_in arch ls) (net_names (pins_in arch ls)) n.driven)

goes_on : (arch : List PinKind) (before ls : List TextLine) → Underway arch before → fault_behind (fault_of arch) (text_fault arch) before ls ≡ None → Underway arch (before ++ ls) × (text_fault arch (before ++ ls) ≡ None)
goes_on arch before [] u h = let e = append-nil before in (rw e u, rw e h)
goes_on arch before (l ∷ ls) u h =
    let b = none_both (fault_of arch before l) _ h in
    let e = append_assoc before (l ∷ []) ls in
    let r = goes_on arch (before ++ l ∷ []) ls (on arch before l b.0 u) b.1 in
    (rw e at r.0, rw e at r.1)

-- lines without a fault mean a netlist
pub meaning_of : (arch : List PinKind) (ls : List TextLine) → first_fault arch ls ≡ None → (d : Netlist) × IsNetlist arch ls d
meaning_of arch ls h = let r = goes_on arch [] ls (at_start arch) h in (netlist_of (sections ls) (pins_in arch ls) (global_names ls), meaning arch ls r.0 r.1)

pub memory_only : (e : NetFault) (fault : Option NetFault) → fault ≡ None → FaultIs e fault → e ≡ NoMemory
memory_only NoMemory fault h k = refl
memory_only (UnknownWord n) fault h k = cc
memory_only (NoName n) fault h k = cc
memory_only (PinlistWithoutBlock n) fault h k = cc
memory_only (MissingPinlist s) fault h k = cc
memory_only (PinCount n) fault h k = cc
memory_only (SubblockWithoutLogic n) fault h k = cc
memory_only (DuplicateBlock n) fault h k = cc
memory_only (NoDriver s) fault h k = cc
memory_only (TwoDrivers s) fault h k = cc
memory_only (TooLarge n) fault h k = cc

-- the first fault of the nets from one on
pub drivers_more : (pins : List PinOf) (names : List (List ℕ)) (i : ℕ) → i < length names → driver_fault pins (drop i names) ≡ or_else (net_fault pins (get_or names i [])) (driver_fault pins (drop (i + 1) names))
drivers_more pins names i lt = ap (driver_fault pins) (drop_more names i [] lt)

pub drivers_end : (pins : List PinOf) (names : List (List ℕ)) (i : ℕ) → length names ≤ i → driver_fault pins (drop i names) ≡ None
drivers_end pins names i le = ap (driver_fault pins) (drop_all i names le)

-- a net that is driven has a terminal

no_more_drivers : (b d : Bool) → cond (b && d) 1 0 ≤ cond b 1 0
no_more_drivers true true = omega arith
no_more_drivers true false = omega arith
no_more_drivers false d = omega arith

drivers_are_on : (pins : List PinOf) (name : List ℕ) → count_by (is_driver name) pins ≤ count_by (is_on name) pins
drivers_are_on [] name = omega arith
drivers_are_on (p ∷ ps) name =
    let a = sum_by-cons (λ (x : PinOf). cond (is_driver name x) 1 0) p ps in
    let b = sum_by-cons (λ (x : PinOf). cond (is_on name x) 1 0) p ps in
    let c = no_more_drivers (is_on name p) p.drives in
    let r = drivers_are_on ps name in
    omega (arith, a, b, c, r)

driven_at : (pins : List PinOf) (names : List (List ℕ)) (n : ℕ) → AllByRecursion (HasOneDriver pins) names → n < length names → count_by (is_driver (get_or names n [])) pins ≡ 1
driven_at pins [] n h lt = absurd (omega arith)
driven_at pins (x ∷ xs) zero h lt = h.0
driven_at pins (x ∷ xs) (suc n) h lt = driven_at pins xs n h.1 (omega arith)

pub some_terminal : (pins : List PinOf) (names : List (List ℕ)) (n : ℕ) → AllByRecursion (HasOneDriver pins) names → n < length names → 0 < length (terminals_of pins (get_or names n []))
some_terminal pins names n h lt =
    let name = get_or names n [] in
    let one = driven_at pins names n h lt in
    let le = drivers_are_on pins name in
    let a = length-map (filter (is_on name) pins) terminal_of in
    let b = length-filter (is_on name) pins in
    omega (arith, one, le, a, b)

-- lines without a fault are lawful
pub underway_when : (arch : List PinKind) (ls : List TextLine) → first_fault arch ls ≡ None → Underway arch ls
underway_when arch ls h = (goes_on arch [] ls (at_start arch) h).0
