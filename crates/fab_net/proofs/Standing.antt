-- What a reader knows between two lines.
use Rattle.std.proofs.Common.{◌≡◌, List, [], ◌∷◌, ◌++◌, Option, Some, None, ℕ, cond, refl, sym, ap, ◌∙◌, subst, append_assoc}
use Rattle.std.proofs.lemmas.List.{append-nil}
use Rattle.fab_text.specs.Lines.{TextLine}
use Rattle.std.specs.Prelude.{Bool, true, false, not, ◌==◌, is_some, length, count_by, nat_lt}
use Rattle.fab_text.specs.FirstFault.{or_else, unless, fault_behind, fault_of_all, no_text_fault, TookNoFault}
use Rattle.fab_text.proofs.Taken.{one_more}
use Rattle.fab_arch.specs.declared.architecture.PinKind.{PinKind}
use Rattle.fab_net.specs.declared.fault.NetFault.{NetFault}
use Rattle.fab_net.specs.declared.fault.NetFault.TheVariants.{UnknownWord, NoName, PinlistWithoutBlock, MissingPinlist, PinCount, SubblockWithoutLogic, DuplicateBlock, NoDriver, TwoDrivers, TooLarge, NoMemory}
use Rattle.fab_net.specs.Faults.{missing_fault, are_few, first_span, net_fault, driver_fault, fault_of, text_fault, first_fault, FaultIs}
use Rattle.fab_net.specs.Said.{Said, last_kind, kind_or_pad, is_logic_last, pins_more, said, said_fault_by, said_fault, after, end_fault}
use Rattle.fab_net.specs.Text.{PinOf, head_of, entries_in, is_driver, name_at, pin_count}
use Rattle.fab_net.specs.Names.{number_of}
use Rattle.fab_net.specs.declared.netlist_types.Head.{Head}
use Rattle.fab_net.specs.declared.netlist_types.Head.TheVariants as head
use Rattle.fab_text.specs.declared.spans.Span.{Span}
use Rattle.fab_net.proofs.Texts.{said_push, said_fault_is}
use Rattle.fab_net.proofs.Underway.{Underway, at_start, on}

pub record Standing (arch : List PinKind) (all left : List TextLine) (s : Said) : Type 0 where
  pub before : List TextLine
  pub split : before ++ left ≡ all
  pub clean : first_fault arch all ≡ fault_behind (fault_of arch) (text_fault arch) before left
  pub faultless : fault_of_all (fault_of arch) no_text_fault before ≡ None
  pub underway : Underway arch before
  pub says : s ≡ said arch before

pub start : (arch : List PinKind) (all : List TextLine) (s : Said) → s ≡ said arch [] → Standing arch all all s
start arch all s h = record { before = []; split = refl; clean = refl; faultless = refl; underway = at_start arch; says = h }

pub told : (e : NetFault) (f : Option NetFault) → f ≡ Some e → FaultIs e f
told NoMemory f h = tt
told (UnknownWord n) f h = h
told (NoName n) f h = h
told (PinlistWithoutBlock n) f h = h
told (MissingPinlist s) f h = h
told (PinCount n) f h = h
told (SubblockWithoutLogic n) f h = h
told (DuplicateBlock n) f h = h
told (NoDriver s) f h = h
told (TwoDrivers s) f h = h
told (TooLarge n) f h = h

or_else_some : (f g : Option NetFault) (e : NetFault) → f ≡ Some e → or_else f g ≡ Some e
or_else_some f g e h = rw h refl

-- the fault of the next line, by what was said
fault_is : (arch : List PinKind) (all : List TextLine) (l : TextLine) (left : List TextLine) (s : Said) → (w : Standing arch all (l ∷ left) s) → fault_of arch w.before l ≡ said_fault arch s l
fault_is arch all l left s w = said_fault_is arch w.before l ∙ ap (λ x. said_fault arch x l) (sym w.says)

-- a possible fault is not a lack of memory
abbrev IsOfText : Option NetFault → Type 0
IsOfText (Some NoMemory) = ⊥
IsOfText f = Unit {0}

of_text_or : (f g : Option NetFault) → IsOfText f → IsOfText g → IsOfText (or_else f g)
of_text_or None g h k = k
of_text_or (Some e) g h k = h

of_text_unless : (passed : Bool) (e : NetFault) → IsOfText (Some e) → IsOfText (unless passed e)
of_text_unless true e h = tt
of_text_unless false e h = h

missing_of_text : (awaiting : Option Span) → IsOfText (missing_fault awaiting)
missing_of_text None = tt
missing_of_text (Some span) = tt

by_head_of_text : (arch : List PinKind) (s : Said) (l : TextLine) (h : Head) → IsOfText (said_fault_by arch s l h)
by_head_of_text arch s l (head.Opens kind) =
    of_text_or (missing_fault s.awaiting) _ (missing_of_text s.awaiting)
    (of_text_or (unless (nat_lt 1 (length l.words)) (NoName l.number)) _ (of_text_unless (nat_lt 1 (length l.words)) (NoName l.number) tt)
    (of_text_or (unless (not (is_some (number_of (name_at l) s.names))) (DuplicateBlock l.number)) _ (of_text_unless (not (is_some (number_of (name_at l) s.names))) (DuplicateBlock l.number) tt)
    (of_text_unless (nat_lt (length s.names) 65535) (TooLarge l.number) tt)))
by_head_of_text arch s l head.Pinlist =
    of_text_or (unless (is_some s.awaiting) (PinlistWithoutBlock l.number)) _ (of_text_unless (is_some s.awaiting) (PinlistWithoutBlock l.number) tt)
    (of_text_or (unless (length (entries_in l) == pin_count arch (kind_or_pad (last_kind s.kinds))) (PinCount l.number)) _ (of_text_unless (length (entries_in l) == pin_count arch (kind_or_pad (last_kind s.kinds))) (PinCount l.number) tt)
    (of_text_unless (are_few (s.pins ++ pins_more arch s.kinds l)) (TooLarge l.number) tt))
by_head_of_text arch s l head.Subblock = of_text_unless (is_logic_last (last_kind s.kinds)) (SubblockWithoutLogic l.number) tt
by_head_of_text arch s l head.Global = tt
by_head_of_text arch s l head.Unknown = tt

-- the fault of a line is never a lack of memory
pub never_memory : (arch : List PinKind) (s : Said) (l : TextLine) (e : NetFault) → said_fault arch s l ≡ Some e → e ≡ NoMemory → ⊥
never_memory arch s l e h k = let n : said_fault arch s l ≡ Some NoMemory = h ∙ ap Some k in subst IsOfText n (by_head_of_text arch s l (head_of l))

-- nor is a fault of the drivers
net_of_text : (pins : List PinOf) (name : List ℕ) → IsOfText (net_fault pins name)
net_of_text pins name = by_count (count_by (is_driver name) pins == 1) (count_by (is_driver name) pins == 0)
  where
    by_count : (one none : Bool) → IsOfText (cond one None (cond none (Some (NoDriver (first_span pins name))) (Some (TwoDrivers (first_span pins name)))))
    by_count true none = tt
    by_count false true = tt
    by_count false false = tt

drivers_of_text : (pins : List PinOf) (names : List (List ℕ)) → IsOfText (driver_fault pins names)
drivers_of_text pins [] = tt
drivers_of_text pins (n ∷ ns) = of_text_or (net_fault pins n) (driver_fault pins ns) (net_of_text pins n) (drivers_of_text pins ns)

pub drivers_never_memory : (pins : List PinOf) (names : List (List ℕ)) (e : NetFault) → driver_fault pins names ≡ Some e → e ≡ NoMemory → ⊥
drivers_never_memory pins names e h k = let n : driver_fault pins names ≡ Some NoMemory = h ∙ ap Some k in subst IsOfText n (drivers_of_text pins names)

-- a fault of the next line is the text's
pub fails : (arch : List PinKind) (all : List TextLine) (l : TextLine) (left : List TextLine) (s : Said) (e : NetFault) → Standing arch all (l ∷ left) s → said_fault arch s l ≡ Some e → FaultIs e (first_fault arch all)
fails arch all l left s e w h =
    told e (first_fault arch all) (w.clean ∙ or_else_some (fault_of arch w.before l) (fault_behind (fault_of arch) (text_fault arch) (w.before ++ l ∷ []) left) e (fault_is arch all l left s w ∙ h))

-- on by one line that has no fault
pub step : (arch : List PinKind) (all : List TextLine) (l : TextLine) (left : List TextLine) (s new : Said) → Standing arch all (l ∷ left) s → said_fault arch s l ≡ None → new ≡ after arch s l → Standing arch all left new
step arch all l left s new w h n =
    let f : fault_of arch w.before l ≡ None = fault_is arch all l left s w ∙ h in
    let said_none : said_fault arch (said arch w.before) l ≡ None = sym (said_fault_is arch w.before l) ∙ f in
    record {
      before = w.before ++ l ∷ [];
      split = append_assoc w.before (l ∷ []) left ∙ w.split;
      clean = w.clean ∙ rw f refl;
      faultless = one_more (fault_of arch) w.before l w.faultless f;
      underway = on arch w.before l f w.underway;
      says = n ∙ ap (λ x. after arch x l) w.says ∙ sym (said_push arch w.before l said_none);
    }

-- the lines that were taken have no fault
pub took : (arch : List PinKind) (all left : List TextLine) (s : Said) → Standing arch all left s → TookNoFault (fault_of arch) all left
took arch all left s w = (w.before, w.split, w.faultless)

all_before : (arch : List PinKind) (all : List TextLine) (s : Said) → (w : Standing arch all [] s) → w.before ≡ all
all_before arch all s w = sym (append-nil w.before) ∙ w.split

pub all_said : (arch : List PinKind) (all : List TextLine) (s : Said) → Standing arch all [] s → s ≡ said arch all
all_said arch all s w = w.says ∙ ap (said arch) (all_before arch all s w)

pub all_underway : (arch : List PinKind) (all : List TextLine) (s : Said) → Standing arch all [] s → Underway arch all
all_underway arch all s w = let e = all_before arch all s w in rw (← e) w.underway

pub all_fault : (arch : List PinKind) (all : List TextLine) (s : Said) → Standing arch all [] s → first_fault arch all ≡ end_fault (said arch all)
all_fault arch all s w = w.clean ∙ ap (λ x. end_fault (said arch x)) (all_before arch all s w)
