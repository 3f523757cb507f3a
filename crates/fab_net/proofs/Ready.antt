-- What all lines have said makes a lawful netlist.
use Rattle.std.proofs.Common.{Option, ◌≡◌, ℕ, ◌<◌, ◌≤◌, true, false, List, [], ◌∷◌, Some, None, IfOk, OnOk, Result, Ok, Err, length, map, get_or, ltb, inl, inr, refl, sym, ap, ◌∙◌, arith}
use Rattle.std.proofs.lemmas.List.{length-map, get_or-map, get_or_past}
use Rattle.std.proofs.lemmas.List.Elements.{All-get_or, All-nil}
use Rattle.std.proofs.lemmas.Bool.{cases_Bool, ltb-true}
use Rattle.std.proofs.lemmas.Bool.Decides.{nat_tests}
use Rattle.std.specs.Prelude.{is_some, slice_index_or}
use Rattle.std.specs.List.{All, AllByRecursion, sum_by}
use denote.Ref.{Bor}
use Rattle.fab_text.specs.Lines.{TextLine}
use Rattle.fab_text.specs.FirstFault.{or_else}
use Rattle.fab_text.specs.LineWords.{can_be_word, AreWords}
use Rattle.fab_arch.specs.declared.architecture.PinKind.{PinKind}
use Rattle.fab_net.specs.declared.netlist_types.Head.{Head}
use Rattle.fab_net.specs.declared.netlist_types.Head.TheVariants as head
use Rattle.fab_net.specs.declared.netlist_types.Terminal.{Terminal}
use Rattle.fab_net.specs.declared.fault.NetFault.{NetFault}
use Rattle.fab_net.specs.declared.fault.NetFault.TheVariants.{DuplicateBlock, TooLarge}
use Rattle.fab_net.specs.Names.{number_of}
use Rattle.fab_net.specs.Netlist.{Netlist, IsLawful, net_at, block_on}
use Rattle.fab_net.specs.Text.{Section, PinOf, net_names, terminals_of, is_global_in, kind_in, name_in, name_at, head_of, ahead, sections, sections_by, IsNetlist}
use Rattle.fab_net.specs.Faults.{missing_fault, driver_fault, text_fault, first_fault}
use Rattle.fab_net.specs.Said.{Said, said, netlist_said, opens_fault, end_fault, IsReady}
use Rattle.fab_net.proofs.Naming.{terminals_blocks}
use Rattle.fab_net.proofs.Texts.{said_blocks}
use Rattle.fab_net.proofs.Underway.{Underway, AreFine}
use Rattle.fab_net.proofs.Accepted.{none_is_driven, some_terminal, meaning, underway_when}

-- the second word of a line
pub name_is : (ws : List (Bor (List ℕ))) (w : Bor (List ℕ)) → 1 < length ws → w ≡ get_or ws 1 w → w.now ≡ slice_index_or (map (λ w. w.now) ws) 1 []
name_is ws w lt h = ap (λ x. x.now) h ∙ sym (get_or-map (λ (x : Bor (List ℕ)). x.now) ws 1 w [] lt)

pub duplicate : (s : Said) (l : TextLine) → s.awaiting ≡ None → ltb 1 (length l.words) ≡ true → is_some (number_of (name_at l) s.names) ≡ true → opens_fault s l ≡ Some (DuplicateBlock l.number)
duplicate s l a b c = rw (a, b, c) refl

-- a section's block bears a word of the line that opens it

abbrev HasWords : TextLine → Type 0
HasWords l = AreWords l.words

abbrev IsOpened : Section → Type 0
IsOpened s = HasWords s.opening

opened_by : (h : Head) (l : TextLine) (body : List TextLine) (later : List Section) → HasWords l → AllByRecursion IsOpened later → AllByRecursion IsOpened (sections_by h l body later)
opened_by (head.Opens kind) l body later w h = (w, h)
opened_by head.Pinlist l body later w h = h
opened_by head.Subblock l body later w h = h
opened_by head.Global l body later w h = h
opened_by head.Unknown l body later w h = h

all_opened : (ls : List TextLine) → AllByRecursion HasWords ls → AllByRecursion IsOpened (sections ls)
all_opened [] h = tt
all_opened (l ∷ ls) h = opened_by (head_of l) l (ahead ls) (sections ls) h.0 (all_opened ls h.1)

second_word : (ws : List (List ℕ)) → 1 < length ws → AreWords ws → can_be_word (slice_index_or ws 1 []) ≡ true
second_word [] lt h = absurd (omega arith)
second_word (w ∷ []) lt h = absurd (omega arith)
second_word (w ∷ v ∷ ws) lt h = h.1.0

names_are_words : (arch : List PinKind) (ss : List Section) → AreFine arch ss → AllByRecursion IsOpened ss → AreWords (map name_in ss)
names_are_words arch [] f h = tt
names_are_words arch (s ∷ []) f h = (second_word s.opening.words f.named h.0, tt)
names_are_words arch (s ∷ t ∷ ts) f h = (second_word s.opening.words f.0.named h.0, names_are_words arch (t ∷ ts) f.1 h.1)

pub ready_of : (arch : List PinKind) (ls : List TextLine) (s : Said) → s ≡ said arch ls → Underway arch ls → AllByRecursion HasWords ls → IsReady s
ready_of arch ls s h u w =
    let k = length-map (sections ls) kind_in in
    let n = length-map (sections ls) name_in in
    record {
      distinct = rw h u.distinct;
      words = rw h (names_are_words arch (sections ls) u.fine (all_opened ls w));
      named = rw h (n ∙ sym k);
      few_blocks = rw h (omega (arith, k, u.few_blocks));
      few_terminals = rw h u.few_terminals;
      few_nets = rw h u.few_nets;
      within = said_blocks arch ls s h;
    }

-- the terminals of any net are on blocks that exist
rows_within : (pins : List PinOf) (limit : ℕ) (names : List (List ℕ)) (n : ℕ) → All (λ p. p.block < limit) pins → All (λ (x : Terminal). x.block.0 < limit) (get_or (map (terminals_of pins) names) n [])
rows_within pins limit names n h = elim (cases_Bool (ltb n (length names))) [
  | inl y ↦ terminals_blocks pins limit names h n (ltb-true n (length names) y)
  | inr y ↦
      let le : length names ≤ n = grind (arith, nat_tests) in
      let e : get_or (map (terminals_of pins) names) n [] ≡ [] = get_or_past (map (terminals_of pins) names) n [] (omega (arith, le, length-map names (terminals_of pins))) in
      rw e (All-nil (λ (x : Terminal). x.block.0 < limit))
]

pub driven_at_end : (s : Said) → end_fault s ≡ None → driver_fault s.pins (net_names s.pins) ≡ None
driven_at_end s h = second (missing_fault s.awaiting) (driver_fault s.pins (net_names s.pins)) h
  where
    second : (f g : Option NetFault) → or_else f g ≡ None → g ≡ None
    second None g h = h
    second (Some e) g h = cc

pub lawful_of : (s : Said) → IsReady s → driver_fault s.pins (net_names s.pins) ≡ None → sum_by length (map (terminals_of s.pins) (net_names s.pins)) ≤ length s.pins → IsLawful (netlist_said s)
lawful_of s r d few =
    let names = net_names s.pins in
    let t = length-map names (terminals_of s.pins) in
    let g = length-map names (is_global_in s.globals) in
    let driven = none_is_driven s.pins names d in
    record {
      few_blocks = r.few_blocks;
      few_nets = omega (arith, t, r.few_nets);
      few_terminals = omega (arith, few, r.few_terminals);
      named = r.named;
      distinct = r.distinct;
      words = r.words;
      told = g ∙ sym t;
      some_terminal = λ n lt.
          let at : get_or (map (terminals_of s.pins) names) n [] ≡ terminals_of s.pins (get_or names n []) = get_or-map (terminals_of s.pins) names n [] [] (omega (arith, t, lt)) in
          let some = some_terminal s.pins names n driven (omega (arith, t, lt)) in
          omega (arith, length-map (get_or (map (terminals_of s.pins) names) n []) block_on, ap length at, some);
      within = λ n i lt. block_within n i lt;
    }
  where
    block_within : (n i : ℕ) → i < length (net_at (netlist_said s) n).blocks → slice_index_or (net_at (netlist_said s) n).blocks i 0 < length s.kinds
    block_within n i lt =
        let row = get_or (map (terminals_of s.pins) (net_names s.pins)) n [] in
        let long = length-map row block_on in
        let inside : i < length row = omega (arith, long, lt) in
        let there = row_within n in
        let no : Terminal = record { block = record { 0 = 0 }; pin = 0 } in
        let e : get_or (map block_on row) i 0 ≡ block_on (get_or row i no) = get_or-map block_on row i no 0 inside in
        let h : (get_or row i no).block.0 < length s.kinds = All-get_or (λ (x : Terminal). x.block.0 < length s.kinds) row i no inside there in
        omega (arith, e, h)
      where
        row_within : (n : ℕ) → All (λ (x : Terminal). x.block.0 < length s.kinds) (get_or (map (terminals_of s.pins) (net_names s.pins)) n [])
        row_within n = rows_within s.pins (length s.kinds) (net_names s.pins) n r.within

-- a reader's answer is the meaning
pub found_is_meaning : (arch : List PinKind) (ls : List TextLine) (s : Said) (x : Result Netlist NetFault) → s ≡ said arch ls → first_fault arch ls ≡ end_fault (said arch ls) → OnOk x (end_fault s ≡ None) → IfOk x (λ d. d ≡ netlist_said s) → IfOk x (λ d. IsNetlist arch ls d)
found_is_meaning arch ls s (Ok d) e clean k m =
    let none : text_fault arch ls ≡ None = ap end_fault (sym e) ∙ k in
    let same : d ≡ netlist_said (said arch ls) = m ∙ ap netlist_said e in
    rw same (meaning arch ls (underway_when arch ls (clean ∙ none)) none)
found_is_meaning arch ls s (Err f) e clean k m = m

pub too_many : (s : Said) (l : TextLine) → s.awaiting ≡ None → ltb 1 (length l.words) ≡ true → is_some (number_of (name_at l) s.names) ≡ false → ltb (length s.names) 65535 ≡ false → opens_fault s l ≡ Some (TooLarge l.number)
too_many s l a b c d = rw (a, b, c, d) refl
