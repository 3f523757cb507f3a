-- Examples of what netlist texts mean.
use Rattle.std.specs.Prelude.{ℕ, ◌≡◌, true, false, List, [], ◌∷◌, Some, None, length, refl, codes}
use Rattle.std.proofs.Common.{ap, subst, arith, lit<, lit≤}
use Rattle.fab_text.specs.Lines.{TextLine, lines, lines_from, trimmed, content, is_continued, without_backslash, words_of}
use Rattle.fab_text.specs.declared.spans.Span.{Span}
use Rattle.fab_arch.specs.declared.architecture.PinKind.{PinKind}
use Rattle.fab_arch.specs.declared.architecture.PinKind.TheVariants.{Reads, Drives}
use Rattle.fab_net.specs.declared.netlist_types.BlockKind.TheVariants.{InputPad, OutputPad, Logic}
use Rattle.fab_net.specs.declared.fault.NetFault.TheVariants.{PinCount, NoDriver, TwoDrivers, MissingPinlist, PinlistWithoutBlock, SubblockWithoutLogic}
use Rattle.fab_net.specs.Netlist.{Netlist, terminal}
use Rattle.fab_net.specs.Text.{head_of, sections, pins_in, global_names, netlist_of, IsNetlist}
use Rattle.fab_net.specs.Faults.{first_fault}

-- one pin that reads and one that drives
abbrev two_pins : List PinKind
two_pins = Reads ∷ Drives ∷ []

abbrev netlist : List PinKind → List ℕ → Netlist
netlist arch text = netlist_of (sections (lines text)) (pins_in arch (lines text)) (global_names (lines text))

abbrev small_netlist : Netlist
small_netlist = record {
  kinds = InputPad ∷ OutputPad ∷ Logic ∷ [];
  names = codes "a" ∷ codes "z" ∷ codes "b" ∷ [];
  terminals = (terminal 0 0 ∷ terminal 2 0 ∷ []) ∷ (terminal 1 0 ∷ terminal 2 1 ∷ []) ∷ [];
  globals = false ∷ false ∷ [];
}

abbrev small_text : List ℕ
small_text = codes ".input a\npinlist: n1\n.output z\npinlist: n2\n.clb b\npinlist: n1 n2\nsubblock: b 0 1\n"

pub small_text_means : netlist two_pins small_text ≡ small_netlist
unfolding lines_from trimmed content is_continued without_backslash words_of head_of
small_text_means = refl

-- the same with carriage returns, a comment, a joined line, and no line feed at the end
abbrev joined_text : List ℕ
joined_text = codes ".input a\r\npinlist: n1 # drives\r\n.output z\r\npinlist: n2\r\n.clb b\r\npinlist: n1 \\\r\n n2\r\nsubblock: b 0 1"

pub joined_text_means_the_same : netlist two_pins joined_text ≡ small_netlist
unfolding lines_from trimmed content is_continued without_backslash words_of head_of
joined_text_means_the_same = refl

pub joined_text_has_no_fault : first_fault two_pins (lines joined_text) ≡ None
unfolding lines_from trimmed content is_continued without_backslash words_of head_of
joined_text_has_no_fault = refl

-- the continuing line is empty: the pinlist of line 6 is one entry short
pub a_join_of_nothing : first_fault two_pins (lines (codes ".input a\npinlist: n1\n.output z\npinlist: n2\n.clb b\npinlist: n1 \\\n\nsubblock: b 0 1")) ≡ Some (PinCount 6)
unfolding lines_from trimmed content is_continued without_backslash words_of head_of
a_join_of_nothing = refl

-- two pins of a block on one net are two terminals, `open` is none, and `.global` may name nets that do not exist
pub repeats_and_globals : netlist (Reads ∷ Reads ∷ Drives ∷ []) (codes ".clb b\npinlist: open open n\n.clb c\npinlist: n n m\n.global m q") ≡ record {
  kinds = Logic ∷ Logic ∷ [];
  names = codes "b" ∷ codes "c" ∷ [];
  terminals = (terminal 0 2 ∷ terminal 1 0 ∷ terminal 1 1 ∷ []) ∷ (terminal 1 2 ∷ []) ∷ [];
  globals = false ∷ true ∷ [];
}
unfolding lines_from trimmed content is_continued without_backslash words_of head_of
repeats_and_globals = refl

-- the fault's place is the net's first appearance
pub a_net_without_driver : first_fault two_pins (lines (codes ".output z\npinlist: n")) ≡ Some (NoDriver (record { start = 19; stop = 20 }))
unfolding lines_from trimmed content is_continued without_backslash words_of head_of
a_net_without_driver = refl

pub a_net_with_two_drivers : first_fault two_pins (lines (codes ".input a\npinlist: n\n.input b\npinlist: n")) ≡ Some (TwoDrivers (record { start = 18; stop = 19 }))
unfolding lines_from trimmed content is_continued without_backslash words_of head_of
a_net_with_two_drivers = refl

-- a missing pinlist is reported before a repeated name, and its place is the open block's name
pub a_missing_pinlist_comes_first : first_fault two_pins (lines (codes ".input a\n.input a")) ≡ Some (MissingPinlist (record { start = 7; stop = 8 }))
unfolding lines_from trimmed content is_continued without_backslash words_of head_of
a_missing_pinlist_comes_first = refl

pub a_second_pinlist : first_fault two_pins (lines (codes ".input a\npinlist: n\n.global n\npinlist: n")) ≡ Some (PinlistWithoutBlock 4)
unfolding lines_from trimmed content is_continued without_backslash words_of head_of
a_second_pinlist = refl

pub a_subblock_of_a_pad : first_fault two_pins (lines (codes ".input a\nsubblock: a")) ≡ Some (SubblockWithoutLogic 2)
unfolding lines_from trimmed content is_continued without_backslash words_of head_of
a_subblock_of_a_pad = refl

abbrev line : ℕ → List (List ℕ) → List Span → TextLine
line n words spans = record { number = n; words = words; spans = spans }

abbrev span : ℕ → ℕ → Span
span a b = record { start = a; stop = b }

abbrev first_pinlist : TextLine
first_pinlist = line 2 (codes "pinlist:" ∷ codes "n1" ∷ []) (span 9 17 ∷ span 18 20 ∷ [])

abbrev second_pinlist : TextLine
second_pinlist = line 4 (codes "pinlist:" ∷ codes "n2" ∷ []) (span 31 39 ∷ span 40 42 ∷ [])

abbrev third_pinlist : TextLine
third_pinlist = line 6 (codes "pinlist:" ∷ codes "n1" ∷ codes "n2" ∷ []) (span 50 58 ∷ span 59 61 ∷ span 62 64 ∷ [])

abbrev small_lines : List TextLine
small_lines =
    line 1 (codes ".input" ∷ codes "a" ∷ []) (span 0 6 ∷ span 7 8 ∷ [])
    ∷ first_pinlist
    ∷ line 3 (codes ".output" ∷ codes "z" ∷ []) (span 21 28 ∷ span 29 30 ∷ [])
    ∷ second_pinlist
    ∷ line 5 (codes ".clb" ∷ codes "b" ∷ []) (span 43 47 ∷ span 48 49 ∷ [])
    ∷ third_pinlist
    ∷ line 7 (codes "subblock:" ∷ codes "b" ∷ codes "0" ∷ codes "1" ∷ []) (span 65 74 ∷ span 75 76 ∷ span 77 78 ∷ span 79 80 ∷ [])
    ∷ []

pub small_text_has_these_lines : small_lines ≡ lines small_text
unfolding lines_from trimmed content is_continued without_backslash words_of
small_text_has_these_lines = refl

these_lines_are_a_netlist : IsNetlist two_pins small_lines small_netlist
unfolding head_of
these_lines_are_a_netlist = record {
  lines_ahead = tt;
  lawful = (
    record { named = lit< tt; lines = (tt, tt); pinlist = first_pinlist; one = refl; pins = refl },
    (
      record { named = lit< tt; lines = (tt, tt); pinlist = second_pinlist; one = refl; pins = refl },
      (record { named = lit< tt; lines = (tt, (refl, tt)); pinlist = third_pinlist; one = refl; pins = refl }, tt),
    ),
  );
  distinct = (refl, (refl, (refl, tt)));
  few_blocks = lit≤ tt;
  few_terminals = lit≤ tt;
  few_nets = lit≤ tt;
  driven = (refl, (refl, tt));
  netlist = refl;
}

pub small_text_is_a_netlist : IsNetlist two_pins (lines small_text) small_netlist
small_text_is_a_netlist = subst (λ ls. IsNetlist two_pins ls small_netlist) small_text_has_these_lines these_lines_are_a_netlist

-- and no other one
pub small_text_is_not_empty : ¬ IsNetlist two_pins (lines small_text) (record { kinds = []; names = []; terminals = []; globals = [] })
unfolding lines_from trimmed content is_continued without_backslash words_of head_of
small_text_is_not_empty n = let blocks : 0 ≡ 3 = ap (λ (d : Netlist). length d.kinds) n.netlist in omega (arith, blocks)

pub a_net_without_driver_is_no_netlist : (d : Netlist) → ¬ IsNetlist two_pins (lines (codes ".output z\npinlist: n")) d
unfolding lines_from trimmed content is_continued without_backslash words_of head_of
a_net_without_driver_is_no_netlist d n = let drivers : 0 ≡ 1 = n.driven.0 in omega (arith, drivers)
