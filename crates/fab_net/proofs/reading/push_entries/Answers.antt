use Rattle.std.proofs.Common.{◌≡◌, ◌+◌, ◌<◌, ◌++◌, ◌∷◌, [], true, false, map, length, get_or, drop, sym, ap, ◌∙◌, arith, append_assoc}
use Rattle.std.proofs.lemmas.List.{get_or-map, length-map, length_push}
use Rattle.fab_net.specs.Text.{PinOf, entries, pins_at, is_open, drives_at, no_span}
use Rattle.fab_net.proofs.Naming.{nets_le}
use Rattle.fab_net.proofs.Entries.{pins_open, pins_closed}
use Rattle.fab_net.proofs.reading.push_entries.Goals as goal
use Rattle.fab_net.proofs.reading.push_entries.Goals.{then-not-is_open+in_ok-add, else-not-is_open}

pub add-requires : goal.add-requires
add-requires c = omega (arith, nets_le c.loop-i.pins, c.loop-i.invariant.few)

pub loop-i-preserved : goal.loop-i-preserved
loop-i-preserved c = elim c.if-not-is_open.branch [
  | then-not-is_open+in_ok-add w ↦
      let i = c.loop-i.i in
      let ws = map (λ w. w.now) c.args.words.now in
      let ss = c.args.spans.now in
      let at = get_or-map (λ w. w.now) c.args.words.now i (record { ref_ptr = (0, 0); now = [] }) [] c.loop-i-test.true in
      let lt : i < length ws = omega (arith, length-map c.args.words.now (λ w. w.now), c.loop-i-test.true) in
      let closed : is_open (get_or ws i []) ≡ false = ap is_open at ∙ sym c.is_open.ensures ∙ w.if-not-is_open.true in
      let more = pins_closed c.args.arch.now c.args.kind c.args.block i ws ss lt (omega (arith, c.requires.placed, c.loop-i-test.true)) closed in
      let rest = pins_at c.args.arch.now c.args.kind c.args.block (i + 1) (entries (drop (i + 1) ws) (drop (i + 1) ss)) in
      let q : PinOf = record { block = c.args.block; pin = i; name = get_or ws i []; span = get_or ss i no_span; drives = drives_at c.args.arch.now c.args.kind i } in
      let pushed : w.add.new.self ≡ c.loop-i.pins ++ q ∷ [] = rw (at, ← w.drives_at-drives.ensures) w.in_ok-add.ensures.pins in
      let len = ap length w.pins-is in
      let len' = ap length pushed in
      let len'' = length_push c.loop-i.pins q in
      record {
        few = omega (arith, len, len', len'', c.loop-i.invariant.few);
        left = ap (λ p. p ++ rest) (w.pins-is ∙ pushed) ∙ append_assoc c.loop-i.pins (q ∷ []) rest ∙ ap (λ x. c.loop-i.pins ++ x) (sym more) ∙ c.loop-i.invariant.left;
      }
  | else-not-is_open w ↦
      let i = c.loop-i.i in
      let ws = map (λ w. w.now) c.args.words.now in
      let ss = c.args.spans.now in
      let at = get_or-map (λ w. w.now) c.args.words.now i (record { ref_ptr = (0, 0); now = [] }) [] c.loop-i-test.true in
      let lt : i < length ws = omega (arith, length-map c.args.words.now (λ w. w.now), c.loop-i-test.true) in
      let is : is_open (get_or ws i []) ≡ true = ap is_open at ∙ sym c.is_open.ensures ∙ w.if-not-is_open.false in
      let more = pins_open c.args.arch.now c.args.kind c.args.block i ws ss lt (omega (arith, c.requires.placed, c.loop-i-test.true)) is in
      let rest = pins_at c.args.arch.now c.args.kind c.args.block (i + 1) (entries (drop (i + 1) ws) (drop (i + 1) ss)) in
      let len = ap length w.pins-is in
      record {
        few = omega (arith, len, c.loop-i.invariant.few);
        left = ap (λ p. p ++ rest) w.pins-is ∙ ap (λ x. c.loop-i.pins ++ x) (sym more) ∙ c.loop-i.invariant.left;
      }
]
