use Rattle.std.proofs.Common.{◌≡◌, ◌<◌, length, ap, ◌∙◌, arith}
use Rattle.std.specs.Vec.{with_items}
use Rattle.std.proofs.lemmas.List.{with_items_is}
use Rattle.std.proofs.lemmas.Result.{IfOk-weaker}
use Rattle.fab_net.specs.Rows.{rows_of}
use Rattle.fab_net.specs.BlockNets.{block_pins}
use Rattle.fab_net.proofs.PinCounts.{skipped, gathered, all_gathered}
use Rattle.fab_net.proofs.blocks.gather_pins.Goals as goal
use Rattle.fab_net.proofs.blocks.gather_pins.Goals.{then-not-globals-net+in_ok-push_counts, else-not-globals-net}

pub loop-net-preserved : goal.loop-net-preserved
loop-net-preserved c =
    let n = c.loop-net.net in
    let lt : n < length c.args.terminals.now = omega (arith, c.loop-net-test.true, c.requires.same) in
    elim c.if-not-globals-net.branch [
      | then-not-globals-net+in_ok-push_counts w ↦
          let old = c.loop-net.counts.items in
          let one : length w.count_pins.new.counts ≡ length w.deref_mut.result.now = w.count_pins.auto.counts in
          let two : length w.push_counts.new.counts ≡ length w.deref_mut-then-not-globals-net.result.now = w.push_counts.auto.counts in
          let counted = with_items_is c.loop-net.counts w.count_pins.new.counts (omega (arith, one, w.deref_mut.ensures.len)) in
          let middle = w.deref_mut-then-not-globals-net.ensures.value ∙ counted in
          let items = ap (λ v. v.items) w.counts-is ∙ with_items_is (with_items c.loop-net.counts w.count_pins.new.counts) w.push_counts.new.counts (omega (arith, two, w.deref_mut-then-not-globals-net.ensures.len)) in
          let size : length w.push_counts.new.counts ≡ length old = two ∙ ap length middle ∙ one ∙ ap length w.deref_mut.ensures.value in
          let e = rw w.row-row.ensures at w.in_ok-push_counts.ensures.few in
          let r = rw (w.row-row.ensures, middle, one, w.deref_mut.ensures.value, c.loop-net.invariant.size) at w.in_ok-push_counts.ensures.rows in
          let z = rw (middle, one, w.deref_mut.ensures.value, c.loop-net.invariant.size) at w.in_ok-push_counts.ensures.none in
          let i = rw (middle, one, w.deref_mut.ensures.value, c.loop-net.invariant.size) at w.in_ok-push_counts.ensures.within in
          rw (ap (λ v. v.items) w.entries-is, items) (gathered c.args.blocks c.args.terminals.now c.args.globals.now n c.loop-net.entries.items w.push_counts.new.entries.items old w.push_counts.new.counts lt w.if-not-globals-net.true
          size z i e r c.loop-net.invariant)
      | else-not-globals-net w ↦
          rw (w.entries-is, w.counts-is) (skipped c.args.blocks c.args.terminals.now c.args.globals.now n c.loop-net.entries.items c.loop-net.counts.items lt w.if-not-globals-net.false c.loop-net.invariant)
    ]

pub returns : goal.returns
returns c =
    let n : c.loop-net.net ≡ length c.args.terminals.now = omega (arith, c.loop-net-test.false, c.loop-net.auto, c.requires.same) in
    let all = all_gathered c.args.blocks c.args.terminals.now c.args.globals.now c.loop-net.net c.loop-net.entries.items c.loop-net.counts.items n c.loop-net.invariant in
    let rows : rows_of c.args.blocks c.deref.result.now ≡ block_pins c.args.blocks c.args.terminals.now c.args.globals.now = rw c.deref.ensures.value all in
    IfOk-weaker c.gather.result (λ r. r ≡ rows_of c.args.blocks c.deref.result.now) (λ r. r ≡ block_pins c.args.blocks c.args.terminals.now c.args.globals.now) (λ r h. h ∙ rows) c.gather.ensures
