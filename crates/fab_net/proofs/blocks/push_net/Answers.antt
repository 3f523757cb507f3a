use Rattle.std.proofs.Common.{◌<◌, length, get_or, refl, ap, ◌∙◌}
use Rattle.std.proofs.lemmas.List.{get_or_default}
use Rattle.std.proofs.lemmas.List.Elements.{All-get_or}
use Rattle.fab_net.specs.declared.netlist_types.Terminal.{Terminal}
use Rattle.fab_net.proofs.Stamps.{started, passed, stamped}
use Rattle.fab_net.proofs.blocks.push_net.Goals as goal
use Rattle.fab_net.proofs.blocks.push_net.Goals.{then-stamps-block+in_ok-push, else-stamps-block}

pub loop-t-init : goal.loop-t-init
loop-t-init c = started _ c.args.net c.args.row.now c.args.entries.now.items c.args.stamps.now refl c.requires.stamped c.requires.within

pub loop-t-preserved : goal.loop-t-preserved
loop-t-preserved c =
    let blocks = length c.args.stamps.now in
    let row = c.args.row.now in
    let j = c.loop-t.t-index in
    let none : Terminal = record { block = record { 0 = 0 }; pin = 0 } in
    let t = get_or row j none in
    let is = get_or_default row j none t c.loop-t-test.true in
    let k = All-get_or (λ (x : Terminal). x.block.0 < blocks) row j none c.loop-t-test.true c.requires.blocks in
    elim c.if-stamps-block.branch [
      | then-stamps-block+in_ok-push w ↦
          let items = ap (λ v. v.items) w.entries-is ∙ w.in_ok-push.ensures.items in
          rw (items, w.stamps-is) (stamped blocks c.args.net row j c.args.entries.now.items c.loop-t.entries.items c.loop-t.stamps t c.loop-t-test.true is k w.if-stamps-block.true c.loop-t.invariant)
      | else-stamps-block w ↦
          rw (w.entries-is, w.stamps-is) (passed blocks c.args.net row j c.args.entries.now.items c.loop-t.entries.items c.loop-t.stamps t c.loop-t-test.true is k w.if-stamps-block.false c.loop-t.invariant)
    ]
