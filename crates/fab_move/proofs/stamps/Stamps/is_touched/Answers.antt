use Rattle.std.proofs.Common.{sym, ap, ◌∙◌}
use Rattle.std.specs.Prelude.{nat_lt, slice_index}
use Rattle.std.specs.List.{list_any}
use Rattle.fab_net.specs.declared.netlist_types.NetId.{NetId}
use Rattle.fab_move.specs.Judge.{footprint}
use Rattle.fab_move.specs.StampTables.{kept_stamp}
use Rattle.fab_move.proofs.Near.{quiet_swap}
use Rattle.fab_move.proofs.stamps.Stamps.is_touched.Goals as goal

pub list-requires : goal.list-requires
list-requires c = (c.requires.nets c.in-Move.swap c.in-Move.is).most c.if-nets.true

pub returns-then-is_quiet : goal.returns-then-is_quiet
returns-then-is_quiet c =
    let d = c.args.design.now in
    let g = c.args.grid.now in
    let s = c.in-Move.swap in
    let kept = c.args.self.now in
    let base = c.args.base in
    c.is_net_touched.ensures
    ∙ (λ i. list_any (λ (n : NetId). nat_lt base (slice_index (c.deref-then-is_quiet.ensures.value i) n.0)) ((c.list.ensures ∙ (c.requires.nets s c.in-Move.is).nets c.if-nets.true) i))
    ∙ quiet_swap d g kept base s c.requires.table (c.requires.block s c.in-Move.is) (λ b e. c.requires.other s b c.in-Move.is e) (c.is_quiet.ensures.quiet c.if-is_quiet.true)
    ∙ ap (λ p. list_any (λ m. nat_lt base (kept_stamp g kept m)) (footprint d p)) (sym c.in-Move.is)
