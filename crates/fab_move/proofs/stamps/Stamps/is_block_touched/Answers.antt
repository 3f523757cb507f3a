use Rattle.std.proofs.Common.{◌≡◌, false, sym, ap, ◌∙◌}
use Rattle.std.specs.Prelude.{nat_lt, slice_index}
use Rattle.std.specs.List.{list_any}
use Rattle.std.proofs.lemmas.Bool.{le-ltb}
use Rattle.fab_net.specs.declared.netlist_types.NetId.{NetId}
use Rattle.fab_net.specs.Netlist.{nets_of}
use Rattle.fab_move.proofs.Stamping.{nets_touched}
use Rattle.fab_move.proofs.stamps.Stamps.is_block_touched.Goals as goal

pub returns-else-base-stamp_at : goal.returns-else-base-stamp_at
returns-else-base-stamp_at c g =
    let kept = c.args.self.now in
    let base = c.args.base in
    let b = c.args.block.0 in
    let at : c.stamp_at.result ≡ slice_index kept.blocks.items b = c.stamp_at.ensures ∙ ap (λ l. slice_index l b) c.deref.ensures.value in
    let low : nat_lt base (slice_index kept.blocks.items b) ≡ false = ap (nat_lt base) (sym at) ∙ le-ltb base c.stamp_at.result c.if-base-stamp_at.false in
    rw low
    (c.is_net_touched.ensures
    ∙ (λ i. list_any (λ (n : NetId). nat_lt base (slice_index (c.deref-else-base-stamp_at.ensures.value i) n.0)) (c.nets_of.ensures i))
    ∙ nets_touched g base kept.blocks.items kept.places.items kept.nets.items (nets_of c.args.design.now b))
