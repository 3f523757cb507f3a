use Rattle.std.proofs.Common.{◌≡◌, false, map, not, ◌&&◌, refl, sym, ap, ◌∙◌}
use Rattle.std.specs.Prelude.{nat_lt, slice_index}
use Rattle.std.specs.List.{list_any}
use Rattle.std.proofs.lemmas.Bool.{le-ltb}
use Rattle.fab_net.specs.declared.netlist_types.NetId.{NetId}
use Rattle.fab_net.specs.Netlist.{nets_of}
use Rattle.fab_cost.specs.Runs.{is_large}
use Rattle.fab_cost.proofs.Few.{nets_few}
use Rattle.fab_move.specs.declared.marks.Mark.TheVariants.{Net}
use Rattle.fab_move.specs.StampTables.{stamp_in}
use Rattle.fab_move.proofs.Stamping.{nets_below, nets_touched_in_few}
use Rattle.fab_move.proofs.stamps.Stamps.is_block_touched_in_few.Goals as goal

pub is_net_of_few_touched-requires : goal.is_net_of_few_touched-requires
is_net_of_few_touched-requires c = nets_below c.args.design.now c.args.block.0 c.nets_of.result.now _ c.nets_of.ensures refl

pub returns-else-base-own : goal.returns-else-base-own
returns-else-base-own c g =
    let kept = c.args.self.now in
    let base = c.args.base in
    let d = c.args.design.now in
    let b = c.args.block.0 in
    let at : c.stamp_at-own.result ≡ slice_index kept.blocks.items b = c.stamp_at-own.ensures ∙ ap (λ l. slice_index l b) c.deref.ensures.value in
    let low : nat_lt base (slice_index kept.blocks.items b) ≡ false = ap (nat_lt base) (sym at) ∙ le-ltb base c.stamp_at-own.result c.if-base-own.false in
    rw low
    (c.is_net_of_few_touched.ensures
    ∙ (λ i. list_any (λ (n : NetId). nat_lt base (slice_index (c.deref-else-base-own.ensures.value i) n.0) && not (is_large d n.0)) (c.nets_of.ensures i))
    ∙ nets_touched_in_few d g base kept.blocks.items kept.places.items kept.nets.items (nets_of d b)
    ∙ ap (λ ns. list_any (λ m. nat_lt base (stamp_in g kept.blocks.items kept.places.items kept.nets.items m)) (map (λ n. Net (record { 0 = n })) ns)) (sym (nets_few d b)))
