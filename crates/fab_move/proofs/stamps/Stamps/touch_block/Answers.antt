use Rattle.std.proofs.Common.{ap, subst, cond, ◌∙◌, arith}
use Rattle.std.specs.Prelude.{IfSome, ℕ, Bool, List, ◌==◌, slice_index}
use Rattle.std.specs.List.{list_any}
use Rattle.std.proofs.lemmas.List.{length-set}
use Rattle.fab_net.specs.declared.netlist_types.NetId.{NetId}
use Rattle.fab_cost.specs.Swapping.{IsMadeFor}
use Rattle.fab_move.proofs.Near.{floor_raised, near_raised}
use Rattle.fab_move.proofs.Stamping.{block_touched, nets_below}
use Rattle.fab_move.proofs.stamps.Stamps.touch_block.Goals as goal

abbrev any : ℕ → List NetId → Bool
any k ns = list_any (λ (n : NetId). k == n.0) ns

pub stamp_nets-requires : goal.stamp_nets-requires
stamp_nets-requires c =
    nets_below c.args.design.now c.args.block.0 c.nets_of-nets.result.now _ c.nets_of-nets.ensures c.requires.table.nets

pub lift_near-requires-clause-made : goal.lift_near-requires-clause-made
lift_near-requires-clause-made c = subst (λ o. IfSome o (λ b. IsMadeFor b.now c.args.design.now)) c.in-Some.is c.requires.near

pub lift_near-requires-clause-long : goal.lift_near-requires-clause-long
lift_near-requires-clause-long c =
    let near = c.requires.table.near.long in
    let same = c.lift_one.ensures.long in
    omega (arith, near, same)

pub returns-in-Some-clause-table : goal.returns-in-Some-clause-table
returns-in-Some-clause-table c =
    let s = c.args.self.now in
    let d = c.args.design.now in
    let ns = c.nets_of-nets.result.now in
    let blocks = c.requires.table.blocks in
    let low = c.requires.block in
    record {
      blocks = length-set s.blocks.items c.args.block.0 c.args.stamp ∙ c.requires.table.blocks;
      places = c.requires.table.places;
      nets = c.stamp_nets.ensures.length ∙ c.requires.table.nets;
      near =
          near_raised d s.blocks.items s.nets.items c.stamp_nets.new.stamps.items s.near.items c.lift_one.new.numbers.items c.lift_near.new.numbers.items s.floor c.args.block.0 c.args.stamp ns c.requires.table.near (omega (arith, blocks, low)) c.nets_of-nets.ensures c.stamp_nets.ensures.each
          c.lift_one.ensures c.lift_near.ensures;
    }

pub returns-in-Some-clause-touched : goal.returns-in-Some-clause-touched
returns-in-Some-clause-touched c =
    let d = c.args.design.now in
    let blocks = c.requires.table.blocks in
    let low = c.requires.block in
    block_touched d c.args.grid.now c.args.self.now.blocks.items c.args.self.now.places.items c.args.self.now.nets.items c.stamp_nets.new.stamps.items c.args.block c.args.stamp (omega (arith, blocks, low))
    (λ k. c.stamp_nets.ensures.each k ∙ ap (λ l. cond (any k l) c.args.stamp (slice_index c.args.self.now.nets.items k)) c.nets_of-nets.ensures)

pub returns-then-self-stamp-clause-table : goal.returns-then-self-stamp-clause-table
returns-then-self-stamp-clause-table c =
    let s = c.args.self.now in
    let blocks = c.requires.table.blocks in
    let low = c.requires.block in
    let less = c.if-self-stamp.true in
    record {
      blocks = length-set s.blocks.items c.args.block.0 c.args.stamp ∙ c.requires.table.blocks;
      places = c.requires.table.places;
      nets = c.stamp_nets.ensures.length ∙ c.requires.table.nets;
      near = floor_raised c.args.design.now s.blocks.items s.nets.items c.stamp_nets.new.stamps.items s.near.items s.floor c.args.stamp c.args.block.0 c.args.stamp c.nets_of-nets.result.now c.requires.table.near (omega (arith, blocks, low)) c.stamp_nets.ensures.each (omega (arith, less)) (omega arith);
    }

pub returns-then-self-stamp-clause-touched : goal.returns-then-self-stamp-clause-touched
returns-then-self-stamp-clause-touched c =
    let d = c.args.design.now in
    let blocks = c.requires.table.blocks in
    let low = c.requires.block in
    block_touched d c.args.grid.now c.args.self.now.blocks.items c.args.self.now.places.items c.args.self.now.nets.items c.stamp_nets.new.stamps.items c.args.block c.args.stamp (omega (arith, blocks, low))
    (λ k. c.stamp_nets.ensures.each k ∙ ap (λ l. cond (any k l) c.args.stamp (slice_index c.args.self.now.nets.items k)) c.nets_of-nets.ensures)

pub returns-else-self-stamp-clause-table : goal.returns-else-self-stamp-clause-table
returns-else-self-stamp-clause-table c =
    let s = c.args.self.now in
    let blocks = c.requires.table.blocks in
    let low = c.requires.block in
    let most = c.if-self-stamp.false in
    record {
      blocks = length-set s.blocks.items c.args.block.0 c.args.stamp ∙ c.requires.table.blocks;
      places = c.requires.table.places;
      nets = c.stamp_nets.ensures.length ∙ c.requires.table.nets;
      near = floor_raised c.args.design.now s.blocks.items s.nets.items c.stamp_nets.new.stamps.items s.near.items s.floor s.floor c.args.block.0 c.args.stamp c.nets_of-nets.result.now c.requires.table.near (omega (arith, blocks, low)) c.stamp_nets.ensures.each (omega arith) (omega (arith, most));
    }

pub returns-else-self-stamp-clause-touched : goal.returns-else-self-stamp-clause-touched
returns-else-self-stamp-clause-touched c =
    let d = c.args.design.now in
    let blocks = c.requires.table.blocks in
    let low = c.requires.block in
    block_touched d c.args.grid.now c.args.self.now.blocks.items c.args.self.now.places.items c.args.self.now.nets.items c.stamp_nets.new.stamps.items c.args.block c.args.stamp (omega (arith, blocks, low))
    (λ k. c.stamp_nets.ensures.each k ∙ ap (λ l. cond (any k l) c.args.stamp (slice_index c.args.self.now.nets.items k)) c.nets_of-nets.ensures)
