use Rattle.std.proofs.Common.{◌==◌, sym, ap, ◌∙◌}
use Rattle.std.specs.List.{list_any}
use Rattle.fab_net.specs.declared.netlist_types.NetId.{NetId}
use Rattle.fab_net.specs.Netlist.{nets_of}
use Rattle.fab_move.specs.Judge.{block_marks, has_mark}
use Rattle.fab_move.proofs.Marked.{block_among, net_among, place_among}
use Rattle.fab_commit.proofs.model.clashes.is_of_block.Goals as goal

pub returns-in-Block : goal.returns-in-Block
returns-in-Block c =
    let d = c.args.design.now in
    let b = c.args.block in
    block_among c.in-Block.other b (nets_of d b.0) ∙ sym (ap (λ m. has_mark m (block_marks d b)) c.in-Block.is)

pub returns-in-Place : goal.returns-in-Place
returns-in-Place c =
    let d = c.args.design.now in
    let b = c.args.block in
    place_among c.in-Place.field-0 b (nets_of d b.0) ∙ sym (ap (λ m. has_mark m (block_marks d b)) c.in-Place.is)

pub returns-in-Net : goal.returns-in-Net
returns-in-Net c =
    let d = c.args.design.now in
    let b = c.args.block in
    c.has_net.ensures
    ∙ ap (list_any (λ (n : NetId). c.in-Net.net.0 == n.0)) c.nets_of.ensures
    ∙ net_among c.in-Net.net (nets_of d b.0)
    ∙ sym (ap (λ m. has_mark m (block_marks d b)) c.in-Net.is)
