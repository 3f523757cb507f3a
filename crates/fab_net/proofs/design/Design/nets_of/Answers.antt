use Rattle.std.proofs.Common.{[], length, get_or, ap, ◌∙◌, arith}
use Rattle.std.proofs.lemmas.List.FromFn.{length-map-range_with_len, get_or-map-range_with_len}
use Rattle.fab_net.specs.BlockNets.{nets_on}
use Rattle.fab_net.proofs.OnBlock.{nets_on_is}
use Rattle.fab_net.proofs.design.Design.nets_of.Goals as goal

pub row-requires : goal.row-requires
row-requires c =
    let n = ap length c.self.invariant.0.0 ∙ length-map-range_with_len (nets_on c.self.inside.terminals c.self.inside.globals.items) 0 (length c.self.inside.kinds.items) in
    let v = ap (λ x. length x.kinds) c.self.view_is in
    omega (arith, n, v, c.requires)

pub returns : goal.returns
returns c =
    let f = nets_on c.self.inside.terminals c.self.inside.globals.items in
    let v = ap (λ x. length x.kinds) c.self.view_is in
    let lawful = rw c.self.view_is at c.self.invariant.1 in
    c.row.ensures ∙ ap (λ xs. get_or xs c.args.block.0 []) c.self.invariant.0.0
    ∙ get_or-map-range_with_len f 0 (length c.self.inside.kinds.items) c.args.block.0 c.args.block.0 [] (omega (arith, v, c.requires)) (omega arith)
    ∙ ap (λ x. nets_on x.terminals x.globals c.args.block.0) c.self.view_is
    ∙ nets_on_is c.args.self.now c.args.block.0 lawful.told
