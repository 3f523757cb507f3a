use Rattle.std.proofs.Common.{◌≤◌, arith}
use Rattle.fab_move.proofs.Targets.{logic_near}
use Rattle.fab_move.proofs.proposals.logic_target.Goals as goal

pub returns-clause-kind : goal.returns-clause-kind
returns-clause-kind c =
    let x : c.near.result ≤ c.args.grid.now.nx = (let h = c.near.ensures.high in let n = c.nx.ensures.value in grind (arith, h, n)) in
    let y : c.near-2.result ≤ c.args.grid.now.ny = (let h = c.near-2.ensures.high in let n = c.ny.ensures.value in grind (arith, h, n)) in
    logic_near c.args.grid.now c.near.result c.near-2.result c.near.ensures.low x c.near-2.ensures.low y
