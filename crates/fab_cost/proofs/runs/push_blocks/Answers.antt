use Rattle.std.proofs.Common.{arith}
use Rattle.fab_cost.proofs.Listings.{block_fits, listed_pushed}
use Rattle.fab_cost.proofs.runs.push_blocks.Goals as goal

pub overflow_cast-terminals : goal.overflow_cast-terminals
overflow_cast-terminals c =
    let ts = c.terminals-terminals.result.now in
    let fits = block_fits c.args.design.now c.args.net.0 c.terminals.i (record { block = record { 0 = 0 }; pin = 0 }) ts c.nets-nets.ensures.lawful c.requires.net.within c.terminals-terminals.ensures c.terminals-test.true in
    omega arith

pub returns : goal.returns
returns c = listed_pushed c.args.design.now c.args.net.0 c.terminals.i c.terminals-terminals.result.now c.args.entries.now.items c.terminals.entries.items c.requires.net c.terminals-terminals.ensures (omega arith) (omega arith) c.terminals.invariant c.requires.listed
