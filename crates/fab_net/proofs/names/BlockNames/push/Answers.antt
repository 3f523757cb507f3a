use Rattle.fab_net.proofs.Numbers.{new_key}
use Rattle.fab_net.proofs.names.BlockNames.push.Goals as goal

pub returns-clause-names : goal.returns-clause-names
returns-clause-names c =
    let none = rw (← c.self.view_is) at c.requires in
    rw (c.in_ok-insert.ensures.keys, ← c.self.view_is) (new_key (λ n. n.items) c.in_ok-own.own c.args.name.now c.self.inside.names.keys c.in_ok-own.ensures.items none)
