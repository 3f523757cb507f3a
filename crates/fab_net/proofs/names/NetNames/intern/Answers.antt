use Rattle.fab_net.proofs.Numbers.{number_of_key, with_key}
use Rattle.fab_net.proofs.names.NetNames.intern.Goals as goal

pub returns-clause-found : goal.returns-clause-found
returns-clause-found c =
    rw (c.in_ok-number.ensures.keys, c.in_ok-number.ensures.index) (number_of_key (λ n. n.now) c.args.name c.self.inside.names.keys)

pub returns-clause-names : goal.returns-clause-names
returns-clause-names c =
    rw (c.in_ok-number.ensures.keys, ← c.self.view_is) (with_key (λ n. n.now) c.args.name c.self.inside.names.keys)
