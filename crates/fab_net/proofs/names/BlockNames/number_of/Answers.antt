use Rattle.std.proofs.Common.{sym, ◌∙◌}
use Rattle.fab_net.proofs.Numbers.{number-map}
use Rattle.fab_net.proofs.names.BlockNames.number_of.Goals as goal

pub returns : goal.returns
returns c = rw (← c.self.view_is) (c.get_index_of.ensures.index ∙ sym (number-map (λ k. k.items) c.args.name.now c.self.inside.names.keys))
