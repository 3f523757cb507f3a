use Rattle.std.proofs.Common.{ap, rules, arith}
use Rattle.fab_dial.specs.declared.rule.View.{View}
use Rattle.fab_dial.proofs.Steps.{newcomers}
use Rattle.fab_dial.proofs.ends.Dial.watcher.Goals as goal

pub split_pass-requires : goal.split_pass-requires
split_pass-requires c = (omega arith, (omega arith, (search rules, newcomers _ _ (ap (λ (v : View). v.is_shower) c.shower.invariant.0))))
