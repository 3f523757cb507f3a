use Rattle.std.proofs.Common.{ap, rules, arith}
use Rattle.fab_dial.specs.declared.rule.View.{View}
use Rattle.fab_dial.proofs.Steps.{hands_on, joins}
use Rattle.fab_dial.proofs.ends.Dial.check.Goals as goal

pub split_pass-whole-requires : goal.split_pass-whole-requires
split_pass-whole-requires g c = (omega arith, (omega arith, (search rules, hands_on _ _ (ap (λ (v : View). v.is_shower) c.watcher.invariant.0))))

pub join_pass-requires : goal.join_pass-requires
join_pass-requires g c = (omega arith, (omega arith, (search rules, joins _ _ _ _)))
