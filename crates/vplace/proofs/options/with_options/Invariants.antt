use Rattle.std.proofs.Common.{◌≡◌, drop, map}
use Rattle.clap.specs.Words.{app_of}
use Rattle.vplace.specs.CommandLine.{rule_for, with_rules}
use Rattle.vplace.proofs.options.with_options.Given as goal

abbrev pub invariant-loop-name : goal.invariant-loop-name
invariant-loop-name l = with_rules (app_of l.command) (map (λ row. rule_for row.0.now row.1) (drop l.name-index l.options)) ≡ with_rules (app_of l.initial.command) (map (λ row. rule_for row.0.now row.1) l.options)
