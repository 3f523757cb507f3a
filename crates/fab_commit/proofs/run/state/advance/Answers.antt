use Rattle.std.proofs.Common.{◌≡◌, ◌+◌, true, arith, rules, sym, subst, ◌∙◌}
use Rattle.fab_commit.specs.Serial.{one_if}
use Rattle.fab_commit.specs.Run.Commits.{IsAdvanced}
use Rattle.fab_commit.proofs.RunLemmas.Advancing.{after_all}
use Rattle.fab_commit.proofs.run.state.advance.Goals as goal

pub returns-in-None : goal.returns-in-None
returns-in-None c =
    let s = c.args.stage.now in
    let p = c.args.schedule.now in
    let over : s.done + 1 ≡ p.moves = (let m = c.moves-moves.ensures.value in let l = c.requires.left in grind (arith, m, l)) in
    let took : s.accepted + c.from.result ≡ s.accepted + one_if c.args.accepted = search rules in
    let is = after_all p c.args.side s c.args.accepted (s.accepted + c.from.result) c.requires.side.0 c.requires.stage over took (sym c.in-None.is ∙ c.next_stage.ensures.stage) in
    subst (λ n. IsAdvanced p c.args.side s c.args.accepted n true) (sym c.stage_after_frozen.ensures) is
