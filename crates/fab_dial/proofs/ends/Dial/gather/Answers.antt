use Rattle.std.proofs.Common.{subst, ◌∙◌, rules}
use Rattle.std.proofs.lemmas.List.{nil_from_length}
use Rattle.fab_dial.specs.Models.{ShowerModel}
use Rattle.fab_dial.specs.Shown.{StartsWith}
use Rattle.fab_dial.proofs.Gathering.{gathers_last, gathers_all}
use Rattle.fab_dial.proofs.ends.Dial.gather.Goals as goal

pub loop-watcher-preserved : goal.loop-watcher-preserved
loop-watcher-preserved g c = let i = c.loop-watcher.invariant in let t = c.check.ensures in record {
  same = t.same ∙ i.same;
  gathered = gathers_last _ _ _ _ _ c.in-Some.watcher c.in-Some.ensures.items i.gathered (subst (λ (s : ShowerModel). StartsWith s.shown c.in-Some.watcher.seen) i.same t.seen);
}

pub returns-clause-seen : goal.returns-clause-seen
returns-clause-seen g c = gathers_all _ _ _ _ c.loop-watcher.invariant.gathered (nil_from_length _ (let k = c.in_default.ensures.cases in search rules))
