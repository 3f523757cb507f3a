use Rattle.std.proofs.Common.{◌+◌, ◌<◌, length, length-set, ◌∙◌, arith}
use Rattle.fab_commit.specs.Run.Commits.{run_for, standing_of}
use Rattle.fab_commit.specs.Run.Foreseen.{IsForeseen}
use Rattle.fab_commit.proofs.RunLemmas.Foreseeing.{set_each}
use Rattle.fab_commit.proofs.run.behind.BehindFollowPostForeseen.judge.Goals as goal

pub places-preserved : goal.places-preserved
places-preserved g c =
    let r = run_for g.W.Words.moves c.deref-given.result.now in
    let inv = c.places.invariant in
    let many = inv.many in
    let few0 = c.requires.few.0 in
    let few1 = c.requires.few.1 in
    let more = c.places-test.true in
    let low : c.places.i < length c.places.places = omega (arith, many, few0, few1, more) in
    record {
      many = length-set c.places.places c.places.i c.foresee.result ∙ many;
      each = set_each (λ k f. IsForeseen r (standing_of c.self.inside.state) (c.args.first + k) f) c.places.places c.places.i c.foresee.result low c.foresee.ensures inv.each;
    }
