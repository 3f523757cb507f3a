use Rattle.std.proofs.Common.{◌≡◌, All, subst, sym, rules}
use Rattle.std.proofs.lemmas.List.Elements.{All-push}
use Rattle.std.specs.Arc.{arc_value}
use Rattle.fab_commit.specs.Run.Behind.{BehindOf}
use Rattle.fab_commit.specs.Run.Commits.{standing_of}
use Rattle.fab_commit.proofs.run.beside.crew_parts.Goals as goal

pub loop-worker-preserved : goal.loop-worker-preserved
loop-worker-preserved g c =
    let inv = c.loop-worker.invariant in
    let items = c.in_ok-push.ensures.items in
    let many = inv.many in
    let is : BehindOf g.row.W.Denot = record { given = arc_value c.args.given.now; standing = standing_of c.args.state.now } in
    record {
      same = subst (λ l. All (λ s. s ≡ is) l) (sym items) (All-push (λ s. s ≡ is) c.loop-worker.others.items c.in_ok-behind.field-0 inv.same c.in_ok-behind.ensures);
      many = search (rules, items, many);
    }

pub returns-clause-claims : goal.returns-clause-claims
returns-clause-claims g c k d l = (c.in_ok-board.ensures.seats.1 k d l).0
