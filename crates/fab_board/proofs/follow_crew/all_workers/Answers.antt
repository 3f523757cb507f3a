use Rattle.std.proofs.Common.{◌≡◌, ◌+◌, length, Some, [], ◌∷◌, ap, ◌∙◌, arith, length-append}
use Rattle.fab_board.specs.Views.{SeatModel}
use Rattle.fab_board.proofs.Steps.{all_rest}
use Rattle.fab_board.proofs.follow_crew.all_workers.Goals as goal

pub new_worker-requires-clause-start : goal.new_worker-requires-clause-start
new_worker-requires-clause-start g c = (all_rest (λ s. g.J.Origin.start ≡ Some s) c.loop-state.states.items c.pop.new.self.items c.in-Some.state c.in-Some.ensures.items c.loop-state.invariant.start).1

pub new_worker-requires-clause-seat : goal.new_worker-requires-clause-seat
new_worker-requires-clause-seat g c = (all_rest (λ (s : SeatModel). s.board ≡ g.J.Boarding.board) c.loop-state.claims.items c.pop-in-Some.new.self.items c.in-Some-pop.claim c.in-Some-pop.ensures.items c.loop-state.invariant.claims).1

pub loop-state-preserved : goal.loop-state-preserved
loop-state-preserved g c =
    let inv = c.loop-state.invariant in
    let left = c.pop.new.self.items in
    let claims = c.pop-in-Some.new.self.items in
    let one : length c.loop-state.states.items ≡ length left + 1 = ap (λ l. length l) c.in-Some.ensures.items ∙ length-append left (c.in-Some.state ∷ []) in
    let two : length c.loop-state.claims.items ≡ length claims + 1 = ap (λ l. length l) c.in-Some-pop.ensures.items ∙ length-append claims (c.in-Some-pop.claim ∷ []) in
    let three : length c.push.new.self.items ≡ length c.loop-state.workers.items + 1 = ap (λ l. length l) c.in_ok-push.ensures.items ∙ length-append c.loop-state.workers.items (c.in_ok-new_worker.field-0 ∷ []) in
    let same = inv.same in
    let many = inv.many in
    record {
      start = (all_rest (λ s. g.J.Origin.start ≡ Some s) c.loop-state.states.items left c.in-Some.state c.in-Some.ensures.items inv.start).0;
      claims = (all_rest (λ (s : SeatModel). s.board ≡ g.J.Boarding.board) c.loop-state.claims.items claims c.in-Some-pop.claim c.in-Some-pop.ensures.items inv.claims).0;
      same = omega (arith, one, two, same);
      many = omega (arith, one, three, many);
    }
