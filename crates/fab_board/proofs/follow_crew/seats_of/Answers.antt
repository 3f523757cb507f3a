use Rattle.std.proofs.Common.{◌≡◌, All, List, subst, sym}
use Rattle.std.proofs.lemmas.List.Elements.{All-push}
use Rattle.fab_board.specs.Views.{SeatModel}
use Rattle.fab_board.proofs.follow_crew.seats_of.Goals as goal

pub loop-worker-preserved : goal.loop-worker-preserved
loop-worker-preserved g c =
    let own : SeatModel → Type 0 = λ s. s.board ≡ g.J.Boarding.board in
    subst (λ (l : List SeatModel). All own l) (sym c.in-Ok.ensures.items) (All-push own c.loop-worker.room.items c.into_seat.result c.loop-worker.invariant c.into_seat.ensures)
