use Rattle.std.proofs.Common.{◌≡◌, ℕ, ◌+◌, ◌<◌, List, [], ◌∷◌, ◌++◌, length, cond, get_or, sum_by, All, refl, sym, ap, ◌∙◌, subst, arith, rules, length-append, All}
use Rattle.std.proofs.lemmas.List.Elements.{All-pop}
use Rattle.std.proofs.lemmas.List.{nil_from_length}
use Rattle.atomic_table.specs.Table.{Me}
use Rattle.fab_board.specs.declared.rule.View.{View}
use Rattle.fab_board.specs.Views.{SeatModel}
use Rattle.fab_board.proofs.Moves.{gathers}
use Rattle.fab_board.proofs.Gathering.{begins, goes_on, ends}
use Rattle.fab_board.proofs.board.gather.Goals as goal

pub loop-next-init : goal.loop-next-init
loop-next-init c = let i = c.first.invariant in let is = c.first.view_is in let own = All-pop (λ (s : SeatModel). s.board.table ≡ c.args.shared.now.table_id) c.args.seats.items c.pop.new.self.items (Rattle.std.proofs.Common.Some c.in-Some.first) c.in-Some.ensures.items c.requires.own in (
  ap (λ (s : SeatModel). s.board.table) is ∙ own.1,
  i.0,
  begins _ _ _ c.in-Some.first c.first.inside.seat.me.0 c.in-Some.ensures.items c.requires.own (record { parts = i.1; list = ap (λ (s : SeatModel). s.list) is; told = i.2 ∙ ap (λ (s : SeatModel). cond {A = ℕ} s.told 1 0) is }),
)

pub join_seat-requires : goal.join_seat-requires
join_seat-requires c = let i = c.loop-next.invariant in let w = c.requires.table in let is = c.next.view_is in
    let own = All-pop (λ (s : SeatModel). s.board.table ≡ c.args.shared.now.table_id) c.loop-next.seats.items c.pop-in-loop-next.new.self.items (Rattle.std.proofs.Common.Some c.in-Some-pop.next) c.in-Some-pop.ensures.items i.2.own in
    (i.0, ap (λ (s : SeatModel). s.board.table) is ∙ own.1, c.next.invariant.0, omega arith, gathers _ _ _ _ _ i.2.some_part)

pub loop-next-preserved : goal.loop-next-preserved
loop-next-preserved c = let i = c.loop-next.invariant in let n = c.next.invariant in let is = c.next.view_is in let j = c.join_seat.ensures in (
  j.0 ∙ i.0,
  ap (λ (m : Me (Unit {0}) View). m.1) j.2 ∙ i.1,
  goes_on _ _ c.loop-next.seats.items _ c.in-Some-pop.next c.loop-next.seat.me.0 c.next.inside.seat.me.0 _ c.in-Some-pop.ensures.items i.2 (record { parts = n.1; list = ap (λ (s : SeatModel). s.list) is; told = n.2 ∙ ap (λ (s : SeatModel). cond {A = ℕ} s.told 1 0) is }) (ap (λ (m : Me (Unit {0}) View). m.0) j.2),
)

pub returns-clause-seat : goal.returns-clause-seat
returns-clause-seat c = let i = c.loop-next.invariant in let e = ends _ _ _ _ i.2 (nil_from_length _ (let k = c.in_default-pop.ensures.cases in search rules)) in (i.0, i.1, e.0)

pub returns-clause-numbers : goal.returns-clause-numbers
returns-clause-numbers c = let i = c.loop-next.invariant in let e = ends _ _ _ _ i.2 (nil_from_length _ (let k = c.in_default-pop.ensures.cases in search rules)) in e.1

pub returns-clause-told : goal.returns-clause-told
returns-clause-told c = let i = c.loop-next.invariant in let e = ends _ _ _ _ i.2 (nil_from_length _ (let k = c.in_default-pop.ensures.cases in search rules)) in e.2
