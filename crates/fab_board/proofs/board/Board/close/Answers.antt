use Rattle.std.proofs.Common.{◌≡◌, ℕ, ◌<◌, List, Any, Bool, true, cond, sum_by, sym, ap, ◌∙◌, arith, min}
use Rattle.std.proofs.lemmas.List.Sums.{get_or-le-sum_by}
use Rattle.fab_board.specs.Views.{SeatModel, BoardModel}
use Rattle.fab_board.specs.declared.rule.Size.{Size}
use Rattle.fab_board.specs.Counts.{times, once_below}
use Rattle.fab_board.proofs.Counting.{dealt_once}
use Rattle.fab_board.proofs.Moves.{closes}
use Rattle.fab_board.proofs.Gathering.{says_none}
use Rattle.fab_board.proofs.board.Board.close.Goals as goal

some_told : (xs : List SeatModel) → Any (λ s. s.told ≡ true) xs → 0 < sum_by says_none xs
some_told xs h = let a = get_or-le-sum_by says_none xs h.0 h.1 h.2 in let e = ap says_none h.3 in let t = ap (λ (b : Bool). cond {A = ℕ} b 1 0) h.4 in omega arith

abbrev Ended : goal.After-min → Type 0
Ended c = ((x : ℕ) → times x c.gather-seat.result.me.0.list ≡ once_below x c.min.result) × (0 < c.gather-seat.result.me.0.told → c.min.result ≡ c.self.inside.count)

ended : (c : goal.After-min) → Ended c
ended c = let i = c.self.invariant in let all = c.requires.all in let is = c.self.view_is in
    let key = i.2 in
    let parts : c.gather-seat.result.me.0.parts ≡ c.self.inside.table.shared.key.seats = c.gather-seat.ensures.seat.2 ∙ all ∙ sym (ap (λ (b : BoardModel). b.seats) is) ∙ sym (ap (λ (k : Size). k.seats) key) in
    let least = c.min.ensures ∙ ap (λ (n : ℕ). min c.word-word.result n) (sym (ap (λ (k : Size). k.count) key)) in
    let e = closes c.self.inside.table.shared.key _ c.gather-seat.result.me.0 _ _ c.word-word.result c.min.result c.close_with-closed.ensures.values.2 c.word-word.ensures parts least in
    (e.0, λ h. e.1 h ∙ ap (λ (k : Size). k.count) key)

pub returns-clause-numbers : goal.returns-clause-numbers
returns-clause-numbers c = dealt_once c.min.result c.args.seats.items (λ x. sym (c.gather-seat.ensures.numbers x) ∙ (ended c).0 x)

pub returns-clause-told : goal.returns-clause-told
returns-clause-told c = λ h. let s = some_told c.args.seats.items h in let t = c.gather-seat.ensures.told in (ended c).1 (omega arith) ∙ ap (λ (b : BoardModel). b.name.count) c.self.view_is
