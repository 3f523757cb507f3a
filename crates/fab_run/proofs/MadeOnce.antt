-- A piece has only one answer.
use Rattle.std.proofs.Common.{◌≡◌, ℕ, zero, suc, ◌==◌, ◌+◌, true, List, [], ◌∷◌, ◌++◌, Option, Some, None, is_some, refl, sym, ap, subst, ◌∙◌, inl, inr, arith}
use Rattle.std.specs.Prelude.{◌/◌, if◌then◌else◌}
use Rattle.std.proofs.lemmas.Bool.{false≢true}
use Rattle.fab_arch.specs.Grid.{GridShape}
use Rattle.fab_net.specs.Netlist.{Netlist}
use Rattle.fab_dial.specs.declared.readings.Reading.{Reading}
use Rattle.fab_move.specs.Stream.{stream_moves}
use Rattle.fab_sched.specs.declared.schedules.Stage.{Stage}
use Rattle.fab_commit.specs.declared.run.point.Point.{Point}
use Rattle.fab_commit.specs.Run.Points.{IsPoint, standing_at}
use Rattle.fab_commit.specs.Run.Readings.{readings}
use Rattle.fab_commit.specs.Serial.{Run, Standing, accepted_among, accepted_here, from, judged_here, left_at, numbers_if, one_if, or_zero, stage_at, step}
use Rattle.fab_commit.specs.Model.Turns.{redone_in_run}
use Rattle.fab_commit.proofs.RunLemmas.Standings.{points_are_told_again}
use Rattle.fab_run.specs.declared.inputs.Ending.{Ending}
use Rattle.fab_run.specs.declared.inputs.Ending.TheVariants.{Finished, Stopped}
use Rattle.fab_run.specs.Ends.{Answer, AreRedone, EndsAs, IsPiece, IsPointAt, Piece, piece_report}
use Rattle.fab_run.specs.Piece.{IsOver, cost_at, cost_here, end_line, line_here, stage_costs, stage_lines}
use Rattle.fab_run.specs.Placed.{IsMade, IsPlaceOut, text_by}
use Rattle.fab_run.specs.PointMeaning.{IsSamePoint}
use Rattle.fab_run.specs.RunReport.{stage_line}
use Rattle.fab_run.specs.SameAnswers.{AreTheSame, Call, EndAlike}
use Rattle.fab_run.specs.Setting.{Texts}
use Rattle.fab_run.specs.Shown.{AreShown}
use Rattle.fab_run.proofs.Pieces.{from_still, still}

among_still : (r : Run) (x : Standing) (n : ℕ) → x.heat ≡ None → accepted_among r x n ≡ []
among_still r x zero e = refl
among_still r x (suc n) e =
    let now : accepted_here r x ≡ [] = ap (λ q. if is_some q then numbers_if x.done (judged_here r x x.done).accepted else []) e in
    let later : accepted_among r (step r x) n ≡ [] = ap (λ y. accepted_among r y n) (still r x e) ∙ among_still r x n e in
    λ i. now i ++ later i

lines_still : (r : Run) (x : Standing) (n : ℕ) → x.heat ≡ None → stage_lines r x n ≡ []
lines_still r x zero e = refl
lines_still r x (suc n) e =
    let now : line_here r x ≡ [] = ap (λ q. if left_at r.plan.moves x.done q == 1 then
    stage_line (x.done / r.plan.moves) (or_zero x.heat) x.range r.plan.moves (x.accepted + one_if (judged_here r x x.done).accepted) (cost_at r (step r x))
    else []) e in
    let later : stage_lines r (step r x) n ≡ [] = ap (λ y. stage_lines r y n) (still r x e) ∙ lines_still r x n e in
    λ i. now i ++ later i

costs_still : (r : Run) (x : Standing) (n : ℕ) → x.heat ≡ None → stage_costs r x n ≡ []
costs_still r x zero e = refl
costs_still r x (suc n) e =
    let now : cost_here r x ≡ [] = ap (λ q. if left_at r.plan.moves x.done q == 1 then cost_at r (step r x) ∷ [] else []) e in
    let later : stage_costs r (step r x) n ≡ [] = ap (λ y. stage_costs r y n) (still r x e) ∙ costs_still r x n e in
    λ i. now i ++ later i

-- so after all numbers of moves after which it is over, it stands and has told the same
record EndedOnce (r : Run) (x : Standing) (m n : ℕ) : Type 0 where
  pub stands : from r x m ≡ from r x n
  pub numbers : accepted_among r x m ≡ accepted_among r x n
  pub lines : stage_lines r x m ≡ stage_lines r x n
  pub values : stage_costs r x m ≡ stage_costs r x n

ends_same : (r : Run) (x : Standing) (m n : ℕ) → IsOver r x m → IsOver r x n → EndedOnce r x m n
ends_same r x zero n a b = record { stands = sym (from_still r x n a); numbers = sym (among_still r x n a); lines = sym (lines_still r x n a); values = sym (costs_still r x n a) }
ends_same r x (suc m) zero a b = record { stands = from_still r x (suc m) b; numbers = among_still r x (suc m) b; lines = lines_still r x (suc m) b; values = costs_still r x (suc m) b }
ends_same r x (suc m) (suc n) a b =
    let e = ends_same r (step r x) m n a b in
    record { stands = e.stands; numbers = ap (λ l. accepted_here r x ++ l) e.numbers; lines = ap (λ l. line_here r x ++ l) e.lines; values = ap (λ l. cost_here r x ++ l) e.values }

one_number : (r : Run) (x : Standing) (m n : ℕ) → m ≡ n → EndedOnce r x m n
one_number r x m n e = record { stands = ap (from r x) e; numbers = ap (accepted_among r x) e; lines = ap (stage_lines r x) e; values = ap (stage_costs r x) e }

stop_once : (stop : Option ℕ) (a m n : ℕ) → stop ≡ Some (a + m) → stop ≡ Some (a + n) → m ≡ n
stop_once stop a m n h k =
    let both : Some (a + m) ≡ Some (a + n) = sym h ∙ k in
    let same : a + m ≡ a + n = (let q = both in cc) in
    omega (arith, same)

not_both : {P : Type 0} (h : Option ℕ) → is_some h ≡ true → h ≡ None → P
not_both h going over = absurd (false≢true (sym (ap is_some over) ∙ going))

piece_once : (r : Run) (x : Standing) (stop : Option ℕ) (m n : ℕ) → IsPiece r x stop m → IsPiece r x stop n → EndedOnce r x m n
piece_once r x stop m n (inl s) (inl t) = one_number r x m n (stop_once stop x.done m n s.here t.here)
piece_once r x stop m n (inl s) (inr t) = not_both (from r x m).heat s.going (t.passed m s.here)
piece_once r x stop m n (inr s) (inl t) = not_both (from r x n).heat t.going (s.passed n t.here)
piece_once r x stop m n (inr s) (inr t) = ends_same r x m n s.over t.over

-- the standing of a run determines its point

stage_once : (d : Netlist) (g : GridShape) (p q : Point) → IsPoint d g p → IsPoint d g q → p.schedule ≡ q.schedule → standing_at p ≡ standing_at q → p.stage ≡ q.stage
stage_once d g p q a b schedule stands =
    let one = (points_are_told_again stream_moves d g p 0 a).0.stage in
    let two = (points_are_told_again stream_moves d g q 0 b).0.stage in
    let same : stage_at p.schedule (standing_at p) (standing_at p).heat ≡ stage_at q.schedule (standing_at q) (standing_at q).heat = λ i. stage_at (schedule i) (stands i) (stands i).heat in
    let both : Some p.stage ≡ Some q.stage = one ∙ same ∙ sym two in
    some_stage p.stage q.stage both
  where
    some_stage : (a b : Stage) → Some a ≡ Some b → a ≡ b
    some_stage a b e = cc

point_once : (r : Run) (y : Standing) (p q : Point) → IsPointAt r y p → IsPointAt r y q → IsSamePoint p q
point_once r y p q a b =
    let schedule = a.schedule ∙ sym b.schedule in
    let stands = a.stands ∙ sym b.stands in
    let grid = a.lawful.array ∙ sym b.lawful.array in
    let sites = ap (λ (s : Standing). s.sites) stands in
    record {
      schedule = schedule;
      stage = stage_once r.problem.design r.problem.grid p q a.lawful b.lawful schedule stands;
      total = ap (λ (s : Standing). s.total) stands;
      fixed = λ n. a.fixed n ∙ sym (b.fixed n);
      placement = λ i. record { grid = grid i; sites = sites i };
    }

pub ends_alike : (r : Run) (y : Standing) (e f : Ending) → EndsAs r y e → EndsAs r y f → EndAlike e f
ends_alike r y Finished Finished a b = tt
ends_alike r y Finished (Stopped q) a b = not_both y.heat (ap (λ (s : Standing). is_some s.heat) (sym b.stands)) a
ends_alike r y (Stopped p) Finished a b = not_both y.heat (ap (λ (s : Standing). is_some s.heat) (sym a.stands)) b
ends_alike r y (Stopped p) (Stopped q) a b = point_once r y p q a b

-- so what it answers and writes is one

report_once : (p : Piece) (m n : ℕ) → EndedOnce p.run p.start m n → piece_report p m ≡ piece_report p n
unfolding piece_report
report_once p m n e = λ i. p.head ++ (e.lines i ++ end_line p.run (e.stands i))

place_once : (t : Texts) (p : Piece) (a b : Answer) (x y : List ℕ) (e f : Ending) → EndAlike e f → a.placement.sites ≡ b.placement.sites
    → IsPlaceOut t p.run.problem.design p.run.problem.grid a.placement.sites e (Some []) (Some x) → IsPlaceOut t p.run.problem.design p.run.problem.grid b.placement.sites f (Some []) (Some y) → x ≡ y
place_once t p a b x y Finished Finished alike sites v w = v.text ∙ ap (text_by t p.run.problem.design p.run.problem.grid) sites ∙ sym w.text
place_once t p a b x y Finished (Stopped q) alike sites v w = absurd alike
place_once t p a b x y (Stopped q) Finished alike sites v w = absurd alike
place_once t p a b x y (Stopped q) (Stopped s) alike sites v w = (let both : Some x ≡ Some y = v ∙ sym w in let k = both in cc)

-- a call of a piece, where nothing stood in its outputs before
abbrev pub IsMadeAlone : Texts → Piece → Call → Type 0
IsMadeAlone t p c = IsMade t p c.answer (Some []) (Some c.report) (Some []) (Some c.place)

pub made_once : (t : Texts) (p : Piece) (a b : Call) → IsMadeAlone t p a → IsMadeAlone t p b → AreTheSame a b
made_once t p a b u v =
    let x = u.told.annealed in
    let y = v.told.annealed in
    let e = piece_once p.run p.start p.stop u.told.moves v.told.moves x.piece y.piece in
    let array = x.array ∙ sym y.array in
    let sites = x.stands ∙ ap (λ (s : Standing). s.sites) e.stands ∙ sym y.stands in
    let ending = ends_alike p.run (from p.run p.start v.told.moves) a.answer.ending b.answer.ending (subst (λ s. EndsAs p.run s a.answer.ending) e.stands x.ending) y.ending in
    record {
      ending = ending;
      placement = λ i. record { grid = array i; sites = sites i };
      accepted = x.numbers ∙ e.numbers ∙ sym y.numbers;
      costs = x.values ∙ ap (λ l. cost_at p.run p.start ∷ l) e.values ∙ sym y.values;
      report = u.told.report ∙ report_once p u.told.moves v.told.moves e ∙ sym v.told.report;
      place = place_once t p a.answer b.answer a.place b.place a.answer.ending b.answer.ending ending sites u.place v.place;
    }

-- and as many of its moves are judged again
pub redone_once : (p : Piece) (batch m n : ℕ) → AreRedone p batch m → AreRedone p batch n → m ≡ n
redone_once p batch m n a b =
    let e = piece_once p.run p.start p.stop a.moves b.moves a.piece b.piece in
    let done = ap (λ (s : Standing). s.done) e.stands in
    let one = a.made in
    let two = b.made in
    let same : a.moves ≡ b.moves = omega (arith, done, one, two) in
    a.count ∙ ap (redone_in_run p.run p.start batch) same ∙ sym b.count

-- and the same readings are shown
pub shown_once : (p : Piece) (batch : ℕ) (old a b : List Reading) → AreShown p batch old a → AreShown p batch old b → a ≡ b
shown_once p batch old a b one two =
    let e = piece_once p.run p.start p.stop one.moves two.moves one.piece two.piece in
    let done = ap (λ (s : Standing). s.done) e.stands in
    let first = one.made in
    let second = two.made in
    let same : one.moves ≡ two.moves = omega (arith, done, first, second) in
    one.shown ∙ ap (λ n. old ++ readings p.run p.start batch n) same ∙ sym two.shown
