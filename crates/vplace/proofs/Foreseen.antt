-- A run ends only as it is forecast: a schedule bounds its moves, and a factor tells how many there are.
use Rattle.std.proofs.Common.{◌≡◌, ℕ, zero, suc, ◌+◌, ◌-◌, ◌*◌, ◌/◌, ◌%◌, ◌<◌, ◌≤◌, ◌⊎◌, cond, ltb, leb, Bool, true, false, Option, Some, None, is_some, length, refl, sym, ap, subst, ◌∙◌, arith, inl, inr}
use Rattle.std.specs.Prelude.{◌||◌}
use Rattle.std.proofs.lemmas.Bool.{leb-true, ltb-true, ltb-false, leb-false}
use Rattle.std.proofs.lemmas.Nat.{div-add-mod', mod_below, mul-le}
use Rattle.fab_net.specs.Netlist.{Netlist}
use Rattle.fab_sched.specs.declared.schedules.Cooling.{Cooling}
use Rattle.fab_sched.specs.declared.schedules.Cooling.TheVariants.{Factor, Adaptive}
use Rattle.fab_sched.specs.Annealing.{IsLastBy, IsLastIndex, IsLawful, MayStandBy, Plan}
use Rattle.fab_sched.proofs.Cubes.{moves_are}
use Rattle.fab_sched.proofs.Falling.{greatest, last_by}
use Rattle.fab_commit.specs.Run.Points.{done_at}
use Rattle.fab_commit.specs.Serial.{HeatStands, IsStanding, Run, Standing, from, step}
use Rattle.fab_commit.proofs.RunLemmas.Folding.{step_done}
use Rattle.fab_run.specs.declared.inputs.Ending.{Ending}
use Rattle.fab_run.specs.declared.inputs.Ending.TheVariants.{Finished, Stopped}
use Rattle.fab_run.specs.declared.inputs.Moves.{Moves}
use Rattle.fab_run.specs.declared.inputs.Moves.TheVariants.{Given, Inner}
use Rattle.fab_run.specs.declared.inputs.Options.{Options}
use Rattle.fab_run.specs.Ends.{Answer, EndsAfter, EndsAs, IsAnnealed, IsPiece, Piece, StopsAfter, piece_end}
use Rattle.fab_run.specs.Setting.{AreStageMoves, IsAskedPlan, IsSetting, Setting, Texts}
use Rattle.fab_run.specs.Standings.{IsLawfulSource, source_of}
use Rattle.fab_run.proofs.Lawful.{moves_keep_standings, resumed_begin_lawfully, runs_begin_lawfully}
use Rattle.fab_run.proofs.Pieces.{from_still, still}
use Rattle.fab_run.proofs.SameAnswers.{design_once, going_once}
use Rattle.vplace.specs.declared.forecast.Forecast.{Forecast}
use Rattle.vplace.specs.declared.forecast.Forecast.TheVariants.{Finishes, Stops, Either}
use Rattle.vplace.specs.Forecasts.{IsForecast, before_the_last, forecast_of, may_leave}
use Rattle.vplace.specs.Foreseen.{ResumedEndAsForecast, RunsEndAsForecast}
use Rattle.vplace.specs.Leaving.{role_by}
use Rattle.vplace.proofs.Stopping.{forecast_same}

-- how many moves are made

step_most : (r : Run) (x : Standing) (h : Option ℕ) → x.heat ≡ h → (step r x).done ≤ x.done + 1
step_most r x None e = let same = ap (λ (y : Standing). y.done) (still r x e) in omega (arith, same)
step_most r x (Some t) e = let one = step_done r x (ap is_some e) in omega (arith, one)

most_made : (r : Run) (x : Standing) (n : ℕ) → (from r x n).done ≤ x.done + n
most_made r x zero = omega arith
most_made r x (suc n) =
    let one = step_most r x x.heat refl in
    let rest = most_made r (step r x) n in
    omega (arith, one, rest)

-- where a move is left, all moves before it are made
all_made : (r : Run) (x : Standing) (n : ℕ) → is_some (from r x n).heat ≡ true → (from r x n).done ≡ x.done + n
all_made r x zero going = omega arith
all_made r x (suc n) going = by_heat x.heat refl (all_made r (step r x) n going)
  where
    by_heat : (h : Option ℕ) → x.heat ≡ h → (from r (step r x) n).done ≡ (step r x).done + n → (from r (step r x) n).done ≡ x.done + suc n
    by_heat None e rest =
        let same : from r (step r x) n ≡ x = from_still r x (suc n) e in
        absurd (let no : false ≡ true = ap is_some (sym e ∙ ap (λ (y : Standing). y.heat) (sym same)) ∙ going in cc)
    by_heat (Some t) e rest =
        let one = step_done r x (ap is_some e) in
        omega (arith, one, rest)

-- with a move left, the moves are fewer than those of all stages that there can be
below_the_last : (p : Plan) (last n : ℕ) (h : Option ℕ) → IsLawful p → IsLastIndex p last → HeatStands p n h → is_some h ≡ true → n < (last + 1) * p.moves
below_the_last p last n None plan is stands warm = absurd cc
below_the_last p last n (Some t) plan is stands warm =
    let stage = greatest p last (n / p.moves) t is stands in
    let parts : n / p.moves * p.moves + n % p.moves ≡ n = div-add-mod' n p.moves in
    let rest : n % p.moves < p.moves = mod_below n p.moves plan.moves.0 in
    let most : (n / p.moves + 1) * p.moves ≤ (last + 1) * p.moves = mul-le (n / p.moves + 1) p.moves (last + 1) p.moves (omega (arith, stage)) (omega arith) in
    let whole : (n / p.moves + 1) * p.moves ≡ n / p.moves * p.moves + p.moves = grind arith in
    omega (arith, parts, rest, most, whole)

-- with a factor, no move is left only after those of all stages
after_the_last : (p : Plan) (factor last n : ℕ) (h : Option ℕ) → p.cooling ≡ Factor factor → IsLastIndex p last → HeatStands p n h → h ≡ None → (last + 1) * p.moves ≤ n
after_the_last p factor last n (Some t) by is stands cold = absurd cc
after_the_last p factor last n None by is stands cold =
    let stage : last ≤ stands.0 = last_by p factor stands.0 last 0 (subst (λ c. MayStandBy c p stands.0 0) by stands.2) (subst (λ c. IsLastBy c p last) by is) in
    let most : (last + 1) * p.moves ≤ (stands.0 + 1) * p.moves = mul-le (last + 1) p.moves (stands.0 + 1) p.moves (omega (arith, stage)) (omega arith) in
    omega (arith, most, stands.1)

-- what a forecast tells

not_finishing : (c : Cooling) → Finishes ≡ before_the_last c → ⊥
not_finishing (Factor f) e = cc
not_finishing Adaptive e = cc

stopping_by : (c : Cooling) → Stops ≡ before_the_last c → (f : ℕ) × (c ≡ Factor f)
stopping_by (Factor f) e = (f, refl)
stopping_by Adaptive e = absurd cc

finishing : (c : Cooling) (most done stop : ℕ) → Finishes ≡ forecast_of c most done stop → (stop < done) ⊎ (most ≤ stop)
finishing c most done stop e = by_tests (ltb stop done) (leb most stop) refl refl
  where
    by_tests : (a b : Bool) → ltb stop done ≡ a → leb most stop ≡ b → (stop < done) ⊎ (most ≤ stop)
    by_tests true b x y = inl (ltb-true stop done x)
    by_tests false true x y = inr (leb-true most stop y)
    by_tests false false x y = absurd (not_finishing c (e ∙ (λ i. cond (x i || y i) Finishes (before_the_last c))))

-- it stops by a factor, between its beginning and the last move
record StopsBetween (c : Cooling) (most done stop : ℕ) : Type 0 where
  since : done ≤ stop
  before : stop < most
  factor : ℕ
  cools : c ≡ Factor factor

stopping : (c : Cooling) (most done stop : ℕ) → Stops ≡ forecast_of c most done stop → StopsBetween c most done stop
stopping c most done stop e = by_tests (ltb stop done) (leb most stop) refl refl
  where
    by_tests : (a b : Bool) → ltb stop done ≡ a → leb most stop ≡ b → StopsBetween c most done stop
    by_tests true b x y = absurd (let no : Stops ≡ Finishes = e ∙ (λ i. cond (x i || leb most stop) Finishes (before_the_last c)) in cc)
    by_tests false true x y = absurd (let no : Stops ≡ Finishes = e ∙ (λ i. cond (x i || y i) Finishes (before_the_last c)) in cc)
    by_tests false false x y =
        let by = stopping_by c (e ∙ (λ i. cond (x i || y i) Finishes (before_the_last c))) in
        record { since = ltb-false stop done x; before = leb-false most stop y; factor = by.0; cools = by.1 }

-- pieces of a run whose standings fit it

abbrev AllFit : Run → Standing → Type 0
AllFit r x = (m : ℕ) → IsStanding r (from r x m)

some_is : (a b : ℕ) → Some a ≡ Some b → a ≡ b
some_is a b h = cc

no_stop_met : (r : Run) (x : Standing) (stop : Option ℕ) (n : ℕ) → IsLawful r.plan → AllFit r x → IsForecast r.plan x.done stop Finishes → StopsAfter r x stop n → ⊥
no_stop_met r x None n plan fit told stops = let no : None ≡ Some (x.done + n) = stops.here in cc
no_stop_met r x (Some s) n plan fit told stops =
    let here : s ≡ x.done + n = some_is s (x.done + n) stops.here in
    let made : (from r x n).done ≡ x.done + n = all_made r x n stops.going in
    let below = below_the_last r.plan told.0 (from r x n).done (from r x n).heat plan told.1 (fit n).heat stops.going in
    elim (finishing r.plan.cooling ((told.0 + 1) * r.plan.moves) x.done s told.2) [
      | inl early ↦ omega (arith, early, here)
      | inr late ↦ omega (arith, late, here, made, below)
    ]

no_end_met : (r : Run) (x : Standing) (stop : Option ℕ) (n : ℕ) → AllFit r x → IsForecast r.plan x.done stop Stops → EndsAfter r x stop n → ⊥
no_end_met r x None n fit told ends = let no : Stops ≡ Finishes = told in cc
no_end_met r x (Some s) n fit told ends =
    let between = stopping r.plan.cooling ((told.0 + 1) * r.plan.moves) x.done s told.2 in
    let since = between.since in
    let before = between.before in
    let m = s - x.done in
    let here : s ≡ x.done + m = omega (arith, since) in
    let cold : (from r x m).heat ≡ None = ends.passed m (ap Some here) in
    let after = after_the_last r.plan between.factor told.0 (from r x m).done (from r x m).heat between.cools told.1 (fit m).heat cold in
    let made = most_made r x m in
    omega (arith, here, before, after, made)

-- a piece that ends finished did not stop
finished_ends : (p : Piece) (n : ℕ) → IsPiece p.run p.start p.stop n → EndsAs p.run (piece_end p n) Finished → EndsAfter p.run p.start p.stop n
finished_ends p n (inl stops) cold = absurd (let no : false ≡ true = ap is_some (sym cold) ∙ stops.going in cc)
finished_ends p n (inr ends) cold = ends

ends_by : (p : Piece) (n : ℕ) (f : Forecast) (e : Ending) → IsLawful p.run.plan → AllFit p.run p.start → IsForecast p.run.plan p.start.done p.stop f → IsPiece p.run p.start p.stop n → EndsAs p.run (piece_end p n) e → may_leave f (role_by e) ≡ true
ends_by p n Finishes Finished plan fit told piece end = refl
ends_by p n Finishes (Stopped q) plan fit told piece end =
    elim piece [
      | inl stops ↦ absurd (no_stop_met p.run p.start p.stop n plan fit told stops)
      | inr ends ↦ absurd (let no : Some q.stage.t ≡ None = ap (λ (x : Standing). x.heat) end.stands ∙ ends.over in cc)
    ]
ends_by p n Stops Finished plan fit told piece end = absurd (no_end_met p.run p.start p.stop n fit told (finished_ends p n piece end))
ends_by p n Stops (Stopped q) plan fit told piece end = refl
ends_by p n Either Finished plan fit told piece end = refl
ends_by p n Either (Stopped q) plan fit told piece end = refl

-- a lawful piece ends only as it is forecast
pub ends_as_forecast : (p : Piece) (n : ℕ) (f : Forecast) (a : Answer) → IsLawfulSource (source_of p) → IsForecast p.run.plan p.start.done p.stop f → IsAnnealed p n a → may_leave f (role_by a.ending) ≡ true
ends_as_forecast p n f a lawful told made = ends_by p n f a.ending lawful.plan (λ m. moves_keep_standings (source_of p) m lawful) told made.piece made.ending

-- options ask for one schedule

moves_once : (asked : Moves) (blocks m n : ℕ) → AreStageMoves asked blocks m → AreStageMoves asked blocks n → m ≡ n
moves_once (Given k) blocks m n a b = a ∙ sym b
moves_once (Inner inner) blocks m n a b =
    elim a [
      | inl x ↦ elim b [ inl y ↦ moves_are inner blocks n m x.root y | inr y ↦ absurd (y.0 m x) ]
      | inr x ↦ elim b [ inl y ↦ absurd (x.0 n y) | inr y ↦ x.1 ∙ sym y.1 ]
    ]

plan_once : (t : Texts) (o : Options) (u v : Setting) → IsSetting t o u → IsSetting t o v → u.plan ≡ v.plan
plan_once t o u v a b =
    let design = (design_once t.arch t.net u.grid.io_rat v.grid.io_rat u.design v.design a.asked.pins.array.mean b.asked.pins.array.mean).1 in
    let blocks = length u.design.kinds in
    let one = a.asked.plan in
    let two : IsAskedPlan o blocks v.plan = subst (λ (d : Netlist). IsAskedPlan o (length d.kinds) v.plan) (sym design) b.asked.plan in
    let init = one.init ∙ sym two.init in
    let exit = one.exit ∙ sym two.exit in
    let cooling = one.cooling ∙ sym two.cooling in
    let moves = moves_once o.moves blocks u.plan.moves v.plan.moves one.moves two.moves in
    λ i. record { init = init i; exit = exit i; cooling = cooling i; moves = moves i }

-- runs that begin, and runs that go on

pub runs_end_as_forecast : RunsEndAsForecast
runs_end_as_forecast t o s f a old new place_old place_new is told placed =
    let p = placed.0 in
    let asked = placed.1 in
    let made = placed.2.told in
    let here : IsForecast asked.0.plan 0 o.stop f = subst (λ (plan : Plan). IsForecast plan 0 o.stop f) (plan_once t o s asked.0 is asked.1) told in
    let there : IsForecast p.run.plan p.start.done p.stop f = subst (λ (q : Piece). IsForecast q.run.plan q.start.done q.stop f) (sym asked.2) here in
    ends_as_forecast p made.moves f a (runs_begin_lawfully t o p asked) there made.annealed

pub resumed_end_as_forecast : ResumedEndAsForecast
resumed_end_as_forecast t point batch workers stop s f a old new place_old place_new is told placed =
    let p = placed.0 in
    let asked = placed.1 in
    let made = placed.2.told in
    let same = going_once t point s asked.0 is.text asked.1.text in
    let here : IsForecast asked.0.point.schedule (done_at asked.0.point) stop f = forecast_same s.point asked.0.point stop f same.point told in
    let there : IsForecast p.run.plan p.start.done p.stop f = subst (λ (q : Piece). IsForecast q.run.plan q.start.done q.stop f) (sym asked.2) here in
    ends_as_forecast p made.moves f a (resumed_begin_lawfully t point batch workers stop p asked) there made.annealed
