-- Moves lead from a standing that fits its run only to such standings, and runs begin at one.
use Rattle.std.proofs.Common.{◌≡◌, ℕ, zero, suc, ◌+◌, ◌*◌, ◌/◌, ◌%◌, ◌<◌, ◌≤◌, ◌⊎◌, Bool, true, false, cond, eqb, List, [], ◌∷◌, Option, Some, None, is_some, refl, sym, ap, subst, ◌∙◌, arith, inl, inr}
use Rattle.std.specs.List.{All}
use Rattle.std.proofs.lemmas.Bool.{cases_eq, eq-eqb, eqb-true, false≢true, ne_eqb}
use Rattle.std.proofs.lemmas.Nat.{div-add-mod', div-mul-add, mod-mul-add, mod_below}
use Rattle.std.proofs.lemmas.List.Elements.{All-head, All-tail}
use Rattle.fab_arch.specs.declared.array.Site.{Site}
use Rattle.fab_arch.specs.Grid.{GridShape}
use Rattle.fab_net.specs.Netlist.{Netlist}
use Rattle.fab_site.specs.Pins.{ArePins, either_site, given_at}
use Rattle.fab_site.specs.Placement.{IsLegal, fixed_at}
use Rattle.fab_site.proofs.Dealing.{start_legal}
use Rattle.fab_sched.specs.declared.schedules.Cooling.{Cooling}
use Rattle.fab_sched.specs.declared.schedules.Cooling.TheVariants.{Factor, Adaptive}
use Rattle.fab_sched.specs.Annealing.{IsLawful, MayStand, MayStandBy, Plan, factor_after, hot, next_heat, next_range}
use Rattle.fab_sched.proofs.Falling.{factor_small, stands_on}
use Rattle.fab_dial.specs.declared.readings.Reading.{Reading}
use Rattle.fab_move.specs.Stream.{stream_moves, stream_starts}
use Rattle.fab_move.proofs.Streams.{stream_small}
use Rattle.fab_commit.specs.Serial.{HeatStands, IsStanding, Run, Standing, after_move, from, judged_here, one_if, side, step}
use Rattle.fab_commit.specs.Laws.Moves.{ProposesKinds}
use Rattle.fab_commit.proofs.ModelLemmas.Proposing.{proposes_kinds, seeds_give_words}
use Rattle.fab_commit.proofs.ModelLemmas.Reasons.{legal_by_kinds}
use Rattle.fab_commit.proofs.RunLemmas.Standings.{points_are_told_again}
use Rattle.fab_run.specs.Check.{FitsOn}
use Rattle.fab_run.specs.Placed.{piece_from, run_by, start_by}
use Rattle.fab_run.specs.Setting.{ArePinned, Setting}
use Rattle.fab_run.specs.Standings.{IsLawfulSource, IsOfOneStanding, MovesKeepStandings, ResumedBeginLawfully, RunsBeginLawfully, WatchersReadLawful, source_of}
use Rattle.fab_run.specs.Watched.{IsAfterOne, Source}
use Rattle.fab_run.proofs.Watching.{all_then, watchers_read_standings}

-- the next move begins a stage
record BeginsStage (n m : ℕ) : Type 0 where
  over : (n + 1) % m ≡ 0
  place : n + 1 ≡ (n / m + 1) * m
  index : (n + 1) / m ≡ n / m + 1

-- the next move stays in its stage
record StaysInStage (n m : ℕ) : Type 0 where
  done : (n + 1) % m ≡ n % m + 1
  index : (n + 1) / m ≡ n / m

next_place : (n m : ℕ) → 0 < m → BeginsStage n m ⊎ StaysInStage n m
next_place n m some =
    let q = n / m in
    let d = n % m in
    let parts : q * m + d ≡ n = div-add-mod' n m in
    let below : d < m = mod_below n m some in
    elim (cases_eq (d + 1) m) [
      | inl end ↦ (
          let place : n + 1 ≡ (q + 1) * m = grind (arith, parts, end) in
          let whole : n + 1 ≡ (q + 1) * m + 0 = omega (arith, place) in
          inl (record { over = ap (λ k. k % m) whole ∙ mod-mul-add (q + 1) m 0 some; place = place; index = ap (λ k. k / m) whole ∙ div-mul-add (q + 1) m 0 some })
          )
      | inr more ↦ (
          let less : d + 1 < m = omega (arith, below, more) in
          let place : n + 1 ≡ q * m + (d + 1) = omega (arith, parts) in
          inr (record { done = ap (λ k. k % m) place ∙ mod-mul-add q m (d + 1) less; index = ap (λ k. k / m) place ∙ div-mul-add q m (d + 1) less })
          )
    ]

range_bounds : (p : Plan) (side range accepted : ℕ) → 1 ≤ side → (1000 ≤ next_range p side range accepted) × (next_range p side range accepted ≤ 1000 * side)
unfolding next_range
range_bounds p side range accepted h = (omega arith, omega arith)

one_at_most : (b : Bool) → one_if b ≤ 1
one_at_most true = omega arith
one_at_most false = omega arith

-- the temperature after the last move of a stage
heat_on : (p : Plan) (n range accepted t : ℕ) → IsLawful p → BeginsStage n p.moves → MayStand p (n / p.moves) t → HeatStands p (n + 1) (next_heat p range accepted (Some t))
heat_on p n range accepted t plan begins may = by_cold (eqb t 0) refl
  where
    colder : ℕ
    colder = hot p (t * factor_after p range accepted / 1000)

    by_cold : (b : Bool) → eqb t 0 ≡ b → HeatStands p (n + 1) (cond b None (Some colder))
    by_cold true e = (n / p.moves, begins.place, subst (MayStand p (n / p.moves)) (eqb-true t 0 e) may)
    by_cold false e =
        let some : 0 < t = elim (cases_eq t 0) [
          | inl is ↦ absurd (false≢true (sym e ∙ eq-eqb t 0 is))
          | inr isnt ↦ omega (arith, isnt)
        ] in
        subst (λ i. MayStand p i colder) (sym begins.index)
        (stands_on p (n / p.moves) t range accepted (factor_after p range accepted) colder refl (factor_small p.cooling p.moves range accepted plan.cooling) some refl may)

abbrev InRange : Run → ℕ → Type 0
InRange r n = (1000 ≤ n) × (n ≤ 1000 * side r)

-- after a move at temperature t
after_fits : (r : Run) (x : Standing) (t : ℕ) → IsLawful r.plan → ProposesKinds r.problem → IsStanding r x → x.heat ≡ Some t → IsStanding r (after_move r x (judged_here r x x.done))
after_fits r x t plan kinds is warm = elim (next_place x.done r.plan.moves plan.moves.0) [
  | inl begins ↦ record {
    legal = legal;
    range = subst (λ b. InRange r (cond b (next_range r.plan (side r) x.range accepted) x.range)) (sym (over begins)) (range_bounds r.plan (side r) x.range accepted wide);
    accepted = subst (λ b. cond b 0 accepted ≤ (x.done + 1) % r.plan.moves) (sym (over begins)) (omega arith);
    total = (subst (λ b. cond b 0 accepted ≤ x.total + one_if took) (sym (over begins)) (omega arith), total);
    heat = subst (λ b. HeatStands r.plan (x.done + 1) (cond b (next_heat r.plan x.range accepted x.heat) x.heat)) (sym (over begins))
        (subst (λ h. HeatStands r.plan (x.done + 1) (next_heat r.plan x.range accepted h)) (sym warm) (heat_on r.plan x.done x.range accepted t plan begins may));
  }
  | inr stays ↦ record {
    legal = legal;
    range = subst (λ b. InRange r (cond b (next_range r.plan (side r) x.range accepted) x.range)) (sym (more stays)) is.range;
    accepted = subst (λ b. cond b 0 accepted ≤ (x.done + 1) % r.plan.moves) (sym (more stays)) (few stays);
    total = (subst (λ b. cond b 0 accepted ≤ x.total + one_if took) (sym (more stays)) less, total);
    heat = subst (λ b. HeatStands r.plan (x.done + 1) (cond b (next_heat r.plan x.range accepted x.heat) x.heat)) (sym (more stays))
        (subst (λ h. HeatStands r.plan (x.done + 1) h) (sym warm) (subst (λ i. MayStand r.plan i t) (sym stays.index) may));
  }
]
  where
    took : Bool
    took = (judged_here r x x.done).accepted

    accepted : ℕ
    accepted = x.accepted + one_if took

    may : MayStand r.plan (x.done / r.plan.moves) t
    may = subst (HeatStands r.plan x.done) warm is.heat

    wide : 1 ≤ side r
    wide = (let k = is.range in omega (arith, k))

    legal : IsLegal r.problem.design r.problem.grid r.problem.fixed (after_move r x (judged_here r x x.done)).sites
    legal =
        subst (λ h. IsLegal r.problem.design r.problem.grid r.problem.fixed (cond (is_some h) (after_move r x (judged_here r x x.done)) x).sites) warm
        (legal_by_kinds r x 1 kinds is.legal)

    total : x.total + one_if took ≤ x.done + 1
    total = (let k = is.total in let one = one_at_most took in omega (arith, k, one))

    less : accepted ≤ x.total + one_if took
    less = (let k = is.total in omega (arith, k))

    over : BeginsStage x.done r.plan.moves → eqb ((x.done + 1) % r.plan.moves) 0 ≡ true
    over begins = eq-eqb ((x.done + 1) % r.plan.moves) 0 begins.over

    more : StaysInStage x.done r.plan.moves → eqb ((x.done + 1) % r.plan.moves) 0 ≡ false
    more stays = ne_eqb ((x.done + 1) % r.plan.moves) 0 (λ z. (let d = stays.done in omega (arith, z, d)))

    few : StaysInStage x.done r.plan.moves → accepted ≤ (x.done + 1) % r.plan.moves
    few stays = (let d = stays.done in let one = one_at_most took in let k = is.accepted in omega (arith, d, one, k))

step_fits : (r : Run) (x : Standing) (h : Option ℕ) → x.heat ≡ h → IsLawful r.plan → ProposesKinds r.problem → IsStanding r x → IsStanding r (cond (is_some h) (after_move r x (judged_here r x x.done)) x)
step_fits r x None e plan kinds is = is
step_fits r x (Some t) e plan kinds is = after_fits r x t plan kinds is e

from_fits : (r : Run) (x : Standing) (n : ℕ) → IsLawful r.plan → ProposesKinds r.problem → IsStanding r x → IsStanding r (from r x n)
from_fits r x zero plan kinds is = is
from_fits r x (suc n) plan kinds is = from_fits r (step r x) n plan kinds (step_fits r x x.heat refl plan kinds is)

pub moves_keep_standings : MovesKeepStandings
moves_keep_standings s n lawful = from_fits s.run s.start n lawful.plan (proposes_kinds s.run.problem lawful.words) lawful.standing

-- the blocks that a location text fixes and begins
no_pins : (d : Netlist) (g : GridShape) (fixed begun : List (Option Site)) → ((b : ℕ) → fixed_at fixed b ≡ None) → ((b : ℕ) → fixed_at begun b ≡ None) → ArePins d g fixed begun
no_pins d g fixed begun none_fixed none_begun =
    record {
      within = λ b s e. absurd (none_given b s e);
      fit = λ b s e. absurd (none_given b s e);
      apart = λ a b s e k. absurd (none_given a s e);
      once = λ b e. none_begun b;
    }
  where
    none_given : (b : ℕ) (s : Site) → given_at fixed begun b ≡ Some s → ⊥
    none_given b s e = (let none : None ≡ Some s = (λ i. either_site (sym (none_fixed b) i) (sym (none_begun b) i)) ∙ e in cc)

pins_are : (text : Option (List ℕ)) (d : Netlist) (g : GridShape) (fixed begun : List (Option Site)) → ArePinned text d g fixed begun → ArePins d g fixed begun
pins_are None d g fixed begun none = no_pins d g fixed begun none.0 none.1
pins_are (Some text) d g fixed begun is = is.lawful

first_heat : (c : Cooling) (p : Plan) → MayStandBy c p 0 (hot p p.init)
first_heat (Factor f) p = refl
first_heat Adaptive p = refl

start_fits : (s : Setting) (seed : ℕ) → FitsOn s.design s.grid → ArePins s.design s.grid s.fixed s.begun → IsLawful s.plan → IsStanding (run_by s seed) (start_by s seed)
start_fits s seed fits pins plan =
    let nothing : 0 ≡ 0 * s.plan.moves + 0 = omega arith in
    let none : 0 / s.plan.moves ≡ 0 = ap (λ k. k / s.plan.moves) nothing ∙ div-mul-add 0 s.plan.moves 0 plan.moves.0 in
    let columns = fits.limits.columns in
    record {
      legal = start_legal s.design s.grid s.fixed s.begun (stream_starts seed) fits.holds pins (λ j lt. stream_small seed 1 j);
      range = (omega (arith, columns), omega arith);
      accepted = omega arith;
      total = (omega arith, omega arith);
      heat = subst (λ i. MayStand s.plan i (hot s.plan s.plan.init)) (sym none) (first_heat s.plan.cooling s.plan);
    }

lawful_run : (s : Setting) (seed : ℕ) → FitsOn s.design s.grid → ArePins s.design s.grid s.fixed s.begun → IsLawful s.plan → IsLawfulSource (record { run = run_by s seed; start = start_by s seed })
lawful_run s seed fits pins plan = record { plan = plan; words = seeds_give_words seed; standing = start_fits s seed fits pins plan }

pub runs_begin_lawfully : RunsBeginLawfully
runs_begin_lawfully t o p (s, is, e) =
    let has = is.asked.pins in
    subst (λ q. IsLawfulSource (source_of q)) (sym e) (lawful_run s o.seed has.array.fits (pins_are t.pads s.design s.grid s.fixed s.begun has.pins) is.lawful)

pub resumed_begin_lawfully : ResumedBeginLawfully
resumed_begin_lawfully t point batch workers stop p (s, is, e) =
    let stands = is.text.stands in
    let told = points_are_told_again stream_moves s.design s.grid s.point s.seed stands.point in
    let lawful : IsLawfulSource (source_of (piece_from s stop)) = record { plan = stands.schedule; words = seeds_give_words s.seed; standing = told.1 } in
    subst (λ q. IsLawfulSource (source_of q)) (sym e) lawful

-- what watchers read
of_one : (sources : List Source) (q : Reading) → All IsLawfulSource sources → IsAfterOne sources q → IsOfOneStanding sources q
of_one [] q all h = h
of_one (s ∷ sources) q all (inl h) =
    inl (record { count = h.count; made = h.made; fits = moves_keep_standings s h.count (All-head IsLawfulSource s sources all); reading = h.reading })
of_one (s ∷ sources) q all (inr h) = inr (of_one sources q (All-tail IsLawfulSource s sources all) h)

pub watchers_read_lawful : {W : Type 0} (moves : W → ℕ → List ℕ) → WatchersReadLawful moves
watchers_read_lawful moves first sources shown seen all showed starts =
    all_then (λ q. (q ≡ first) ⊎ IsAfterOne sources q) (λ q. (q ≡ first) ⊎ IsOfOneStanding sources q) seen each
    (watchers_read_standings moves first sources shown seen showed starts)
  where
    each : (q : Reading) → (q ≡ first) ⊎ IsAfterOne sources q → (q ≡ first) ⊎ IsOfOneStanding sources q
    each q (inl h) = inl h
    each q (inr h) = inr (of_one sources q all h)
