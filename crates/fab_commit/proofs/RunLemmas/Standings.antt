-- A point tells the standing of a run, and a run goes on from it.
use Rattle.std.proofs.Common.{◌≡◌, ℕ, ◌+◌, ◌*◌, ◌<◌, ◌≤◌, ◌^◌, List, Option, Some, false, length, refl, sym, ap, subst, ◌∙◌, arith}
use Rattle.std.proofs.lemmas.Nat.{mod-mul-add, div-mul-add}
use Rattle.std.proofs.lemmas.Option.{slice_get_within}
use Rattle.fab_arch.specs.declared.array.Site.{Site}
use Rattle.fab_arch.specs.Grid.{GridShape}
use Rattle.fab_net.specs.Netlist.{Netlist}
use Rattle.fab_site.specs.Placement.{IsLegal, fixed_at}
use Rattle.fab_sched.specs.declared.schedules.Stage.{Stage}
use Rattle.fab_sched.specs.Annealing.{Plan, IsLawful, IsStage, MayStand}
use Rattle.fab_sched.proofs.Falling.{few_moves}
use Rattle.fab_commit.specs.declared.run.point.Point.{Point}
use Rattle.fab_commit.specs.declared.run.state.State.{State}
use Rattle.fab_commit.specs.Serial.{Run, side}
use Rattle.fab_commit.specs.Run.Commits.{IsSound, heat_of, standing_of}
use Rattle.fab_commit.specs.Run.Points.{IsPoint, PointsAreToldAgain, done_at, standing_at}
use Rattle.fab_commit.proofs.RunLemmas.Committing.{going}

-- the moves made in a stage and before it are few
pub place_fits : (p : Plan) (side m : ℕ) (s : Stage) → m ≡ p.moves → IsLawful p → IsStage p side s → s.done < p.moves → (s.index * m < 2 ^ 61) × (s.index * m + s.done < 2 ^ 61)
place_fits p side m s e lawful is left =
    let few = subst (λ n. (s.index + 1) * n < 2 ^ 61) (sym e) (few_moves p s.index s.t lawful is.stands) in
    let whole : (s.index + 1) * m ≡ s.index * m + m = grind arith in
    (omega (arith, whole, few), omega (arith, whole, few, left, e))

-- a block that is fixed in a legal placement is one of the design's
pub fixed_within : (d : Netlist) (g : GridShape) (fixed : List (Option Site)) (sites : List Site) (blocks : ℕ) → IsLegal d g fixed sites → blocks ≡ length d.kinds → (b : ℕ) (s : Site) → fixed_at fixed b ≡ Some s → b < blocks
fixed_within d g fixed sites blocks l e b s h = let within = slice_get_within sites b s (l.stay b s h) in omega (arith, within, l.all, e)

-- a placement is legal however the same fixed blocks are listed
legal_by : (d : Netlist) (g : GridShape) (fixed copy : List (Option Site)) (sites : List Site) → ((b : ℕ) → fixed_at copy b ≡ fixed_at fixed b) → IsLegal d g fixed sites → IsLegal d g copy sites
legal_by d g fixed copy sites same l = record { all = l.all; fit = l.fit; apart = l.apart; stay = λ b s h. l.stay b s (sym (same b) ∙ h) }

-- what a point was made of
pub record IsOf (r : Run) (s : State) (p : Point) : Type 0 where
  pub schedule : p.schedule ≡ r.plan
  pub stage : p.stage ≡ s.stage
  pub total : p.total ≡ s.total
  pub fixed : (b : ℕ) → fixed_at p.fixed b ≡ fixed_at r.problem.fixed b
  pub placement : p.placement ≡ s.placement

pub stands_there : (r : Run) (s : State) (p : Point) → IsSound r s → s.ended ≡ false → IsOf r s p → standing_at p ≡ standing_of s
stands_there r s p sound e is =
    (λ i. record {
      done = (is.stage i).index * (is.schedule i).moves + (is.stage i).done;
      sites = (is.placement i).sites;
      accepted = (is.stage i).accepted;
      range = (is.stage i).range;
      heat = Some (is.stage i).t;
      total = is.total i;
    })
    ∙ sym (λ i. record {
      done = sound.place i;
      sites = s.placement.sites;
      accepted = s.stage.accepted;
      range = s.stage.range;
      heat = heat_of (e i) s.stage.t;
      total = s.total;
    })

pub point_is : (r : Run) (s : State) (p : Point) → IsSound r s → s.ended ≡ false → IsOf r s p → IsPoint r.problem.design r.problem.grid p
point_is r s p sound e is =
    let g = going r s sound e in
    record {
      array = ap (λ q. q.grid) is.placement ∙ sound.array;
      legal = legal_by r.problem.design r.problem.grid r.problem.fixed p.fixed p.placement.sites is.fixed (subst (λ q. IsLegal r.problem.design r.problem.grid r.problem.fixed q.sites) (sym is.placement) sound.legal);
      stage = subst (λ plan. IsStage plan (side r) p.stage) (sym is.schedule) (subst (IsStage r.plan (side r)) (sym is.stage) g.0);
      left = subst (λ plan. p.stage.done < plan.moves) (sym is.schedule) (subst (λ x. x.done < r.plan.moves) (sym is.stage) g.1);
      counted = (subst (λ n. p.stage.accepted ≤ n) (sym is.total) (subst (λ x. x.accepted ≤ s.total) (sym is.stage) sound.counted.0), subst (λ n. n ≤ done_at p) (sym is.total) (subst (λ n. s.total ≤ n) (ap (λ x. x.done) (sym (stands_there r s p sound e is))) sound.counted.1));
    }

-- what goes on from a point tells it again
pub points_are_told_again : {W : Type 0} (moves : W → ℕ → List ℕ) → PointsAreToldAgain moves
points_are_told_again moves d g p words is =
    let s = p.stage in
    let index = div-mul-add s.index p.schedule.moves s.done is.left in
    let done = mod-mul-add s.index p.schedule.moves s.done is.left in (
      record {
        schedule = refl;
        stage = (λ i. Some (record { index = sym index i; t = s.t; range = s.range; done = sym done i; accepted = s.accepted; frozen = is.stage.frozen i }));
        total = refl;
        fixed = λ b. refl;
        array = is.array;
        sites = refl;
      },
      record {
        legal = is.legal;
        range = is.stage.range;
        accepted = subst (λ k. s.accepted ≤ k) (sym done) is.stage.accepted;
        total = is.counted;
        heat = subst (λ i. MayStand p.schedule i s.t) (sym index) is.stage.stands;
      },
    )
