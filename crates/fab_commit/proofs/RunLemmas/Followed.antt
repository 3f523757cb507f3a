-- Verdicts of a crew that follows the owner.
use Rattle.std.proofs.Common.{◌≡◌, ℕ, ◌+◌, ◌-◌, ◌*◌, ◌<◌, Bool, true, false, cond, List, [], ◌∷◌, ◌++◌, Option, Some, None, refl, sym, ap, subst, ◌∙◌, arith}
use Rattle.std.proofs.lemmas.Bool.{false≢true}
use Rattle.std.specs.Prelude.{IfSome, nat_lt}
use Rattle.std.specs.List.{list_any}
use Rattle.fab_arch.specs.declared.array.Site.{Site}
use Rattle.fab_arch.specs.Grid.{GridShape}
use Rattle.fab_net.specs.Netlist.{Netlist}
use Rattle.fab_site.specs.Placement.{IsLegal, swapped}
use Rattle.fab_cost.specs.Cost.{cost_of}
use Rattle.fab_cost.specs.Swapping.{CountedStandsFor}
use Rattle.fab_sched.specs.declared.schedules.Stage.{Stage}
use Rattle.fab_move.specs.Judge.{Judged}
use Rattle.fab_board.specs.Follows.{followed}
use Rattle.fab_board.proofs.Steps.{followed_push}
use Rattle.fab_commit.specs.declared.run.owner.Owner.{Owner}
use Rattle.fab_commit.specs.declared.run.post.Post.{Post}
use Rattle.fab_commit.specs.declared.run.state.State.{State}
use Rattle.fab_commit.specs.declared.run.swaps.Accepted.{Accepted}
use Rattle.fab_commit.specs.Serial.{Run, Standing, from, judged_here, moves_left, side}
use Rattle.fab_commit.specs.Run.Stages.{is_touched_here}
use Rattle.fab_commit.specs.Run.Behind.{MayBeFollowed, after_post, all_swapped}
use Rattle.fab_commit.specs.Run.Commits.{IsSound, StageStands, heat_of, standing_of}
use Rattle.fab_commit.specs.Run.Followed.{IsBeside, IsTied, IsYetToFollow}
use Rattle.fab_commit.specs.Run.Owners.{AreOpen, IsOwned, Leads}
use Rattle.fab_move.specs.StampTables.{kept_stamp}
use Rattle.fab_commit.specs.Model.History.{accepted_from, is_redone}
use Rattle.fab_commit.specs.Model.TurnEvents.{LastTurn}
use Rattle.fab_commit.specs.Model.World.{clash}
use Rattle.fab_commit.proofs.RunLemmas.InTurns.{open_at}
use Rattle.fab_commit.proofs.RunLemmas.Owning.{none_made, touched_is, unspoiled}

-- what was foreseen of the next move, and what the stamps say of it
pub record IsTold (r : Run) (o : Owner) (base : ℕ) (j : Judged) : Type 0 where
  pub fresh : list_any (λ m. nat_lt base (kept_stamp r.problem.grid o.stamps m)) j.footprint ≡ false → j ≡ judged_here r (standing_of o.state) o.state.done
  pub touch : list_any (λ m. nat_lt base (kept_stamp r.problem.grid o.stamps m)) j.footprint ≡ is_touched_here r o base

pub told : (r : Run) (o : Owner) (base : ℕ) → 0 < r.plan.moves → IsOwned r o → (due : AreOpen r o base 1) → IsTold r o base (judged_here r due.start o.state.done)
told r o base pos owned due =
    let d = r.problem.design in
    let x = due.start in
    let k = o.state.done in
    let n = due.made in
    let j = judged_here r x k in
    let stage = due.led.stage in
    let left : n < moves_left r x = omega (arith, stage) in
    let k_is : k ≡ x.done + n = due.led.done_is in
    let base_is = due.led.base_is in
    let here = due.led.here in
    let clash_is : list_any (λ m. nat_lt base (kept_stamp r.problem.grid o.stamps m)) j.footprint ≡ clash d (accepted_from r x n) base j.footprint =
    touched_is d (kept_stamp r.problem.grid o.stamps) due.led.log base j.footprint due.led.stamps ∙ (λ i. clash d (due.led.recent i) base j.footprint) in
    let since_start : k - x.done ≡ n = omega (arith, k_is) in
    let none_between : base - x.done ≡ 0 = omega (arith, base_is) in
    let zero : o.state.done + 0 ≡ k = omega arith in
    let next = open_at r o o base 1 0 pos due (none_made r o owned) (omega arith) in
    record {
      fresh = λ free.
          let clear : clash d (accepted_from r x n) x.done (judged_here r x (x.done + n)).footprint ≡ false =
          (λ i. clash d (accepted_from r x n) (sym base_is i) (judged_here r x (sym k_is i)).footprint) ∙ sym clash_is ∙ free in
          ap (judged_here r x) k_is ∙ unspoiled r x n pos left clear ∙ (λ i. judged_here r (sym here i) (sym k_is i));
      touch =
          clash_is
          ∙ ap (λ m. clash d (accepted_from r x m) base (judged_here r x k).footprint) (sym since_start)
          ∙ ap (λ m. clash d (accepted_from r x (k - x.done)) base (judged_here r (from r x m) k).footprint) (sym none_between)
          ∙ ap (is_redone r x base) (sym zero)
          ∙ sym next.touch;
    }

-- a post more
pub tied_on : {S : Type 0} (run : S → Run) (standing : S → Standing) (after : S → Post → S) (start : Option S) (posts : List Post) (e : Post) (r : Run) (x : Standing)
    → ((s : S) (e : Post) → run (after s e) ≡ run s) → ((s : S) (e : Post) → standing (after s e) ≡ after_post (standing s) e)
    → IsTied run standing after start posts r x → IsTied run standing after start (posts ++ e ∷ []) r (after_post x e)
tied_on run standing after start posts e r x stays goes t =
    let s0 = t.0 in
    let on = followed_push after s0 posts e in (
      s0,
      t.1,
      ap run on ∙ stays (followed after s0 posts) e ∙ t.2,
      ap standing on ∙ goes (followed after s0 posts) e ∙ ap (λ (y : Standing). after_post y e) t.3,
    )

-- what holds of an answer, if there is one
pub if_some : {A : Type 0} (P Q : A → Type 0) (o : Option A) → IfSome o P → ((a : A) → P a → Q a) → IfSome o Q
if_some P Q None h f = h
if_some P Q (Some a) h f = f a h

-- a post more, as the crew's list has it
pub tied_post : {S : Type 0} (run : S → Run) (standing : S → Standing) (after : S → Post → S) (start : Option S) (posts inside new : List Post) (e : Post) (r : Run) (x : Standing)
    → ((s : S) (e : Post) → run (after s e) ≡ run s) → ((s : S) (e : Post) → standing (after s e) ≡ after_post (standing s) e) → inside ≡ posts → new ≡ inside ++ e ∷ []
    → IsTied run standing after start posts r x → IsTied run standing after start new r (after_post x e)
tied_post run standing after start posts inside new e r x stays goes same is t =
    subst (λ l. IsTied run standing after start l r (after_post x e)) (sym (is ∙ ap (λ (l : List Post). l ++ e ∷ []) same)) (tied_on run standing after start posts e r x stays goes t)

-- swaps lead where they lead
pub leads_all : (g : GridShape) (xs : List Site) (swaps : List Accepted) (ys : List Site) → Leads g xs swaps ys → all_swapped xs swaps ≡ ys
leads_all g xs [] ys h = h
leads_all g xs (a ∷ rest) ys h = leads_all g (swapped xs a.swap) rest ys h.1

-- a post tells what the owner made
pub record IsPostOf (s : State) (swaps : List Accepted) (p : Post) : Type 0 where
  pub swaps_are : p.swaps.items ≡ swaps
  pub stage : p.stage ≡ s.stage
  pub rest : (p.ended ≡ s.ended) × (p.done ≡ s.done) × (p.total ≡ s.total)
  pub cost : (d : Netlist) (g : GridShape) (sites : List Site) → CountedStandsFor s.cost d g sites → p.cost ≡ cost_of d g sites

pub may_follow : (r : Run) (x : Standing) (s : State) (swaps : List Accepted) (p : Post) → IsSound r s → Leads r.problem.grid x.sites swaps s.placement.sites → IsPostOf s swaps p → MayBeFollowed r x p
may_follow r x s swaps p sound leads is =
    let there : all_swapped x.sites p.swaps.items ≡ s.placement.sites = ap (all_swapped x.sites) is.swaps_are ∙ leads_all r.problem.grid x.sites swaps s.placement.sites leads in
    record {
      leads = subst (λ l. Leads r.problem.grid x.sites l (all_swapped x.sites p.swaps.items)) (sym is.swaps_are) (subst (Leads r.problem.grid x.sites swaps) (sym there) leads);
      cost = is.cost r.problem.design r.problem.grid s.placement.sites sound.cost ∙ ap (cost_of r.problem.design r.problem.grid) (sym there);
      legal = subst (IsLegal r.problem.design r.problem.grid r.problem.fixed) (sym there) sound.legal;
      place = is.rest.1 ∙ sound.place ∙ ap (λ (v : Stage). v.index * r.plan.moves + v.done) (sym is.stage);
      counted =
          (let a = sound.counted.0 in
          let b = sound.counted.1 in
          let e = ap (λ (v : Stage). v.accepted) is.stage in
          let d = is.rest.1 in
          let t = is.rest.2 in
          (omega (arith, a, e, t), omega (arith, b, d, t)));
      stage = subst (λ v. StageStands r.plan (side r) v p.stage) (sym is.rest.0) (subst (StageStands r.plan (side r) s.ended) (sym is.stage) sound.stage);
    }

pub after_is : (r : Run) (x : Standing) (s : State) (swaps : List Accepted) (p : Post) → Leads r.problem.grid x.sites swaps s.placement.sites → IsPostOf s swaps p → after_post x p ≡ standing_of s
after_is r x s swaps p leads is =
    let there : all_swapped x.sites p.swaps.items ≡ s.placement.sites = ap (all_swapped x.sites) is.swaps_are ∙ leads_all r.problem.grid x.sites swaps s.placement.sites leads in
    (λ i. record { done = is.rest.1 i; sites = there i; accepted = (is.stage i).accepted; range = (is.stage i).range; heat = heat_of (is.rest.0 i) (is.stage i).t; total = is.rest.2 i })

-- where the crew stands before a turn, and from where it is yet to follow these swaps
pub yet_to_follow : {S : Type 0} (run : S → Run) (standing : S → Standing) (after : S → Post → S) (start : Option S) (r : Run) (t : LastTurn) (s o : Owner) (swaps : List Accepted) (begun : Bool) (crew : Option (List Post × List Post))
    → IsBeside run standing after start r t s begun crew → standing_of o.state ≡ standing_of s.state → (begun ≡ true → IfSome crew (λ _. swaps ≡ s.swaps.items)) → (begun ≡ false → swaps ≡ [])
    → IsYetToFollow run standing after start r (cond begun t.start (standing_of s.state)) o.state swaps begun crew
yet_to_follow run standing after start r t s o swaps begun None beside same taken none = tt
yet_to_follow run standing after start r t s o swaps true (Some p) beside same taken none =
    let there : s.state.placement.sites ≡ o.state.placement.sites = ap (λ (x : Standing). x.sites) (sym same) in
    (beside.1 refl, subst (Leads r.problem.grid t.start.sites swaps) there (subst (λ l. Leads r.problem.grid t.start.sites l s.state.placement.sites) (sym (taken refl)) (beside.2 refl)), (λ e. absurd (false≢true (sym e))))
yet_to_follow run standing after start r t s o swaps false (Some p) beside same taken none =
    let there : s.state.placement.sites ≡ o.state.placement.sites = ap (λ (x : Standing). x.sites) (sym same) in
    (beside.0 refl, subst (λ l. Leads r.problem.grid s.state.placement.sites l o.state.placement.sites) (sym (none refl)) there, (λ e. sym same))

if_both : {A : Type 0} (P Q : A → Type 0) (o : Option A) → IfSome o P → IfSome o Q → IfSome o (λ a. P a × Q a)
if_both P Q None h k = tt
if_both P Q (Some a) h k = (h, k)

-- what a post does to a crew that stands at x, if there is one
pub record IsPosted {S : Type 0} (run : S → Run) (standing : S → Standing) (after : S → Post → S) (start : Option S) (r : Run) (x : Standing) (p : Post) (old new : Option (List Post × List Post)) : Type 0 where
  pub base : IfSome old (λ f. IsTied run standing after start f.0 r x) → IfSome new (λ f. IsTied run standing after start f.1 r x)
  pub tied : IfSome old (λ f. IsTied run standing after start f.0 r x) → IfSome new (λ f. IsTied run standing after start f.0 r (after_post x p))
  pub nobody : old ≡ None → new ≡ None

-- the crew stands where the state does, once its swaps are posted
pub posted : {S : Type 0} (run : S → Run) (standing : S → Standing) (after : S → Post → S) (start : Option S) (r : Run) (x : Standing) (s : State) (swaps : List Accepted) (p : Post) (old new : Option (List Post × List Post))
    → IsPostOf s swaps p → IfSome old (λ f. IsTied run standing after start f.0 r x × Leads r.problem.grid x.sites swaps s.placement.sites) → IsPosted run standing after start r x p old new
    → IfSome new (λ f. IsTied run standing after start f.1 r x × IsTied run standing after start f.0 r (standing_of s))
posted run standing after start r x s swaps p None new is yet post =
    subst (λ w. IfSome w (λ f. IsTied run standing after start f.1 r x × IsTied run standing after start f.0 r (standing_of s))) (sym (post.nobody refl)) tt
posted run standing after start r x s swaps p (Some q) new is yet post =
    if_both (λ f. IsTied run standing after start f.1 r x) (λ f. IsTied run standing after start f.0 r (standing_of s)) new (post.base yet.0)
    (subst (λ y. IfSome new (λ f. IsTied run standing after start f.0 r y)) (after_is r x s swaps p yet.1 is) (post.tied yet.0))

-- after the first post to a crew that has not begun
pub posted_first : {S : Type 0} (run : S → Run) (standing : S → Standing) (after : S → Post → S) (start : Option S) (r : Run) (x : Standing) (s : State) (swaps : List Accepted) (p : Post) (begun : Bool) (old mid : Option (List Post × List Post))
    → IsPostOf s [] p → begun ≡ false → IsYetToFollow run standing after start r x s swaps begun old → IsPosted run standing after start r x p old mid
    → IfSome mid (λ f. IsTied run standing after start f.0 r (standing_of s) × Leads r.problem.grid (standing_of s).sites swaps s.placement.sites)
posted_first run standing after start r x s swaps p begun None mid is none yet post =
    subst (λ w. IfSome w (λ f. IsTied run standing after start f.0 r (standing_of s) × Leads r.problem.grid (standing_of s).sites swaps s.placement.sites)) (sym (post.nobody refl)) tt
posted_first run standing after start r x s swaps p begun (Some q) mid is none yet post =
    let here = yet.2 none in
    let leads = subst (λ (y : Standing). Leads r.problem.grid y.sites swaps s.placement.sites) here yet.1 in
    let there : Leads r.problem.grid x.sites [] s.placement.sites = ap (λ (y : Standing). y.sites) here in
    if_some (λ f. IsTied run standing after start f.1 r x × IsTied run standing after start f.0 r (standing_of s)) _ mid (posted run standing after start r x s [] p (Some q) mid is (yet.0, there) post) (λ f h. (h.1, leads))

-- after the second one
pub posted_second : {S : Type 0} (run : S → Run) (standing : S → Standing) (after : S → Post → S) (start : Option S) (r : Run) (x : Standing) (s : State) (swaps : List Accepted) (p : Post) (begun : Bool) (old mid new : Option (List Post × List Post))
    → IsPostOf s swaps p → begun ≡ false → IsYetToFollow run standing after start r x s swaps begun old → (old ≡ None → mid ≡ None)
    → IfSome mid (λ f. IsTied run standing after start f.0 r (standing_of s) × Leads r.problem.grid (standing_of s).sites swaps s.placement.sites) → IsPosted run standing after start r (standing_of s) p mid new
    → IfSome new (λ f. IsTied run standing after start f.1 r x × IsTied run standing after start f.0 r (standing_of s))
posted_second run standing after start r x s swaps p begun None mid new is none yet gone first post =
    subst (λ w. IfSome w (λ f. IsTied run standing after start f.1 r x × IsTied run standing after start f.0 r (standing_of s))) (sym (post.nobody (gone refl))) tt
posted_second run standing after start r x s swaps p begun (Some q) mid new is none yet gone first post =
    subst (λ y. IfSome new (λ f. IsTied run standing after start f.1 r y × IsTied run standing after start f.0 r (standing_of s))) (sym (yet.2 none))
    (posted run standing after start r (standing_of s) s swaps p mid new is first post)
