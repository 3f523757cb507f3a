-- The state of a worker, which follows the owner's posts, as contracts see it (our own).
use Rattle.std.specs.Prelude.{◌≡◌, ◌+◌, ◌*◌, ◌≤◌, true, List, [], ◌∷◌, None, refl}
use Rattle.fab_arch.specs.declared.array.Site.{Site}
use Rattle.fab_site.specs.declared.placement_types.Swap.{Swap}
use Rattle.fab_site.specs.Placement.{IsLegal, site, swapped}
use Rattle.fab_cost.specs.Cost.{cost_of}
use Rattle.fab_commit.specs.declared.run.post.Post.{Post}
use Rattle.fab_commit.specs.declared.run.state.Given.{Given}
use Rattle.fab_commit.specs.declared.run.swaps.Accepted.{Accepted}
use Rattle.fab_commit.specs.Serial.{Run, Standing, side}
use Rattle.fab_commit.specs.Run.Commits.{StageStands, heat_of}
use Rattle.fab_commit.specs.Run.Owners.{Leads}

-- what the run is given, and the standing after the posts that were followed
pub record BehindOf (W : Type 0) : Type 0 where
  pub given : Given W
  pub standing : Standing

-- the sites after swaps, one after another
abbrev pub all_swapped : List Site → List Accepted → List Site
all_swapped sites [] = sites
all_swapped sites (a ∷ rest) = all_swapped (swapped sites a.swap) rest

-- the standing after a post
abbrev pub after_post : Standing → Post → Standing
after_post x p =
    record {
      done = p.done;
      sites = all_swapped x.sites p.swaps.items;
      accepted = p.stage.accepted;
      range = p.stage.range;
      heat = heat_of p.ended p.stage.t;
      total = p.total;
    }

-- a post may be followed from a standing. Each swap is one of the placement that it is made on. The placement that the swaps lead to is
-- legal and has the post's cost. The moves made are those of the post's stage, and no more were accepted than made
pub record MayBeFollowed (r : Run) (x : Standing) (p : Post) : Type 0 where
  pub leads : Leads r.problem.grid x.sites p.swaps.items (all_swapped x.sites p.swaps.items)
  pub cost : p.cost ≡ cost_of r.problem.design r.problem.grid (all_swapped x.sites p.swaps.items)
  pub legal : IsLegal r.problem.design r.problem.grid r.problem.fixed (all_swapped x.sites p.swaps.items)
  pub place : p.done ≡ p.stage.index * r.plan.moves + p.stage.done
  pub counted : (p.stage.accepted ≤ p.total) × (p.total ≤ p.done)
  pub stage : StageStands r.plan (side r) p.ended p.stage

abbrev to_an_empty_site : Swap
to_an_empty_site = record { block = record { 0 = 0 }; from = site 1 1 0; to = site 2 1 0; other = None }

abbrev to_where_it_was : Swap
to_where_it_was = record { block = record { 0 = 1 }; from = site 2 2 0; to = site 1 1 0; other = None }

-- the second swap is made on the sites that the first one led to
pub two_swaps : all_swapped (site 1 1 0 ∷ site 2 2 0 ∷ []) (record { number = 0; swap = to_an_empty_site } ∷ record { number = 1; swap = to_where_it_was } ∷ []) ≡ site 2 1 0 ∷ site 1 1 0 ∷ []
two_swaps = refl

-- after the last move of a run there is no temperature
pub behind_the_last_move : (x : Standing) (p : Post) → (after_post x (record p { ended = true })).heat ≡ None
behind_the_last_move x p = refl
