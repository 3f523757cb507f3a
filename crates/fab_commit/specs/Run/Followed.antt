-- A crew that follows the owner, as contracts see it (our own).
use Rattle.std.specs.Prelude.{◌≡◌, List, Bool, true, false, Option, Some, IfSome}
use Rattle.fab_board.specs.Follows.{followed}
use Rattle.fab_commit.specs.declared.run.post.Post.{Post}
use Rattle.fab_commit.specs.declared.run.owner.Owner.{Owner}
use Rattle.fab_commit.specs.declared.run.state.State.{State}
use Rattle.fab_commit.specs.declared.run.swaps.Accepted.{Accepted}
use Rattle.fab_commit.specs.Serial.{Run, Standing}
use Rattle.fab_commit.specs.Run.Commits.{standing_of}
use Rattle.fab_commit.specs.Run.Owners.{Leads}
use Rattle.fab_commit.specs.Model.TurnEvents.{LastTurn}

-- a state that follows these posts from `start` is at this standing of this run
abbrev pub IsTied : {S : Type 0} → (S → Run) → (S → Standing) → (S → Post → S) → Option S → List Post → Run → Standing → Type 0
IsTied {S} run standing after start posts r x = (s0 : S) × (start ≡ Some s0) × (run (followed after s0 posts) ≡ r) × (standing (followed after s0 posts) ≡ x)

-- if there is a crew: before the first turn it stands where the owner does; after turn t it stands where t began, and the owner's swaps
-- lead on from there
abbrev pub IsBeside : {S : Type 0} → (S → Run) → (S → Standing) → (S → Post → S) → Option S → Run → LastTurn → Owner → Bool → Option (List Post × List Post) → Type 0
IsBeside run standing after start r t o begun crew =
    (begun ≡ false → IfSome crew (λ p. IsTied run standing after start p.0 r (standing_of o.state)))
    × (begun ≡ true → IfSome crew (λ p. IsTied run standing after start p.0 r t.start))
    × (begun ≡ true → Leads r.problem.grid t.start.sites o.swaps.items o.state.placement.sites)

-- if there is a crew, it stands at x, from where these swaps lead to this state; before its first turn it stands where the state does
abbrev pub IsYetToFollow : {S : Type 0} → (S → Run) → (S → Standing) → (S → Post → S) → Option S → Run → Standing → State → List Accepted → Bool → Option (List Post × List Post) → Type 0
IsYetToFollow run standing after start r x s swaps begun crew =
    IfSome crew (λ p. IsTied run standing after start p.0 r x × Leads r.problem.grid x.sites swaps s.placement.sites × (begun ≡ false → x ≡ standing_of s))
