-- What the owner of the live placement keeps while it commits, as contracts see it (our own).
use Rattle.std.specs.Prelude.{ℕ, ◌≡◌, ◌+◌, ◌≤◌, nat_le, Bool, false, true, List, [], ◌∷◌, ◌++◌, length, map, vec_len, vec_capacity}
use Rattle.std.specs.List.{count_by, filter, range_with_len}
use Rattle.fab_arch.specs.declared.array.Site.{Site}
use Rattle.fab_arch.specs.Grid.{GridShape}
use Rattle.fab_sched.specs.Annealing.{IsLawful}
use Rattle.fab_site.specs.Placement.{IsSwapOf, swapped}
use Rattle.fab_move.specs.declared.verdicts.Verdict.{Verdict as Answer}
use Rattle.fab_move.specs.Judge.{says}
use Rattle.fab_commit.specs.declared.run.owner.Owner.{Owner}
use Rattle.fab_commit.specs.declared.run.swaps.Accepted.{Accepted}
use Rattle.fab_commit.specs.declared.model.judged.JudgedMove.{JudgedMove}
use Rattle.fab_commit.specs.Serial.{Run, Standing, from, moves_left}
use Rattle.fab_commit.specs.Run.Commits.{IsSound, standing_of}
use Rattle.fab_commit.specs.Run.Further.{IsFurther}
use Rattle.fab_commit.specs.Run.Noted.{HasRoomFor}
use Rattle.fab_commit.specs.Model.History.{accepted_from, is_redone}
use Rattle.fab_commit.specs.Model.Stamps.{AreStamps}
use Rattle.fab_move.specs.StampTables.{IsTable}
use Rattle.fab_commit.specs.Model.Stamps.{AreBefore}
use Rattle.fab_commit.specs.Model.TurnEvents.{verdict_on}

-- the swaps lead from one placement to another, and each is a swap of the placement that it is made on
abbrev pub Leads : GridShape → List Site → List Accepted → List Site → Type 0
Leads g sites [] there = sites ≡ there
Leads g sites (a ∷ rest) there = IsSwapOf g sites a.swap × Leads g (swapped sites a.swap) rest there

-- the parts of what the owner keeps fit together
pub record IsOwned (r : Run) (o : Owner) : Type 0 where
  pub sound : IsSound r o.state
  pub table : IsTable r.problem.design r.problem.grid o.stamps
  pub counted : o.redone ≤ o.state.done

-- there is room for n more accepted moves; for their swaps only where redone moves are counted
abbrev pub HasRoom : Bool → Owner → ℕ → Type 0
HasRoom counted o n = HasRoomFor o.state.accepted n × (counted ≡ true → vec_len o.swaps + n ≤ vec_capacity o.swaps)

-- the owner made n more moves of its run
pub record HasMade (r : Run) (o : Owner) (n : ℕ) (now : Owner) : Type 0 where
  pub owned : IsOwned r now
  pub further : IsFurther r o.state n now.state
  pub swaps : now.swaps.items ≡ o.swaps.items ++ accepted_from r (standing_of o.state) n
  pub stamps : (log : List Accepted) → AreBefore o.state.done log → AreStamps r.problem.design r.problem.grid o.stamps log → AreStamps r.problem.design r.problem.grid now.stamps (log ++ accepted_from r (standing_of o.state) n)
  pub leads : (sites : List Site) → Leads r.problem.grid sites o.swaps.items o.state.placement.sites → Leads r.problem.grid sites now.swaps.items now.state.placement.sites

-- the owner made n more moves of its run. Only where redone moves are counted does it keep their swaps and stamps
pub record Makes (counted : Bool) (r : Run) (o : Owner) (n : ℕ) (now : Owner) : Type 0 where
  pub owned : IsOwned r now
  pub further : IsFurther r o.state n now.state
  pub kept : counted ≡ true → HasMade r o n now
  pub swaps : counted ≡ false → now.swaps.items ≡ o.swaps.items
  pub stamps : counted ≡ false → now.stamps ≡ o.stamps
  pub redone : counted ≡ false → now.redone ≡ o.redone

-- an answer as a verdict, by the worker of its own number
abbrev pub verdict_of : ℕ → Answer → JudgedMove
verdict_of base a = record { worker = a.k; number = a.k; base = base; judged = says a }

-- these answers are those of the moves from k on, on the placement of x
abbrev pub AreAnswers : Run → Standing → ℕ → List Answer → Type 0
AreAnswers r x k answers = map (verdict_of x.done) answers ≡ map (verdict_on r x) (range_with_len k (length answers))

-- accepted by move k or a later one
abbrev pub since : ℕ → Accepted → Bool
since k a = nat_le k a.number

-- `made` moves led the owner here from the placement `start` after `base` moves, and the next n moves are of the same stage. The stamps are
-- those of a list of accepted moves; the part of that list from `base` on is that of the moves made
pub record IsLed (r : Run) (start : Standing) (made : ℕ) (o : Owner) (base n : ℕ) : Type 0 where
  pub log : List Accepted
  pub here : standing_of o.state ≡ from r start made
  pub base_is : base ≡ start.done
  pub done_is : o.state.done ≡ start.done + made
  pub stage : made + n ≤ moves_left r start
  pub stamps : AreStamps r.problem.design r.problem.grid o.stamps log
  pub before : AreBefore o.state.done log
  pub recent : filter (since base) log ≡ accepted_from r start made

-- the next n moves are of the running stage, and some moves of it led here from the placement after `base` moves
pub record AreOpen (r : Run) (o : Owner) (base n : ℕ) : Type 0 where
  pub start : Standing
  pub made : ℕ
  pub led : IsLed r start made o base n

-- the owner may make the next n moves: they are of its stage, there is room for them, and where redone moves are counted, these moves count
-- as judged on the placement after `base` moves
pub record MayMake (counted : Bool) (r : Run) (o : Owner) (base n : ℕ) : Type 0 where
  pub plan : IsLawful r.plan
  pub owned : IsOwned r o
  pub room : HasRoom counted o n
  pub left : n ≤ moves_left r (standing_of o.state)
  pub due : counted ≡ true → AreOpen r o base n

-- the owner made the next n moves, which count as judged on the placement after `base` moves. Where redone moves are counted, the count grows
-- by those of them that are redone. Room for more moves is left
pub record HasMadeFrom (counted : Bool) (r : Run) (o : Owner) (base n : ℕ) (now : Owner) : Type 0 where
  pub made : Makes counted r o n now
  pub redone : counted ≡ true → (due : AreOpen r o base n) → now.redone ≡ o.redone + count_by (is_redone r due.start base) (range_with_len o.state.done n)
  pub room : (m : ℕ) → HasRoom counted o (n + m) → HasRoom counted now m
