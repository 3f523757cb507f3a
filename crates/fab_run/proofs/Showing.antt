-- What the turns of a piece show.
use Rattle.std.proofs.Common.{◌≡◌, ℕ, ◌+◌, ◌-◌, ◌<◌, ◌≤◌, ◌⊎◌, min, List, [], ◌∷◌, ◌++◌, Ok, Option, refl, sym, ap, subst, ◌∙◌, arith, inl, inr}
use Rattle.std.specs.Prelude.{Err, IfErr, OnOk, OnErr}
use Rattle.std.proofs.lemmas.List.{append-nil}
use Rattle.fab_dial.specs.declared.readings.Reading.{Reading}
use Rattle.fab_commit.specs.declared.run.turn.Turn.{Turn}
use Rattle.fab_commit.specs.Serial.{Run, Standing, from, moves_left}
use Rattle.fab_commit.specs.Run.Commits.{AnnealOf, run_of}
use Rattle.fab_commit.specs.Run.Readings.{HasShown, IsShown, reading_at, readings}
use Rattle.fab_commit.specs.Run.Turned.{IsTurned}
use Rattle.fab_commit.proofs.RunLemmas.Showing.{cut_first, shown_behind, shown_on}
use Rattle.fab_run.specs.Ends.{IsPiece, IsWithin, Piece}
use Rattle.fab_run.specs.Shown.{AreShown, AreShownBegun, AreShownInPart, EndsShown, HaveShown, LeadsShown, LeadsShownWithin}
use Rattle.fab_run.specs.CutShort.{IsShownShort}
use Rattle.fab_run.specs.Placed.{IsDeviceFault}
use Rattle.fab_run.specs.RunChecks.{IsRefusal}
use Rattle.fab_run.specs.declared.fault.RunFault.{RunFault}
use Rattle.fab_run.proofs.Lifting.{Answered, by_device}
use Rattle.fab_run.proofs.Whole.{none_within, within_by}

pub leads_none : (r : Run) (batch : ℕ) (a : Standing) (old : List Reading) → LeadsShown r batch a a old old
leads_none r batch a old = record { on = λ x before has. has }

pub leads_then : (r : Run) (batch : ℕ) (a b c : Standing) (old mid new : List Reading) → LeadsShown r batch a b old mid → LeadsShown r batch b c mid new → LeadsShown r batch a c old new
leads_then r batch a b c old mid new first second = record { on = λ x before has. second.on x before (first.on x before has) }

pub leads_to : (r : Run) (batch : ℕ) (a b : Standing) (old new end : List Reading) → LeadsShown r batch a b old new → end ≡ new → LeadsShown r batch a b old end
leads_to r batch a b old new end leads same = subst (λ l. LeadsShown r batch a b old l) (sym same) leads

-- where a turn of this many moves led, and what it showed
turn_there : {W : Type 0} (moves : W → ℕ → List ℕ) (r : Run) (batch : ℕ) (y z : AnnealOf W) (t : Turn) → run_of moves y ≡ r → IsTurned moves batch y z (Ok t) → z.standing ≡ from r y.standing (z.standing.done - y.standing.done)
turn_there moves r batch y z t same turned = subst (λ q. z.standing ≡ from q y.standing (z.standing.done - y.standing.done)) same turned.stands

turn_size : {W : Type 0} (moves : W → ℕ → List ℕ) (r : Run) (batch : ℕ) (y z : AnnealOf W) (t : Turn) → run_of moves y ≡ r → IsTurned moves batch y z (Ok t) → z.standing.done ≡ y.standing.done + min batch (moves_left r y.standing)
turn_size moves r batch y z t same turned = subst (λ (q : Run). z.standing.done ≡ y.standing.done + min batch (moves_left q y.standing)) same turned.ok

turn_told : {W : Type 0} (moves : W → ℕ → List ℕ) (r : Run) (y z : AnnealOf W) (t : Turn) (now new : List Reading) → run_of moves y ≡ r → IsShown moves y z (Ok t) now new → y.standing.done < z.standing.done → new ≡ now ++ reading_at r z.standing ∷ []
turn_told moves r y z t now new same shown more = subst (λ q. new ≡ now ++ reading_at q z.standing ∷ []) same (shown.one more)

-- a turn of the batch leads on
pub leads_turn : {W : Type 0} (moves : W → ℕ → List ℕ) (r : Run) (batch : ℕ) (a : Standing) (y z : AnnealOf W) (t : Turn) (old now new : List Reading)
    → run_of moves y ≡ r → 0 < batch → 0 < moves_left r y.standing → LeadsShown r batch a y.standing old now → IsTurned moves batch y z (Ok t) → IsShown moves y z (Ok t) now new → LeadsShown r batch a z.standing old new
leads_turn moves r batch a y z t old now new same some left leads turned shown =
    let size = turn_size moves r batch y z t same turned in
    let told = turn_told moves r y z t now new same shown (omega (arith, size, some, left)) in
    record {
      on = λ x before has.
          shown_on r batch x before y.standing now z.standing new (z.standing.done - y.standing.done) (leads.on x before has) (turn_there moves r batch y z t same turned)
          (omega (arith, size)) (omega (arith, size, some, left)) (omega (arith, size)) told;
    }

-- a shorter one ends what they showed
pub ends_turn : {W : Type 0} (moves : W → ℕ → List ℕ) (r : Run) (batch short : ℕ) (a : Standing) (y z : AnnealOf W) (t : Turn) (old now new : List Reading)
    → run_of moves y ≡ r → 0 < short → short ≤ batch → 0 < moves_left r y.standing → LeadsShown r batch a y.standing old now → IsTurned moves short y z (Ok t) → IsShown moves y z (Ok t) now new → EndsShown r batch a z.standing old new
ends_turn moves r batch short a y z t old now new same some low left leads turned shown =
    let size = turn_size moves r short y z t same turned in
    let told = turn_told moves r y z t now new same shown (omega (arith, size, some, left)) in
    record {
      on = λ x before has.
          shown_behind r batch x before y.standing now z.standing new (z.standing.done - y.standing.done) (leads.on x before has) (turn_there moves r short y z t same turned)
          (omega (arith, size)) (omega (arith, size, some, left)) (omega (arith, size, low)) (omega (arith, size)) told;
    }

-- where no turn is shorter, all that turns of the batch showed
pub shown_all : (r : Run) (batch : ℕ) (x : Standing) (before : List Reading) (y : Standing) (now : List Reading) → HasShown r batch x before y now → now ≡ before ++ readings r x batch (y.done - x.done)
shown_all r batch x before y now has = (let done = has.done in has.shown ∙ ap (λ n. before ++ readings r x batch n) (omega (arith, done)))

pub ends_leads : (r : Run) (batch : ℕ) (a b : Standing) (old new : List Reading) → LeadsShown r batch a b old new → EndsShown r batch a b old new
ends_leads r batch a b old new leads = record { on = λ x before has. shown_all r batch x before b new (leads.on x before has) }

-- what was shown from x up to at most `most` moves after y, none of them past the stop
pub begun_within : (r : Run) (batch : ℕ) (x : Standing) (before : List Reading) (y : Standing) (now : List Reading) (most : ℕ) (stop : Option ℕ) (new : List Reading)
    → HasShown r batch x before y now → LeadsShownWithin r batch y most now new → IsWithin r x stop (y.done - x.done + most) → AreShownBegun r x stop batch before new
begun_within r batch x before y now most stop new has within far =
    let there = within.leads.on x before has in
    let near = within.near in
    let done = there.done in
    let was = has.done in
    record {
      moves = there.count;
      within = λ m here going. (let low = far m here going in omega (arith, low, near, done, was));
      made = ap (λ (z : Standing). z.done) (sym there.stands) ∙ done;
      end = there.end;
      shown = there.shown;
    }

-- nothing
pub none_shown : (p : Piece) (batch : ℕ) (old : List Reading) → AreShownInPart p batch old old
none_shown p batch old =
    record {
      moves = 0;
      within = none_within p.run p.start p.stop;
      made = omega arith;
      end = inl (cut_first p.run.plan.moves p.start.done batch);
      shown = sym (append-nil old);
    }

pub part_begun : (p : Piece) (batch : ℕ) (old new : List Reading) → AreShownBegun p.run p.start p.stop batch old new → AreShownInPart p batch old new
part_begun p batch old new begun = record { moves = begun.moves; within = begun.within; made = begun.made; end = inl begun.end; shown = begun.shown }

pub part_whole : (p : Piece) (batch : ℕ) (old new : List Reading) → AreShown p batch old new → AreShownInPart p batch old new
part_whole p batch old new shown =
    record { moves = shown.moves; within = within_by p.run p.start p.stop shown.moves shown.piece; made = shown.made; end = inr shown.piece; shown = shown.shown }

pub whole_shown : (p : Piece) (batch count : ℕ) (y : Standing) (old new : List Reading) → IsPiece p.run p.start p.stop count → y ≡ from p.run p.start count → y.done ≡ p.start.done + count
    → new ≡ old ++ readings p.run p.start batch (y.done - p.start.done) → AreShown p batch old new
whole_shown p batch count y old new piece stands is shown =
    record { moves = count; piece = piece; made = ap (λ (z : Standing). z.done) (sym stands) ∙ is; shown = shown ∙ ap (λ n. old ++ readings p.run p.start batch n) (omega (arith, is)) }

-- said of the piece that is asked for
pub shown_asked : (Asked : Piece → Type 0) (p : Piece) (batch : ℕ) (r : Answered) (old new : List Reading) → Asked p → OnOk r (AreShown p batch old new) → OnOk r (HaveShown Asked batch old new)
shown_asked Asked p batch (Ok out) old new asked shown = (p, asked, shown)
shown_asked Asked p batch (Err e) old new asked shown = tt

pub short_shown : (Asked : Piece → Type 0) (p : Piece) (batch : ℕ) (a b c d : ℕ) (r : Answered) (old new : List Reading) → Asked p → IfErr r (IsDeviceFault a b c d) → OnErr r (AreShownInPart p batch old new)
    → IfErr r (IsShownShort Asked batch old new)
short_shown Asked p batch a b c d (Ok out) old new asked fault begun = tt
short_shown Asked p batch a b c d (Err e) old new asked fault begun =
    record { unshown = by_device (λ f. IsRefusal f → new ≡ old) a b c d e (λ h. absurd h) (λ h. absurd h) (λ h. absurd h) fault; begun = inr (p, asked, begun) }

-- a fault before the first move shows nothing
pub nothing_shown : (Asked : Piece → Type 0) (batch : ℕ) (old : List Reading) (e : RunFault) → IsShownShort Asked batch old old e
nothing_shown Asked batch old e = record { unshown = λ h. refl; begun = inl refl }
