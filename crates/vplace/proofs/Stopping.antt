-- Runs that stop: a stop was asked for with a name to save at, and what is left goes to its name.
use Rattle.std.proofs.Common.{ℕ, ◌≡◌, ◌+◌, ◌*◌, inl, inr, ◌∙◌, ap, refl, sym, subst, List, [], Option, Some, None, option_map, Vec, Global}
use Rattle.std.specs.Prelude.{MatchOption, Result, Ok, Err, IfOk}
use Rattle.fab_arch.specs.Grid.{GridShape, Holds}
use Rattle.fab_net.specs.Netlist.{Netlist, logic_count, pad_count}
use Rattle.fab_commit.specs.declared.run.point.Point.{Point}
use Rattle.fab_commit.specs.Run.Points.{IsPoint, done_at}
use Rattle.fab_commit.specs.Serial.{Standing}
use Rattle.fab_sched.specs.Annealing.{Plan}
use Rattle.fab_sched.specs.declared.schedules.Stage.{Stage}
use Rattle.fab_run.specs.declared.inputs.Ending.{Ending}
use Rattle.fab_run.specs.declared.inputs.Ending.TheVariants.{Finished, Stopped}
use Rattle.fab_run.specs.Ends.{Answer, EndsAs, IsAnnealed, IsPointAt, Piece, piece_end}
use Rattle.fab_run.specs.declared.inputs.Options.{Options}
use Rattle.fab_text.specs.Lines.{lines}
use Rattle.fab_run.specs.Check.{MeanDesign}
use Rattle.fab_run.specs.Going.{Going, HasPoint}
use Rattle.fab_run.specs.Placed.{AskFor, AskToGoOn, IsPlaced}
use Rattle.fab_run.specs.PointMeaning.{IsSamePoint, StandsForPoint}
use Rattle.fab_run.specs.PointText.{IsWritable, point_text}
use Rattle.fab_run.specs.Setting.{Texts}
use Rattle.vplace.specs.declared.requests.PlaceWords.{PlaceWords}
use Rattle.vplace.specs.declared.requests.ResumeWords.{ResumeWords}
use Rattle.vplace.specs.declared.status.Status.{Status}
use Rattle.fab_run.specs.declared.fault.RunFault.{RunFault}
use Rattle.vplace.specs.Asked.{AreAsked, stop_asked}
use Rattle.vplace.specs.declared.forecast.Forecast.{Forecast}
use Rattle.vplace.specs.Files.{Held, Puts}
use Rattle.vplace.specs.Forecasts.{IsForecast}
use Rattle.vplace.specs.Leaving.{IsCheckpoint, IsPointText, IsPut, save_or_out}
use Rattle.vplace.specs.Placing.{AreNamed, DidPlace, save_name}
use Rattle.vplace.specs.Resuming.{AreNamedToResume, DidResume, save_name as saves_at}

-- a piece that stopped had a stop
pub stop_of_stopped : (p : Piece) (n : ℕ) (a : Answer) (q : Point) → IsAnnealed p n a → a.ending ≡ Stopped q → (m : ℕ) × (p.stop ≡ Some m)
stop_of_stopped p n a q made is =
    let at : IsPointAt p.run (piece_end p n) q = subst (EndsAs p.run (piece_end p n)) is made.ending in
    elim made.piece [
      | inl stops ↦ (p.start.done + n, stops.here)
      | inr ends ↦ absurd (let none : Some q.stage.t ≡ None = ap (λ (x : Standing). x.heat) at.stands ∙ ends.over in cc)
    ]

-- a piece that stopped left a point of its run
pub point_of_stopped : (p : Piece) (n : ℕ) (a : Answer) (q : Point) → IsAnnealed p n a → a.ending ≡ Stopped q → IsPoint p.run.problem.design p.run.problem.grid q
point_of_stopped p n a q made is = let at : IsPointAt p.run (piece_end p n) q = subst (EndsAs p.run (piece_end p n)) is made.ending in at.lawful

-- so one without a stop does not stop
pub no_stop : (p : Piece) (n : ℕ) (a : Answer) (q : Point) → IsAnnealed p n a → a.ending ≡ Stopped q → p.stop ≡ None → ⊥
no_stop p n a q made is none = let no : None ≡ Some (stop_of_stopped p n a q made is).0 = sym none ∙ (stop_of_stopped p n a q made is).1 in cc

-- a text that was made from what a run keeps is that of its point
pub text_of_kept : (t : Texts) (seed : ℕ) (d e : Netlist) (g h : GridShape) (q : Point) (text : List ℕ) → MeanDesign t.arch t.net g.io_rat d → e ≡ d → h ≡ g → q.placement.grid ≡ g
    → text ≡ point_text seed e h q → StandsForPoint h.io_rat e (lines text) seed h q → IsPointText t seed q text
text_of_kept t seed d e g h q text mean design array grid exact stands =
    let same : h ≡ q.placement.grid = array ∙ sym grid in
    record {
      design = d;
      mean = subst (λ (x : GridShape). MeanDesign t.arch t.net x.io_rat d) (sym grid) mean;
      exact = subst (λ x. text ≡ point_text seed x q.placement.grid q) design (subst (λ x. text ≡ point_text seed e x q) same exact);
      stands = subst (λ x. StandsForPoint q.placement.grid.io_rat x (lines text) seed q.placement.grid q) design (subst (λ (x : GridShape). StandsForPoint x.io_rat e (lines text) seed x q) same stands);
    }

-- one point has one forecast
pub forecast_same : (p q : Point) (stop : Option ℕ) (f : Forecast) → IsSamePoint p q → IsForecast p.schedule (done_at p) stop f → IsForecast q.schedule (done_at q) stop f
forecast_same p q stop f same h =
    let a : IsForecast q.schedule (p.stage.index * q.schedule.moves + p.stage.done) stop f = subst (λ (x : Plan). IsForecast x (p.stage.index * x.moves + p.stage.done) stop f) same.schedule h in
    subst (λ (x : Stage). IsForecast q.schedule (x.index * q.schedule.moves + x.done) stop f) same.stage a

-- where a stop is asked for, so is a name to save at
pub save_of_stop : {A : Type 0} (stop : Option ℕ) (save : Option A) (asked : Option ℕ) (m : ℕ) → stop_asked stop save ≡ Some asked → asked ≡ Some m → (name : A) × (save ≡ Some name)
save_of_stop (Some s) (Some name) asked m h is = (name, refl)
save_of_stop (Some s) None asked m h is = absurd cc
save_of_stop None (Some name) asked m h is = absurd cc
save_of_stop None None asked m h is = absurd cc

-- what a run left, put by whether there is a text of a point, is put by how the run ended
pub put_by_ending : (held held_new : Option Held) (out : List ℕ) (save : Option (List ℕ)) (t : Texts) (seed : ℕ) (ending : Ending) (place : List ℕ) (point : Option (List ℕ))
    → ((q : Point) → ending ≡ Stopped q → (name : List ℕ) × (save ≡ Some name)) → IsCheckpoint t seed ending point
    → MatchOption point (Puts held held_new out place) (λ text. Puts held held_new (save_or_out out save) text)
    → IsPut held held_new out save t seed ending place
put_by_ending held held_new out save t seed Finished place point named left put =
    subst (λ p. MatchOption p (Puts held held_new out place) (λ text. Puts held held_new (save_or_out out save) text)) left put
put_by_ending held held_new out save t seed (Stopped q) place None named left put = absurd left
put_by_ending held held_new out save t seed (Stopped q) place (Some text) named left put =
    let name = named q refl in
    (name.0, text, name.1, left, subst (λ s. Puts held held_new (save_or_out out s) text) name.1 put)

-- the same where texts are kept in vectors, and names are lent
pub put_texts : (held held_new : Option Held) (out tried also other place : List ℕ) (point : Option (Vec ℕ Global)) → also ≡ out → other ≡ tried
    → MatchOption point (Puts held held_new also place) (λ v. Puts held held_new other v.items)
    → MatchOption (option_map (λ v. v.items) point) (Puts held held_new out place) (λ text. Puts held held_new tried text)
put_texts held held_new out tried also other place None is tries put = subst (λ n. Puts held held_new n place) is put
put_texts held held_new out tried also other place (Some v) is tries put = subst (λ n. Puts held held_new n v.items) tries put

-- a call of `place` did what it was asked
pub did_place : (w : PlaceWords) (held held_new : Option Held) (old new : Option (List ℕ)) (t : Texts) (o : Options) (a : Answer) (place : List ℕ) (left : Option (List ℕ))
    → IsPlaced (AskFor t o) t a old new (Some []) (Some place) → IsCheckpoint t o.seed a.ending left
    → MatchOption left (Puts held held_new w.out.items place) (λ text. Puts held held_new (save_or_out w.out.items (save_name w)) text)
    → AreNamed held w t → AreAsked w o → DidPlace w held held_new old new
did_place w held held_new old new t o a place left placed checkpoint put named asked =
    let name : (q : Point) → a.ending ≡ Stopped q → (name : List ℕ) × (save_name w ≡ Some name) =
    λ q is.
    let stop = stop_of_stopped placed.0 placed.2.told.moves a q placed.2.told.annealed is in
    let save = save_of_stop w.stop w.save o.stop stop.0 asked.stop (ap (λ (p : Piece). p.stop) (sym placed.1.2) ∙ stop.1) in
    (save.0.items, ap (λ (s : Option (Vec ℕ Global)). option_map (λ (v : Vec ℕ Global). v.items) s) save.1)
    in
    record {
      texts = t;
      options = o;
      answer = a;
      place = place;
      named = named;
      asked = asked;
      placed = placed;
      put = put_by_ending held held_new w.out.items (save_name w) t o.seed a.ending place left name checkpoint put;
    }

-- a call of `resume` did what it was asked
pub did_resume : (w : ResumeWords) (held held_new : Option Held) (old new : Option (List ℕ)) (t : Texts) (point : List ℕ) (stop : Option ℕ) (s : Going) (a : Answer) (place : List ℕ) (left : Option (List ℕ))
    → HasPoint t point s → IsPlaced (AskToGoOn t point w.batch w.workers stop) t a old new (Some []) (Some place) → IsCheckpoint t s.seed a.ending left
    → MatchOption left (Puts held held_new w.out.items place) (λ text. Puts held held_new (save_or_out w.out.items (saves_at w)) text)
    → AreNamedToResume held w t point → stop_asked w.stop w.save ≡ Some stop → DidResume w held held_new old new
did_resume w held held_new old new t point stop s a place left read placed checkpoint put named asked =
    let name : (q : Point) → a.ending ≡ Stopped q → (name : List ℕ) × (saves_at w ≡ Some name) =
    λ q is.
    let stops = stop_of_stopped placed.0 placed.2.told.moves a q placed.2.told.annealed is in
    let save = save_of_stop w.stop w.save stop stops.0 asked (ap (λ (p : Piece). p.stop) (sym placed.1.2) ∙ stops.1) in
    (save.0.items, ap (λ (s : Option (Vec ℕ Global)). option_map (λ (v : Vec ℕ Global). v.items) s) save.1)
    in
    record {
      texts = t;
      point = point;
      stop = stop;
      going = s;
      answer = a;
      place = place;
      named = named;
      asked = asked;
      read = read;
      placed = placed;
      put = put_by_ending held held_new w.out.items (saves_at w) t s.seed a.ending place left name checkpoint put;
    }

-- a design and an array that are those of a run can be written with its point
pub writable : (d e : Netlist) (g h : GridShape) (q : Point) → e ≡ d → h ≡ g → Holds g (logic_count d) (pad_count d) → IsPoint d g q → IsWritable e h q
writable d e g h q design array holds point =
    let one : IsWritable d g q = record { holds = holds; point = point } in
    subst (λ x. IsWritable x h q) (sym design) (subst (λ x. IsWritable d x q) (sym array) one)

-- what is left in memory is what was told
pub left_is : {L V : Type 0} (r : Result L Status) (told : Result (Option V) RunFault) (R : Option V → List ℕ → Type 0) (point_of : L → Option V) (place_of : L → List ℕ) (text : List ℕ)
    → IfOk told (λ point. R point text) → IfOk r (λ left. told ≡ Ok (point_of left)) → IfOk r (λ left. place_of left ≡ text) → IfOk r (λ left. R (point_of left) (place_of left))
left_is (Err s) told R point_of place_of text h k m = tt
left_is (Ok left) told R point_of place_of text h k m =
    let here : R (point_of left) text = subst (λ x. IfOk x (λ point. R point text)) k h in
    subst (λ x. R (point_of left) x) (sym m) here
