-- The texts and numbers of a run tell what it answers: they mean one piece, but for the lists that fixed and begun blocks are kept in,
-- and these are read by block alone.
use Rattle.std.proofs.Common.{◌≡◌, ℕ, List, [], ◌∷◌, length, Option, Some, None, sym, ap, subst, ◌∙◌, inl, inr}
use Rattle.fab_text.specs.Lines.{TextLine, lines}
use Rattle.fab_arch.specs.declared.architecture.PinKind.{PinKind}
use Rattle.fab_arch.specs.declared.array.Site.{Site}
use Rattle.fab_arch.specs.Arch.{IsArch}
use Rattle.fab_arch.specs.Grid.{GridShape, IsLeastSquare}
use Rattle.fab_net.specs.Netlist.{Netlist, logic_count, pad_count}
use Rattle.fab_net.specs.Text.{global_names, netlist_of, pins_in, sections}
use Rattle.fab_site.specs.Start.{start_sites}
use Rattle.fab_cost.specs.Cost.{cost_of}
use Rattle.fab_move.specs.Stream.{stream_moves, stream_starts}
use Rattle.fab_sched.specs.Annealing.{Plan}
use Rattle.fab_sched.proofs.Cubes.{moves_are}
use Rattle.fab_commit.specs.declared.run.point.Point.{Point}
use Rattle.fab_commit.specs.Run.Commits.{run, standing_in}
use Rattle.fab_commit.specs.Run.Points.{standing_at}
use Rattle.fab_commit.specs.Serial.{at_start}
use Rattle.fab_run.specs.declared.inputs.Moves.{Moves}
use Rattle.fab_run.specs.declared.inputs.Moves.TheVariants.{Given, Inner}
use Rattle.fab_run.specs.declared.inputs.Options.{Options}
use Rattle.fab_run.specs.Check.{MeanDesign}
use Rattle.fab_run.specs.Ends.{AreRedone}
use Rattle.fab_run.specs.Going.{Going, HasPoint}
use Rattle.fab_run.specs.Piece.{head_text}
use Rattle.fab_run.specs.Placed.{head_by, piece_by, piece_from, start_by}
use Rattle.fab_run.specs.PointMeaning.{IsSamePoint, StandsForPoint}
use Rattle.fab_run.specs.SameAnswers.{AnswersAreTold, AsksTheSame, RedoneIsTold, ResumedAreTold, ResumedRedoneIsTold, ShownIsTold}
use Rattle.fab_run.specs.Setting.{AreStageMoves, ArePinned, IsAskedPlan, IsSetting, IsSized, Setting, Texts}
use Rattle.fab_run.specs.Shown.{AreShown}
use Rattle.fab_run.proofs.Asked.{least_one}
use Rattle.fab_run.proofs.FixedAlike.{ReadTheSame, are_redone_same, are_shown_same, made_same, piece_at, start_same}
use Rattle.fab_run.proofs.MadeOnce.{IsMadeAlone, made_once, redone_once, shown_once}
use Rattle.fab_run.proofs.PointOne.{names_of_meaning, same}

-- what an architecture text means is one thing

ratio_once : (ls : List TextLine) (m n : ℕ) (ps qs : List PinKind) → IsArch ls m ps → IsArch ls n qs → m ≡ n
ratio_once ls m n ps qs h k =
    let one : h.line ∷ [] ≡ k.line ∷ [] = sym h.one ∙ k.one in
    let a = h.given in
    let b = k.given in
    cc

pins_once : (ls : List TextLine) (m n : ℕ) (ps qs : List PinKind) → IsArch ls m ps → IsArch ls n qs → ps ≡ qs
pins_once ls m n ps qs h k = h.kinds ∙ sym k.kinds

pub design_once : (arch net : List ℕ) (m n : ℕ) (d e : Netlist) → MeanDesign arch net m d → MeanDesign arch net n e → (m ≡ n) × (d ≡ e)
design_once arch net m n d e h k =
    let same = pins_once (lines arch) m n h.pins k.pins h.architecture k.architecture in
    let ls = lines net in (
      ratio_once (lines arch) m n h.pins k.pins h.architecture k.architecture,
      h.netlist.netlist ∙ ap (λ ps. netlist_of (sections ls) (pins_in ps ls) (global_names ls)) same ∙ sym k.netlist.netlist,
    )

-- the array is one

pub sized_once : (size : Option (ℕ × ℕ)) (d : Netlist) (g h : GridShape) → g.io_rat ≡ h.io_rat → IsSized size d g → IsSized size d h → g ≡ h
sized_once None d g h ratio s t = least_one g h (logic_count d) (pad_count d) g.io_rat s (subst (λ r. IsLeastSquare h (logic_count d) (pad_count d) r) (sym ratio) t)
sized_once (Some size) d g h ratio s t =
    let x = s.0 ∙ sym t.0 in
    let y = s.1 ∙ sym t.1 in
    λ i. record { nx = x i; ny = y i; io_rat = ratio i }

-- the moves of a stage are one number

moves_once : (asked : Moves) (blocks m n : ℕ) → AreStageMoves asked blocks m → AreStageMoves asked blocks n → m ≡ n
moves_once (Given k) blocks m n a b = a ∙ sym b
moves_once (Inner inner) blocks m n a b =
    elim a [
      | inl x ↦ elim b [ inl y ↦ moves_are inner blocks n m x.root y | inr y ↦ absurd (y.0 m x) ]
      | inr x ↦ elim b [ inl y ↦ absurd (x.0 n y) | inr y ↦ x.1 ∙ sym y.1 ]
    ]

plan_once : (o p : Options) (blocks : ℕ) (a b : Plan) → AsksTheSame o p → IsAskedPlan o blocks a → IsAskedPlan p blocks b → a ≡ b
plan_once o p blocks a b same h k =
    let init = h.init ∙ same.init_t ∙ sym k.init in
    let exit = h.exit ∙ same.exit_t ∙ sym k.exit in
    let cooling = h.cooling ∙ same.cooling ∙ sym k.cooling in
    let moves = moves_once o.moves blocks a.moves b.moves h.moves (subst (λ m. AreStageMoves m blocks b.moves) (sym same.moves) k.moves) in
    λ i. record { init = init i; exit = exit i; cooling = cooling i; moves = moves i }

pinned_once : (pads : Option (List ℕ)) (d : Netlist) (g : GridShape) (f h s t : List (Option Site)) → ArePinned pads d g f s → ArePinned pads d g h t → ReadTheSame f h × ReadTheSame s t
pinned_once None d g f h s t a b = (λ n. a.0 n ∙ sym (b.0 n), λ n. a.1 n ∙ sym (b.1 n))
pinned_once (Some text) d g f h s t a b = (λ n. a.fixed_sites n ∙ sym (b.fixed_sites n), λ n. a.begun_sites n ∙ sym (b.begun_sites n))

-- a setting is one, but for the lists

pub record AreAlike (s t : Setting) : Type 0 where
  pub design : s.design ≡ t.design
  pub grid : s.grid ≡ t.grid
  pub plan : s.plan ≡ t.plan
  pub fixed : ReadTheSame s.fixed t.fixed
  pub begun : ReadTheSame s.begun t.begun

setting_once : (t : Texts) (o p : Options) (u v : Setting) → AsksTheSame o p → IsSetting t o u → IsSetting t p v → AreAlike u v
setting_once t o p u v same a b =
    let x = a.asked.pins in
    let y = b.asked.pins in
    let both = design_once t.arch t.net u.grid.io_rat v.grid.io_rat u.design v.design x.array.mean y.array.mean in
    let size : IsSized o.size u.design v.grid = subst (λ d. IsSized o.size d v.grid) (sym both.1) (subst (λ q. IsSized q v.design v.grid) (sym same.size) y.array.size) in
    let grid = sized_once o.size u.design u.grid v.grid both.0 x.array.size size in
    let pins : ArePinned t.pads u.design u.grid v.fixed v.begun = subst (λ d. ArePinned t.pads d u.grid v.fixed v.begun) (sym both.1) (subst (λ g. ArePinned t.pads v.design g v.fixed v.begun) (sym grid) y.pins) in
    let read = pinned_once t.pads u.design u.grid u.fixed v.fixed u.begun v.begun x.pins pins in
    let plan = subst (λ (d : Netlist). IsAskedPlan p (length d.kinds) v.plan) (sym both.1) b.asked.plan in
    record {
      design = both.1;
      grid = grid;
      plan = plan_once o p (length u.design.kinds) u.plan v.plan same a.asked.plan plan;
      fixed = read.0;
      begun = read.1;
    }

-- the pieces of two such settings are one, but for the lists

head_same : (u v : Setting) (seed other : ℕ) → u.design ≡ v.design → u.grid ≡ v.grid → start_by u seed ≡ start_by v other → head_by u seed ≡ head_by v other
unfolding head_by
head_same u v seed other design grid begin = λ i. head_text (design i) (grid i) (cost_of (design i) (grid i) (begin i).sites)

begin_same : (u v : Setting) (seed other : ℕ) → AreAlike u v → seed ≡ other → start_by u seed ≡ start_by v other
begin_same u v seed other alike number =
    let sites : start_sites u.design u.grid u.fixed u.begun (stream_starts seed) ≡ start_sites u.design u.grid v.fixed v.begun (stream_starts seed) = start_same u.design u.grid u.fixed v.fixed u.begun v.begun (stream_starts seed) alike.fixed alike.begun in
    ap (at_start (run u.design u.grid u.fixed (stream_moves seed) u.plan)) sites
    ∙ (λ i. at_start (run (alike.design i) (alike.grid i) v.fixed (stream_moves (number i)) (alike.plan i)) (start_sites (alike.design i) (alike.grid i) v.fixed v.begun (stream_starts (number i))))

pub piece_alike : (u v : Setting) (seed other : ℕ) (stop until : Option ℕ) → AreAlike u v → seed ≡ other → stop ≡ until
    → piece_at u.design u.grid v.fixed seed u.plan (start_by u seed) (head_by u seed) stop ≡ piece_by v other until
piece_alike u v seed other stop until alike number stops =
    let begin = begin_same u v seed other alike number in
    let head = head_same u v seed other alike.design alike.grid begin in
    λ i. piece_at (alike.design i) (alike.grid i) v.fixed (number i) (alike.plan i) (begin i) (head i) (stops i)

pub answers_are_told : AnswersAreTold
answers_are_told t o p a b asks one two =
    let u = one.1.0 in
    let v = two.1.0 in
    let is = one.1.2 in
    let also = two.1.2 in
    let alike = setting_once t o p u v asks one.1.1 two.1.1 in
    let first : IsMadeAlone t (piece_by u o.seed o.stop) a = subst (λ q. IsMadeAlone t q a) is one.2 in
    let second : IsMadeAlone t (piece_at u.design u.grid v.fixed o.seed u.plan (start_by u o.seed) (head_by u o.seed) o.stop) b =
    subst (λ q. IsMadeAlone t q b) (also ∙ sym (piece_alike u v o.seed p.seed o.stop p.stop alike asks.seed asks.stop)) two.2 in
    made_once t (piece_by u o.seed o.stop) a b first
    (made_same t u.design u.grid v.fixed u.fixed o.seed u.plan (start_by u o.seed) (head_by u o.seed) o.stop b.answer (Some []) (Some b.report) (Some []) (Some b.place) (λ n. sym (alike.fixed n)) second)

-- two points that are the same are at one standing

pub standing_same : (p q : Point) → IsSamePoint p q → standing_at p ≡ standing_at q
standing_same p q s =
    let schedule = s.schedule in
    let stage = s.stage in
    let placement = s.placement in
    let total = s.total in
    λ i. standing_in (schedule i) (stage i) (placement i).sites (total i)

-- a text stands for only one point, up to the list of fixed blocks

pub record AreGoing (s u : Going) : Type 0 where
  pub design : s.design ≡ u.design
  pub grid : s.grid ≡ u.grid
  pub seed : s.seed ≡ u.seed
  pub point : IsSamePoint s.point u.point

pub going_once : (t : Texts) (text : List ℕ) (s u : Going) → HasPoint t text s → HasPoint t text u → AreGoing s u
going_once t text s u a b =
    let both = design_once t.arch t.net s.grid.io_rat u.grid.io_rat s.design u.design a.mean b.mean in
    let other : StandsForPoint s.grid.io_rat s.design (lines text) u.seed u.grid u.point =
    subst (λ d. StandsForPoint s.grid.io_rat d (lines text) u.seed u.grid u.point) (sym both.1) (subst (λ r. StandsForPoint r u.design (lines text) u.seed u.grid u.point) (sym both.0) b.stands) in
    let one = same s.grid.io_rat s.design (lines text) s.seed u.seed s.grid u.grid s.point u.point (names_of_meaning a.mean.pins (lines t.net) s.design a.mean.netlist) a.stands other in
    record { design = both.1; grid = one.1; seed = one.0; point = one.2 }

pub piece_going : (s u : Going) (stop : Option ℕ) → AreGoing s u → piece_at s.design s.grid u.point.fixed s.seed s.point.schedule (standing_at s.point) [] stop ≡ piece_from u stop
piece_going s u stop same =
    let design = same.design in
    let grid = same.grid in
    let seed = same.seed in
    let schedule = same.point.schedule in
    let stands = standing_same s.point u.point same.point in
    λ i. piece_at (design i) (grid i) u.point.fixed (seed i) (schedule i) (stands i) [] stop

pub resumed_are_told : ResumedAreTold
resumed_are_told t point batch workers other_batch other_workers stop a b one two =
    let u = one.1.0 in
    let v = two.1.0 in
    let is = one.1.2 in
    let also = two.1.2 in
    let alike = going_once t point u v one.1.1.text two.1.1.text in
    let first : IsMadeAlone t (piece_from u stop) a = subst (λ q. IsMadeAlone t q a) is one.2 in
    let second : IsMadeAlone t (piece_at u.design u.grid v.point.fixed u.seed u.point.schedule (standing_at u.point) [] stop) b =
    subst (λ q. IsMadeAlone t q b) (also ∙ sym (piece_going u v stop alike)) two.2 in
    let fixed = alike.point.fixed in
    made_once t (piece_from u stop) a b first
    (made_same t u.design u.grid v.point.fixed u.point.fixed u.seed u.point.schedule (standing_at u.point) [] stop b.answer (Some []) (Some b.report) (Some []) (Some b.place) (λ n. sym (fixed n)) second)

-- so the moves that are judged again are told too

pub redone_is_told : RedoneIsTold
redone_is_told t o p a b m n asks batch one two first second =
    let u = one.0 in
    let v = two.0 in
    let alike = setting_once t o p u v asks one.1 two.1 in
    let here : AreRedone (piece_by u o.seed o.stop) o.batch m = subst (λ q. AreRedone q o.batch m) one.2 first in
    let there : AreRedone (piece_at u.design u.grid v.fixed o.seed u.plan (start_by u o.seed) (head_by u o.seed) o.stop) o.batch n =
    subst (λ q. AreRedone q o.batch n) (two.2 ∙ sym (piece_alike u v o.seed p.seed o.stop p.stop alike asks.seed asks.stop)) (subst (λ k. AreRedone b k n) (sym batch) second) in
    redone_once (piece_by u o.seed o.stop) o.batch m n here
    (are_redone_same u.design u.grid v.fixed u.fixed o.seed u.plan (start_by u o.seed) (head_by u o.seed) o.stop o.batch n (λ k. sym (alike.fixed k)) there)

pub shown_is_told : ShownIsTold
shown_is_told t o p old a b asks batch one two =
    let u = one.1.0 in
    let v = two.1.0 in
    let is = one.1.2 in
    let also = two.1.2 in
    let alike = setting_once t o p u v asks one.1.1 two.1.1 in
    let first : AreShown (piece_by u o.seed o.stop) o.batch old a = subst (λ q. AreShown q o.batch old a) is one.2 in
    let second : AreShown (piece_at u.design u.grid v.fixed o.seed u.plan (start_by u o.seed) (head_by u o.seed) o.stop) o.batch old b =
    subst (λ q. AreShown q o.batch old b) (also ∙ sym (piece_alike u v o.seed p.seed o.stop p.stop alike asks.seed asks.stop)) (subst (λ k. AreShown two.0 k old b) (sym batch) two.2) in
    shown_once (piece_by u o.seed o.stop) o.batch old a b first
    (are_shown_same u.design u.grid v.fixed u.fixed o.seed u.plan (start_by u o.seed) (head_by u o.seed) o.stop o.batch old b (λ k. sym (alike.fixed k)) second)

pub resumed_redone_is_told : ResumedRedoneIsTold
resumed_redone_is_told t point batch workers other_workers stop a b m n one two first second =
    let u = one.0 in
    let v = two.0 in
    let alike = going_once t point u v one.1.text two.1.text in
    let fixed = alike.point.fixed in
    let here : AreRedone (piece_from u stop) batch m = subst (λ q. AreRedone q batch m) one.2 first in
    let there : AreRedone (piece_at u.design u.grid v.point.fixed u.seed u.point.schedule (standing_at u.point) [] stop) batch n =
    subst (λ q. AreRedone q batch n) (two.2 ∙ sym (piece_going u v stop alike)) second in
    redone_once (piece_from u stop) batch m n here
    (are_redone_same u.design u.grid v.point.fixed u.point.fixed u.seed u.point.schedule (standing_at u.point) [] stop batch n (λ k. sym (fixed k)) there)
