-- Calls one after another are one call without a stop.
use Rattle.std.proofs.Common.{◌≡◌, ℕ, ◌+◌, true, List, [], ◌∷◌, ◌++◌, drop, Option, Some, None, is_some, refl, sym, ap, subst, ◌∙◌, inl, inr, append_assoc}
use Rattle.std.proofs.lemmas.List.{append-nil}
use Rattle.fab_arch.specs.declared.array.Site.{Site}
use Rattle.fab_arch.specs.Grid.{GridShape}
use Rattle.fab_net.specs.Netlist.{Netlist}
use Rattle.fab_file.specs.Written.{are_labels}
use Rattle.fab_move.specs.Stream.{stream_moves}
use Rattle.fab_sched.specs.Annealing.{Plan}
use Rattle.fab_commit.specs.declared.run.point.Point.{Point}
use Rattle.fab_commit.specs.Run.Commits.{run}
use Rattle.fab_commit.specs.Run.Points.{standing_at}
use Rattle.fab_commit.specs.Serial.{Run, Standing, from}
use Rattle.fab_commit.proofs.RunLemmas.Folding.{from_add}
use Rattle.fab_run.specs.declared.inputs.Ending.{Ending}
use Rattle.fab_run.specs.declared.inputs.Ending.TheVariants.{Finished, Stopped}
use Rattle.fab_run.specs.declared.inputs.Options.{Options}
use Rattle.fab_run.specs.Chains.{AreCalls, CallsAreRuns, GoesOn, GoesOnFrom, Later, ResumedCallsAreRuns, joined, last_names, then, unstopped, with_names}
use Rattle.fab_run.specs.Check.{MeanDesign}
use Rattle.fab_run.specs.Ends.{EndsAs, IsPiece, IsPointAt, Piece, piece_report}
use Rattle.fab_run.specs.Going.{Going, IsGoing}
use Rattle.fab_run.specs.Piece.{IsOver, cost_at, end_line, stage_lines}
use Rattle.fab_run.specs.Placed.{IsPlaceOut, head_by, piece_by, piece_from, start_by}
use Rattle.fab_run.specs.SameAnswers.{Call}
use Rattle.fab_run.specs.Setting.{IsSetting, Setting, Texts}
use Rattle.fab_run.proofs.Chaining.{no_end_line}
use Rattle.fab_run.proofs.FixedAlike.{made_same, piece_at}
use Rattle.fab_run.proofs.MadeOnce.{IsMadeAlone}
use Rattle.fab_run.proofs.Pieces.{accepted_add, costs_add, lines_add}
use Rattle.fab_run.proofs.SameAnswers.{design_once, going_once, piece_going}

-- names are all that later texts change

names_last : (t u : Texts) (ls : List Later) → t.net_label ≡ u.net_label → t.arch_label ≡ u.arch_label → ((last_names t ls).net_label ≡ (last_names u ls).net_label) × ((last_names t ls).arch_label ≡ (last_names u ls).arch_label)
names_last t u [] net arch = (net, arch)
names_last t u (l ∷ ls) net arch = names_last (with_names t l.texts) (with_names u l.texts) ls refl refl

names_kept : (t : Texts) (ls : List Later) → last_names t ls ≡ with_names t (last_names t ls)
names_kept t [] = refl
names_kept t (l ∷ ls) = names_kept (with_names t l.texts) ls

-- of the texts, the place text depends only on the names
place_named : (t u : Texts) (d : Netlist) (g : GridShape) (sites : List Site) (e : Ending) (old new : Option (List ℕ)) → t.net_label ≡ u.net_label → t.arch_label ≡ u.arch_label → IsPlaceOut t d g sites e old new → IsPlaceOut u d g sites e old new
place_named t u d g sites Finished old new net arch p =
    subst (λ a. IsPlaceOut (record u { arch_label = a }) d g sites Finished old new) arch (subst (λ n. IsPlaceOut (record u { net_label = n; arch_label = t.arch_label }) d g sites Finished old new) net (record { text = p.text; back = p.back }))
place_named t u d g sites (Stopped q) old new net arch p = p

made_named : (t u : Texts) (p : Piece) (c : Call) → t.net_label ≡ u.net_label → t.arch_label ≡ u.arch_label → IsMadeAlone t p c → IsMadeAlone u p c
made_named t u p c net arch made = record { told = made.told; place = place_named t u p.run.problem.design p.run.problem.grid c.answer.placement.sites c.answer.ending (Some []) (Some c.place) net arch made.place }

-- a call that ends with its last move is one without a stop

over_here : (r : Run) (y : Standing) (e : Ending) → e ≡ Finished → EndsAs r y e → y.heat ≡ None
over_here r y e is ends = subst (EndsAs r y) is ends

to_the_end : (r : Run) (x : Standing) (n : ℕ) → IsOver r x n → IsPiece r x None n
to_the_end r x n over = inr (record { over = over; passed = λ m h. absurd (let none : None ≡ Some (x.done + m) = h in cc) })

over_of : (r : Run) (x : Standing) (n : ℕ) → IsPiece r x None n → IsOver r x n
over_of r x n (inl s) = absurd (let none : None ≡ Some (x.done + n) = s.here in cc)
over_of r x n (inr s) = s.over

abbrev endless : Piece → Piece
endless p = record { run = p.run; start = p.start; head = p.head; stop = None }

report_endless : (p : Piece) (n : ℕ) → piece_report p n ≡ piece_report (endless p) n
unfolding piece_report
report_endless p n = refl

last_call : (t : Texts) (p : Piece) (c : Call) → IsMadeAlone t p c → c.answer.ending ≡ Finished → IsMadeAlone t (endless p) c
last_call t p c made is =
    let a = made.told.annealed in
    let n = made.told.moves in
    record {
      told = record {
        moves = n;
        annealed = record {
          piece = to_the_end p.run p.start n (over_here p.run (from p.run p.start n) c.answer.ending is a.ending);
          ending = a.ending;
          array = a.array;
          stands = a.stands;
          legal = a.legal;
          numbers = a.numbers;
          values = a.values;
        };
        report = made.told.report ∙ report_endless p n;
      };
      place = made.place;
    }

-- a call and what goes on from there

report_then : (r : Run) (x : Standing) (head one two : List ℕ) (stop : Option ℕ) (n m : ℕ) → is_some (from r x n).heat ≡ true
    → one ≡ piece_report (record { run = r; start = x; head = head; stop = stop }) n → two ≡ piece_report (record { run = r; start = from r x n; head = []; stop = None }) m
    → one ++ two ≡ piece_report (record { run = r; start = x; head = head; stop = None }) (n + m)
unfolding piece_report
report_then r x head one two stop n m going is also =
    let y = from r x n in
    let first : one ≡ head ++ stage_lines r x n = is ∙ ap (λ l. head ++ (stage_lines r x n ++ l)) (no_end_line r y going) ∙ ap (λ l. head ++ l) (append-nil (stage_lines r x n)) in
    let end = end_line r (from r y m) in
    (λ i. first i ++ also i)
    ∙ append_assoc head (stage_lines r x n) (stage_lines r y m ++ end)
    ∙ ap (λ l. head ++ l) (sym (append_assoc (stage_lines r x n) (stage_lines r y m) end))
    ∙ (λ i. head ++ (sym (lines_add r x n m) i ++ end_line r (sym (from_add r x n m) i)))

made_then : (t u : Texts) (r : Run) (x : Standing) (head : List ℕ) (stop : Option ℕ) (a b : Call) (first : IsMadeAlone t (record { run = r; start = x; head = head; stop = stop }) a)
    → is_some (from r x first.told.moves).heat ≡ true
    → IsMadeAlone u (record { run = r; start = from r x first.told.moves; head = []; stop = None }) b
    → IsMadeAlone u (record { run = r; start = x; head = head; stop = None }) (then a b)
made_then t u r x head stop a b first going second =
    let n = first.told.moves in
    let m = second.told.moves in
    let y = from r x n in
    let p = first.told.annealed in
    let q = second.told.annealed in
    let there : from r y m ≡ from r x (n + m) = sym (from_add r x n m) in
    record {
      told = record {
        moves = n + m;
        annealed = record {
          piece = to_the_end r x (n + m) (ap (λ (z : Standing). z.heat) (sym there) ∙ over_of r y m q.piece);
          ending = subst (λ z. EndsAs r z b.answer.ending) there q.ending;
          array = q.array;
          stands = q.stands ∙ ap (λ (z : Standing). z.sites) there;
          legal = q.legal;
          numbers = (λ i. p.numbers i ++ q.numbers i) ∙ sym (accepted_add r x n m);
          values = (λ i. p.values i ++ drop 1 (q.values i)) ∙ ap (λ l. cost_at r x ∷ l) (sym (costs_add r x n m));
        };
        report = report_then r x head a.report b.report stop n m going first.told.report second.told.report;
      };
      place = second.place;
    }

-- the next call goes on from where the one before stopped

means_there : (t u : Texts) (io_rat : ℕ) (d : Netlist) → u.arch ≡ t.arch → u.net ≡ t.net → MeanDesign t.arch t.net io_rat d → MeanDesign u.arch u.net io_rat d
means_there t u io_rat d arch net mean = subst (λ a. MeanDesign a u.net io_rat d) (sym arch) (subst (λ n. MeanDesign t.arch n io_rat d) (sym net) mean)

next_call : (t : Texts) (d : Netlist) (g : GridShape) (f : List (Option Site)) (seed : ℕ) (plan : Plan) (y : Standing) (q : Point) (l : Later) → MeanDesign t.arch t.net g.io_rat d → IsPointAt (run d g f (stream_moves seed) plan) y q
    → GoesOnFrom t seed q l → IsMadeAlone l.texts (piece_at d g f seed plan y [] l.stop) l.call
next_call t d g f seed plan y q l mean at goes =
    let s = goes.called.1.0 in
    let written = goes.point in
    let here : Going = record { design = written.design; grid = q.placement.grid; seed = seed; point = q } in
    let means : MeanDesign l.texts.arch l.texts.net q.placement.grid.io_rat written.design = means_there t l.texts q.placement.grid.io_rat written.design goes.arch goes.net written.mean in
    let alike = going_once l.texts l.point here s (record { mean = means; stands = written.stands }) goes.called.1.1.text in
    let design = (design_once t.arch t.net g.io_rat q.placement.grid.io_rat d written.design mean written.mean).1 in
    let grid = at.lawful.array in
    let schedule = at.schedule in
    let stands = at.stands in
    let is : piece_at d g s.point.fixed seed plan y [] l.stop ≡ piece_at written.design q.placement.grid s.point.fixed seed q.schedule (standing_at q) [] l.stop =
    λ i. piece_at (design i) (sym grid i) s.point.fixed seed (sym schedule i) (sym stands i) [] l.stop in
    let same = is ∙ piece_going here s l.stop alike ∙ sym goes.called.1.2 in
    let fixed = alike.point.fixed in
    made_same l.texts d g s.point.fixed f seed plan y [] l.stop l.call.answer (Some []) (Some l.call.report) (Some []) (Some l.call.place) (λ b. sym (fixed b) ∙ at.fixed b)
    (subst (λ p. IsMadeAlone l.texts p l.call) (sym same) goes.called.2)

record Next (d : Netlist) (g : GridShape) (f : List (Option Site)) (seed : ℕ) (plan : Plan) (y : Standing) (l : Later) : Type 0 where
  pub mean : MeanDesign l.texts.arch l.texts.net g.io_rat d
  pub going : is_some y.heat ≡ true
  pub made : IsMadeAlone l.texts (piece_at d g f seed plan y [] l.stop) l.call

next_by : (t : Texts) (d : Netlist) (g : GridShape) (f : List (Option Site)) (seed : ℕ) (plan : Plan) (y : Standing) (l : Later) (e : Ending) → MeanDesign t.arch t.net g.io_rat d → EndsAs (run d g f (stream_moves seed) plan) y e → GoesOn t seed e l → Next d g f seed plan y l
next_by t d g f seed plan y l Finished mean ends goes = absurd goes
next_by t d g f seed plan y l (Stopped q) mean ends goes =
    record {
      mean = means_there t l.texts g.io_rat d goes.arch goes.net mean;
      going = ap (λ (s : Standing). is_some s.heat) (sym ends.stands);
      made = next_call t d g f seed plan y q l mean ends goes;
    }

chain_made : (t : Texts) (d : Netlist) (g : GridShape) (f : List (Option Site)) (seed : ℕ) (plan : Plan) (x : Standing) (head : List ℕ) (stop : Option ℕ) (c : Call) (ls : List Later) → MeanDesign t.arch t.net g.io_rat d
    → IsMadeAlone t (piece_at d g f seed plan x head stop) c → AreCalls t seed c ls → IsMadeAlone (last_names t ls) (piece_at d g f seed plan x head None) (joined c ls)
chain_made t d g f seed plan x head stop c [] mean made ends = last_call t (piece_at d g f seed plan x head stop) c made ends
chain_made t d g f seed plan x head stop c (l ∷ ls) mean made goes =
    let r = run d g f (stream_moves seed) plan in
    let y = from r x made.told.moves in
    let next = next_by t d g f seed plan y l c.answer.ending mean made.told.annealed.ending goes.0 in
    let rest = chain_made l.texts d g f seed plan y [] l.stop l.call ls next.mean next.made goes.1 in
    let names = names_last l.texts (with_names t l.texts) ls refl refl in
    let named = made_named (last_names l.texts ls) (last_names (with_names t l.texts) ls) (piece_at d g f seed plan y [] None) (joined l.call ls) names.0 names.1 rest in
    made_then t (last_names (with_names t l.texts) ls) r x head stop c (joined l.call ls) made next.going named

-- the names of the last call are lawful

labels_by : (t : Texts) (seed : ℕ) (l : Later) (e : Ending) → GoesOn t seed e l → are_labels l.texts.net_label l.texts.arch_label ≡ true
labels_by t seed l Finished goes = absurd goes
labels_by t seed l (Stopped q) goes = goes.called.1.1.labels

labels_last : (t : Texts) (seed : ℕ) (c : Call) (ls : List Later) → AreCalls t seed c ls → are_labels t.net_label t.arch_label ≡ true → are_labels (last_names t ls).net_label (last_names t ls).arch_label ≡ true
labels_last t seed c [] calls ok = ok
labels_last t seed c (l ∷ ls) calls ok =
    let rest = labels_last l.texts seed l.call ls calls.1 (labels_by t seed l c.answer.ending calls.0) in
    let names = names_last l.texts (with_names t l.texts) ls refl refl in
    let net = names.0 in
    let arch = names.1 in
    (λ i. are_labels (sym net i) (sym arch i)) ∙ rest

setting_named : (t u : Texts) (o : Options) (s : Setting) → IsSetting t o s → are_labels u.net_label u.arch_label ≡ true → IsSetting (with_names t u) (unstopped o) s
setting_named t u o s x labels =
    let pins = x.asked.pins in
    let plan = x.asked.plan in
    record {
      asked = record {
        pins = record { array = record { mean = pins.array.mean; size = pins.array.size; fits = pins.array.fits }; pins = pins.pins };
        labels = labels;
        plan = record { init = plan.init; exit = plan.exit; cooling = plan.cooling; moves = plan.moves };
      };
      lawful = x.lawful;
      batch = x.batch;
      workers = x.workers;
    }

pub calls_are_runs : CallsAreRuns
calls_are_runs t o c ls called calls =
    let s = called.1.0 in
    let x = called.1.1 in
    let first : IsMadeAlone t (piece_by s o.seed o.stop) c = subst (λ p. IsMadeAlone t p c) called.1.2 called.2 in
    let all = chain_made t s.design s.grid s.fixed o.seed s.plan (start_by s o.seed) (head_by s o.seed) o.stop c ls x.asked.pins.array.mean first calls in
    let labels = labels_last t o.seed c ls calls x.asked.labels in
    let setting = subst (λ u. IsSetting u (unstopped o) s) (sym (names_kept t ls)) (setting_named t (last_names t ls) o s x labels) in
    (piece_by s o.seed None, (s, setting, refl), all)

going_named : (t u : Texts) (point : List ℕ) (batch workers : ℕ) (s : Going) → IsGoing t point batch workers s → are_labels u.net_label u.arch_label ≡ true → IsGoing (with_names t u) point batch workers s
going_named t u point batch workers s x labels =
    record {
      text = record { mean = x.text.mean; stands = x.text.stands };
      labels = labels;
      batch_fits = x.batch_fits;
      workers_fit = x.workers_fit;
    }

pub resumed_calls_are_runs : ResumedCallsAreRuns
resumed_calls_are_runs t point batch workers stop here c ls text called calls =
    let s = called.1.0 in
    let x = called.1.1 in
    let alike = going_once t point here s text x.text in
    let first : IsMadeAlone t (piece_from s stop) c = subst (λ p. IsMadeAlone t p c) called.1.2 called.2 in
    let all = chain_made t s.design s.grid s.point.fixed s.seed s.point.schedule (standing_at s.point) [] stop c ls x.text.mean first (subst (λ k. AreCalls t k c ls) alike.seed calls) in
    let labels = labels_last t here.seed c ls calls x.labels in
    let going = subst (λ u. IsGoing u point batch workers s) (sym (names_kept t ls)) (going_named t (last_names t ls) point batch workers s x labels) in
    (piece_from s None, (s, going, refl), all)
