-- Pieces of a run over files are one run: what each call saves is the point that the next one goes on from.
use Rattle.std.proofs.Common.{ℕ, ◌≡◌, ◌∙◌, ap, refl, sym, subst, List, [], ◌∷◌, ◌++◌, map, Option, Some, None, codes}
use Rattle.std.specs.Prelude.{Ok, Err}
use Rattle.std.proofs.lemmas.List.{append-nil}
use Rattle.fab_commit.specs.declared.run.point.Point.{Point}
use Rattle.fab_run.specs.declared.inputs.Ending.{Ending}
use Rattle.fab_run.specs.declared.inputs.Ending.TheVariants.{Finished, Stopped}
use Rattle.fab_run.specs.declared.inputs.Options.{Options}
use Rattle.fab_run.specs.Chains.{AreCalls, GoesOn, GoesOnFrom, IsTextOfPoint, Later, joined, last_names, unstopped, with_names}
use Rattle.fab_run.specs.Check.{MeanDesign}
use Rattle.fab_run.specs.Going.{Going, HasPoint}
use Rattle.fab_run.specs.Placed.{AskFor, IsPlaced}
use Rattle.fab_run.specs.SameAnswers.{AreTheSame, AsksTheSame, Call, EndAlike, IsCalled}
use Rattle.fab_run.specs.Setting.{Texts}
use Rattle.fab_run.proofs.Calls.{calls_are_runs}
use Rattle.fab_run.proofs.SameAnswers.{answers_are_told, going_once}
use Rattle.fab_text.specs.Decimal.{decimal_of}
use Rattle.fab_text.specs.declared.numbers.NumFault.TheVariants.{BadDigit}
use Rattle.fab_sched.specs.declared.schedules.Cooling.{Cooling}
use Rattle.fab_sched.specs.declared.schedules.Cooling.TheVariants.{Factor, Adaptive}
use Rattle.vplace.specs.declared.requests.PlaceWords.{PlaceWords}
use Rattle.vplace.specs.Asked.{AreAsked, IsCoolingAsked, moves_asked, size_asked, stop_asked}
use Rattle.vplace.specs.Files.{Held}
use Rattle.vplace.specs.Leaving.{IsPut}
use Rattle.vplace.specs.Placing.{GivesPads, name_of, save_name}
use Rattle.vplace.specs.Resuming.{save_name as saves_at}
use Rattle.vplace.specs.FileChains.{AreBehind, AskTheSame, LastOf, PiecesAreOneRun, PlaceCall, ResumeCall, UnbrokenCallsAreTold, given_at, last_of, reports_of, without_stop}

-- the calls as those of runs

abbrev first_of : PlaceCall → Call
first_of c = record { answer = c.did.answer; report = c.report; place = c.did.place }

abbrev call_of : ResumeCall → Call
call_of c = record { answer = c.did.answer; report = c.report; place = c.did.place }

abbrev later_of : ResumeCall → Later
later_of c =
    record {
      texts = c.did.texts;
      point = c.did.point;
      batch = c.words.batch;
      workers = c.words.workers;
      stop = c.did.stop;
      call = call_of c;
    }

-- what is saved by a call that stopped is a text of its point
abbrev SavesPoint : Texts → ℕ → Ending → Option (List ℕ) → Type 0
SavesPoint t seed Finished saved = Unit {0}
SavesPoint t seed (Stopped q) saved = (text : List ℕ) × (saved ≡ Some text) × IsTextOfPoint t seed q text

saves_point : (before after : Held) (out : List ℕ) (save : Option (List ℕ)) (t : Texts) (seed : ℕ) (e : Ending) (place : List ℕ) → IsPut (Some before) (Some after) out save t seed e place → SavesPoint t seed e (given_at save after)
saves_point before after out save t seed Finished place put = tt
saves_point before after out save t seed (Stopped q) place put =
    (put.1, ap (λ s. given_at s after) put.2 ∙ put.4.0, record { design = put.3.design; mean = put.3.mean; stands = put.3.stands })

-- a text of a point stands for one seed
same_seed : (t : Texts) (text : List ℕ) (seed : ℕ) (q : Point) (s : Going) → IsTextOfPoint t seed q text → HasPoint t text s → s.seed ≡ seed
same_seed t text seed q s is has =
    let other : Going = record { design = is.design; grid = q.placement.grid; seed = seed; point = q } in
    let also : HasPoint t text other = record { mean = is.mean; stands = is.stands } in
    (going_once t text s other has also).seed

-- a text of a point is one of any texts with the same architecture and netlist
point_of_texts : (t u : Texts) (seed : ℕ) (q : Point) (text : List ℕ) → t.arch ≡ u.arch → t.net ≡ u.net → IsTextOfPoint t seed q text → IsTextOfPoint u seed q text
point_of_texts t u seed q text arch net is =
    record {
      design = is.design;
      mean = subst (λ a. MeanDesign a u.net q.placement.grid.io_rat is.design) arch (subst (λ n. MeanDesign t.arch n q.placement.grid.io_rat is.design) net is.mean);
      stands = is.stands;
    }

-- what a name gave twice is one text
pub given_once : (given : Option (List ℕ)) (a b : List ℕ) → given ≡ Some a → given ≡ Some b → a ≡ b
given_once given a b x y = cc

are_calls : (cs : List ResumeCall) (t : Texts) (seed : ℕ) (a : Call) (e : Ending) (saved : Option (List ℕ)) → a.answer.ending ≡ e → SavesPoint t seed e saved → AreBehind (Some t.arch) (Some t.net) e saved cs
    → AreCalls t seed a (map later_of cs)
are_calls [] t seed a Finished saved is left behind = is
are_calls [] t seed a (Stopped q) saved is left behind = absurd behind
are_calls (c ∷ cs) t seed a Finished saved is left behind = absurd behind
are_calls (c ∷ cs) t seed a (Stopped q) saved is left behind =
    let d = c.did in
    let u = d.texts in
    let finds = behind.0 in
    let arch : u.arch ≡ t.arch = given_once (c.before c.words.arch.items) u.arch t.arch d.named.arch finds.arch in
    let net : u.net ≡ t.net = given_once (c.before c.words.net.items) u.net t.net d.named.net finds.net in
    let text : left.0 ≡ d.point = given_once (c.before c.words.point.items) left.0 d.point (finds.point ∙ left.1) d.named.point_file in
    let point : IsTextOfPoint t seed q d.point = subst (IsTextOfPoint t seed q) text left.2 in
    let goes : GoesOnFrom t seed q (later_of c) = record { arch = arch; net = net; point = point; called = d.placed } in
    let seeds : d.going.seed ≡ seed = same_seed u d.point seed q d.going (point_of_texts t u seed q d.point (sym arch) (sym net) point) d.read in
    let saved_next = given_at (saves_at c.words) c.after in
    let left_next : SavesPoint u seed d.answer.ending saved_next =
    subst (λ n. SavesPoint u n d.answer.ending saved_next) seeds (saves_point c.before c.after c.words.out.items (saves_at c.words) u d.going.seed d.answer.ending d.place d.put) in
    let behind_next : AreBehind (Some u.arch) (Some u.net) d.answer.ending saved_next cs =
    subst (λ x. AreBehind (Some x) (Some u.net) d.answer.ending saved_next cs) (sym arch) (subst (λ x. AreBehind (Some t.arch) (Some x) d.answer.ending saved_next cs) (sym net) behind.1) in
    (subst (λ x. GoesOn t seed x (later_of c)) (sym is) goes, are_calls cs u seed (call_of c) d.answer.ending saved_next refl left_next behind_next)

-- what all calls report, show and leave

reports_joined : (a : Call) (cs : List ResumeCall) → (joined a (map later_of cs)).report ≡ a.report ++ reports_of cs
reports_joined a [] = sym (append-nil a.report)
reports_joined a (c ∷ cs) = ap (λ r. a.report ++ r) (reports_joined (call_of c) cs)

finished : (t : Texts) (seed : ℕ) (a : Call) (ls : List Later) → AreCalls t seed a ls → (joined a ls).answer.ending ≡ Finished
finished t seed a [] calls = calls
finished t seed a (l ∷ ls) calls = finished l.texts seed l.call ls calls.1

lies_finished : (before after : Held) (out : List ℕ) (save : Option (List ℕ)) (t : Texts) (seed : ℕ) (e : Ending) (place : List ℕ) → IsPut (Some before) (Some after) out save t seed e place → e ≡ Finished → after out ≡ Some place
lies_finished before after out save t seed e place put is =
    let p : IsPut (Some before) (Some after) out save t seed Finished place = subst (λ x. IsPut (Some before) (Some after) out save t seed x place) is put in
    p.0

lies_last : (cs : List ResumeCall) (t : Texts) (seed : ℕ) (a : Call) (l : LastOf) → (a.answer.ending ≡ Finished → l.lies ≡ Some a.place) → AreCalls t seed a (map later_of cs)
    → (last_of l cs).lies ≡ Some (joined a (map later_of cs)).place
lies_last [] t seed a l lies calls = lies calls
lies_last (c ∷ cs) t seed a l lies calls =
    let d = c.did in
    lies_last cs d.texts seed (call_of c) (record { net_name = c.words.net.items; arch_name = c.words.arch.items; lies = c.after c.words.out.items })
    (lies_finished c.before c.after c.words.out.items (saves_at c.words) d.texts d.going.seed d.answer.ending d.place d.put) calls.1

record KeepsTexts (t u : Texts) : Type 0 where
  arch : u.arch ≡ t.arch
  net : u.net ≡ t.net
  pads : u.pads ≡ t.pads

kept : (t u : Texts) (ls : List Later) → KeepsTexts t u → KeepsTexts t (last_names u ls)
kept t u [] k = k
kept t u (l ∷ ls) k = kept t (with_names u l.texts) ls (record { arch = k.arch; net = k.net; pads = k.pads })

record ShowsNames (u : Texts) (l : LastOf) : Type 0 where
  net : u.net_label ≡ l.net_name
  arch : u.arch_label ≡ l.arch_name

shown : (u : Texts) (l : LastOf) (cs : List ResumeCall) → ShowsNames u l → ShowsNames (last_names u (map later_of cs)) (last_of l cs)
shown u l [] s = s
shown u l (c ∷ cs) s =
    shown (with_names u c.did.texts) (record { net_name = c.words.net.items; arch_name = c.words.arch.items; lies = c.after c.words.out.items }) cs
    (record { net = c.did.named.net_label; arch = c.did.named.arch_label })

asked_unstopped : (w : PlaceWords) (o : Options) → AreAsked w o → AreAsked (without_stop w) (unstopped o)
asked_unstopped w o a =
    record {
      seed = a.seed;
      size = a.size;
      init = a.init;
      exit = a.exit;
      cooling = a.cooling;
      moves = a.moves;
      batch = a.batch;
      workers = a.workers;
      stop = refl;
    }

pub pieces_are_one_run : PiecesAreOneRun
pieces_are_one_run c cs pieces =
    let d = c.did in
    let t = d.texts in
    let o = d.options in
    let a = first_of c in
    let ls = map later_of cs in
    let saved = given_at (save_name c.words) c.after in
    let behind : AreBehind (Some t.arch) (Some t.net) d.answer.ending saved cs =
    subst (λ x. AreBehind x (Some t.net) d.answer.ending saved cs) d.named.arch (subst (λ x. AreBehind (c.before c.words.arch.items) x d.answer.ending saved cs) d.named.net pieces) in
    let calls : AreCalls t o.seed a ls =
    are_calls cs t o.seed a d.answer.ending saved refl (saves_point c.before c.after c.words.out.items (save_name c.words) t o.seed d.answer.ending d.place d.put) behind in
    let one : IsCalled (AskFor (last_names t ls) (unstopped o)) (last_names t ls) (joined a ls) = calls_are_runs t o a ls d.placed calls in
    let u = last_names t ls in
    let keeps : KeepsTexts t u = kept t t ls (record { arch = refl; net = refl; pads = refl }) in
    let l : LastOf = record { net_name = c.words.net.items; arch_name = c.words.arch.items; lies = c.after c.words.out.items } in
    let shows : ShowsNames u (last_of l cs) = shown t l cs (record { net = d.named.net_label; arch = d.named.arch_label }) in
    record {
      texts = u;
      options = unstopped o;
      answer = (joined a ls).answer;
      place = (joined a ls).place;
      arch = d.named.arch ∙ ap (λ (x : List ℕ). Some x) (sym keeps.arch);
      net = d.named.net ∙ ap (λ (x : List ℕ). Some x) (sym keeps.net);
      pads = subst (λ x. GivesPads (Some c.before) (name_of c.words) x) (sym keeps.pads) d.named.pads;
      net_label = shows.net;
      arch_label = shows.arch;
      asked = asked_unstopped c.words o d.asked;
      placed = subst (λ r. IsPlaced (AskFor u (unstopped o)) u (joined a ls).answer (Some []) (Some r) (Some []) (Some (joined a ls).place)) (reports_joined a cs) one;
      finished = finished t o.seed a ls calls;
      lies = lies_last cs t o.seed a l (lies_finished c.before c.after c.words.out.items (save_name c.words) t o.seed d.answer.ending d.place d.put) calls;
    }

-- words that ask for the same give the same numbers

no_number : (n : ℕ) → decimal_of (codes "adaptive") 3 ≡ Ok n → ⊥
unfolding decimal_of
no_number n h = absurd (let fault : Err BadDigit ≡ Ok n = h in cc)

pub cooling_once : (text other : List ℕ) (c d : Cooling) → text ≡ other → IsCoolingAsked text c → IsCoolingAsked other d → c ≡ d
cooling_once text other Adaptive Adaptive is h k = refl
cooling_once text other Adaptive (Factor b) is h k =
    let word : decimal_of (codes "adaptive") 3 ≡ Ok b = subst (λ t. decimal_of t 3 ≡ Ok b) (sym is ∙ h) k in
    absurd (no_number b word)
cooling_once text other (Factor a) Adaptive is h k =
    let word : decimal_of (codes "adaptive") 3 ≡ Ok a = subst (λ t. decimal_of t 3 ≡ Ok a) (is ∙ k) h in
    absurd (no_number a word)
cooling_once text other (Factor a) (Factor b) is h k =
    let also : decimal_of text 3 ≡ Ok b = ap (λ t. decimal_of t 3) is ∙ k in
    cc

no_stop : (stop : Option ℕ) {A : Type 0} (save : Option A) (asked : Option ℕ) → stop ≡ None → stop_asked stop save ≡ Some asked → asked ≡ None
no_stop None None asked is h = let none : Some None ≡ Some asked = h in cc
no_stop None (Some name) asked is h = absurd cc
no_stop (Some s) save asked is h = absurd cc

asks_the_same : (u w : PlaceWords) (p o : Options) → AskTheSame u w → AreAsked u p → AreAsked (without_stop w) o → AsksTheSame p o
asks_the_same u w p o same a b =
    let sizes : size_asked u.nx u.ny ≡ size_asked w.nx w.ny = λ i. size_asked (same.nx i) (same.ny i) in
    let inits : decimal_of u.init_t.items 4 ≡ decimal_of w.init_t.items 4 = ap (λ t. decimal_of t 4) same.init_t in
    let exits : decimal_of u.exit_t.items 4 ≡ decimal_of w.exit_t.items 4 = ap (λ t. decimal_of t 4) same.exit_t in
    let moves : moves_asked u.moves u.inner ≡ moves_asked w.moves w.inner = λ i. moves_asked (same.moves i) (same.inner i) in
    record {
      seed = a.seed ∙ same.seed ∙ sym b.seed;
      size = let s = a.size in let t = b.size in cc;
      init_t = let s = a.init in let t = b.init in cc;
      exit_t = let s = a.exit in let t = b.exit in cc;
      cooling = cooling_once u.alpha_t.items w.alpha_t.items p.cooling o.cooling same.alpha_t a.cooling b.cooling;
      moves = a.moves ∙ moves ∙ sym b.moves;
      stop = no_stop u.stop u.save p.stop same.stop a.stop ∙ sym (no_stop None {A = List ℕ} None o.stop refl b.stop);
    }

-- the text of a location file is what its name gives
pub pads_given : (held : Held) (name text : Option (List ℕ)) → GivesPads (Some held) name text → text ≡ given_at name held
pads_given held None text gives = gives
pads_given held (Some name) text gives = gives.1 ∙ sym gives.2

-- a call that ended as a finished one is finished
ends_finished : (e f : Ending) → f ≡ Finished → EndAlike e f → e ≡ Finished
ends_finished Finished f is same = refl
ends_finished (Stopped q) f is same = absurd (let h : EndAlike (Stopped q) Finished = subst (EndAlike (Stopped q)) is same in h)

some_once : (given other : Option (List ℕ)) (a b : List ℕ) → given ≡ Some a → given ≡ other → other ≡ Some b → a ≡ b
some_once given other a b x y z = cc

pub unbroken_calls_are_told : UnbrokenCallsAreTold
unbroken_calls_are_told c cs u pieces unbroken =
    let one = pieces_are_one_run c cs pieces in
    let d = u.did in
    let t = d.texts in
    let v = one.texts in
    let arch : t.arch ≡ v.arch = some_once (u.before u.words.arch.items) (c.before c.words.arch.items) t.arch v.arch d.named.arch unbroken.arch one.arch in
    let net : t.net ≡ v.net = some_once (u.before u.words.net.items) (c.before c.words.net.items) t.net v.net d.named.net unbroken.net one.net in
    let pads : t.pads ≡ v.pads = pads_given u.before (name_of u.words) t.pads d.named.pads ∙ unbroken.pads ∙ sym (pads_given c.before (name_of c.words) v.pads one.pads) in
    let net_label : t.net_label ≡ v.net_label = d.named.net_label ∙ unbroken.net_name ∙ sym one.net_label in
    let arch_label : t.arch_label ≡ v.arch_label = d.named.arch_label ∙ unbroken.arch_name ∙ sym one.arch_label in
    let texts : t ≡ v = λ i. record { arch = arch i; net = net i; pads = pads i; net_label = net_label i; arch_label = arch_label i } in
    let a : Call = record { answer = d.answer; report = u.report; place = d.place } in
    let b : Call = record { answer = one.answer; report = c.report ++ reports_of cs; place = one.place } in
    let here : IsCalled (AskFor v d.options) v a = subst (λ x. IsCalled (AskFor x d.options) x a) texts d.placed in
    let asks : AsksTheSame d.options one.options = asks_the_same u.words c.words d.options one.options unbroken.words d.asked one.asked in
    let same : AreTheSame a b = answers_are_told v d.options one.options a b asks here one.placed in
    let ended : d.answer.ending ≡ Finished = ends_finished d.answer.ending one.answer.ending one.finished same.ending in
    (same.report, lies_finished u.before u.after u.words.out.items (save_name u.words) t d.options.seed d.answer.ending d.place d.put ended ∙ ap (λ (p : List ℕ). Some p) same.place ∙ sym one.lies)
