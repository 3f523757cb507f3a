-- The report of a piece, and its beginnings.
use Rattle.std.proofs.Common.{◌≡◌, ℕ, zero, suc, ◌+◌, ◌-◌, ◌<◌, List, [], ◌∷◌, ◌++◌, length, take, Bool, true, false, cond, Option, Some, None, is_some, refl, sym, ap, subst, ◌∙◌, arith, inl, inr}
use Rattle.std.specs.Io.KnownBytes.{Appends}
use Rattle.std.specs.Prelude.{Result, Ok, Err, IfOk, IfErr, OnOk, OnErr}
use Rattle.fab_site.specs.Placement.{IsLegal}
use Rattle.std.proofs.lemmas.Bool.{false≢true}
use Rattle.std.proofs.lemmas.List.{length-append}
use Rattle.fab_file.specs.declared.fault.PlaceFault.TheVariants.{Write}
use Rattle.fab_file.specs.Written.{IsCut}
use Rattle.fab_cost.specs.Cost.{cost_of}
use Rattle.fab_move.specs.Stream.{stream_moves}
use Rattle.fab_commit.specs.Serial.{Run, Standing, accepted_among, from, stage_at, stage_of}
use Rattle.fab_commit.specs.Run.Commits.{AnnealOf, IsSameRun, run_of}
use Rattle.fab_commit.specs.Model.Turns.{redone_in_run}
use Rattle.fab_commit.proofs.RunLemmas.ByTurns.{by_no_turn}
use Rattle.fab_run.specs.Piece.{end_line, last_line, run_costs, stage_costs, stage_lines}
use Rattle.fab_arch.specs.Grid.{GridShape}
use Rattle.fab_net.specs.Netlist.{Netlist}
use Rattle.fab_run.specs.Setting.{Texts}
use Rattle.fab_run.specs.Ends.{Answer, AreRedone, EndsAs, IsBegun, IsPiece, IsReportCutOf, IsReportOf, IsToldPiece, IsWithin, Piece, piece_end, piece_of, piece_report}
use Rattle.fab_run.specs.Placed.{IsPlaceFault, IsReportFault, IsTextCut, text_by}
use Rattle.fab_run.specs.Stages.{AreMade, IsNew}
use Rattle.fab_run.specs.declared.fault.RunFault.{RunFault}
use Rattle.fab_run.specs.declared.fault.RunFault.TheVariants.{Place, Report, NoMemory}
use Rattle.fab_run.specs.Counted.{Answers, TellsMoves}
use Rattle.fab_run.specs.declared.run_answer.Ended.{Ended}
use Rattle.fab_run.proofs.Telling.{appends_none, appends_two, same_run, take_more, take_whole}

-- a beginning of a text is one of the text and what follows it; where it is not all of the one, it is not all of both
begins_head : (xs ys : List ℕ) (k : ℕ) → (j : ℕ) × (take k xs ≡ take j (xs ++ ys)) × (k < length xs → j < length (xs ++ ys))
begins_head [] ys zero = (0, refl, λ h. absurd (omega (arith, h)))
begins_head [] ys (suc k) = (0, refl, λ h. absurd (omega (arith, h)))
begins_head (x ∷ xs) ys zero = (0, refl, λ h. omega arith)
begins_head (x ∷ xs) ys (suc k) = (let r = begins_head xs ys k in let more = r.2 in (suc r.0, ap (λ l. x ∷ l) r.1, λ h. (let less = more (omega (arith, h)) in omega (arith, less))))

-- the first j bytes of the report of n moves were written, which is not all of it under the premise P
abbrev IsToldTo : Type 0 → Piece → Option (List ℕ) → Option (List ℕ) → Type 0
IsToldTo P p old new = (n : ℕ) × (j : ℕ) × IsWithin p.run p.start p.stop n × Appends old new (take j (piece_report p n)) × (P → j < length (piece_report p n))

begun_of : (P : Type 0) (p : Piece) (old new : Option (List ℕ)) → IsToldTo P p old new → IsReportOf p old new
begun_of P p old new t = (t.0, t.2, (t.1, t.3))

short_of : (P : Type 0) (p : Piece) (old new : Option (List ℕ)) → IsToldTo P p old new → P → IsReportCutOf p old new
short_of P p old new t q = (t.0, t.2, (t.1, t.4 q, t.3))

pub none_within : (r : Run) (x : Standing) (stop : Option ℕ) → IsWithin r x stop 0
none_within r x stop m here going = omega arith

pub within_by : (r : Run) (x : Standing) (stop : Option ℕ) (n : ℕ) → IsPiece r x stop n → IsWithin r x stop n
within_by r x stop n (inl s) m here going =
    let both : Some (x.done + n) ≡ Some (x.done + m) = sym s.here ∙ here in
    let same : x.done + n ≡ x.done + m = (let k = both in cc) in
    omega (arith, same)
within_by r x stop n (inr s) m here going = absurd (false≢true (sym (ap is_some (s.passed m here)) ∙ going))

pub cut_none : (p : Piece) (old new : Option (List ℕ)) → new ≡ old → IsReportOf p old new
unfolding piece_report
cut_none p old new e = (0, none_within p.run p.start p.stop, (0, subst (λ l. Appends old l []) (sym e) (appends_none old)))

head_at : (p : Piece) (old new : Option (List ℕ)) (k : ℕ) → Appends old new (take k p.head) → IsToldTo (k < length p.head) p old new
unfolding piece_report
head_at p old new k b =
    let j = begins_head p.head (stage_lines p.run p.start 0 ++ end_line p.run p.start) k in
    (0, j.0, none_within p.run p.start p.stop, subst (λ l. Appends old new l) j.1 b, j.2)

pub cut_head : (p : Piece) (old new : Option (List ℕ)) → IsBegun old new p.head → IsReportOf p old new
cut_head p old new b = begun_of (b.0 < length p.head) p old new (head_at p old new b.0 b.1)

pub short_head : (p : Piece) (old new : Option (List ℕ)) → IsCut p.head old new → IsReportCutOf p old new
short_head p old new b = short_of (b.0 < length p.head) p old new (head_at p old new b.0 b.2) b.1

stages_at : (p : Piece) (old mid new : Option (List ℕ)) (n k : ℕ) → IsWithin p.run p.start p.stop n → Appends old mid p.head → Appends mid new (take k (stage_lines p.run p.start n)) → IsToldTo (k < length (stage_lines p.run p.start n)) p old new
unfolding piece_report
stages_at p old mid new n k within told cut =
    let lines = stage_lines p.run p.start n in
    let end = end_line p.run (piece_end p n) in
    let a = begins_head lines end k in
    let all : p.head ++ take k lines ≡ take (length p.head + a.0) (p.head ++ (lines ++ end)) = ap (λ l. p.head ++ l) a.1 ∙ sym (take_more p.head (lines ++ end) a.0) in
    let long = length-append p.head (lines ++ end) in
    let more = a.2 in
    (n, length p.head + a.0, within, subst (λ l. Appends old new l) all (appends_two old mid new p.head (take k lines) told cut), λ h. (let less = more h in omega (arith, less, long)))

pub cut_stages : (p : Piece) (old mid new : Option (List ℕ)) (n k : ℕ) → IsWithin p.run p.start p.stop n → Appends old mid p.head → Appends mid new (take k (stage_lines p.run p.start n)) → IsReportOf p old new
cut_stages p old mid new n k within told cut = begun_of (k < length (stage_lines p.run p.start n)) p old new (stages_at p old mid new n k within told cut)

pub short_stages : (p : Piece) (old mid new : Option (List ℕ)) (n : ℕ) → IsWithin p.run p.start p.stop n → Appends old mid p.head → IsCut (stage_lines p.run p.start n) mid new → IsReportCutOf p old new
short_stages p old mid new n within told b = short_of (b.0 < length (stage_lines p.run p.start n)) p old new (stages_at p old mid new n b.0 within told b.2) b.1

last_at : (p : Piece) (old mid more new : Option (List ℕ)) (n k : ℕ) → IsWithin p.run p.start p.stop n → Appends old mid p.head → Appends mid more (stage_lines p.run p.start n)
    → Appends more new (take k (end_line p.run (piece_end p n))) → IsToldTo (k < length (end_line p.run (piece_end p n))) p old new
unfolding piece_report
last_at p old mid more new n k within told lined b =
    let lines = stage_lines p.run p.start n in
    let end = end_line p.run (piece_end p n) in
    let two = appends_two mid more new lines (take k end) lined b in
    let three = appends_two old mid new p.head (lines ++ take k end) told two in
    let all : p.head ++ (lines ++ take k end) ≡ take (length p.head + (length lines + k)) (p.head ++ (lines ++ end)) =
    ap (λ l. p.head ++ l) (sym (take_more lines end k)) ∙ sym (take_more p.head (lines ++ end) (length lines + k)) in
    let long = length-append p.head (lines ++ end) in
    let long2 = length-append lines end in
    (n, length p.head + (length lines + k), within, subst (λ l. Appends old new l) all three, λ h. omega (arith, h, long, long2))

cut_last : (p : Piece) (old mid more new : Option (List ℕ)) (n : ℕ) → IsWithin p.run p.start p.stop n → Appends old mid p.head → Appends mid more (stage_lines p.run p.start n) → IsBegun more new (end_line p.run (piece_end p n)) → IsReportOf p old new
cut_last p old mid more new n within told lined b = begun_of (b.0 < length (end_line p.run (piece_end p n))) p old new (last_at p old mid more new n b.0 within told lined b.1)

short_last : (p : Piece) (old mid more new : Option (List ℕ)) (n : ℕ) → IsWithin p.run p.start p.stop n → Appends old mid p.head → Appends mid more (stage_lines p.run p.start n) → IsCut (end_line p.run (piece_end p n)) more new → IsReportCutOf p old new
short_last p old mid more new n within told lined b = short_of (b.0 < length (end_line p.run (piece_end p n))) p old new (last_at p old mid more new n b.0 within told lined b.2) b.1

told_whole : (p : Piece) (old mid more new : Option (List ℕ)) (n : ℕ) → Appends old mid p.head → Appends mid more (stage_lines p.run p.start n) → Appends more new (end_line p.run (piece_end p n)) → Appends old new (piece_report p n)
unfolding piece_report
told_whole p old mid more new n told lined last =
    let lines = stage_lines p.run p.start n in
    let end = end_line p.run (piece_end p n) in
    appends_two old mid new p.head (lines ++ end) told (appends_two mid more new lines end lined last)

-- the last line of an annealer that made its piece
end_there : (a b : AnnealOf ℕ) (n : ℕ) → IsSameRun a b → b.standing ≡ from (run_of stream_moves a) a.standing n → end_line (run_of stream_moves b) b.standing ≡ end_line (run_of stream_moves a) (from (run_of stream_moves a) a.standing n)
end_there a b n same stands = λ i. end_line (same_run stream_moves a b same i) (stands i)

-- what an annealer answers that made its piece, and its report
pub told_piece : (keeps again : Bool) (a b : AnnealOf ℕ) (head : List ℕ) (stop : Option ℕ) (batch cost : ℕ) (costs0 costs : List ℕ) (old mid more new : Option (List ℕ))
    → IsNew a → IsSameRun a b → AreMade stream_moves again stop batch a b costs0 costs mid more → cost ≡ cost_of a.design a.grid a.standing.sites → costs0 ≡ cost ∷ [] → Appends old mid head
    → (r : Result Ended RunFault) → IfOk r (λ out. EndsAs (run_of stream_moves b) b.standing out.ending) → IfOk r (λ out. out.placement.grid ≡ b.grid) → IfOk r (λ out. out.placement.sites ≡ b.standing.sites)
    → IfOk r (λ out. IsLegal b.design b.grid b.fixed out.placement.sites) → IfOk r (TellsMoves keeps b.accepted) → IfOk r (λ out. out.costs.items ≡ costs)
    → OnOk r (Appends more new (end_line (run_of stream_moves b) b.standing))
    → IfOk r (λ out. Answers keeps out (λ w. IsToldPiece (piece_of stream_moves a head stop) w old new))
told_piece keeps again a b head stop batch cost costs0 costs old mid more new fresh same made value first told (Err f) ending array sites legal accepted values last = tt
told_piece keeps again a b head stop batch cost costs0 costs old mid more new fresh same made value first told (Ok out) ending array sites legal accepted values last =
    let r = same_run stream_moves a b same in
    let x = a.standing in
    let n = made.count in
    let p = piece_of stream_moves a head stop in
    let costs_are : costs0 ++ stage_costs (run_of stream_moves a) x n ≡ run_costs (run_of stream_moves a) x n = (λ i. first i ++ stage_costs (run_of stream_moves a) x n) ∙ ap (λ c. c ∷ stage_costs (run_of stream_moves a) x n) value in (
      b.accepted,
      accepted,
      record {
        moves = n;
        annealed = record {
          piece = made.piece;
          ending = subst (λ y. EndsAs (run_of stream_moves a) y out.ending) made.stands (subst (λ q. EndsAs q b.standing out.ending) r ending);
          array = array ∙ same.grid;
          stands = sites ∙ ap (λ (y : Standing). y.sites) made.stands;
          legal = subst (λ (q : Run). IsLegal q.problem.design q.problem.grid q.problem.fixed out.placement.sites) r legal;
          numbers = made.accepted ∙ ap (λ l. l ++ accepted_among (run_of stream_moves a) x n) fresh.accepted;
          values = values ∙ made.costs ∙ costs_are;
        };
        report = told_whole p old mid more new n told made.told (subst (λ l. Appends more new l) (end_there a b n same made.stands) last);
      },
    )

-- where the last line did not go out whole, a beginning of the report did
pub cut_piece : (again : Bool) (a b : AnnealOf ℕ) (head : List ℕ) (stop : Option ℕ) (batch : ℕ) (costs0 costs : List ℕ) (old mid more new : Option (List ℕ)) → IsSameRun a b → AreMade stream_moves again stop batch a b costs0 costs mid more → Appends old mid head
    → (r : Result Ended RunFault) → OnErr r (IsBegun more new (end_line (run_of stream_moves b) b.standing)) → OnErr r (IsReportOf (piece_of stream_moves a head stop) old new)
cut_piece again a b head stop batch costs0 costs old mid more new same made told (Ok out) cut = tt
cut_piece again a b head stop batch costs0 costs old mid more new same made told (Err f) cut =
    cut_last (piece_of stream_moves a head stop) old mid more new made.count (within_by (run_of stream_moves a) a.standing stop made.count made.piece) told made.told (subst (λ l. IsBegun more new l) (end_there a b made.count same made.stands) cut)

pub short_piece : (again : Bool) (a b : AnnealOf ℕ) (head : List ℕ) (stop : Option ℕ) (batch : ℕ) (costs0 costs : List ℕ) (old mid more new : Option (List ℕ)) → IsSameRun a b → AreMade stream_moves again stop batch a b costs0 costs mid more → Appends old mid head
    → (r : Result Ended RunFault) → IfErr r (λ e. e ≡ Report → IsCut (end_line (run_of stream_moves b) b.standing) more new) → IfErr r (λ e. e ≡ Report → IsReportCutOf (piece_of stream_moves a head stop) old new)
short_piece again a b head stop batch costs0 costs old mid more new same made told (Ok out) cut = tt
short_piece again a b head stop batch costs0 costs old mid more new same made told (Err f) cut = λ q.
    short_last (piece_of stream_moves a head stop) old mid more new made.count (within_by (run_of stream_moves a) a.standing stop made.count made.piece) told made.told (subst (λ l. IsCut l more new) (end_there a b made.count same made.stands) (cut q))

-- the moves that were judged again
pub redone_piece : (again : Bool) (a b : AnnealOf ℕ) (head : List ℕ) (stop : Option ℕ) (batch : ℕ) (costs0 costs : List ℕ) (mid more : Option (List ℕ)) → IsNew a → AreMade stream_moves again stop batch a b costs0 costs mid more
    → (r : Result Ended RunFault) → IfOk r (λ out. out.redone ≡ b.redone) → IfOk r (λ out. again ≡ true → AreRedone (piece_of stream_moves a head stop) batch out.redone)
redone_piece again a b head stop batch costs0 costs mid more fresh made (Err f) count = tt
redone_piece again a b head stop batch costs0 costs mid more fresh made (Ok out) count =
    λ e.
    let r = run_of stream_moves a in
    let done = made.done in
    let all : b.standing.done - a.standing.done ≡ made.count = omega (arith, done) in
    record {
      moves = made.count;
      piece = made.piece;
      made = ap (λ (y : Standing). y.done) (sym made.stands) ∙ done;
      count = count ∙ (made.counted e).on a.standing (by_no_turn r batch a fresh.ahead fresh.swaps fresh.redone) ∙ ap (redone_in_run r a.standing batch) all;
    }

-- a fault of only the report leaves the writer of the place text as it was
pub no_place : (old new : ℕ) (e : RunFault) → IsReportFault old new e → e ≡ Place Write → ⊥
no_place old new e (inl h) q = (let k : NoMemory ≡ Place Write = sym h.0 ∙ q in absurd cc)
no_place old new e (inr h) q = (let k : Report ≡ Place Write = sym h.0 ∙ q in absurd cc)

end_by_none : (r : Run) (y : Standing) (h : Option ℕ) → y.heat ≡ h → is_some (stage_at r.plan y h) ≡ true → end_line r y ≡ []
end_by_none r y None e k = absurd (false≢true k)
end_by_none r y (Some t) e k = ap (λ q. cond (is_some q) [] (last_line r y)) e

end_by_some : (r : Run) (y : Standing) (h : Option ℕ) → y.heat ≡ h → is_some (stage_at r.plan y h) ≡ false → end_line r y ≡ last_line r y
end_by_some r y None e k = ap (λ q. cond (is_some q) [] (last_line r y)) e
end_by_some r y (Some t) e k = absurd (false≢true (sym k))

-- where a stage runs, there is no last line
pub no_end : (r : Run) (y : Standing) → is_some (stage_of r y) ≡ true → end_line r y ≡ []
no_end r y k = end_by_none r y y.heat refl k

pub an_end : (r : Run) (y : Standing) → is_some (stage_of r y) ≡ false → end_line r y ≡ last_line r y
an_end r y k = end_by_some r y y.heat refl k

-- a whole report is a beginning of itself
pub begun_whole : (p : Piece) (a : Answer) (old new : Option (List ℕ)) → IsToldPiece p a old new → IsReportOf p old new
begun_whole p a old new t = (t.moves, within_by p.run p.start p.stop t.moves t.annealed.piece, (length (piece_report p t.moves), subst (λ l. Appends old new l) (sym (take_whole (piece_report p t.moves))) t.report))

-- a place text that its writer cut
pub text_cut : (t : Texts) (p : Piece) (a : Answer) (d : Netlist) (g : GridShape) (report_old report_new place_old place_mid place_new : Option (List ℕ)) (failed_old failed_new : ℕ) (e : RunFault)
    → d ≡ p.run.problem.design → g ≡ p.run.problem.grid → IsToldPiece p a report_old report_new → place_mid ≡ place_old
    → IsPlaceFault t d g a.placement.sites a.ending place_mid place_new failed_old failed_new e → e ≡ Place Write → IsTextCut t p report_old report_new place_old place_new
text_cut t p a d g report_old report_new place_old place_mid place_new failed_old failed_new e design grid told same (inl h) q = (let k : NoMemory ≡ Place Write = sym h.0 ∙ q in absurd cc)
text_cut t p a d g report_old report_new place_old place_mid place_new failed_old failed_new e design grid told same (inr h) q =
    record {
      answer = a;
      told = told;
      finished = h.1;
      place = subst (λ old. IsCut (text_by t p.run.problem.design p.run.problem.grid a.placement.sites) old place_new) same
          (subst (λ l. IsCut l place_mid place_new) (λ i. text_by t (design i) (grid i) a.placement.sites) h.2);
    }
