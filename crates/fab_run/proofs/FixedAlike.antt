-- A run reads the list of its fixed blocks only by block, so two lists that are read the same make the same pieces.
use Rattle.std.proofs.Common.{◌≡◌, ℕ, zero, suc, ◌==◌, List, [], ◌∷◌, ◌++◌, length, filter, map, Option, Some, None, is_some, not, refl, sym, ap, subst, ◌∙◌, inl, inr}
use Rattle.std.specs.Prelude.{◌/◌, ◌+◌, ◌-◌, if◌then◌else◌, slice_get, slice_index}
use Rattle.std.specs.List.{count_by, range_with_len}
use Rattle.std.specs.Io.KnownBytes.{Appends}
use Rattle.fab_arch.specs.declared.array.Site.{Site}
use Rattle.fab_arch.specs.Grid.{GridShape}
use Rattle.fab_net.specs.declared.netlist_types.BlockId.{BlockId}
use Rattle.fab_net.specs.Netlist.{Netlist}
use Rattle.fab_site.specs.Free.{is_free}
use Rattle.fab_site.specs.Pins.{either_site, given_at}
use Rattle.fab_site.specs.Placement.{IsLegal, at, fixed_at, same_site, site_of}
use Rattle.fab_site.specs.Words.{pick_of}
use Rattle.fab_site.specs.Start.{deal, logic_sites, pad_sites, sites_left, start_sites}
use Rattle.fab_cost.specs.Cost.{cost_of}
use Rattle.fab_dial.specs.declared.readings.Reading.{Reading}
use Rattle.fab_move.specs.declared.proposals.Proposal.{Proposal}
use Rattle.fab_move.specs.declared.proposals.Proposal.TheVariants.{Nothing, Void, Move}
use Rattle.fab_move.specs.Judge.{Judged, judged, judged_as, problem}
use Rattle.fab_move.specs.Propose.{movable, proposal, propose_for, propose_held, target}
use Rattle.fab_move.specs.Stream.{stream_moves}
use Rattle.fab_sched.specs.Annealing.{Plan}
use Rattle.fab_commit.specs.Run.Commits.{run}
use Rattle.fab_commit.specs.Model.History.{accepted_from, is_redone}
use Rattle.fab_commit.specs.Run.Readings.{reading_at, readings, shown_after}
use Rattle.fab_commit.specs.Serial.{Standing, accepted_among, after_move, from, judged_here, moves_left, numbers_if, one_if, or_zero, step}
use Rattle.fab_commit.specs.Model.Turns.{base_of, redone_in_run}
use Rattle.fab_commit.specs.Model.World.{accepted_now, clash}
use Rattle.fab_run.specs.declared.inputs.Ending.{Ending}
use Rattle.fab_run.specs.declared.inputs.Ending.TheVariants.{Finished, Stopped}
use Rattle.fab_run.specs.Ends.{Answer, AreRedone, EndsAs, IsPiece, Piece, piece_report}
use Rattle.fab_run.specs.Piece.{cost_at, end_line, line_here, stage_costs, stage_lines}
use Rattle.fab_run.specs.Placed.{IsMade}
use Rattle.fab_run.specs.RunReport.{stage_line}
use Rattle.fab_run.specs.Setting.{Texts}
use Rattle.fab_run.specs.Shown.{AreShown}

-- two lists of given sites are read the same by block
abbrev pub ReadTheSame : List (Option Site) → List (Option Site) → Type 0
ReadTheSame f h = (b : ℕ) → fixed_at f b ≡ fixed_at h b

-- moves read the list of fixed blocks only by block

held_same : (f h : List (Option Site)) (b : BlockId) (here to : Site) (o : Option BlockId) → ReadTheSame f h → propose_held f b here to o ≡ propose_held h b here to o
held_same f h b here to None same = refl
held_same f h b here to (Some holder) same =
    ap (λ q. if is_some q then Void b to else Move (record { block = b; from = here; to = to; other = Some holder })) (same holder.0)

for_same : (d : Netlist) (g : GridShape) (f h : List (Option Site)) (sites : List Site) (range : ℕ) (ws : List ℕ) (o : Option ℕ) → ReadTheSame f h → propose_for d g f sites range ws o ≡ propose_for d g h sites range ws o
for_same d g f h sites range ws None same = refl
for_same d g f h sites range ws (Some b) same =
    let here = site_of sites b in
    let to = target d g b here range ws in
    ap (λ q. if same_site here to then Void (record { 0 = b }) to else q) (held_same f h (record { 0 = b }) here to (at sites to) same)

movable_same : (d : Netlist) (f h : List (Option Site)) → ReadTheSame f h → movable d f ≡ movable d h
movable_same d f h same =
    let free : is_free f ≡ is_free h = λ i. λ b. not (is_some (same b i)) in
    ap (λ p. filter p (range_with_len 0 (length d.kinds))) free

proposal_same : (d : Netlist) (g : GridShape) (f h : List (Option Site)) (sites : List Site) (range : ℕ) (ws : List ℕ) → ReadTheSame f h → proposal d g f sites range ws ≡ proposal d g h sites range ws
unfolding proposal
proposal_same d g f h sites range ws same =
    ap (λ m. propose_for d g f sites range ws (slice_get m (pick_of (slice_index ws 0) (length m)))) (movable_same d f h same)
    ∙ for_same d g f h sites range ws (slice_get (movable d h) (pick_of (slice_index ws 0) (length (movable d h)))) same

as_same : (d : Netlist) (g : GridShape) (w : ℕ → List ℕ) (f h : List (Option Site)) (sites : List Site) (t word : ℕ) (q : Proposal) → judged_as (problem d g f w) sites t word q ≡ judged_as (problem d g h w) sites t word q
as_same d g w f h sites t word Nothing = refl
as_same d g w f h sites t word (Void b to) = refl
as_same d g w f h sites t word (Move s) = refl

judged_same : (d : Netlist) (g : GridShape) (w : ℕ → List ℕ) (f h : List (Option Site)) (sites : List Site) (k t range : ℕ) → ReadTheSame f h → judged (problem d g f w) sites k t range ≡ judged (problem d g h w) sites k t range
unfolding judged
judged_same d g w f h sites k t range same =
    ap (judged_as (problem d g f w) sites t (slice_index (w k) 3)) (proposal_same d g f h sites range (w k) same)
    ∙ as_same d g w f h sites t (slice_index (w k) 3) (proposal d g h sites range (w k))

-- so does the fold over moves, with all that is told of it

here_same : (d : Netlist) (g : GridShape) (w : ℕ → List ℕ) (p : Plan) (f h : List (Option Site)) (x : Standing) → ReadTheSame f h → judged_here (run d g f w p) x x.done ≡ judged_here (run d g h w p) x x.done
here_same d g w p f h x same = judged_same d g w f h x.sites x.done (or_zero x.heat) x.range same

step_same : (d : Netlist) (g : GridShape) (w : ℕ → List ℕ) (p : Plan) (f h : List (Option Site)) (x : Standing) → ReadTheSame f h → step (run d g f w p) x ≡ step (run d g h w p) x
step_same d g w p f h x same = ap (λ j. if is_some x.heat then after_move (run d g f w p) x j else x) (here_same d g w p f h x same)

from_same : (d : Netlist) (g : GridShape) (w : ℕ → List ℕ) (p : Plan) (f h : List (Option Site)) (x : Standing) (n : ℕ) → ReadTheSame f h → from (run d g f w p) x n ≡ from (run d g h w p) x n
from_same d g w p f h x zero same = refl
from_same d g w p f h x (suc n) same =
    from_same d g w p f h (step (run d g f w p) x) n same ∙ ap (λ y. from (run d g h w p) y n) (step_same d g w p f h x same)

among_same : (d : Netlist) (g : GridShape) (w : ℕ → List ℕ) (p : Plan) (f h : List (Option Site)) (x : Standing) (n : ℕ) → ReadTheSame f h → accepted_among (run d g f w p) x n ≡ accepted_among (run d g h w p) x n
among_same d g w p f h x zero same = refl
among_same d g w p f h x (suc n) same =
    let now = ap (λ (j : Judged). if is_some x.heat then numbers_if x.done j.accepted else []) (here_same d g w p f h x same) in
    let later = among_same d g w p f h (step (run d g f w p) x) n same ∙ ap (λ y. accepted_among (run d g h w p) y n) (step_same d g w p f h x same) in
    λ i. now i ++ later i

line_same : (d : Netlist) (g : GridShape) (w : ℕ → List ℕ) (p : Plan) (f h : List (Option Site)) (x : Standing) → ReadTheSame f h → line_here (run d g f w p) x ≡ line_here (run d g h w p) x
line_same d g w p f h x same =
    ap (λ (j : Judged). if moves_left (run d g f w p) x == 1 then
    stage_line (x.done / p.moves) (or_zero x.heat) x.range p.moves (x.accepted + one_if j.accepted) (cost_of d g (if is_some x.heat then after_move (run d g f w p) x j else x).sites)
    else []) (here_same d g w p f h x same)

lines_same : (d : Netlist) (g : GridShape) (w : ℕ → List ℕ) (p : Plan) (f h : List (Option Site)) (x : Standing) (n : ℕ) → ReadTheSame f h → stage_lines (run d g f w p) x n ≡ stage_lines (run d g h w p) x n
lines_same d g w p f h x zero same = refl
lines_same d g w p f h x (suc n) same =
    let now = line_same d g w p f h x same in
    let later = lines_same d g w p f h (step (run d g f w p) x) n same ∙ ap (λ y. stage_lines (run d g h w p) y n) (step_same d g w p f h x same) in
    λ i. now i ++ later i

costs_same : (d : Netlist) (g : GridShape) (w : ℕ → List ℕ) (p : Plan) (f h : List (Option Site)) (x : Standing) (n : ℕ) → ReadTheSame f h → stage_costs (run d g f w p) x n ≡ stage_costs (run d g h w p) x n
costs_same d g w p f h x zero same = refl
costs_same d g w p f h x (suc n) same =
    let now = ap (λ (y : Standing). if moves_left (run d g f w p) x == 1 then cost_of d g y.sites ∷ [] else []) (step_same d g w p f h x same) in
    let later = costs_same d g w p f h (step (run d g f w p) x) n same ∙ ap (λ y. stage_costs (run d g h w p) y n) (step_same d g w p f h x same) in
    λ i. now i ++ later i

pub start_same : (d : Netlist) (g : GridShape) (f h s t : List (Option Site)) (word : ℕ → ℕ) → ReadTheSame f h → ReadTheSame s t → start_sites d g f s word ≡ start_sites d g h t word
start_same d g f h s t word fixed begun =
    let given : given_at f s ≡ given_at h t = λ i. λ b. either_site (fixed b i) (begun b i) in
    ap (λ q. deal word 0 (sites_left (map q (range_with_len 0 (length d.kinds))) (logic_sites g)) (sites_left (map q (range_with_len 0 (length d.kinds))) (pad_sites g)) (map q (range_with_len 0 (length d.kinds))) d.kinds) given

accepted_same : (d : Netlist) (g : GridShape) (w : ℕ → List ℕ) (p : Plan) (f h : List (Option Site)) (x : Standing) (n : ℕ) → ReadTheSame f h → accepted_from (run d g f w p) x n ≡ accepted_from (run d g h w p) x n
accepted_same d g w p f h x zero same = refl
accepted_same d g w p f h x (suc n) same =
    let now = ap (λ (j : Judged). if is_some x.heat then accepted_now x.done j else []) (here_same d g w p f h x same) in
    let later = accepted_same d g w p f h (step (run d g f w p) x) n same ∙ ap (λ y. accepted_from (run d g h w p) y n) (step_same d g w p f h x same) in
    λ i. now i ++ later i

is_redone_same : (d : Netlist) (g : GridShape) (w : ℕ → List ℕ) (p : Plan) (f h : List (Option Site)) (x : Standing) (base k : ℕ) → ReadTheSame f h → is_redone (run d g f w p) x base k ≡ is_redone (run d g h w p) x base k
is_redone_same d g w p f h x base k same =
    let past = accepted_same d g w p f h x (k - x.done) same in
    let at = from_same d g w p f h x (base - x.done) same in
    let y = from (run d g h w p) x (base - x.done) in
    let j : judged_here (run d g f w p) (from (run d g f w p) x (base - x.done)) k ≡ judged_here (run d g h w p) y k =
    ap (λ z. judged_here (run d g f w p) z k) at ∙ judged_same d g w f h y.sites k (or_zero y.heat) y.range same in
    λ i. clash d (past i) base (j i).footprint

redone_same : (d : Netlist) (g : GridShape) (w : ℕ → List ℕ) (p : Plan) (f h : List (Option Site)) (x : Standing) (batch n : ℕ) → ReadTheSame f h → redone_in_run (run d g f w p) x batch n ≡ redone_in_run (run d g h w p) x batch n
redone_same d g w p f h x batch n same =
    let each : (λ k. is_redone (run d g f w p) x (base_of p.moves x.done batch k) k) ≡ (λ k. is_redone (run d g h w p) x (base_of p.moves x.done batch k) k) =
    λ i. λ k. is_redone_same d g w p f h x (base_of p.moves x.done batch k) k same i in
    ap (λ q. count_by q (range_with_len x.done n)) each

readings_same : (d : Netlist) (g : GridShape) (w : ℕ → List ℕ) (p : Plan) (f h : List (Option Site)) (x : Standing) (batch n : ℕ) → ReadTheSame f h → readings (run d g f w p) x batch n ≡ readings (run d g h w p) x batch n
readings_same d g w p f h x batch n same =
    let each : (λ k. reading_at (run d g f w p) (from (run d g f w p) x k)) ≡ (λ k. reading_at (run d g h w p) (from (run d g h w p) x k)) =
    λ i. λ k. reading_at (run d g h w p) (from_same d g w p f h x k same i) in
    ap (λ q. map q (shown_after p.moves x.done batch n)) each

-- a piece of a run of a design on an array, with these blocks fixed
abbrev pub piece_at : Netlist → GridShape → List (Option Site) → ℕ → Plan → Standing → List ℕ → Option ℕ → Piece
piece_at d g fixed seed plan x head stop = record { run = run d g fixed (stream_moves seed) plan; start = x; head = head; stop = stop }

piece_same : (d : Netlist) (g : GridShape) (w : ℕ → List ℕ) (p : Plan) (f h : List (Option Site)) (x : Standing) (stop : Option ℕ) (n : ℕ) → ReadTheSame f h → IsPiece (run d g f w p) x stop n → IsPiece (run d g h w p) x stop n
piece_same d g w p f h x stop n same (inl s) = inl (record { here = s.here; going = ap (λ (y : Standing). is_some y.heat) (sym (from_same d g w p f h x n same)) ∙ s.going })
piece_same d g w p f h x stop n same (inr s) =
    inr (record {
      over = ap (λ (y : Standing). y.heat) (sym (from_same d g w p f h x n same)) ∙ s.over;
      passed = λ m here. ap (λ (y : Standing). y.heat) (sym (from_same d g w p f h x m same)) ∙ s.passed m here;
    })

ends_as : (d : Netlist) (g : GridShape) (w : ℕ → List ℕ) (p : Plan) (f h : List (Option Site)) (y : Standing) (e : Ending) → ReadTheSame f h → EndsAs (run d g f w p) y e → EndsAs (run d g h w p) y e
ends_as d g w p f h y Finished same s = s
ends_as d g w p f h y (Stopped q) same s = record { stands = s.stands; schedule = s.schedule; fixed = λ b. s.fixed b ∙ same b; lawful = s.lawful }

legal_same : (d : Netlist) (g : GridShape) (f h : List (Option Site)) (sites : List Site) → ReadTheSame f h → IsLegal d g f sites → IsLegal d g h sites
legal_same d g f h sites same l = record { all = l.all; fit = l.fit; apart = l.apart; stay = λ b s k. l.stay b s (same b ∙ k) }

report_same : (d : Netlist) (g : GridShape) (f h : List (Option Site)) (seed : ℕ) (p : Plan) (x : Standing) (head : List ℕ) (stop : Option ℕ) (n : ℕ) → ReadTheSame f h → piece_report (piece_at d g f seed p x head stop) n ≡ piece_report (piece_at d g h seed p x head stop) n
unfolding piece_report
report_same d g f h seed p x head stop n same =
    let w = stream_moves seed in
    let lines = lines_same d g w p f h x n same in
    let end = ap (end_line (run d g f w p)) (from_same d g w p f h x n same) in
    λ i. head ++ (lines i ++ end i)

-- what such a piece answers and writes is what the other does
pub made_same : (t : Texts) (d : Netlist) (g : GridShape) (f h : List (Option Site)) (seed : ℕ) (p : Plan) (x : Standing) (head : List ℕ) (stop : Option ℕ) (a : Answer) (report_old report_new place_old place_new : Option (List ℕ)) → ReadTheSame f h
    → IsMade t (piece_at d g f seed p x head stop) a report_old report_new place_old place_new → IsMade t (piece_at d g h seed p x head stop) a report_old report_new place_old place_new
made_same t d g f h seed p x head stop a report_old report_new place_old place_new same made =
    let w = stream_moves seed in
    let n = made.told.moves in
    let old = made.told.annealed in
    let there = from_same d g w p f h x n same in
    record {
      told = record {
        moves = n;
        annealed = record {
          piece = piece_same d g w p f h x stop n same old.piece;
          ending = subst (λ y. EndsAs (run d g h w p) y a.ending) there (ends_as d g w p f h (from (run d g f w p) x n) a.ending same old.ending);
          array = old.array;
          stands = old.stands ∙ ap (λ (y : Standing). y.sites) there;
          legal = legal_same d g f h a.placement.sites same old.legal;
          numbers = old.numbers ∙ among_same d g w p f h x n same;
          values = old.values ∙ ap (λ l. cost_at (run d g f w p) x ∷ l) (costs_same d g w p f h x n same);
        };
        report = subst (Appends report_old report_new) (report_same d g f h seed p x head stop n same) made.told.report;
      };
      place = made.place;
    }

pub are_redone_same : (d : Netlist) (g : GridShape) (f h : List (Option Site)) (seed : ℕ) (p : Plan) (x : Standing) (head : List ℕ) (stop : Option ℕ) (batch n : ℕ) → ReadTheSame f h
    → AreRedone (piece_at d g f seed p x head stop) batch n → AreRedone (piece_at d g h seed p x head stop) batch n
are_redone_same d g f h seed p x head stop batch n same r =
    let w = stream_moves seed in
    record {
      moves = r.moves;
      piece = piece_same d g w p f h x stop r.moves same r.piece;
      made = ap (λ (y : Standing). y.done) (sym (from_same d g w p f h x r.moves same)) ∙ r.made;
      count = r.count ∙ redone_same d g w p f h x batch r.moves same;
    }

pub are_shown_same : (d : Netlist) (g : GridShape) (f h : List (Option Site)) (seed : ℕ) (p : Plan) (x : Standing) (head : List ℕ) (stop : Option ℕ) (batch : ℕ) (old new : List Reading) → ReadTheSame f h
    → AreShown (piece_at d g f seed p x head stop) batch old new → AreShown (piece_at d g h seed p x head stop) batch old new
are_shown_same d g f h seed p x head stop batch old new same r =
    let w = stream_moves seed in
    record {
      moves = r.moves;
      piece = piece_same d g w p f h x stop r.moves same r.piece;
      made = ap (λ (y : Standing). y.done) (sym (from_same d g w p f h x r.moves same)) ∙ r.made;
      shown = r.shown ∙ ap (λ l. old ++ l) (readings_same d g w p f h x batch r.moves same);
    }
