-- What watchers read are readings after moves of runs.
use Rattle.std.proofs.Common.{◌≡◌, ℕ, zero, suc, ◌+◌, ◌-◌, ◌<◌, ◌≤◌, ◌⊎◌, Bool, true, false, List, [], ◌∷◌, ◌++◌, map, is_some, Ok, Err, Result, refl, sym, ap, subst, ◌∙◌, arith, inl, inr}
use Rattle.std.specs.List.{All, filter, range_with_len}
use Rattle.std.proofs.lemmas.Bool.{cases_lt}
use Rattle.std.proofs.lemmas.List.{append-nil, append_assoc}
use Rattle.std.proofs.lemmas.List.Elements.{All-append, All-cons, All-head, All-nil, All-tail}
use Rattle.std.specs.declared.alloc.AllocError.{AllocError}
use Rattle.fab_dial.specs.declared.readings.Reading.{Reading}
use Rattle.fab_commit.specs.declared.run.turn.Turn.{Turn}
use Rattle.fab_commit.specs.Serial.{Run, Standing, from, step}
use Rattle.fab_commit.specs.Run.Commits.{AnnealOf, IsSameRun, run, run_of}
use Rattle.fab_commit.specs.Run.Readings.{IsShown, begins, reading_at, readings, shown_after}
use Rattle.fab_commit.specs.Run.Turned.{IsTurned}
use Rattle.fab_commit.proofs.RunLemmas.Folding.{from_add, step_done}
use Rattle.fab_run.specs.Shown.{AreMadeAll}
use Rattle.fab_run.specs.Watched.{AreOf, AreRising, IsAfter, IsAfterOne, OnlyShowed, PiecesShowStandings, Showed, Source, TurnsShowStandings, WatchersReadInOrder, WatchersReadStandings}

-- a move makes one at most
step_most : (r : Run) (x : Standing) (b : Bool) → is_some x.heat ≡ b → (step r x).done ≤ x.done + 1
step_most r x true e = (let s = step_done r x e in omega (arith, s))
step_most r x false e =
    let same : (step r x).done ≡ x.done = rw e refl in
    omega (arith, same)

from_most : (r : Run) (x : Standing) (n : ℕ) → (from r x n).done ≤ x.done + n
from_most r x zero = omega arith
from_most r x (suc n) =
    let one = step_most r x (is_some x.heat) refl in
    let rest = from_most r (step r x) n in
    omega (arith, one, rest)

-- if n moves are made, so are fewer
made_below : (r : Run) (x : Standing) (n m : ℕ) → AreMadeAll r x n → m ≤ n → AreMadeAll r x m
made_below r x n m made low =
    let parts : m + (n - m) ≡ n = omega (arith, low) in
    let end : (from r (from r x m) (n - m)).done ≡ x.done + n = ap (λ (y : Standing). y.done) (sym (from_add r x m (n - m))) ∙ ap (λ k. (from r x k).done) parts ∙ made in
    let first = from_most r x m in
    let rest = from_most r (from r x m) (n - m) in
    omega (arith, end, first, rest, low)

none_of : (r : Run) (x : Standing) → AreOf r x []
none_of r x = record { moves = []; rising = tt; made = All-nil (AreMadeAll r x); each = refl }

-- of the numbers from k on, those kept rise, and a last one above them rises on
rising_one : (p : ℕ → Bool) (low k n last : ℕ) (b : Bool) → p k ≡ b → low < k → AreRising k (filter p (range_with_len (k + 1) n) ++ last ∷ []) → AreRising low (filter p (range_with_len (k + 1) n) ++ last ∷ [])
    → AreRising low (filter p (k ∷ range_with_len (k + 1) n) ++ last ∷ [])
rising_one p low k n last true e less kept left = rw e (less, kept)
rising_one p low k n last false e less kept left = rw e left

rising_kept : (p : ℕ → Bool) (low k n last : ℕ) → low < k → k + n ≤ last → AreRising low (filter p (range_with_len k n) ++ last ∷ [])
rising_kept p low k zero last less end = (omega (arith, less, end), tt)
rising_kept p low k (suc n) last less end =
    rising_one p low k n last (p k) refl less (rising_kept p k (k + 1) n last (omega arith) (omega (arith, end))) (rising_kept p low (k + 1) n last (omega (arith, less)) (omega (arith, end)))

rising_shown : (moves first batch n : ℕ) → AreRising 0 (shown_after moves first batch n)
rising_shown moves first batch zero = tt
rising_shown moves first batch (suc n) = rising_kept (begins moves first batch) 0 1 n (suc n) (omega arith) (omega arith)

-- and what holds up to the last holds of them all
each_one : (P : ℕ → Type 0) (p : ℕ → Bool) (k n last : ℕ) (b : Bool) → p k ≡ b → P k → All P (filter p (range_with_len (k + 1) n) ++ last ∷ []) → All P (filter p (k ∷ range_with_len (k + 1) n) ++ last ∷ [])
each_one P p k n last true e here rest = rw e (All-cons P k (filter p (range_with_len (k + 1) n) ++ last ∷ []) here rest)
each_one P p k n last false e here rest = rw e rest

each_kept : (P : ℕ → Type 0) (p : ℕ → Bool) (k n last : ℕ) → ((i : ℕ) → i ≤ last → P i) → k + n ≤ last → All P (filter p (range_with_len k n) ++ last ∷ [])
each_kept P p k zero last below end = All-cons P last [] (below last (omega arith)) (All-nil P)
each_kept P p k (suc n) last below end = each_one P p k n last (p k) refl (below k (omega (arith, end))) (each_kept P p (k + 1) n last below (omega (arith, end)))

each_shown : (P : ℕ → Type 0) (moves first batch n : ℕ) → ((i : ℕ) → i ≤ n → P i) → All P (shown_after moves first batch n)
each_shown P moves first batch zero below = All-nil P
each_shown P moves first batch (suc n) below = each_kept P (begins moves first batch) 1 n (suc n) below (omega arith)

readings_are : (r : Run) (x : Standing) (batch n : ℕ) → AreMadeAll r x n → AreOf r x (readings r x batch n)
readings_are r x batch n made =
    record {
      moves = shown_after r.plan.moves x.done batch n;
      rising = rising_shown r.plan.moves x.done batch n;
      made = each_shown (AreMadeAll r x) r.plan.moves x.done batch n (λ i low. made_below r x n i made low);
      each = refl;
    }

pub pieces_show : PiecesShowStandings
pieces_show p batch old new (inl s) = (readings p.run p.start batch s.moves, s.shown, readings_are p.run p.start batch s.moves s.made)
pieces_show p batch old new (inr s) = (readings p.run p.start batch s.moves, s.shown, readings_are p.run p.start batch s.moves s.made)

-- readings after moves above `low`
record Above (r : Run) (x : Standing) (low : ℕ) (list : List Reading) : Type 0 where
  moves : List ℕ
  rising : AreRising low moves
  made : All (AreMadeAll r x) moves
  each : list ≡ map (λ n. reading_at r (from r x n)) moves

-- what is read from a standing of a run is read of the run
rising_on : (d low : ℕ) (moves : List ℕ) → AreRising low moves → AreRising (d + low) (map (λ n. d + n) moves)
rising_on d low [] rising = tt
rising_on d low (n ∷ moves) rising = (let less = rising.0 in (omega (arith, less), rising_on d n moves rising.1))

made_one : (r : Run) (x : Standing) (d n : ℕ) → AreMadeAll r x d → AreMadeAll r (from r x d) n → AreMadeAll r x (d + n)
made_one r x d n first later =
    let end : (from r x (d + n)).done ≡ (from r x d).done + n = ap (λ (y : Standing). y.done) (from_add r x d n) ∙ later in
    omega (arith, end, first)

made_on : (r : Run) (x : Standing) (d : ℕ) (moves : List ℕ) → AreMadeAll r x d → All (AreMadeAll r (from r x d)) moves → All (AreMadeAll r x) (map (λ n. d + n) moves)
made_on r x d [] first made = All-nil (AreMadeAll r x)
made_on r x d (n ∷ moves) first made =
    All-cons (AreMadeAll r x) (d + n) (map (λ k. d + k) moves) (made_one r x d n first (All-head (AreMadeAll r (from r x d)) n moves made)) (made_on r x d moves first (All-tail (AreMadeAll r (from r x d)) n moves made))

each_on : (r : Run) (x : Standing) (d : ℕ) (moves : List ℕ) → map (λ n. reading_at r (from r (from r x d) n)) moves ≡ map (λ n. reading_at r (from r x n)) (map (λ n. d + n) moves)
each_on r x d [] = refl
each_on r x d (n ∷ moves) =
    let here = sym (from_add r x d n) in
    let rest = each_on r x d moves in
    λ i. reading_at r (here i) ∷ rest i

above_on : (r : Run) (x : Standing) (d : ℕ) (list : List Reading) → AreMadeAll r x d → AreOf r (from r x d) list → Above r x d list
above_on r x d list first are =
    let zero_more : d + 0 ≡ d = omega arith in
    record {
      moves = map (λ n. d + n) are.moves;
      rising = subst (λ low. AreRising low (map (λ n. d + n) are.moves)) zero_more (rising_on d 0 are.moves are.rising);
      made = made_on r x d are.moves first are.made;
      each = are.each ∙ each_on r x d are.moves;
    }

-- they rise from below too
rising_lower : (low high : ℕ) (moves : List ℕ) → low ≤ high → AreRising high moves → AreRising low moves
rising_lower low high [] below rising = tt
rising_lower low high (n ∷ moves) below rising = (let less = rising.0 in (omega (arith, below, less), rising.1))

of_above : (r : Run) (x : Standing) (low : ℕ) (list : List Reading) → Above r x low list → AreOf r x list
of_above r x low list are = record { moves = are.moves; rising = rising_lower 0 low are.moves (omega arith) are.rising; made = are.made; each = are.each }

-- with one of a standing before them
one_more : (r : Run) (x : Standing) (d : ℕ) (list : List Reading) → 0 < d → AreMadeAll r x d → Above r x d list → AreOf r x (reading_at r (from r x d) ∷ list)
one_more r x d list some first are =
    record {
      moves = d ∷ are.moves;
      rising = (some, are.rising);
      made = All-cons (AreMadeAll r x) d are.moves first are.made;
      each = ap (λ l. reading_at r (from r x d) ∷ l) are.each;
    }

run_same : {W : Type 0} (moves : W → ℕ → List ℕ) (a b : AnnealOf W) → IsSameRun a b → run_of moves b ≡ run_of moves a
run_same moves a b same =
    let design = same.design in
    let grid = same.grid in
    let fixed = same.fixed in
    let plan = same.plan in
    let words = same.words in
    λ i. run (design i) (grid i) (fixed i) (moves (words i)) (plan i)

-- a turn shows one reading more at most
turn_first : {W : Type 0} (moves : W → ℕ → List ℕ) (batch : ℕ) (a c : AnnealOf W) (answer : Result Turn AllocError) (old mid new list : List Reading) → IsTurned moves batch a c answer → IsShown moves a c answer old mid → new ≡ mid ++ list
    → Above (run_of moves a) a.standing (c.standing.done - a.standing.done) list → (all : List Reading) × (new ≡ old ++ all) × AreOf (run_of moves a) a.standing all
turn_first moves batch a c (Err e) old mid new list turned shown later are = (list, later ∙ ap (λ l. l ++ list) shown.short, of_above (run_of moves a) a.standing (c.standing.done - a.standing.done) list are)
turn_first moves batch a c (Ok t) old mid new list turned shown later are =
    let r = run_of moves a in
    let d = c.standing.done - a.standing.done in
    let within = turned.within.0 in
    let first : AreMadeAll r a.standing d = ap (λ (y : Standing). y.done) (sym turned.stands) ∙ omega (arith, within) in
    elim (cases_lt a.standing.done c.standing.done) [
      | inl more ↦ (
        reading_at r (from r a.standing d) ∷ list,
        later ∙ ap (λ l. l ++ list) (shown.one more) ∙ append_assoc old (reading_at r c.standing ∷ []) list ∙ ap (λ (y : Standing). old ++ reading_at r y ∷ list) turned.stands,
        one_more r a.standing d list (omega (arith, more)) first are,
      )
      | inr less ↦ (list, later ∙ ap (λ l. l ++ list) (shown.none (omega (arith, less))), of_above r a.standing d list are)
    ]

pub turns_show : {W : Type 0} (moves : W → ℕ → List ℕ) → TurnsShowStandings moves
turns_show moves [] a b old new have = ([], have.1 ∙ sym (append-nil old), none_of (run_of moves a) a.standing)
turns_show moves (turn ∷ turns) a b old new (c, mid, turned, shown, later) =
    let r = run_of moves a in
    let d = c.standing.done - a.standing.done in
    let within = turned.within.0 in
    let first : AreMadeAll r a.standing d = ap (λ (y : Standing). y.done) (sym turned.stands) ∙ omega (arith, within) in
    let rest = turns_show moves turns c b mid new later in
    let same : AreOf r c.standing rest.0 = subst (λ q. AreOf q c.standing rest.0) (run_same moves a c turned.same) rest.2 in
    let there : AreOf r (from r a.standing d) rest.0 = subst (λ y. AreOf r y rest.0) turned.stands same in
    turn_first moves turn.0 a c turn.1 old mid new rest.0 turned shown rest.1 (above_on r a.standing d rest.0 first there)

-- what a source showed
showed_is : {W : Type 0} (moves : W → ℕ → List ℕ) (s : Source) (old new : List Reading) → Showed moves s old new → (list : List Reading) × (new ≡ old ++ list) × AreOf s.run s.start list
showed_is moves s old new (inl t) =
    let is = turns_show moves t.turns t.before t.after old new t.turned in
    let here = subst (λ r. AreOf r t.before.standing is.0) t.run is.2 in
    (is.0, is.1, subst (λ x. AreOf s.run x is.0) t.start here)
showed_is moves s old new (inr (inl p)) =
    let is = pieces_show p.piece p.batch old new p.shown in
    let here = subst (λ r. AreOf r p.piece.start is.0) p.run is.2 in
    (is.0, is.1, subst (λ x. AreOf s.run x is.0) p.start here)
showed_is moves s old new (inr (inr same)) = ([], same ∙ sym (append-nil old), none_of s.run s.start)

-- a beginning of a mapped list is one of a beginning
begun_map : (f : ℕ → Reading) (P : ℕ → Type 0) (low : ℕ) (moves : List ℕ) (seen rest : List Reading) → AreRising low moves → All P moves → map f moves ≡ seen ++ rest
    → (kept : List ℕ) × AreRising low kept × All P kept × (seen ≡ map f kept)
begun_map f P low moves [] rest rising all e = ([], tt, All-nil P, refl)
begun_map f P low [] (q ∷ seen) rest rising all e = absurd cc
begun_map f P low (n ∷ moves) (q ∷ seen) rest rising all e =
    let head : f n ≡ q = (let k = e in cc) in
    let tail : map f moves ≡ seen ++ rest = (let k = e in cc) in
    let kept = begun_map f P n moves seen rest rising.1 (All-tail P n moves all) tail in
    (n ∷ kept.0, (rising.0, kept.1), All-cons P n kept.0 (All-head P n moves all) kept.2, (λ i. sym head i ∷ kept.3 i))

pub watchers_read_in_order : {W : Type 0} (moves : W → ℕ → List ℕ) → WatchersReadInOrder moves
watchers_read_in_order moves first s shown [] showed (rest, e) = inl refl
watchers_read_in_order moves first s shown (q ∷ seen) showed (rest, e) =
    let is = showed_is moves s (first ∷ []) shown showed in
    let all : first ∷ is.0 ≡ q ∷ (seen ++ rest) = sym is.1 ∙ e in
    let head : first ≡ q = (let k = all in cc) in
    let tail : is.0 ≡ seen ++ rest = (let k = all in cc) in
    let kept = begun_map (λ n. reading_at s.run (from s.run s.start n)) (AreMadeAll s.run s.start) 0 is.2.moves seen rest is.2.rising is.2.made (sym is.2.each ∙ tail) in
    inr (seen, ap (λ p. p ∷ seen) (sym head), record { moves = kept.0; rising = kept.1; made = kept.2; each = kept.3 })

-- what holds of each of a list holds of each of its beginnings
all_begun : (P : Reading → Type 0) (list seen rest : List Reading) → list ≡ seen ++ rest → All P list → All P seen
all_begun P list [] rest e all = All-nil P
all_begun P [] (q ∷ seen) rest e all = absurd cc
all_begun P (p ∷ list) (q ∷ seen) rest e all =
    let head : p ≡ q = (let k = e in cc) in
    let tail : list ≡ seen ++ rest = (let k = e in cc) in
    All-cons P q seen (subst P head (All-head P p list all)) (all_begun P list seen rest tail (All-tail P p list all))

-- each reading of a source is one after moves of it
all_after : (s : Source) (moves : List ℕ) → All (AreMadeAll s.run s.start) moves → All (IsAfter s) (map (λ n. reading_at s.run (from s.run s.start n)) moves)
all_after s [] made = All-nil (IsAfter s)
all_after s (n ∷ moves) made =
    All-cons (IsAfter s) (reading_at s.run (from s.run s.start n)) (map (λ k. reading_at s.run (from s.run s.start k)) moves) (record { count = n; made = All-head (AreMadeAll s.run s.start) n moves made; reading = refl })
    (all_after s moves (All-tail (AreMadeAll s.run s.start) n moves made))

pub all_then : (P Q : Reading → Type 0) (list : List Reading) → ((q : Reading) → P q → Q q) → All P list → All Q list
all_then P Q [] then all = All-nil Q
all_then P Q (q ∷ list) then all = All-cons Q q list (then q (All-head P q list all)) (all_then P Q list then (All-tail P q list all))

-- what is shown after readings of the source before, or of those before it
all_shown : {W : Type 0} (moves : W → ℕ → List ℕ) (P : Reading → Type 0) (sources : List Source) (old new : List Reading) → OnlyShowed moves sources old new → All P old → All (λ q. P q ⊎ IsAfterOne sources q) new
all_shown moves P [] old new same all = subst (λ l. All (λ q. P q ⊎ IsAfterOne [] q) l) (sym same) (all_then P (λ q. P q ⊎ IsAfterOne [] q) old (λ q is. inl is) all)
all_shown moves P (s ∷ sources) old new (mid, showed, later) all =
    let is = showed_is moves s old mid showed in
    let here : All (λ q. P q ⊎ IsAfter s q) (old ++ is.0) =
    All-append (λ q. P q ⊎ IsAfter s q) old is.0 (all_then P (λ q. P q ⊎ IsAfter s q) old (λ q p. inl p) all)
    (all_then (IsAfter s) (λ q. P q ⊎ IsAfter s q) is.0 (λ q p. inr p) (subst (λ l. All (IsAfter s) l) (sym is.2.each) (all_after s is.2.moves is.2.made))) in
    let rest = all_shown moves (λ q. P q ⊎ IsAfter s q) sources mid new later (subst (λ l. All (λ q. P q ⊎ IsAfter s q) l) (sym is.1) here) in
    all_then (λ q. (P q ⊎ IsAfter s q) ⊎ IsAfterOne sources q) (λ q. P q ⊎ IsAfterOne (s ∷ sources) q) new (λ q is. sort q is) rest
  where
    sort : (q : Reading) → (P q ⊎ IsAfter s q) ⊎ IsAfterOne sources q → P q ⊎ (IsAfter s q ⊎ IsAfterOne sources q)
    sort q (inl (inl p)) = inl p
    sort q (inl (inr p)) = inr (inl p)
    sort q (inr p) = inr (inr p)

pub watchers_read_standings : {W : Type 0} (moves : W → ℕ → List ℕ) → WatchersReadStandings moves
watchers_read_standings moves first sources shown seen showed (rest, e) =
    let P = λ (q : Reading). q ≡ first in
    all_begun (λ q. (q ≡ first) ⊎ IsAfterOne sources q) shown seen rest e (all_shown moves P sources (first ∷ []) shown showed (All-cons P first [] refl (All-nil P)))
