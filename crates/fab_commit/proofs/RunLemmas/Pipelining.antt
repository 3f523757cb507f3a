-- Answers of a crew, and the moves of a turn that are judged again: at first those that were judged ahead.
use Rattle.std.proofs.Common.{◌≡◌, ℕ, zero, suc, ◌+◌, ◌-◌, ◌<◌, ◌≤◌, min, Bool, true, false, cond, take, inl, inr, Result, Ok, Err, IfOk, List, [], ◌∷◌, ◌++◌, length, map, get_or, refl, sym, ap, subst, ◌∙◌, arith}
use Rattle.std.specs.List.{count_by, range_with_len}
use Rattle.std.proofs.lemmas.List.{ext_get_or, get_or-map, get_or-take, get_or_append_left, get_or_push, length-map, length-take}
use Rattle.std.proofs.lemmas.List.Sums.{sum_by-append}
use Rattle.std.proofs.lemmas.Bool.{cases_lt, le-ltb, lt-ltb}
use Rattle.std.specs.Prelude.{nat_lt}
use Rattle.fab_move.specs.declared.verdicts.Verdict.{Verdict as Answer}
use Rattle.fab_commit.specs.declared.run.foreseen.Foreseen.{Foreseen}
use Rattle.fab_commit.specs.Serial.{Run, Standing, one_if}
use Rattle.fab_commit.specs.Model.History.{is_redone}
use Rattle.fab_commit.specs.Run.Foreseen.{AreForeseen, IsForeseen}
use Rattle.fab_commit.specs.Run.Owners.{AreAnswers, verdict_of}
use Rattle.fab_commit.specs.Run.Pipelines.{AreJudged}
use Rattle.fab_commit.specs.Model.TurnEvents.{LastTurn, is_redone_behind, stands, verdict_on}
use Rattle.fab_commit.proofs.RunLemmas.Owning.{count_more, get_range, length_range}
use Rattle.fab_commit.proofs.ModelLemmas.RunLaws.{redone_from}
use Rattle.fab_commit.proofs.ModelLemmas.TurnSteps.{range-append}

-- what an answer has, it still has
pub if_ok : {A E : Type 0} (r : Result A E) (P Q : A → Type 0) → IfOk r P → ((v : A) → P v → Q v) → IfOk r Q
if_ok (Ok v) P Q p then = then v p
if_ok (Err e) P Q p then = tt

-- an answer for move k on a placement
abbrev pub IsAnswer : Run → Standing → ℕ → Answer → Type 0
IsAnswer r x k a = verdict_of x.done a ≡ verdict_on r x k

-- answers one by one are answers together
pub answers_from : (r : Run) (x : Standing) (k : ℕ) (answers : List Answer) → ((j : ℕ) (d : Answer) → j < length answers → IsAnswer r x (k + j) (get_or answers j d)) → AreAnswers r x k answers
answers_from r x k [] h = refl
answers_from r x k (a ∷ xs) h =
    let all = a ∷ xs in
    let one = length-map all (verdict_of x.done) in
    let two = length-map (range_with_len k (length all)) (verdict_on r x) in
    let many = length_range k (length all) in
    ext_get_or (verdict_on r x 0) (map (verdict_of x.done) all) (map (verdict_on r x) (range_with_len k (length all))) (omega (arith, one, two, many))
    (λ i l.
    get_or-map (verdict_of x.done) all i a (verdict_on r x 0) (omega (arith, l, one))
    ∙ h i a (omega (arith, l, one))
    ∙ ap (verdict_on r x) (sym (get_range k (length all) i (omega (arith, l, one))))
    ∙ sym (get_or-map (verdict_on r x) (range_with_len k (length all)) i 0 (verdict_on r x 0) (omega (arith, l, one, many))))

-- what holds of each item, with one item more
pub each_pushed : {A : Type 0} (P : ℕ → A → Type 0) (n : ℕ) (xs ys : List A) (a : A) → ys ≡ xs ++ a ∷ [] → length xs ≡ n → ((j : ℕ) (d : A) → j < n → P j (get_or xs j d)) → P n a → (j : ℕ) (d : A) → j < n + 1 → P j (get_or ys j d)
each_pushed P n xs ys a is long each last j d l = elim (cases_lt j n) [
  | inl low ↦ subst (P j) (sym (ap (λ (zs : List _). get_or zs j d) is ∙ get_or_append_left xs (a ∷ []) d j (omega (arith, low, long)))) (each j d low)
  | inr high ↦ (let e : n ≡ j = omega (arith, high, l) in subst (λ i. P i (get_or ys i d)) e (subst (P n) (sym (ap (λ (zs : List _). get_or zs n d) is ∙ get_or_push xs a d n long)) last))
]

-- nothing was judged
pub none_judged : (r : Run) (x : Standing) (k : ℕ) (answers : List Answer) (foreseen : List Foreseen) → answers ≡ [] → foreseen ≡ [] → AreJudged r x k answers foreseen
none_judged r x k answers foreseen e f =
    subst (AreJudged r x k answers) (sym f) (subst (λ l. AreJudged r x k l []) (sym e) (record {
      answers_are = refl;
      foreseen_are = λ i d l. absurd (omega (arith, l));
      long = refl;
    }))

-- what was foreseen of the first of some moves
pub foreseen_take : (r : Run) (x : Standing) (k n : ℕ) (all : List Foreseen) → AreForeseen r x k all → AreForeseen r x k (take n all)
foreseen_take r x k n all are i d l =
    let long = length-take n all in
    subst (IsForeseen r x (k + i)) (sym (get_or-take n all i d (omega (arith, l, long)))) (are i d (omega (arith, l, long)))

count_same : (p q : ℕ → Bool) (k n : ℕ) → ((i : ℕ) → i < n → p (k + i) ≡ q (k + i)) → count_by p (range_with_len k n) ≡ count_by q (range_with_len k n)
count_same p q k zero h = refl
count_same p q k (suc n) h =
    let e : n + 1 ≡ suc n = omega arith in
    let one = count_more p k n in
    let two = count_more q k n in
    let rest = count_same p q k n (λ i l. h i (omega (arith, l))) in
    let last : one_if (p (k + n)) ≡ one_if (q (k + n)) = ap one_if (h n (omega arith)) in
    let all : count_by p (range_with_len k (n + 1)) ≡ count_by q (range_with_len k (n + 1)) = omega (arith, one, two, rest, last) in
    subst (λ m. count_by p (range_with_len k m) ≡ count_by q (range_with_len k m)) e all

pub count_both : (p : ℕ → Bool) (k a b : ℕ) → count_by p (range_with_len k a) + count_by p (range_with_len (k + a) b) ≡ count_by p (range_with_len k (a + b))
count_both p k a b = sym (sum_by-append (λ (j : ℕ). cond (p j) 1 0) (range_with_len k a) (range_with_len (k + a) b)) ∙ ap (count_by p) (range-append k a b)

-- how many of n moves are redone, if the first ones were judged at an older standing and the others at this one
abbrev pub redone_of_both : Run → Standing → ℕ → Standing → ℕ → ℕ
redone_of_both r start first x n =
    count_by (is_redone r start start.done) (range_with_len x.done (min first n))
    + count_by (is_redone r x x.done) (range_with_len (x.done + first) (n - first))

-- of n moves of a turn those that are judged again: at first those that were judged ahead
pub behind_counts : (r : Run) (t : LastTurn) (kept moves n : ℕ) → (stands r t).done ≡ t.start.done + t.made → kept ≡ min moves t.ahead → n ≤ moves
    → redone_of_both r t.start kept (stands r t) n ≡ count_by (is_redone_behind r t) (range_with_len (stands r t).done n)
behind_counts r t kept moves n there few low =
    let y = stands r t in
    let first = min kept n in
    let rest = n - kept in
    let all : first + rest ≡ n = omega arith in
    let before : count_by (is_redone r t.start t.start.done) (range_with_len y.done first) ≡ count_by (is_redone_behind r t) (range_with_len y.done first) =
    count_same (is_redone r t.start t.start.done) (is_redone_behind r t) y.done first
    (λ i l.
    let e : nat_lt (y.done + i) (y.done + t.ahead) ≡ true = lt-ltb (y.done + i) (y.done + t.ahead) (omega (arith, l, few)) in
    ap (λ (b : Bool). is_redone r t.start (cond b t.start.done y.done) (y.done + i)) (sym e)) in
    let after : count_by (is_redone r y y.done) (range_with_len (y.done + kept) rest) ≡ count_by (is_redone_behind r t) (range_with_len (y.done + kept) rest) =
    count_same (is_redone r y y.done) (is_redone_behind r t) (y.done + kept) rest
    (λ i l.
    let e : nat_lt (y.done + kept + i) (y.done + t.ahead) ≡ false = le-ltb (y.done + kept + i) (y.done + t.ahead) (omega (arith, l, few, low)) in
    redone_from r t.start t.made y.done (y.done + kept + i) there (omega (arith, there)) (omega arith)
    ∙ ap (λ (b : Bool). is_redone r t.start (cond b t.start.done y.done) (y.done + kept + i)) (sym e)) in
    let second : count_by (is_redone_behind r t) (range_with_len (y.done + kept) rest) ≡ count_by (is_redone_behind r t) (range_with_len (y.done + first) rest) =
    elim (cases_lt kept n) [
      | inl l ↦ (let f : kept ≡ first = omega (arith, l) in ap (λ m. count_by (is_redone_behind r t) (range_with_len (y.done + m) rest)) f)
      | inr l ↦ (let f : rest ≡ 0 = omega (arith, l) in ap (λ m. count_by (is_redone_behind r t) (range_with_len (y.done + kept) m)) f ∙ ap (λ m. count_by (is_redone_behind r t) (range_with_len (y.done + first) m)) (sym f))
    ] in
    let whole = count_both (is_redone_behind r t) y.done first rest in
    let told : count_by (is_redone_behind r t) (range_with_len y.done (first + rest)) ≡ count_by (is_redone_behind r t) (range_with_len y.done n) = ap (λ m. count_by (is_redone_behind r t) (range_with_len y.done m)) all in
    omega (arith, before, after, second, whole, told)
