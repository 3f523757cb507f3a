-- What turns of one batch show, and a shorter turn after them.
use Rattle.std.proofs.Common.{◌≡◌, ℕ, zero, suc, ◌+◌, ◌-◌, ◌*◌, ◌/◌, ◌%◌, ◌<◌, ◌≤◌, min, Bool, true, false, List, [], ◌∷◌, ◌++◌, map, refl, sym, ap, subst, ◌∙◌, arith, inl, inr}
use Rattle.std.specs.List.{filter, range_with_len}
use Rattle.std.proofs.lemmas.Bool.{cases_lt, eq-eqb, ne_eqb}
use Rattle.std.proofs.lemmas.List.{append-nil, append_assoc, map-append}
use Rattle.std.proofs.lemmas.List.Elements.{filter-append}
use Rattle.fab_dial.specs.declared.readings.Reading.{Reading}
use Rattle.fab_commit.specs.Serial.{Run, Standing, from, moves_left}
use Rattle.fab_commit.specs.Model.Turns.{cut_of, part_of}
use Rattle.fab_commit.specs.Run.Readings.{HasShown, IsCutAfter, begins, reading_at, readings, shown_after}
use Rattle.fab_commit.proofs.RunLemmas.Folding.{from_add, left_some, still_hot}
use Rattle.fab_commit.proofs.ModelLemmas.RunBases.{cut_at, part_first, part_next, part_within}

-- before the first turn
pub cut_first : (m first batch : ℕ) → IsCutAfter m first batch 0
cut_first m first batch =
    let e : first + 0 ≡ first = omega arith in
    let part : part_of m first (first + 0) ≡ first + 0 = ap (part_of m first) e ∙ part_first m first ∙ sym e in
    let none : first + 0 - part_of m first (first + 0) ≡ 0 = omega (arith, part) in
    (λ i. part i + none i / batch * batch) ∙ omega arith

-- some whole batches on from where its part of the run begins
cuts_of : (m first batch n : ℕ) → IsCutAfter m first batch n → first + n ≡ part_of m first (first + n) + (first + n - part_of m first (first + n)) / batch * batch
cuts_of m first batch n is = sym is

cut_by : (m first batch k cuts : ℕ) → 0 < m → 0 < batch → k ≡ part_of m first k + cuts * batch → cut_of m first batch k ≡ k
cut_by m first batch k cuts pos some at =
    let here : k + 0 ≡ k = omega arith in
    let low : k % m + 0 < m = omega (arith, pos) in
    ap (cut_of m first batch) (sym here) ∙ cut_at m first batch k cuts 0 at some low

left_is : (r : Run) (x : Standing) → 0 < moves_left r x → moves_left r x ≡ r.plan.moves - x.done % r.plan.moves
left_is r x l = left_some r.plan.moves x.done x.heat (still_hot r x l)

range_both : (k a b : ℕ) → range_with_len k (a + b) ≡ range_with_len k a ++ range_with_len (k + a) b
range_both k zero b = (let e : 0 + b ≡ b = omega arith in let f : k ≡ k + 0 = omega arith in (λ i. range_with_len (f i) (e i)))
range_both k (suc a) b =
    let e : suc a + b ≡ suc (a + b) = omega arith in
    let f : k + 1 + a ≡ k + suc a = omega arith in
    ap (range_with_len k) e ∙ ap (λ l. k ∷ l) (range_both (k + 1) a b) ∙ ap (λ n. k ∷ (range_with_len (k + 1) a ++ range_with_len n b)) f

-- a turn begins at a cut
begins_at : (m first batch n : ℕ) → IsCutAfter m first batch n → begins m first batch n ≡ true
begins_at m first batch n is = eq-eqb (cut_of m first batch (first + n)) (first + n) is

-- and none begins within the turn from there
none_from : (m first batch n i j : ℕ) → IsCutAfter m first batch n → 0 < i → i + j ≤ batch → (first + n) % m + (i + j) ≤ m → filter (begins m first batch) (range_with_len (n + i) j) ≡ []
none_from m first batch n i zero is some low within = refl
none_from m first batch n i (suc j) is some low within =
    let here : first + n + i ≡ first + (n + i) = omega arith in
    let at : cut_of m first batch (first + (n + i)) ≡ first + n = ap (cut_of m first batch) (sym here) ∙ cut_at m first batch (first + n) ((first + n - part_of m first (first + n)) / batch) i (cuts_of m first batch n is) (omega (arith, low)) (omega (arith, within)) in
    let not : begins m first batch (n + i) ≡ false = ne_eqb (cut_of m first batch (first + (n + i))) (first + (n + i)) (λ e. (let same : first + n ≡ first + (n + i) = sym at ∙ e in omega (arith, same, some))) in
    let next : n + i + 1 ≡ n + (i + 1) = omega arith in
    rw not (ap (λ k. filter (begins m first batch) (range_with_len k j)) next ∙ none_from m first batch n (i + 1) j is (omega arith) (omega (arith, low)) (omega (arith, within)))

filter_last : (p : ℕ → Bool) (xs : List ℕ) (y : ℕ) → p y ≡ true → filter p (xs ++ y ∷ []) ≡ filter p xs ++ y ∷ []
filter_last p xs y h = filter-append p xs (y ∷ []) ∙ rw h refl

-- at a cut, all is shown where turns begin
shown_at_cut : (m first batch n : ℕ) → 0 < m → 0 < batch → IsCutAfter m first batch n → filter (begins m first batch) (range_with_len 1 n) ≡ shown_after m first batch n
shown_at_cut m first batch zero pos some is = refl
shown_at_cut m first batch (suc n) pos some is =
    let e : suc n ≡ n + 1 = omega arith in
    let f : 1 + n ≡ suc n = omega arith in
    ap (λ k. filter (begins m first batch) (range_with_len 1 k)) e
    ∙ ap (filter (begins m first batch)) (range_both 1 n 1)
    ∙ ap (λ k. filter (begins m first batch) (range_with_len 1 n ++ k ∷ [])) f
    ∙ filter_last (begins m first batch) (range_with_len 1 n) (suc n) (begins_at m first batch (suc n) is)

-- a turn of j moves from a cut shows one reading more
pub shown_turn : (m first batch n j : ℕ) → 0 < m → IsCutAfter m first batch n → 0 < j → j ≤ batch → (first + n) % m + j ≤ m → shown_after m first batch (n + j) ≡ shown_after m first batch n ++ (n + j) ∷ []
shown_turn m first batch n zero pos is some low within = absurd (omega (arith, some))
shown_turn m first batch n (suc j) pos is some low within =
    let e : n + suc j ≡ suc (n + j) = omega arith in
    let f : 1 + n ≡ n + 1 = omega arith in
    let p = begins m first batch in
    let none : filter p (range_with_len (1 + n) j) ≡ [] = ap (λ k. filter p (range_with_len k j)) f ∙ none_from m first batch n 1 j is (omega arith) (omega (arith, low)) (omega (arith, within)) in
    let all : filter p (range_with_len 1 (n + j)) ≡ shown_after m first batch n =
    ap (filter p) (range_both 1 n j)
    ∙ filter-append p (range_with_len 1 n) (range_with_len (1 + n) j)
    ∙ (λ i. shown_at_cut m first batch n pos (omega (arith, some, low)) is i ++ none i)
    ∙ append-nil (shown_after m first batch n) in
    ap (shown_after m first batch) e ∙ (λ i. all i ++ sym e i ∷ [])

-- where a turn of the batch ends, the next one begins
pub cut_next : (m first batch n j : ℕ) → 0 < m → 0 < batch → IsCutAfter m first batch n → j ≡ min batch (m - (first + n) % m) → IsCutAfter m first batch (n + j)
cut_next m first batch n j pos some is made =
    let k = first + n in
    let cuts = (k - part_of m first k) / batch in
    let at = cuts_of m first batch n is in
    let here : k + j ≡ first + (n + j) = omega arith in
    elim (cases_lt batch (m - k % m)) [
      | inl less ↦
          let e : j ≡ batch = omega (arith, made, less) in
          let part : part_of m first (first + (n + j)) ≡ part_of m first k = ap (part_of m first) (sym here) ∙ part_within m first k j (omega (arith, less, e)) in
          cut_by m first batch (first + (n + j)) (cuts + 1) pos some (one_more (first + (n + j)) k (part_of m first k) (part_of m first (first + (n + j))) cuts batch (sym here ∙ ap (λ i. k + i) e) at part)
      | inr more ↦
          let e : j ≡ m - k % m = omega (arith, made, more) in
          let there : first + (n + j) ≡ k + (m - k % m) = sym here ∙ ap (λ i. k + i) e in
          let part : part_of m first (first + (n + j)) ≡ first + (n + j) = ap (part_of m first) there ∙ part_next m first k pos (omega arith) ∙ sym there in
          cut_by m first batch (first + (n + j)) 0 pos some (omega (arith, part))
    ]
  where
    one_more : (z y p q cuts batch : ℕ) → z ≡ y + batch → y ≡ p + cuts * batch → q ≡ p → z ≡ q + (cuts + 1) * batch
    one_more z y p q cuts batch a b c = grind (arith, a, b, c)

-- what a turn shows after turns of the batch, whatever its own batch
pub shown_behind : (r : Run) (batch : ℕ) (x : Standing) (before : List Reading) (y : Standing) (now : List Reading) (z : Standing) (new : List Reading) (j : ℕ)
    → HasShown r batch x before y now → z ≡ from r y j → z.done ≡ y.done + j → 0 < j → j ≤ batch → j ≤ moves_left r y → new ≡ now ++ reading_at r z ∷ []
    → new ≡ before ++ readings r x batch (z.done - x.done)
shown_behind r batch x before y now z new j has there done some low left shown =
    let n = has.count in
    let m = r.plan.moves in
    let was = has.done in
    let long : moves_left r y ≡ m - y.done % m = left_is r y (omega (arith, some, left)) in
    let within : y.done % m + j ≤ m = omega (arith, long, left, some) in
    let list : shown_after m x.done batch (n + j) ≡ shown_after m x.done batch n ++ (n + j) ∷ [] = shown_turn m x.done batch n j (omega (arith, within, some)) has.end some low (subst (λ k. k % m + j ≤ m) was within) in
    let told : ℕ → Reading = λ k. reading_at r (from r x k) in
    let last : z ≡ from r x (n + j) = there ∙ ap (λ (s : Standing). from r s j) has.stands ∙ sym (from_add r x n j) in
    let count : n + j ≡ z.done - x.done = omega (arith, was, done) in
    shown
    ∙ (λ i. has.shown i ++ reading_at r (last i) ∷ [])
    ∙ append_assoc before (readings r x batch n) (told (n + j) ∷ [])
    ∙ ap (λ l. before ++ l) (sym (map-append told (shown_after m x.done batch n) ((n + j) ∷ [])))
    ∙ ap (λ l. before ++ map told l) (sym list)
    ∙ ap (λ k. before ++ readings r x batch k) count

-- and with one more turn of the batch they lead on
pub shown_on : (r : Run) (batch : ℕ) (x : Standing) (before : List Reading) (y : Standing) (now : List Reading) (z : Standing) (new : List Reading) (j : ℕ)
    → HasShown r batch x before y now → z ≡ from r y j → z.done ≡ y.done + j → 0 < j → j ≡ min batch (moves_left r y) → new ≡ now ++ reading_at r z ∷ []
    → HasShown r batch x before z new
shown_on r batch x before y now z new j has there done some made shown =
    let n = has.count in
    let m = r.plan.moves in
    let was = has.done in
    let long : moves_left r y ≡ m - y.done % m = left_is r y (omega (arith, some, made)) in
    let count : z.done - x.done ≡ n + j = omega (arith, was, done) in
    let size : j ≡ min batch (m - (x.done + n) % m) = subst (λ k. j ≡ min batch (m - k % m)) was (made ∙ ap (min batch) long) in
    record {
      count = n + j;
      done = omega (arith, was, done);
      stands = there ∙ ap (λ (s : Standing). from r s j) has.stands ∙ sym (from_add r x n j);
      end = cut_next m x.done batch n j (omega (arith, some, made, long)) (omega (arith, some, made)) has.end size;
      shown = shown_behind r batch x before y now z new j has there done some (omega (arith, made)) (omega (arith, made)) shown ∙ ap (λ k. before ++ readings r x batch k) count;
    }

-- before the first turn nothing is shown
pub shown_first : (r : Run) (batch : ℕ) (x : Standing) (before : List Reading) → HasShown r batch x before x before
shown_first r batch x before =
    record { count = 0; done = omega arith; stands = refl; end = cut_first r.plan.moves x.done batch; shown = sym (append-nil before) }
