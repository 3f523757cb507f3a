-- Each step keeps the rule.
use Rattle.std.proofs.Common.{◌≡◌, ◌≢◌, ℕ, zero, suc, ◌+◌, ◌%◌, ◌^◌, ◌<◌, ◌≤◌, List, [], ◌∷◌, ◌++◌, length, set, get_or, sum_by, cond, All, Bool, MatchBool, refl, sym, ap, ◌∙◌, subst, ⊎_elim, arith, length-append, lt_of_not-le, min}
use Rattle.std.proofs.lemmas.Bool.{lt-ltb, le-ltb}
use mathlib.Core.Option.{some, none, some-ne-none, some-injective}
use mathlib.Core.Logic.{dite}
use native.Mathlib.Decide.{dec_le, ℕ_discrete}
use lib.ListN.{get_elem?}
use Rattle.atomic_table.specs.Table.{State, Me, Act, step, keeps, stepped, carried_after, Valid, Allows, Splits, Joins, Final, Seen, opening}
use Rattle.atomic_table.proofs.Lists.{at_set, at_snoc, set_else}
use Rattle.fab_board.specs.declared.rule.View.{View}
use Rattle.fab_board.specs.declared.rule.Size.{Size}
use Rattle.fab_board.specs.Counts.{hit, times, once_below}
use Rattle.fab_board.specs.Dealt.{sized, knows, given, tellings, drawn, parts, Fair, Dealt, Claimed, opened, kept_back, one_part, together, nothing}
use Rattle.fab_board.proofs.Sums.{split_sum, join_sum, sum_set, sum_le, sum_zero, part_le, times_push, times_append, once_more, all_below}

abbrev St : Type 0
St = State (Unit {0}) View

abbrev M : Type 0
M = Me (Unit {0}) View

tellings_fit : (k : Size) (s : St) → Dealt k s → tellings s.views ≤ k.seats
tellings_fit k s r = let w = r.whole in let l = sum_le (λ (v : View). v.told) (λ v. v.parts) s.views (λ i v e. (r.each i v e).0) in omega arith

none_told : (k : Size) (s : St) → Dealt k s → given s.views < k.count → tellings s.views ≡ 0
none_told k s r l = dite (ℕ_discrete (tellings s.views) 0) (λ e. e) (λ ne. let e = r.all_given (omega arith) in absurd (omega arith))

fair_set : (count : ℕ) (vs : List View) (id : ℕ) (w : View) → ((i : ℕ) (v : View) → get_elem? vs i ≡ some v → Fair count v) → Fair count w → (i : ℕ) (v : View) → get_elem? (set vs id w) i ≡ some v → Fair count v
fair_set count vs id w others mine i v e = ⊎_elim (λ (t : (i ≡ id) × (w ≡ v)). subst (Fair count) t.1 mine) (λ (t : (i ≢ id) × (get_elem? vs i ≡ some v)). others i v t.1) (at_set vs id i w v e)

-- what is to prove of one step by 1 that finds the number n
Goes : Size → St → ℕ → M → ℕ → Type 0
Goes k s id me n = (w : View) × (a : Act (Unit {0})) × Valid s.homes me.1 a × Dealt k (stepped s 0 ((n + 1) % 2 ^ 64) id me.1 w a) × Claimed (step 0 0 1 0 none) me n (w, carried_after me.1 a)

new_one : (k : Size) (s : St) (id : ℕ) (me : M) (n : ℕ) → Dealt k s → get_elem? s.views id ≡ some me.0 → me.0.parts ≡ 1 → me.0.told ≡ 0 → n ≡ given s.views + tellings s.views → n < me.0.count → Goes k s id me n
unfolding Goes
new_one k s id me n r at one fresh is small =
    let v = me.0 in
    let mine = r.each id v at in
    let here : v.count ≡ k.count = mine.2 (omega arith) in
    let quiet = none_told k s r (omega arith) in
    let w = knows v.count v.parts (v.list ++ n ∷ []) v.told in
    let longer = length-append v.list (n ∷ []) in
    let g : given (set s.views id w) ≡ given s.views + 1 = omega (arith, sum_set (λ (u : View). length u.list) s.views id v w at) in
    let t : tellings (set s.views id w) ≡ tellings s.views = omega (arith, sum_set (λ (u : View). u.told) s.views id v w at) in
    let p : parts (set s.views id w) ≡ parts s.views = omega (arith, sum_set (λ (u : View). u.parts) s.views id v w at) in
    let fits = r.fits in
    let whole = r.whole in
    let below = r.below in
    let next : (n + 1) % 2 ^ 64 ≡ given (set s.views id w) + tellings (set s.views id w) = omega arith in
    let same : n ≡ given s.views = omega arith in (
      w,
      keeps,
      tt,
      record {
        word = ap (λ l. set l 0 ((n + 1) % 2 ^ 64)) r.word ∙ ap (λ (m : ℕ). m ∷ []) next;
        below = omega arith;
        all_given = λ some_told. absurd (omega arith);
        once = λ x. let before = r.once x in let pushed = times_push x v.list n in let more = once_more x (given s.views) in
            let e : hit x n ≡ hit x (given s.views) = ap (hit x) same in
            let h : drawn x (set s.views id w) ≡ once_below x (given s.views + 1) = omega (arith, sum_set (λ (u : View). times x u.list) s.views id v w at) in
            h ∙ ap (once_below x) (sym g);
        whole = p ∙ whole;
        fits = fits;
        each = fair_set k.count s.views id w r.each ((omega arith, (λ z. absurd (omega arith)), λ _. here));
      },
      (
        refl,
        subst (λ b. MatchBool b ((w ≡ knows v.count v.parts (v.list ++ n ∷ []) v.told) × All (λ x. x < n) v.list) (w ≡ knows v.count v.parts v.list (v.told + 1))) (sym (lt-ltb n v.count small))
            (refl, all_below v.list n (λ x. let l = part_le (λ (u : View). times x u.list) s.views id v at in let o = r.once x in subst (λ (m : ℕ). times x v.list ≤ once_below x m) (sym same) (omega arith))),
      ),
    )

none_left : (k : Size) (s : St) (id : ℕ) (me : M) (n : ℕ) → Dealt k s → get_elem? s.views id ≡ some me.0 → me.0.parts ≡ 1 → me.0.told ≡ 0 → n ≡ given s.views + tellings s.views → me.0.count ≤ n → Goes k s id me n
unfolding Goes
none_left k s id me n r at one fresh is large =
    let v = me.0 in
    let mine = r.each id v at in
    let here : v.count ≡ k.count = mine.2 (omega arith) in
    let w = knows v.count v.parts v.list (v.told + 1) in
    let g : given (set s.views id w) ≡ given s.views = omega (arith, sum_set (λ (u : View). length u.list) s.views id v w at) in
    let t : tellings (set s.views id w) ≡ tellings s.views + 1 = omega (arith, sum_set (λ (u : View). u.told) s.views id v w at) in
    let p : parts (set s.views id w) ≡ parts s.views = omega (arith, sum_set (λ (u : View). u.parts) s.views id v w at) in
    let fits = r.fits in
    let whole = r.whole in
    let below = r.below in
    let few = tellings_fit k s r in
    let full : given s.views ≡ k.count = dite (ℕ_discrete (tellings s.views) 0) (λ e. omega arith) (λ ne. r.all_given (omega arith)) in
    let next : (n + 1) % 2 ^ 64 ≡ given (set s.views id w) + tellings (set s.views id w) = omega arith in (
      w,
      keeps,
      tt,
      record {
        word = ap (λ l. set l 0 ((n + 1) % 2 ^ 64)) r.word ∙ ap (λ (m : ℕ). m ∷ []) next;
        below = omega arith;
        all_given = λ _. g ∙ full;
        once = λ x. let h : drawn x (set s.views id w) ≡ drawn x s.views = omega (arith, sum_set (λ (u : View). times x u.list) s.views id v w at) in h ∙ r.once x ∙ ap (once_below x) (sym g);
        whole = p ∙ whole;
        fits = fits;
        each = fair_set k.count s.views id w r.each ((omega arith, (λ z. absurd (omega arith)), λ _. here));
      },
      (refl, subst (λ b. MatchBool b ((w ≡ knows v.count v.parts (v.list ++ n ∷ []) v.told) × All (λ x. x < n) v.list) (w ≡ knows v.count v.parts v.list (v.told + 1))) (sym (le-ltb n v.count large)) refl),
    )

pub claims : (k : Size) (slots id : ℕ) (me : M) → me.0.parts ≡ 1 → me.0.told ≡ 0 → Allows (Dealt k) slots id me 0 (λ n. (n + 1) % 2 ^ 64) (Claimed (step slots 0 1 0 none) me)
unfolding Goes
claims k slots id me one fresh s r _ at _ =
    let n : ℕ = get_or s.words 0 0 in
    let is : n ≡ given s.views + tellings s.views = ap (λ l. get_or l 0 0) r.word in
    let both : Goes k s id me n = dite (dec_le me.0.count n) (λ l. none_left k s id me n r at one fresh is l) (λ g. new_one k s id me n r at one fresh is (lt_of_not-le g)) in
    both

pub deals : (k : Size) (id : ℕ) (v : View) → 0 < v.parts → v.list ≡ [] → v.told ≡ 0 → Splits (Dealt k) id v (kept_back v) (one_part v)
deals k id v some_part empty fresh s r at =
    let l = kept_back v in
    let o = one_part v in
    let mine = r.each id v at in
    let here : v.count ≡ k.count = mine.2 some_part in
    let now = set s.views id l ++ o ∷ [] in
    let none_yet : length v.list ≡ 0 = ap (λ xs. length xs) empty in
    let g : given now ≡ given s.views = split_sum (λ (u : View). length u.list) s.views id v l o at (omega arith) in
    let t : tellings now ≡ tellings s.views = split_sum (λ (u : View). u.told) s.views id v l o at (omega arith) in
    let p : parts now ≡ parts s.views = split_sum (λ (u : View). u.parts) s.views id v l o at (omega arith) in
    record {
      word = r.word ∙ ap (λ (m : ℕ). m ∷ []) (omega arith);
      below = let b = r.below in omega arith;
      all_given = λ h. g ∙ r.all_given (omega arith);
      once = λ x. let e : times x v.list ≡ 0 = ap (times x) empty in let d : drawn x now ≡ drawn x s.views = split_sum (λ (u : View). times x u.list) s.views id v l o at (omega arith) in d ∙ r.once x ∙ ap (once_below x) (sym g);
      whole = p ∙ r.whole;
      fits = r.fits;
      each = λ i u e. ⊎_elim (λ was. fair_set k.count s.views id l r.each ((omega arith, (λ _. empty), λ _. here)) i u was) (λ (is : o ≡ u). subst (Fair k.count) is ((omega arith, (λ _. refl), λ _. here))) (at_snoc (set s.views id l) o u i e);
    }

pub gathers : (k : Size) (id : ℕ) (v : View) (other : ℕ) (w : View) → 0 < v.parts → Joins (Dealt k) id v other w (together v w) nothing
gathers k id v other w some_part s r at apart there =
    let b = together v w in
    let mine = r.each id v at in
    let here : v.count ≡ k.count = mine.2 some_part in
    let was : get_elem? s.views other ≡ some w = sym (set_else s.views id other b apart) ∙ there in
    let theirs = r.each other w was in
    let now = set (set s.views id b) other nothing in
    let long = length-append v.list w.list in
    let g : given now ≡ given s.views = join_sum (λ (u : View). length u.list) s.views id other v w b nothing at there (omega arith) in
    let t : tellings now ≡ tellings s.views = join_sum (λ (u : View). u.told) s.views id other v w b nothing at there (omega arith) in
    let p : parts now ≡ parts s.views = join_sum (λ (u : View). u.parts) s.views id other v w b nothing at there (omega arith) in
    let enough : v.told + w.told ≤ v.parts + w.parts = let x = mine.0 in let y = theirs.0 in omega arith in
    record {
      word = r.word ∙ ap (λ (m : ℕ). m ∷ []) (omega arith);
      below = let b = r.below in omega arith;
      all_given = λ h. g ∙ r.all_given (omega arith);
      once = λ n. let d : drawn n now ≡ drawn n s.views = join_sum (λ (u : View). times n u.list) s.views id other v w b nothing at there (omega (arith, times_append n v.list w.list)) in d ∙ r.once n ∙ ap (once_below n) (sym g);
      whole = p ∙ r.whole;
      fits = r.fits;
      each = fair_set k.count (set s.views id b) other nothing (fair_set k.count s.views id b r.each ((enough, (λ z. absurd (omega arith)), λ _. here))) ((omega arith, (λ _. refl), λ z. absurd (omega arith)));
    }

-- the one view with all parts knows all
alone : (k : Size) (s : St) (id : ℕ) (v : View) → Dealt k s → get_elem? s.views id ≡ some v → v.parts ≡ k.seats → (f : View → ℕ) → f nothing ≡ 0 → ((u : View) → Fair k.count u → u.parts ≡ 0 → f u ≡ 0) → sum_by f s.views ≡ f v
alone k s id v r at all f zero_at spent =
    let rest = set s.views id nothing in
    let fair = fair_set k.count s.views id nothing r.each ((omega arith, (λ _. refl), λ z. absurd (omega arith))) in
    let p = sum_set (λ (u : View). u.parts) s.views id v nothing at in
    let whole = r.whole in
    let no_parts : parts rest ≡ 0 = omega arith in
    let z = sum_zero f rest (λ i u e. spent u (fair i u e) (let l = part_le (λ (y : View). y.parts) rest i u e in omega arith)) in
    let q = sum_set f s.views id v nothing at in
    omega arith

pub closes : (k : Size) (id : ℕ) (v : View) (words : List ℕ) (xs : List (Unit {0})) (word taken : ℕ) → Final (Seen (Dealt k) id v) words xs → get_elem? words 0 ≡ some word → v.parts ≡ k.seats → taken ≡ min word k.count
    → ((x : ℕ) → times x v.list ≡ once_below x taken) × (0 < v.told → taken ≡ k.count)
closes k id v words xs word taken end found all is =
    let s = end.0 in
    let r : Dealt k s = end.1.0 in
    let at = end.1.1 in
    let w : word ≡ given s.views + tellings s.views = some-injective word (given s.views + tellings s.views) (sym found ∙ ap (λ (l : List ℕ). get_elem? l 0) (sym end.2 ∙ r.word)) in
    let b = r.below in
    let taken_is : taken ≡ given s.views = dite (ℕ_discrete (tellings s.views) 0) (λ e. omega arith) (λ ne. let f = r.all_given (omega arith) in omega arith) in
    let told : tellings s.views ≡ v.told = alone k s id v r at all (λ (u : View). u.told) refl (λ u fair z. let l = fair.0 in omega arith) in (
      (λ x. sym (alone k s id v r at all (λ (u : View). times x u.list) refl (λ u fair z. ap (times x) (fair.1 z))) ∙ r.once x ∙ ap (once_below x) (sym taken_is)),
      λ h. taken_is ∙ r.all_given (omega arith),
    )

-- a sum over the seats, with one seat taken from the end
pub opens : (count seats : ℕ) → count ≤ 2 ^ 62 → seats ≤ 64 → Dealt (sized count seats) (opening (0 ∷ []) [] (opened (sized count seats)))
opens count seats small few = record {
  word = refl;
  below = omega arith;
  all_given = λ h. absurd (omega arith);
  once = λ x. sym (ap (λ (b : Bool). cond {A = ℕ} b 1 0) (le-ltb x 0 (omega arith)));
  whole = omega arith;
  fits = omega arith;
  each = λ i v e. first i v e;
}
  where
    first : (i : ℕ) (v : View) → get_elem? (opened (sized count seats) ∷ []) i ≡ some v → Fair count v
    first zero v e = subst (Fair count) (some-injective _ _ e) ((omega arith, (λ _. refl), λ _. refl))
    first (suc i) v e = absurd (some-ne-none v (sym e))
