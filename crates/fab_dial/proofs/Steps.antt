-- Each step keeps the rule of the cell.
use Rattle.std.proofs.Common.{◌≡◌, ◌≢◌, ◌⊎◌, ℕ, zero, suc, ◌<◌, List, [], ◌∷◌, ◌++◌, length, set, true, false, true≢false, inl, inr, refl, sym, ap, ◌∙◌, subst, ⊎_elim, arith, length-append, append_assoc, append-nil}
use mathlib.Core.Option.{some, some-ne-none, some-injective}
use lib.ListN.{get_elem?}
use Rattle.crossbeam_utils.specs.Register.{Turns, Forks, Merges}
use Rattle.atomic_table.proofs.Lists.{at_set, at_snoc, set_again}
use Rattle.fab_dial.specs.declared.readings.Reading.{Reading}
use Rattle.fab_dial.specs.declared.rule.View.{View}
use Rattle.fab_dial.specs.Shown.{StartsWith, EndsWith}
use Rattle.fab_dial.specs.Rule.{shower, watcher, nobody, joined, Fits, Kept, Stores, Loads}

off : false ≡ true → ⊥
off e = true≢false (sym e)

nothing_seen : (list : List Reading) → StartsWith list []
nothing_seen list = (list, refl)

all_seen : (list : List Reading) → StartsWith list list
all_seen list = ([], sym (append-nil list))

begins_longer : (list seen : List Reading) (y : Reading) → StartsWith list seen → StartsWith (list ++ y ∷ []) seen
begins_longer list seen y h = (h.0 ++ y ∷ [], ap (λ (l : List Reading). l ++ y ∷ []) h.1 ∙ append_assoc seen h.0 (y ∷ []))

begun_some : (list seen : List Reading) → 0 < length seen → StartsWith list seen → 0 < length list
begun_some list seen l h = let e = ap (λ (l : List Reading). length l) h.1 in omega (arith, length-append seen h.0)

has_last : (list : List Reading) (x : Reading) → 0 < length list → (list ≡ []) ⊎ EndsWith list x → EndsWith list x
has_last list x some_there h = ⊎_elim (λ (e : list ≡ []). let l = ap (λ (l : List Reading). length l) e in absurd (omega arith)) (λ (e : EndsWith list x). e) h

fits_watcher : (at : ℕ) (list : List Reading) (pass : ℕ) (seen : List Reading) → StartsWith list seen → Fits at list pass (watcher seen)
fits_watcher at list pass seen h = record { whole = λ k. absurd (off k); begun = h }

-- a pass whose view changes, among passes that fit
fits_set : (at : ℕ) (list : List Reading) (views : List View) (by : ℕ) (w : View) → ((j : ℕ) (u : View) → j ≢ by → get_elem? views j ≡ some u → Fits at list j u) → Fits at list by w
    → (j : ℕ) (u : View) → get_elem? (set views by w) j ≡ some u → Fits at list j u
fits_set at list views by w others mine j u e =
    ⊎_elim
    (λ (x : (j ≡ by) × (w ≡ u)). subst (λ (y : ℕ × View). Fits at list y.0 y.1) (λ i. (sym x.0 i, x.1 i)) mine)
    (λ (x : (j ≢ by) × (get_elem? views j ≡ some u)). others j u x.0 x.1)
    (at_set views by j w u e)

pub begins : (x : Reading) → Kept x (shower [] ∷ [])
begins x = record { shower_pass = 0; list = []; last = inl refl; fits = one }
  where
    one : (by : ℕ) (v : View) → get_elem? (shower [] ∷ []) by ≡ some v → Fits 0 [] by v
    one zero v e = subst (Fits 0 [] 0) (some-injective _ _ e) (record { whole = λ _. (refl, refl); begun = nothing_seen [] })
    one (suc n) v e = absurd (some-ne-none _ (sym e))

pub stores : (by : ℕ) (v : View) (y : Reading) → v.is_shower ≡ true → Turns Kept by v (λ _. y) Stores
stores by v y is_shower x views h at =
    let own = (h.fits by v at).whole is_shower in
    let now = h.list ++ y ∷ [] in
    let is = ap (λ (l : List Reading). l ++ y ∷ []) own.1 in
    let w = shower (v.shown ++ y ∷ []) in (
      w,
      record {
        shower_pass = h.shower_pass;
        list = now;
        last = inr (h.list, refl);
        fits = fits_set h.shower_pass now views by w
            (λ j u apart e. let old = h.fits j u e in record { whole = λ k. absurd (apart ((old.whole k).0 ∙ sym own.0)); begun = begins_longer h.list u.seen y old.begun })
            (record { whole = λ _. (own.0, is); begun = subst (λ (l : List Reading). StartsWith now l) (sym is) (all_seen now) });
      },
      refl,
    )

pub loads : (by : ℕ) (v : View) → 0 < length v.seen → Turns Kept by v (λ x. x) Loads
loads by v some_seen x views h at =
    let mine = h.fits by v at in
    let w : View = record { is_shower = v.is_shower; shown = v.shown; seen = h.list } in (
      w,
      record { shower_pass = h.shower_pass; list = h.list; last = h.last; fits = fits_set h.shower_pass h.list views by w (λ j u _ e. h.fits j u e) (record { whole = mine.whole; begun = all_seen h.list }) },
      record { kept = refl; goes_on = mine.begun; last = has_last h.list x (begun_some h.list v.seen some_seen mine.begun) h.last; whole = λ k. sym (mine.whole k).1 },
    )

pub newcomers : (by : ℕ) (v : View) → v.is_shower ≡ true → Forks Kept by v v (watcher v.shown)
newcomers by v is_shower x views h at =
    let is = ((h.fits by v at).whole is_shower).1 in
    record {
      shower_pass = h.shower_pass;
      list = h.list;
      last = h.last;
      fits = λ j u e. ⊎_elim
          (λ was. h.fits j u (subst (λ (l : List View). get_elem? l j ≡ some u) (set_again views by v at) was))
          (λ (same : watcher v.shown ≡ u). subst (Fits h.shower_pass h.list j) same (fits_watcher h.shower_pass h.list j v.shown (subst (λ (l : List Reading). StartsWith h.list l) (sym is) (all_seen h.list))))
          (at_snoc (set views by v) (watcher v.shown) u j e);
    }

pub hands_on : (by : ℕ) (v : View) → v.is_shower ≡ false → Forks Kept by v nobody v
hands_on by v watches x views h at =
    record {
      shower_pass = h.shower_pass;
      list = h.list;
      last = h.last;
      fits = λ j u e. ⊎_elim
          (λ was. fits_set h.shower_pass h.list views by nobody (λ i y _ e'. h.fits i y e') (fits_watcher h.shower_pass h.list by [] (nothing_seen h.list)) j u was)
          (λ (same : v ≡ u). subst (Fits h.shower_pass h.list j) same (record { whole = λ k. absurd (off (sym watches ∙ k)); begun = (h.fits by v at).begun }))
          (at_snoc (set views by nobody) v u j e);
    }

pub joins : (by : ℕ) (v : View) (other : ℕ) (w : View) → Merges Kept by v other w (joined v w) nobody
joins by v other w x views h at apart there =
    let both = joined v w in
    let theirs = ⊎_elim
    (λ (t : (other ≡ by) × (both ≡ w)). absurd (apart t.0))
    (λ (t : (other ≢ by) × (get_elem? views other ≡ some w)). h.fits other w t.1)
    (at_set views by other both w there) in
    record {
      shower_pass = h.shower_pass;
      list = h.list;
      last = h.last;
      fits = fits_set h.shower_pass h.list (set views by both) other nobody
          (λ j u _ e. fits_set h.shower_pass h.list views by both (λ i y _ e'. h.fits i y e') (record { whole = (h.fits by v at).whole; begun = theirs.begun }) j u e)
          (fits_watcher h.shower_pass h.list other [] (nothing_seen h.list));
    }
