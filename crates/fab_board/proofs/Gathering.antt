-- Seats that are put together one by one, from the end of their list.
use Rattle.std.proofs.Common.{◌≡◌, ℕ, ◌+◌, ◌<◌, List, [], ◌∷◌, ◌++◌, length, cond, sum_by, All, Some, sym, ap, ◌∙◌, subst, arith, length-append}
use Rattle.std.proofs.lemmas.List.Sums.{sum_by_push}
use Rattle.std.proofs.lemmas.List.Elements.{All-pop}
use Rattle.atomic_table.specs.Seated.{TableId}
use Rattle.fab_board.specs.declared.rule.View.{View}
use Rattle.fab_board.specs.Views.{SeatModel}
use Rattle.fab_board.specs.Dealt.{together}
use Rattle.fab_board.specs.Counts.{times}
use Rattle.fab_board.proofs.Sums.{times_append}

abbrev pub says_none : SeatModel → ℕ
says_none s = cond s.told 1 0

-- v has what those of `all` have that are not left
pub record Gathered (t : TableId) (all left : List SeatModel) (v : View) : Type 0 where
  pub some_part : 0 < v.parts
  pub parts : v.parts + length left ≡ length all
  pub numbers : (x : ℕ) → times x v.list + sum_by (λ s. times x s.list) left ≡ sum_by (λ s. times x s.list) all
  pub told : v.told + sum_by says_none left ≡ sum_by says_none all
  pub own : All (λ s. s.board.table ≡ t) left

pub record IsSeatView (x : SeatModel) (v : View) : Type 0 where
  pub parts : v.parts ≡ 1
  pub list : v.list ≡ x.list
  pub told : v.told ≡ says_none x

taken : (f : SeatModel → ℕ) (xs ys : List SeatModel) (x : SeatModel) → xs ≡ ys ++ x ∷ [] → f x + sum_by f ys ≡ sum_by f xs
taken f xs ys x is = let a = ap (λ (l : List SeatModel). sum_by f l) is in omega (arith, sum_by_push f ys x)

shorter : (xs ys : List SeatModel) (x : SeatModel) → xs ≡ ys ++ x ∷ [] → length xs ≡ length ys + 1
shorter xs ys x is = let a = ap (λ (l : List SeatModel). length l) is in omega (arith, length-append ys (x ∷ []))

pub begins : (t : TableId) (all ys : List SeatModel) (x : SeatModel) (v : View) → all ≡ ys ++ x ∷ [] → All (λ s. s.board.table ≡ t) all → IsSeatView x v → Gathered t all ys v
begins t all ys x v is own mine = let p = mine.parts in let q = mine.told in record {
  some_part = omega arith;
  parts = let l = shorter all ys x is in omega arith;
  numbers = λ n. ap (λ (l : List ℕ). times n l + sum_by (λ (s : SeatModel). times n s.list) ys) mine.list ∙ taken (λ s. times n s.list) all ys x is;
  told = let l = taken says_none all ys x is in omega arith;
  own = (All-pop (λ (s : SeatModel). s.board.table ≡ t) all ys (Some x) is own).0;
}

pub goes_on : (t : TableId) (all xs ys : List SeatModel) (x : SeatModel) (v w u : View) → xs ≡ ys ++ x ∷ [] → Gathered t all xs v → IsSeatView x w → u ≡ together v w → Gathered t all ys u
goes_on t all xs ys x v w u is r mine same = subst (Gathered t all ys) (sym same) (let p = mine.parts in let q = mine.told in let sp = r.some_part in let rp = r.parts in let rt = r.told in record {
  some_part = omega arith;
  parts = let l = shorter xs ys x is in omega arith;
  numbers = λ n. let l = taken (λ s. times n s.list) xs ys x is in let e : times n w.list ≡ times n x.list = ap (times n) mine.list in let b = r.numbers n in omega (arith, times_append n v.list w.list);
  told = let l = taken says_none xs ys x is in omega arith;
  own = (All-pop (λ (s : SeatModel). s.board.table ≡ t) xs ys (Some x) is r.own).0;
})

-- nothing is left
pub ends : (t : TableId) (all left : List SeatModel) (v : View) → Gathered t all left v → left ≡ [] → (v.parts ≡ length all) × ((x : ℕ) → times x v.list ≡ sum_by (λ s. times x s.list) all) × (v.told ≡ sum_by says_none all)
ends t all left v r none_left = let e = ap (λ (l : List SeatModel). length l) none_left in let p = r.parts in let q = r.told in let z = ap (λ (l : List SeatModel). sum_by says_none l) none_left in
    (omega arith, (λ x. let n = r.numbers x in let y = ap (λ (l : List SeatModel). sum_by (λ s. times x s.list) l) none_left in omega arith), omega arith)
