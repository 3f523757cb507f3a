-- Lines that are taken one after the other, as many as are due.
use Rattle.std.proofs.Common.{◌≡◌, ℕ, ◌+◌, ◌-◌, ◌<◌, Bool, true, false, eqb, List, [], ◌∷◌, ◌++◌, Option, Some, None, length, take, drop, zero, suc, refl, sym, ap, ◌∙◌, arith, inl, inr}
use Rattle.std.proofs.lemmas.Bool.{cases_Bool, eqb-true, eq-eqb}
use Rattle.std.proofs.lemmas.List.{append_assoc, length-append}
use Rattle.fab_text.specs.Lines.{TextLine}
use Rattle.fab_text.specs.FirstFault.{or_else, unless, fault_behind, fault_of_all, no_text_fault, TookNoFault}
use Rattle.fab_text.proofs.Taken.{none_of_both, one_more}
use Rattle.fab_run.specs.declared.point_fault.PointFault.{PointFault}
use Rattle.fab_run.specs.declared.point_fault.PointFault.TheVariants.{BadField}

-- the fault when `many` lines are due and another number of lines is there
abbrev pub end_by : ℕ → List TextLine → Option PointFault
end_by many there = unless (eqb (length there) many) (BadField 0)

-- some of the lines that are due were taken without a fault, and others are left
pub record Taking (of_line : List TextLine → TextLine → Option PointFault) (many : ℕ) (all before left : List TextLine) (i : ℕ) : Type 0 where
  pub text : all ≡ before ++ left
  pub long : length before ≡ i
  pub clean : fault_of_all of_line (end_by many) (take many all) ≡ fault_behind of_line (end_by many) before (take (many - i) left)
  pub faultless : fault_of_all of_line no_text_fault before ≡ None

pub taking_none : (of_line : List TextLine → TextLine → Option PointFault) (many : ℕ) (all : List TextLine) → Taking of_line many all [] all 0
taking_none of_line many all =
    let same : many - 0 ≡ many = omega arith in
    record { text = refl; long = refl; clean = ap (λ n. fault_behind of_line (end_by many) [] (take n all)) (sym same); faultless = refl }

take_next : (many i : ℕ) (l : TextLine) (left : List TextLine) → i < many → take (many - i) (l ∷ left) ≡ l ∷ take (many - (i + 1)) left
take_next many i l left lt =
    let e : many - i ≡ suc (many - (i + 1)) = omega arith in
    ap (λ n. take n (l ∷ left)) e

-- one more line
pub taking_one : (of_line : List TextLine → TextLine → Option PointFault) (many : ℕ) (all before : List TextLine) (l : TextLine) (left : List TextLine) (i : ℕ) → Taking of_line many all before (l ∷ left) i → i < many → of_line before l ≡ None → Taking of_line many all (before ++ l ∷ []) left (i + 1)
taking_one of_line many all before l left i t lt none =
    record {
      text = t.text ∙ sym (append_assoc before (l ∷ []) left);
      long = omega (arith, length-append before (l ∷ []), t.long);
      clean = t.clean ∙ ap (fault_behind of_line (end_by many) before) (take_next many i l left lt)
          ∙ ap (λ f. or_else f (fault_behind of_line (end_by many) (before ++ l ∷ []) (take (many - (i + 1)) left))) none;
      faultless = one_more of_line before l t.faultless none;
    }

-- the lines that were taken have no fault
pub took : (of_line : List TextLine → TextLine → Option PointFault) (many : ℕ) (all before left : List TextLine) (i : ℕ) → Taking of_line many all before left i → TookNoFault of_line all left
took of_line many all before left i t = (before, sym t.text, t.faultless)

pub took_none : (of_line : List TextLine → TextLine → Option PointFault) (all : List TextLine) → TookNoFault of_line all all
took_none of_line all = ([], refl, refl)

-- a line with a fault
pub taking_fails : (of_line : List TextLine → TextLine → Option PointFault) (many : ℕ) (all before : List TextLine) (l : TextLine) (left : List TextLine) (i : ℕ) (e : PointFault) → Taking of_line many all before (l ∷ left) i → i < many → of_line before l ≡ Some e → fault_of_all of_line (end_by many) (take many all) ≡ Some e
taking_fails of_line many all before l left i e t lt some =
    t.clean ∙ ap (fault_behind of_line (end_by many) before) (take_next many i l left lt)
    ∙ ap (λ f. or_else f (fault_behind of_line (end_by many) (before ++ l ∷ []) (take (many - (i + 1)) left))) some

abbrev no_lines_left : List TextLine
no_lines_left = []

none_of_none : (n : ℕ) → take n no_lines_left ≡ []
none_of_none zero = refl
none_of_none (suc n) = refl

apart : (a b : ℕ) → a < b → eqb a b ≡ false
apart a b lt = elim (cases_Bool (eqb a b)) [
  | inl y ↦ absurd (omega (arith, eqb-true a b y))
  | inr n ↦ n
]

-- no line is left, though one is due
pub taking_missing : (of_line : List TextLine → TextLine → Option PointFault) (many : ℕ) (all before : List TextLine) (i : ℕ) → Taking of_line many all before [] i → i < many → fault_of_all of_line (end_by many) (take many all) ≡ Some (BadField 0)
taking_missing of_line many all before i t lt =
    t.clean ∙ ap (fault_behind of_line (end_by many) before) (none_of_none (many - i))
    ∙ ap (λ b. unless b (BadField 0)) (ap (λ n. eqb n many) t.long ∙ apart i many lt)

take_front : (xs ys : List TextLine) → take (length xs) (xs ++ ys) ≡ xs
take_front [] ys = refl
take_front (x ∷ xs) ys = ap (λ v. x ∷ v) (take_front xs ys)

drop_front : (xs ys : List TextLine) → drop (length xs) (xs ++ ys) ≡ ys
drop_front [] ys = refl
drop_front (x ∷ xs) ys = drop_front xs ys

-- all lines that are due were taken
pub record AreTaken (of_line : List TextLine → TextLine → Option PointFault) (many : ℕ) (all before left : List TextLine) : Type 0 where
  pub clean : fault_of_all of_line (end_by many) (take many all) ≡ None
  pub lines : take many all ≡ before
  pub rest : left ≡ drop many all

pub taking_all : (of_line : List TextLine → TextLine → Option PointFault) (many : ℕ) (all before left : List TextLine) → Taking of_line many all before left many → AreTaken of_line many all before left
taking_all of_line many all before left t =
    let zero_left : many - many ≡ 0 = omega arith in
    let is : eqb (length before) many ≡ true = eq-eqb (length before) many t.long in
    record {
      clean = t.clean ∙ ap (λ n. fault_behind of_line (end_by many) before (take n left)) zero_left ∙ ap (λ b. unless b (BadField 0)) is;
      lines = ap (take many) t.text ∙ ap (λ n. take n (before ++ left)) (sym t.long) ∙ take_front before left;
      rest = sym (ap (drop many) t.text ∙ ap (λ n. drop n (before ++ left)) (sym t.long) ∙ drop_front before left);
    }

-- lines without a fault are as many as are due, and each has no fault after those before it

pub unless_none : {E : Type 0} (b : Bool) (e : E) → unless b e ≡ None → b ≡ true
unless_none true e h = refl
unless_none false e h = absurd (let k : Some e ≡ None = h in cc)
