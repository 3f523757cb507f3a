-- What has a meaning has no fault, and one meaning.
use Rattle.std.proofs.Common.{◌≡◌, ℕ, ◌<◌, ◌≤◌, Bool, true, false, eqb, ltb, List, [], ◌∷◌, ◌++◌, Option, None, Ok, length, refl, sym, ap, ◌∙◌, arith, append_assoc, inl, inr}
use Rattle.std.proofs.lemmas.List.{append-nil, length-append, length-map}
use Rattle.std.proofs.lemmas.List.Elements.{filter-append}
use Rattle.std.proofs.lemmas.List.Sums.{length-filter}
use Rattle.std.proofs.lemmas.Bool.{cases_Bool}
use Rattle.std.proofs.lemmas.Bool.Decides.{nat_tests}
use Rattle.std.specs.Prelude.{filter, count_by}
use Rattle.std.specs.List.{list_any, AllByRecursion}
use Rattle.fab_text.specs.Lines.{TextLine}
use Rattle.fab_arch.specs.declared.architecture.PinKind.{PinKind}
use Rattle.fab_arch.specs.declared.fault.ArchFault.{ArchFault}
use Rattle.fab_arch.specs.declared.fault.ArchFault.TheVariants.{NoIoRat, RepeatedIoRat, BadNumber, BadPinLine, NoPins, TooLarge, NoMemory}
use Rattle.fab_arch.specs.Arch.{is_io_rat, is_pin, kind_of, ratio_of, pin_fault, line_fault, fault_of, fault_after, first_fault, FaultIs, IsArch}
use Rattle.fab_arch.proofs.Standing.{any_filter, is_cons}

only_one : {X : Type 0} (xs : List X) (y : X) (ys : List X) (z : X) → xs ++ y ∷ ys ≡ z ∷ [] → (xs ≡ []) × (y ≡ z)
only_one [] y ys z h = (refl, cc)
only_one (x ∷ xs) y ys z h = let n = ap length h in absurd (omega (arith, n, length-append xs (y ∷ ys)))

at_place : {X : Type 0} (P : X → Type 0) (xs : List X) (y : X) (ys : List X) → AllByRecursion P (xs ++ y ∷ ys) → P y
at_place P [] y ys h = h.0
at_place P (x ∷ xs) y ys h = at_place P xs y ys h.1

filter_at : {X : Type 0} (p : X → Bool) (xs : List X) (y : X) (ys : List X) → p y ≡ true → filter p (xs ++ y ∷ ys) ≡ filter p xs ++ y ∷ filter p ys
filter_at p xs y ys h = filter-append p xs (y ∷ ys) ∙ rw h refl

-- the line's own part of what the lines mean
record Lawful (all : List TextLine) (line : TextLine) (r : ℕ) : Type 0 where
  one : filter is_io_rat all ≡ line ∷ []
  given : ratio_of line ≡ Ok r
  lawful : AllByRecursion (λ l. pin_fault l ≡ None) (filter is_pin all)
  some : 0 < length (filter is_pin all)
  few : length (filter is_pin all) ≤ 1024

ratio_line : (before : List TextLine) (l : TextLine) (ls : List TextLine) (line : TextLine) (r : ℕ) → Lawful (before ++ l ∷ ls) line r → is_io_rat l ≡ true → fault_of before l ≡ None
unfolding line_fault is_cons
ratio_line before l ls line r a here =
    let f = only_one (filter is_io_rat before) l (filter is_io_rat ls) line (sym (filter_at is_io_rat before l ls here) ∙ a.one) in
    let any : list_any is_io_rat before ≡ false = any_filter is_io_rat before ∙ ap is_cons f.0 in
    let ok : ratio_of l ≡ Ok r = ap ratio_of f.1 ∙ a.given in
    rw (here, any, ok) refl

pin_line : (before : List TextLine) (l : TextLine) (ls : List TextLine) (line : TextLine) (r : ℕ) → Lawful (before ++ l ∷ ls) line r → is_io_rat l ≡ false → is_pin l ≡ true → fault_of before l ≡ None
unfolding line_fault
pin_line before l ls line r a isnt here =
    let f = filter_at is_pin before l ls here in
    let lawful : pin_fault l ≡ None = at_place (λ l. pin_fault l ≡ None) (filter is_pin before) l (filter is_pin ls) (rw f at a.lawful) in
    let count : count_by is_pin before < 1024 = omega (arith, a.few, ap length f, length-append (filter is_pin before) (l ∷ filter is_pin ls), length-filter is_pin before) in
    let test : ltb (count_by is_pin before) 1024 ≡ true = grind (arith, nat_tests) in
    rw (isnt, here, lawful, test) refl

other_line : (before : List TextLine) (l : TextLine) → is_io_rat l ≡ false → is_pin l ≡ false → fault_of before l ≡ None
unfolding line_fault
other_line before l isnt_ratio isnt_pin = rw (isnt_ratio, isnt_pin) refl

no_line_fault : (before : List TextLine) (l : TextLine) (ls : List TextLine) (line : TextLine) (r : ℕ) → Lawful (before ++ l ∷ ls) line r → fault_of before l ≡ None
no_line_fault before l ls line r a =
    elim (cases_Bool (is_io_rat l)) [
      | inl here ↦ ratio_line before l ls line r a here
      | inr isnt ↦ elim (cases_Bool (is_pin l)) [ inl here ↦ pin_line before l ls line r a isnt here | inr not_pin ↦ other_line before l isnt not_pin ]
    ]

none_after : (before ls : List TextLine) (line : TextLine) (r : ℕ) → Lawful (before ++ ls) line r → fault_after before ls ≡ None
unfolding is_cons
none_after before [] line r a =
    let e = append-nil before in
    let any : list_any is_io_rat before ≡ true = any_filter is_io_rat before ∙ ap is_cons (rw e at a.one) in
    let some : 0 < length (filter is_pin before) = rw e at a.some in
    let test : eqb (count_by is_pin before) 0 ≡ false = let n = length-filter is_pin before in not_zero (count_by is_pin before) (omega arith) in
    rw (any, test) refl
  where
    not_zero : (n : ℕ) → 0 < n → eqb n 0 ≡ false
    not_zero n h = grind (arith, nat_tests)
none_after before (l ∷ ls) line r a =
    let next : Lawful ((before ++ l ∷ []) ++ ls) line r = rw (append_assoc before (l ∷ []) ls) a in
    rw (no_line_fault before l ls line r a) (none_after (before ++ l ∷ []) ls line r next)

pub no_fault_in : (all : List TextLine) (r : ℕ) (pins : List PinKind) → IsArch all r pins → first_fault all ≡ None
no_fault_in all r pins a =
    let n : length pins ≡ length (filter is_pin all) = ap length a.kinds ∙ length-map (filter is_pin all) kind_of in
    none_after [] all a.line r (record { one = a.one; given = a.given; lawful = a.lawful; some = omega (arith, a.some); few = omega (arith, a.few) })

pub one_meaning : (all : List TextLine) (r s : ℕ) (pins qs : List PinKind) → IsArch all r pins → IsArch all s qs → (r ≡ s) × (pins ≡ qs)
one_meaning all r s pins qs a b =
    let heads : a.line ∷ [] ≡ b.line ∷ [] = sym a.one ∙ b.one in
    let line : a.line ≡ b.line = cc in
    let same : ratio_of a.line ≡ ratio_of b.line = ap ratio_of line in
    let given = a.given in
    let given' = b.given in
    (cc, a.kinds ∙ sym b.kinds)

pub memory_only : (e : ArchFault) (fault : Option ArchFault) → fault ≡ None → FaultIs e fault → e ≡ NoMemory
memory_only NoMemory fault h k = refl
memory_only NoIoRat fault h k = cc
memory_only (RepeatedIoRat n) fault h k = cc
memory_only (BadNumber n) fault h k = cc
memory_only (BadPinLine n) fault h k = cc
memory_only NoPins fault h k = cc
memory_only (TooLarge n) fault h k = cc
