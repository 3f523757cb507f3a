-- What a reader knows between two lines.
use Rattle.std.proofs.Common.{◌≡◌, ℕ, ◌<◌, ◌≤◌, Bool, true, false, not, cond, eqb, ltb, ◌||◌, List, [], ◌∷◌, ◌++◌, Option, Some, None, Ok, Err, Result, length, map, drop, refl, sym, ap, ◌∙◌, subst, arith, append_assoc, inl, inr}
use Rattle.std.proofs.lemmas.List.{append-nil, map-append, length-append, length-map}
use Rattle.std.proofs.lemmas.List.Elements.{filter-append}
use Rattle.std.proofs.lemmas.List.Sums.{length-filter}
use Rattle.std.proofs.lemmas.Bool.{cases_Bool, false≢true}
use Rattle.std.proofs.lemmas.Bool.Decides.{nat_tests}
use Rattle.std.proofs.lemmas.Slice.Eq.{bytes_eq-Decides}
use Rattle.std.specs.Prelude.{IfSome, filter, count_by, is_some, slice_get, codes}
use Rattle.std.specs.List.{list_any, AllByRecursion}
use Rattle.fab_text.specs.Lines.{TextLine}
use Rattle.fab_text.specs.FirstFault.{or_else, fault_of_all, no_text_fault, TookNoFault}
use Rattle.fab_text.proofs.Taken.{none_of_both, one_more}
use Rattle.fab_arch.specs.declared.architecture.PinKind.{PinKind}
use Rattle.fab_arch.specs.declared.fault.ArchFault.{ArchFault}
use Rattle.fab_arch.specs.declared.fault.ArchFault.TheVariants.{NoIoRat, RepeatedIoRat, BadNumber, BadPinLine, NoPins, TooLarge, NoMemory}
use Rattle.fab_text.specs.declared.numbers.NumFault.{NumFault}
use Rattle.fab_text.specs.declared.numbers.NumFault.TheVariants as num
use Rattle.fab_text.specs.Decimal.{decimal_of}
use Rattle.fab_arch.specs.Arch.{within, number_of, is_word, is_io_rat, is_inpin, is_outpin, is_pin, kind_of, ratio_of, pin_fault_from, pin_fault, are_sides, without_global, line_fault, fault_of, fault_after, first_fault, err_of, end_fault, FaultIs, ratio_after, pins_in, IsArch}

words_apart : (o : Option (List ℕ)) → is_word o (codes "io_rat") ≡ true → (is_word o (codes "inpin") || is_word o (codes "outpin")) ≡ false
words_apart None h = refl
words_apart (Some w) h = let e : w ≡ codes "io_rat" = (bytes_eq-Decides w (codes "io_rat")).0 h in rw e refl

-- a line that gives the pads for each position is no pin's
pub apart : (l : TextLine) → is_io_rat l ≡ true → is_pin l ≡ false
unfolding is_io_rat is_inpin is_outpin
apart l h = words_apart (slice_get l.words 0) h

pub no_pin_in : (l : TextLine) (pins : List PinKind) → is_io_rat l ≡ true → pins ≡ pins ++ pins_in l
no_pin_in l pins h = rw (apart l h) (sym (append-nil pins))

-- the pads for each position that these lines give
abbrev pub RatioIs : Option ℕ → List TextLine → Type 0
RatioIs None ls = ls ≡ []
RatioIs (Some r) ls = (l : TextLine) × (ls ≡ l ∷ []) × (ratio_of l ≡ Ok r)

pub record Standing (all left : List TextLine) (io_rat : Option ℕ) (pins : List PinKind) : Type 0 where
  pub before : List TextLine
  pub split : before ++ left ≡ all
  pub clean : first_fault all ≡ fault_after before left
  pub faultless : fault_of_all fault_of no_text_fault before ≡ None
  pub ratio : RatioIs io_rat (filter is_io_rat before)
  pub lawful : AllByRecursion (λ l. pin_fault l ≡ None) (filter is_pin before)
  pub kinds : pins ≡ map kind_of (filter is_pin before)
  pub few : length pins ≤ 1024

pub start : (all : List TextLine) → Standing all all None []
start all = record { before = []; split = refl; clean = refl; faultless = refl; ratio = refl; lawful = tt; kinds = refl; few = omega arith }

unfoldable pub is_cons : {X : Type 0} → List X → Bool
is_cons [] = false
is_cons (x ∷ xs) = true

pub any_filter : {X : Type 0} (p : X → Bool) (xs : List X) → list_any p xs ≡ is_cons (filter p xs)
unfolding is_cons
any_filter p [] = refl
any_filter p (x ∷ xs) = elim (cases_Bool (p x)) [ inl h ↦ rw h refl | inr h ↦ rw h (any_filter p xs) ]

any_is : (io_rat : Option ℕ) (before : List TextLine) → RatioIs io_rat (filter is_io_rat before) → list_any is_io_rat before ≡ is_some io_rat
unfolding is_cons
any_is None before h = any_filter is_io_rat before ∙ ap is_cons h
any_is (Some r) before h = any_filter is_io_rat before ∙ ap is_cons h.1

count_is : (before : List TextLine) (pins : List PinKind) → pins ≡ map kind_of (filter is_pin before) → count_by is_pin before ≡ length pins
count_is before pins h = sym (length-filter is_pin before) ∙ sym (length-map (filter is_pin before) kind_of) ∙ ap length (sym h)

-- the fault of the next line, by what is known
pub fault_is : (all : List TextLine) (l : TextLine) (left : List TextLine) (io_rat : Option ℕ) (pins : List PinKind) → (s : Standing all (l ∷ left) io_rat pins) → fault_of s.before l ≡ line_fault (is_some io_rat) (length pins) l
fault_is all l left io_rat pins s = rw (any_is io_rat s.before s.ratio, count_is s.before pins s.kinds) refl

or_else_some : (f g : Option ArchFault) (e : ArchFault) → f ≡ Some e → or_else f g ≡ Some e
or_else_some f g e h = rw h refl

told : (e : ArchFault) (f : Option ArchFault) → f ≡ Some e → FaultIs e f
told NoMemory f h = tt
told NoIoRat f h = h
told (RepeatedIoRat n) f h = h
told (BadNumber n) f h = h
told (BadPinLine n) f h = h
told NoPins f h = h
told (TooLarge n) f h = h

-- a possible fault is not a lack of memory
abbrev IsOfText : Option ArchFault → Type 0
IsOfText (Some NoMemory) = ⊥
IsOfText f = Unit {0}

of_text_if : (b : Bool) (f g : Option ArchFault) → IsOfText f → IsOfText g → IsOfText (cond b f g)
of_text_if true f g h k = h
of_text_if false f g h k = k

of_text_or : (f g : Option ArchFault) → IsOfText f → IsOfText g → IsOfText (or_else f g)
of_text_or None g h k = k
of_text_or (Some e) g h k = h

of_text_choice : (b c : Bool) (value n : ℕ) → IsOfText (err_of {A = ℕ} (cond b (Err (BadNumber n)) (cond c (Err (TooLarge n)) (Ok value))))
of_text_choice true c value n = tt
of_text_choice false true value n = tt
of_text_choice false false value n = tt

number_of_text : (n low high : ℕ) (word : Option (List ℕ)) → IsOfText (err_of (number_of n low high word))
number_of_text n low high None = tt
number_of_text n low high (Some word) = read_so (decimal_of word 0)
  where
    read_so : (x : Result ℕ NumFault) → IsOfText (err_of (within n low high x))
    read_so (Ok value) = of_text_choice (ltb value low) (ltb high value) value n
    read_so (Err num.BadDigit) = tt
    read_so (Err num.TooManyPlaces) = tt
    read_so (Err num.TooLarge) = tt

pin_of_text : (l : TextLine) → IsOfText (pin_fault l)
unfolding pin_fault
pin_of_text l = of_text_if (is_word (slice_get l.words 1) (codes "class:")) _ _ (from (number_of l.number 0 65535 (slice_get l.words 2)) (number_of_text l.number 0 65535 (slice_get l.words 2))) tt
  where
    from : (class : Result ℕ ArchFault) → IsOfText (err_of class) → IsOfText (pin_fault_from l class)
    from (Err e) h = h
    from (Ok c) h = of_text_if (are_sides (without_global (drop 3 l.words))) None (Some (BadPinLine l.number)) tt tt

line_of_text : (has : Bool) (pins : ℕ) (l : TextLine) → IsOfText (line_fault has pins l)
unfolding line_fault ratio_of
line_of_text has pins l =
    of_text_if (is_io_rat l) _ _ (of_text_if has _ _ tt (number_of_text l.number 1 64 (slice_get l.words 1)))
    (of_text_if (is_pin l) _ None (of_text_or (pin_fault l) _ (pin_of_text l) (of_text_if (ltb pins 1024) None (Some (TooLarge l.number)) tt tt)) tt)

-- the fault of a line is never a lack of memory
pub never_memory : (has : Bool) (pins : ℕ) (l : TextLine) (e : ArchFault) → line_fault has pins l ≡ Some e → e ≡ NoMemory → ⊥
never_memory has pins l e h k = let n : line_fault has pins l ≡ Some NoMemory = h ∙ ap Some k in subst IsOfText n (line_of_text has pins l)

-- a fault of the next line is the text's
pub fails : (all : List TextLine) (l : TextLine) (left : List TextLine) (io_rat : Option ℕ) (pins : List PinKind) (e : ArchFault) → Standing all (l ∷ left) io_rat pins → line_fault (is_some io_rat) (length pins) l ≡ Some e → FaultIs e (first_fault all)
fails all l left io_rat pins e s h =
    told e (first_fault all) (s.clean ∙ or_else_some (fault_of s.before l) (fault_after (s.before ++ l ∷ []) left) e (fault_is all l left io_rat pins s ∙ h))

filter_none : {X : Type 0} (p : X → Bool) (xs : List X) (x : X) → p x ≡ false → filter p (xs ++ x ∷ []) ≡ filter p xs
filter_none p xs x h = filter-append p xs (x ∷ []) ∙ rw h (append-nil (filter p xs))

filter_one : {X : Type 0} (p : X → Bool) (xs : List X) (x : X) → p x ≡ true → filter p (xs ++ x ∷ []) ≡ filter p xs ++ x ∷ []
filter_one p xs x h = filter-append p xs (x ∷ []) ∙ rw h refl

lawful_push : {X : Type 0} (P : X → Type 0) (xs : List X) (x : X) → AllByRecursion P xs → P x → AllByRecursion P (xs ++ x ∷ [])
lawful_push P [] x h k = (k, tt)
lawful_push P (y ∷ ys) x h k = (h.0, lawful_push P ys x h.1 k)

ok_from_none : (x : Result ℕ ArchFault) → err_of x ≡ None → (r : ℕ) × (x ≡ Ok r)
ok_from_none (Ok r) h = (r, refl)
ok_from_none (Err e) h = cc

-- what a line that gives the pads for each position adds
ratio_given : (io_rat : Option ℕ) (pins : ℕ) (before : List TextLine) (l : TextLine) → is_io_rat l ≡ true → line_fault (is_some io_rat) pins l ≡ None → RatioIs io_rat (filter is_io_rat before) → RatioIs (ratio_after io_rat l) (filter is_io_rat (before ++ l ∷ []))
unfolding line_fault
ratio_given None pins before l is h r =
    let ok = ok_from_none (ratio_of l) (rw is at h) in
    let f : filter is_io_rat (before ++ l ∷ []) ≡ l ∷ [] = filter_one is_io_rat before l is ∙ rw r refl in
    rw (is, ok.1, f) (l, refl, ok.1)
ratio_given (Some x) pins before l is h r = let isnt : Some (RepeatedIoRat l.number) ≡ None = rw is at h in cc

ratio_kept : (io_rat : Option ℕ) (before : List TextLine) (l : TextLine) → is_io_rat l ≡ false → RatioIs io_rat (filter is_io_rat before) → RatioIs (ratio_after io_rat l) (filter is_io_rat (before ++ l ∷ []))
ratio_kept io_rat before l isnt r = rw (isnt, filter_none is_io_rat before l isnt) r

-- a pin's line that has no fault
pin_is : (has : Bool) (pins : ℕ) (l : TextLine) → is_io_rat l ≡ false → is_pin l ≡ true → line_fault has pins l ≡ None → (pin_fault l ≡ None) × (pins < 1024)
unfolding line_fault
pin_is has pins l isnt is h =
    let e : or_else (pin_fault l) (cond (ltb pins 1024) None (Some (TooLarge l.number))) ≡ None = rw (isnt, is) at h in
    let both = none_of_both (pin_fault l) _ e in
    (both.0, few_from pins l.number both.1)
  where
    few_from : (pins n : ℕ) → cond (ltb pins 1024) None (Some (TooLarge n)) ≡ None → pins < 1024
    few_from pins n h = grind (arith, nat_tests)

-- what follows for the pins
record PinsStand (before : List TextLine) (pins : List PinKind) : Type 0 where
  lawful : AllByRecursion (λ l. pin_fault l ≡ None) (filter is_pin before)
  kinds : pins ≡ map kind_of (filter is_pin before)
  few : length pins ≤ 1024

pin_added : (before : List TextLine) (pins : List PinKind) (l : TextLine) → is_pin l ≡ true → pin_fault l ≡ None → length pins < 1024 → PinsStand before pins → PinsStand (before ++ l ∷ []) (pins ++ pins_in l)
pin_added before pins l is fault few p =
    let f : filter is_pin (before ++ l ∷ []) ≡ filter is_pin before ++ l ∷ [] = filter_one is_pin before l is in
    let i : pins_in l ≡ kind_of l ∷ [] = rw is refl in
    record {
      lawful = rw f (lawful_push (λ l. pin_fault l ≡ None) (filter is_pin before) l p.lawful fault);
      kinds = rw (i, f, map-append kind_of (filter is_pin before) (l ∷ [])) (ap (λ ks. ks ++ kind_of l ∷ []) p.kinds);
      few = rw (i, length-append pins (kind_of l ∷ [])) (omega arith);
    }

pins_kept : (before : List TextLine) (pins : List PinKind) (l : TextLine) → is_pin l ≡ false → PinsStand before pins → PinsStand (before ++ l ∷ []) (pins ++ pins_in l)
pins_kept before pins l isnt p =
    let f : filter is_pin (before ++ l ∷ []) ≡ filter is_pin before = filter_none is_pin before l isnt in
    let i : pins ++ pins_in l ≡ pins = rw isnt (append-nil pins) in
    record { lawful = rw f p.lawful; kinds = rw (i, f) p.kinds; few = rw i p.few }

pins_step : (has : Bool) (before : List TextLine) (pins : List PinKind) (l : TextLine) → line_fault has (length pins) l ≡ None → PinsStand before pins → PinsStand (before ++ l ∷ []) (pins ++ pins_in l)
pins_step has before pins l h p =
    elim (cases_Bool (is_pin l)) [
      | inl is ↦ elim (cases_Bool (is_io_rat l)) [
        | inl rat ↦ absurd (false≢true (sym (apart l rat) ∙ is))
        | inr isnt ↦ let q = pin_is has (length pins) l isnt is h in pin_added before pins l is q.0 q.1 p
      ]
      | inr isnt ↦ pins_kept before pins l isnt p
    ]

ratio_step : (io_rat : Option ℕ) (pins : ℕ) (before : List TextLine) (l : TextLine) → line_fault (is_some io_rat) pins l ≡ None → RatioIs io_rat (filter is_io_rat before) → RatioIs (ratio_after io_rat l) (filter is_io_rat (before ++ l ∷ []))
ratio_step io_rat pins before l h r = elim (cases_Bool (is_io_rat l)) [ inl is ↦ ratio_given io_rat pins before l is h r | inr isnt ↦ ratio_kept io_rat before l isnt r ]

-- on by one line that has no fault
pub step : (all : List TextLine) (l : TextLine) (left : List TextLine) (io_rat : Option ℕ) (pins : List PinKind) → Standing all (l ∷ left) io_rat pins → line_fault (is_some io_rat) (length pins) l ≡ None
    → Standing all left (ratio_after io_rat l) (pins ++ pins_in l)
step all l left io_rat pins s h =
    let p = pins_step (is_some io_rat) s.before pins l h (record { lawful = s.lawful; kinds = s.kinds; few = s.few }) in
    record {
      before = s.before ++ l ∷ [];
      split = append_assoc s.before (l ∷ []) left ∙ s.split;
      clean = s.clean ∙ rw (fault_is all l left io_rat pins s ∙ h) refl;
      faultless = one_more fault_of s.before l s.faultless (fault_is all l left io_rat pins s ∙ h);
      ratio = ratio_step io_rat (length pins) s.before l h s.ratio;
      lawful = p.lawful;
      kinds = p.kinds;
      few = p.few;
    }

-- the lines that were taken have no fault
took : (all left : List TextLine) (io_rat : Option ℕ) (pins : List PinKind) → Standing all left io_rat pins → TookNoFault fault_of all left
took all left io_rat pins s = (s.before, s.split, s.faultless)

-- the same with one more line
pub took_too : (all : List TextLine) (l : TextLine) (left : List TextLine) (io_rat : Option ℕ) (pins : List PinKind) → Standing all (l ∷ left) io_rat pins → line_fault (is_some io_rat) (length pins) l ≡ None → TookNoFault fault_of all left
took_too all l left io_rat pins s h = took all left _ _ (step all l left io_rat pins s h)

all_before : (all : List TextLine) (io_rat : Option ℕ) (pins : List PinKind) → (s : Standing all [] io_rat pins) → s.before ≡ all
all_before all io_rat pins s = sym (append-nil s.before) ∙ s.split

pub no_ratio : (all : List TextLine) (pins : List PinKind) → Standing all [] None pins → first_fault all ≡ Some NoIoRat
no_ratio all pins s = s.clean ∙ rw (any_is None s.before s.ratio) refl

pub no_pins : (all : List TextLine) (r : ℕ) (pins : List PinKind) → Standing all [] (Some r) pins → length pins ≡ 0 → first_fault all ≡ Some NoPins
no_pins all r pins s h = s.clean ∙ rw (any_is (Some r) s.before s.ratio, count_is s.before pins s.kinds, h) refl

-- the fault at the end of the lines is the text's
pub ends : (all : List TextLine) (io_rat : Option ℕ) (pins : List PinKind) (e : ArchFault) → Standing all [] io_rat pins → end_fault io_rat (length pins) ≡ Some e → FaultIs e (first_fault all)
ends all io_rat pins e s h = told e (first_fault all) (s.clean ∙ rw (any_is io_rat s.before s.ratio, count_is s.before pins s.kinds) (of_end io_rat (length pins) e h))
  where
    of_end : (io_rat : Option ℕ) (n : ℕ) (e : ArchFault) → end_fault io_rat n ≡ Some e → cond (not (is_some io_rat)) (Some NoIoRat) (cond (eqb n 0) (Some NoPins) None) ≡ Some e
    of_end None n e h = h
    of_end (Some r) n e h = h

pub no_fault : (all : List TextLine) (r : ℕ) (pins : List PinKind) → Standing all [] (Some r) pins → 0 < length pins → first_fault all ≡ None
no_fault all r pins s h =
    let e : eqb (length pins) 0 ≡ false = grind (arith, nat_tests) in
    s.clean ∙ rw (any_is (Some r) s.before s.ratio, count_is s.before pins s.kinds, e) refl

pub means : (all : List TextLine) (r : ℕ) (pins : List PinKind) → Standing all [] (Some r) pins → 0 < length pins → IsArch all r pins
means all r pins s h =
    let e = all_before all (Some r) pins s in
    record {
      line = s.ratio.0;
      one = rw (← e) s.ratio.1;
      given = s.ratio.2;
      lawful = rw (← e) s.lawful;
      kinds = rw (← e) s.kinds;
      some = h;
      few = s.few;
    }

bounds_from : (n : ℕ) (x : Result ℕ NumFault) (r : ℕ) → within n 1 64 x ≡ Ok r → (1 ≤ r) × (r ≤ 64)
bounds_from n (Ok value) r h =
    elim (cases_Bool (ltb value 1)) [
      | inl low ↦ let e : Err (BadNumber n) ≡ Ok r = rw low at h in cc
      | inr enough ↦ elim (cases_Bool (ltb 64 value)) [
        | inl high ↦ let e : Err (TooLarge n) ≡ Ok r = rw (enough, high) at h in cc
        | inr few ↦ let e : Ok value ≡ Ok r = rw (enough, few) at h in let same : value ≡ r = cc in grind (arith, nat_tests)
      ]
    ]
bounds_from n (Err num.BadDigit) r h = cc
bounds_from n (Err num.TooManyPlaces) r h = cc
bounds_from n (Err num.TooLarge) r h = cc

bounds_of : (n : ℕ) (word : Option (List ℕ)) (r : ℕ) → number_of n 1 64 word ≡ Ok r → (1 ≤ r) × (r ≤ 64)
bounds_of n None r h = cc
bounds_of n (Some word) r h = bounds_from n (decimal_of word 0) r h

-- the pads for each position that a line gives are 1 to 64
pub ratio_bounds : (l : TextLine) (r : ℕ) → ratio_of l ≡ Ok r → (1 ≤ r) × (r ≤ 64)
unfolding ratio_of
ratio_bounds l r h = bounds_of l.number (slice_get l.words 1) r h

-- the pads for each position that lines have given are 1 to 64
pub ratio_in_bounds : (io_rat : Option ℕ) (before : List TextLine) → RatioIs io_rat (filter is_io_rat before) → IfSome io_rat (λ r. (1 ≤ r) × (r ≤ 64))
ratio_in_bounds None before h = tt
ratio_in_bounds (Some r) before h = ratio_bounds h.0 r h.2

at_end : (all : List TextLine) (io_rat : Option ℕ) (pins : List PinKind) → Standing all [] io_rat pins → first_fault all ≡ None → (r : ℕ) × ((ps : List PinKind) × IsArch all r ps)
at_end all None pins s h = absurd (some_is_none (sym (no_ratio all pins s) ∙ h))
  where
    some_is_none : Some NoIoRat ≡ None → ⊥
    some_is_none h = cc
at_end all (Some r) [] s h = absurd (some_is_none (sym (no_pins all r [] s refl) ∙ h))
  where
    some_is_none : Some NoPins ≡ None → ⊥
    some_is_none h = cc
at_end all (Some r) (p ∷ ps) s h = (r, (p ∷ ps, means all r (p ∷ ps) s (omega arith)))

goes_on : (all : List TextLine) (left : List TextLine) (io_rat : Option ℕ) (pins : List PinKind) → Standing all left io_rat pins → first_fault all ≡ None → (r : ℕ) × ((ps : List PinKind) × IsArch all r ps)
goes_on all [] io_rat pins s h = at_end all io_rat pins s h
goes_on all (l ∷ left) io_rat pins s h =
    let none = none_of_both (fault_of s.before l) (fault_after (s.before ++ l ∷ []) left) (sym s.clean ∙ h) in
    goes_on all left (ratio_after io_rat l) (pins ++ pins_in l) (step all l left io_rat pins s (sym (fault_is all l left io_rat pins s) ∙ none.0)) h

-- lines with no fault mean an architecture
pub meaning_of : (all : List TextLine) → first_fault all ≡ None → (r : ℕ) × ((ps : List PinKind) × IsArch all r ps)
meaning_of all h = goes_on all all None [] (start all) h
