-- Names by first appearance, one name on.
use Rattle.std.proofs.Common.{◌≡◌, ℕ, ◌+◌, ◌<◌, ◌≤◌, Bool, true, false, cond, ltb, List, [], ◌∷◌, ◌++◌, Some, None, length, map, get_or, refl, sym, ap, ◌∙◌, arith, suc, inl, inr}
use Rattle.std.proofs.lemmas.List.{append-nil, length_push, get_or_append_left, map_push, length-map, get_or-map}
use Rattle.std.proofs.lemmas.List.Elements.{filter-append, All-push, All-weaker, All-head, All-tail, All-map, All-filter}
use Rattle.std.proofs.lemmas.List.Sums.{length-filter, count_by-le-length}
use Rattle.std.proofs.lemmas.List.Quantifiers.{position-Some}
use Rattle.std.proofs.lemmas.Map.Views.{any-filter_same}
use Rattle.std.proofs.lemmas.Bool.{cases_Bool, false≢true, false_from_ne_true}
use Rattle.std.proofs.lemmas.Bool.Decides.{nat_tests}
use Rattle.std.proofs.lemmas.Slice.Eq.{bytes_eq-Decides}
use Rattle.std.specs.Prelude.{filter, is_some}
use Rattle.std.specs.List.{All, list_any, position_or_len}
use Rattle.std.specs.Str.{bytes_eq}
use Rattle.fab_net.specs.Names.{number_of, with_name, is_other, first_names}
use Rattle.fab_net.specs.Text.{PinOf, net_of_pin, net_names, terminals_of, terminal_of, is_on}
use Rattle.fab_net.specs.ByNumber.{pin_of}
use Rattle.fab_net.specs.declared.netlist_types.Pin.{Pin}
use Rattle.fab_net.specs.declared.netlist_types.Terminal.{Terminal}

first_is : (q n : ℕ) → ltb 0 (suc n) ≡ true
first_is q n = grind (arith, nat_tests)

next_is : (q n : ℕ) → ltb (1 + q) (suc n) ≡ ltb q n
next_is q n = grind (arith, nat_tests)

pub any_position : {X : Type 0} (p : X → Bool) (xs : List X) → ltb (position_or_len p xs) (length xs) ≡ list_any p xs
any_position p [] = refl
any_position p (x ∷ xs) = elim (cases_Bool (p x)) [
  | inl h ↦ rw h (first_is 0 (length xs))
  | inr h ↦ rw h (next_is (position_or_len p xs) (length xs) ∙ any_position p xs)
]

some_if : (b : Bool) (i : ℕ) → is_some (cond b (Some i) None) ≡ b
some_if true i = refl
some_if false i = refl

-- whether a name has a number
pub has_number : (x : List ℕ) (names : List (List ℕ)) → is_some (number_of x names) ≡ list_any (bytes_eq x) names
has_number x names = some_if (ltb (position_or_len (bytes_eq x) names) (length names)) (position_or_len (bytes_eq x) names) ∙ any_position (bytes_eq x) names

with_name_is : (x : List ℕ) (names : List (List ℕ)) → with_name x names ≡ cond (list_any (bytes_eq x) names) names (names ++ x ∷ [])
with_name_is x names = ap (λ b. cond b names (names ++ x ∷ [])) (has_number x names)

pub same_name : (x y : List ℕ) → bytes_eq x y ≡ true → x ≡ y
same_name x y h = (bytes_eq-Decides x y).0 h

pub itself : (x : List ℕ) → bytes_eq x x ≡ true
itself x = (bytes_eq-Decides x x).1 refl

pub other_way : (x y : List ℕ) → bytes_eq x y ≡ false → bytes_eq y x ≡ false
other_way x y h = false_from_ne_true (bytes_eq y x) (λ e. false≢true (sym h ∙ (bytes_eq-Decides x y).1 (sym (same_name y x e))))

pub kept : (x n : List ℕ) → bytes_eq x n ≡ false → (k : List ℕ) → bytes_eq x k ≡ true → is_other n k ≡ true
kept x n h k e = let same : x ≡ k = same_name x k e in let f : bytes_eq n k ≡ false = ap (bytes_eq n) (sym same) ∙ other_way x n h in rw f refl

filter_if : (p : List ℕ → Bool) (b : Bool) (xs ys : List (List ℕ)) → filter p (cond b xs ys) ≡ cond b (filter p xs) (filter p ys)
filter_if p true xs ys = refl
filter_if p false xs ys = refl

cons_if : (n : List ℕ) (b : Bool) (xs ys : List (List ℕ)) → n ∷ cond b xs ys ≡ cond b (n ∷ xs) (n ∷ ys)
cons_if n true xs ys = refl
cons_if n false xs ys = refl

same_if : (b : Bool) (xs : List (List ℕ)) → cond b xs xs ≡ xs
same_if true xs = refl
same_if false xs = refl

-- one more name
pub first_names_push : (ns : List (List ℕ)) (x : List ℕ) → first_names (ns ++ x ∷ []) ≡ with_name x (first_names ns)
first_names_push [] x = refl
first_names_push (n ∷ ns) x =
    let fs = first_names ns in
    let f = filter (is_other n) fs in
    let start : first_names ((n ∷ ns) ++ x ∷ []) ≡ n ∷ cond (list_any (bytes_eq x) fs) f (f ++ filter (is_other n) (x ∷ [])) =
    ap (λ zs. n ∷ filter (is_other n) zs) (first_names_push ns x ∙ with_name_is x fs)
    ∙ ap (λ zs. n ∷ zs) (filter_if (is_other n) (list_any (bytes_eq x) fs) fs (fs ++ x ∷ []) ∙ ap (cond (list_any (bytes_eq x) fs) f) (filter-append (is_other n) fs (x ∷ []))) in
    elim (cases_Bool (bytes_eq x n)) [
      | inl h ↦
          let t : bytes_eq n x ≡ true = (bytes_eq-Decides n x).1 (sym (same_name x n h)) in
          let tail : f ++ filter (is_other n) (x ∷ []) ≡ f = rw t (append-nil f) in
          let any : list_any (bytes_eq x) (n ∷ f) ≡ true = rw h refl in
          start ∙ ap (λ zs. n ∷ cond (list_any (bytes_eq x) fs) f zs) tail ∙ ap (λ zs. n ∷ zs) (same_if (list_any (bytes_eq x) fs) f)
          ∙ sym (with_name_is x (n ∷ f) ∙ ap (λ b. cond b (n ∷ f) ((n ∷ f) ++ x ∷ [])) any)
      | inr h ↦
          let t : bytes_eq n x ≡ false = other_way x n h in
          let tail : f ++ filter (is_other n) (x ∷ []) ≡ f ++ x ∷ [] = rw t refl in
          let any : list_any (bytes_eq x) (n ∷ f) ≡ list_any (bytes_eq x) fs = rw h (any-filter_same (bytes_eq x) (is_other n) true (kept x n h) fs) in
          start ∙ ap (λ zs. n ∷ cond (list_any (bytes_eq x) fs) f zs) tail ∙ cons_if n (list_any (bytes_eq x) fs) f (f ++ x ∷ [])
          ∙ sym (with_name_is x (n ∷ f) ∙ ap (λ b. cond b (n ∷ f) ((n ∷ f) ++ x ∷ [])) any)
    ]

pub first_names_le : (ns : List (List ℕ)) → length (first_names ns) ≤ length ns
first_names_le [] = omega arith
first_names_le (n ∷ ns) = let a = length-filter (is_other n) (first_names ns) in let b = count_by-le-length (is_other n) (first_names ns) in let c = first_names_le ns in omega (arith, a, b, c)

pub nets_le : (pins : List PinOf) → length (net_names pins) ≤ length pins
nets_le pins = let a = first_names_le (map net_of_pin pins) in let b = length-map pins net_of_pin in omega (arith, a, b)

-- the name with a number
pub name_at_number : (x : List ℕ) (names : List (List ℕ)) (i : ℕ) → number_of x names ≡ Some i → (i < length names) × (get_or names i [] ≡ x)
name_at_number x names i h = let p = position-Some (bytes_eq x) names i [] h in (p.0, sym (same_name x (get_or names i []) p.1))

grown : (x : List ℕ) (names : List (List ℕ)) (b : Bool) (i : ℕ) → i < length names → get_or (cond b names (names ++ x ∷ [])) i [] ≡ get_or names i []
grown x names true i lt = refl
grown x names false i lt = get_or_append_left names (x ∷ []) [] i lt

longer : (x : List ℕ) (names : List (List ℕ)) (b : Bool) → length names ≤ length (cond b names (names ++ x ∷ []))
longer x names true = omega arith
longer x names false = omega (arith, length_push names x)

pins_kept : (names new : List (List ℕ)) → ((i : ℕ) → i < length names → get_or new i [] ≡ get_or names i []) → (pins : List Pin) → All (λ p. p.net < length names) pins → map (pin_of new) pins ≡ map (pin_of names) pins
pins_kept names new h [] k = refl
pins_kept names new h (p ∷ ps) k =
    let here = All-head (λ (p : Pin). p.net < length names) p ps k in
    let rest = pins_kept names new h ps (All-tail (λ (p : Pin). p.net < length names) p ps k) in
    let e = h p.net here in
    ap (λ n. record { block = p.block; pin = p.pin; name = n; span = p.span; drives = p.drives } ∷ map (pin_of new) ps) e ∙ ap (λ zs. pin_of names p ∷ zs) rest

-- one more pin
pub record Pushed (names : List (List ℕ)) (pins : List Pin) (name : List ℕ) (p : Pin) (new : List (List ℕ)) : Type 0 where
  pub view : map (pin_of new) (pins ++ p ∷ []) ≡ map (pin_of names) pins ++ record { block = p.block; pin = p.pin; name = name; span = p.span; drives = p.drives } ∷ []
  pub nets : new ≡ net_names (map (pin_of new) (pins ++ p ∷ []))
  pub within : All (λ q. q.net < length new) (pins ++ p ∷ [])

pub pushed : (names : List (List ℕ)) (pins : List Pin) (name : List ℕ) (p : Pin) (new : List (List ℕ)) → names ≡ net_names (map (pin_of names) pins) → All (λ p. p.net < length names) pins
    → new ≡ with_name name names → number_of name new ≡ Some p.net → Pushed names pins name p new
pushed names pins name p new nets within grows number =
    let b = is_some (number_of name names) in
    let keeps : (i : ℕ) → i < length names → get_or new i [] ≡ get_or names i [] = λ i lt. rw grows (grown name names b i lt) in
    let le : length names ≤ length new = rw grows (longer name names b) in
    let at = name_at_number name new p.net number in
    let view : map (pin_of new) (pins ++ p ∷ []) ≡ map (pin_of names) pins ++ record { block = p.block; pin = p.pin; name = name; span = p.span; drives = p.drives } ∷ [] =
    map_push (pin_of new) pins p
    ∙ ap (λ zs. zs ++ pin_of new p ∷ []) (pins_kept names new keeps pins within)
    ∙ ap (λ n. map (pin_of names) pins ++ record { block = p.block; pin = p.pin; name = n; span = p.span; drives = p.drives } ∷ []) at.1 in
    record {
      view = view;
      nets = grows ∙ ap (with_name name) nets ∙ sym (first_names_push (map net_of_pin (map (pin_of names) pins)) name)
          ∙ ap first_names (sym (map_push net_of_pin (map (pin_of names) pins) (record { block = p.block; pin = p.pin; name = name; span = p.span; drives = p.drives })))
          ∙ ap net_names (sym view);
      within = All-push (λ (q : Pin). q.net < length new) pins p (All-weaker (λ (q : Pin). q.net < length names) (λ (q : Pin). q.net < length new) (λ q h. omega arith) pins within) at.0;
    }

-- the terminals of nets are on blocks that exist
pub terminals_blocks : (pins : List PinOf) (limit : ℕ) (names : List (List ℕ)) → All (λ p. p.block < limit) pins → (n : ℕ) → n < length names → All (λ t. t.block.0 < limit) (get_or (map (terminals_of pins) names) n [])
terminals_blocks pins limit names h n lt =
    let e : get_or (map (terminals_of pins) names) n [] ≡ terminals_of pins (get_or names n []) = get_or-map (terminals_of pins) names n [] [] lt in
    rw e (All-map (λ (t : Terminal). t.block.0 < limit) terminal_of (filter (is_on (get_or names n [])) pins) (All-filter (is_on (get_or names n [])) (λ (p : PinOf). p.block < limit) pins h))
