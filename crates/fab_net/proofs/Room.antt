-- How many nets the words of a pinlist add.
use Rattle.std.proofs.Common.{◌≡◌, ℕ, ◌+◌, ◌<◌, ◌≤◌, Bool, true, false, cond, leb, eqb, not, ◌||◌, ◌&&◌, List, [], ◌∷◌, ◌++◌, length, map, count_by, refl, sym, ap, ◌∙◌, arith, append_assoc, inl, inr}
use Rattle.std.proofs.lemmas.List.{append-nil, length-append, length_push, length-map, map-append}
use Rattle.std.proofs.lemmas.List.Elements.{filter-append}
use Rattle.std.proofs.lemmas.List.Folds.{list_any-append}
use Rattle.std.proofs.lemmas.Map.Views.{any-filter_same}
use Rattle.std.proofs.lemmas.Bool.{cases_Bool, false≢true, le-leb, eq-eqb}
use Rattle.std.proofs.lemmas.Bool.Decides.{nat_tests}
use Rattle.std.proofs.lemmas.List.Sums.{count_by-le-length, sum_by-cons}
use Rattle.std.specs.Prelude.{is_some}
use Rattle.std.specs.List.{list_any}
use denote.Ref.{Bor}
use Rattle.fab_text.specs.Lines.{TextLine}
use Rattle.fab_text.specs.FirstFault.{unless}
use Rattle.fab_net.specs.declared.fault.NetFault.TheVariants.{TooLarge}
use Rattle.fab_net.specs.Faults.{are_few}
use Rattle.std.specs.Str.{bytes_eq}
use Rattle.fab_net.specs.Names.{number_of, is_other, first_names}
use Rattle.fab_net.specs.Text.{Entry, PinOf, net_of_pin, net_names, is_open, pins_at, entries, entries_in, pin_count}
use Rattle.fab_net.specs.Said.{Said, connected, last_kind, kind_or_pad, pins_more, pins_fault}
use Rattle.fab_text.specs.declared.spans.Span.{Span}
use Rattle.fab_arch.specs.declared.architecture.PinKind.{PinKind}
use Rattle.fab_net.specs.declared.netlist_types.BlockKind.{BlockKind}
use Rattle.fab_net.specs.declared.netlist_types.BlockKind.TheVariants.{InputPad, OutputPad, Logic}
use Rattle.fab_net.proofs.Naming.{has_number, kept, same_name, first_names_push}

-- a name is among the first appearances where it is among all
any_first : (x : List ℕ) (ns : List (List ℕ)) → list_any (bytes_eq x) (first_names ns) ≡ list_any (bytes_eq x) ns
any_first x [] = refl
any_first x (n ∷ ns) = elim (cases_Bool (bytes_eq x n)) [
  | inl h ↦ rw h refl
  | inr h ↦ rw h (any-filter_same (bytes_eq x) (is_other n) true (kept x n h) (first_names ns) ∙ any_first x ns)
]

stays_named : (x : List ℕ) → is_open x ≡ false → (w : List ℕ) → bytes_eq x w ≡ true → not (is_open w) ≡ true
stays_named x h w e = let same : x ≡ w = same_name x w e in let f : is_open w ≡ false = ap is_open (sym same) ∙ h in rw f refl

any_connected : (x : List ℕ) (ws : List (List ℕ)) → is_open x ≡ false → list_any (bytes_eq x) (connected ws) ≡ list_any (bytes_eq x) ws
any_connected x ws h = any-filter_same (bytes_eq x) (λ w. not (is_open w)) true (stays_named x h) ws

-- whether a word would add a name, after these names and words
abbrev pub is_new : List (List ℕ) → List (List ℕ) → List ℕ → Bool
is_new names before x = (not (is_open x) && not (is_some (number_of x names))) && not (list_any (bytes_eq x) before)

there_or : (x : List ℕ) (ns ws : List (List ℕ)) → is_open x ≡ false → is_some (number_of x (first_names (ns ++ connected ws))) ≡ (is_some (number_of x (first_names ns)) || list_any (bytes_eq x) ws)
there_or x ns ws h =
    has_number x (first_names (ns ++ connected ws)) ∙ any_first x (ns ++ connected ws) ∙ list_any-append (bytes_eq x) ns (connected ws)
    ∙ ap (λ b. b || list_any (bytes_eq x) (connected ws)) (sym (has_number x (first_names ns) ∙ any_first x ns))
    ∙ ap (λ b. is_some (number_of x (first_names ns)) || b) (any_connected x ws h)

not_or : (a b : Bool) → (not a && not b) ≡ not (a || b)
not_or true b = refl
not_or false b = refl

not_not : (b : Bool) → not b ≡ true → b ≡ false
not_not true h = absurd (false≢true h)
not_not false h = refl

one_if_new : (b : Bool) (xs : List (List ℕ)) (x : List ℕ) → length (cond b xs (xs ++ x ∷ [])) ≡ cond (not b) (length xs + 1) (length xs)
one_if_new true xs x = refl
one_if_new false xs x = length_push xs x

abbrev pub Grown : List (List ℕ) → List (List ℕ) → ℕ
Grown ns ws = length (first_names (ns ++ connected ws))

-- one more word
pub grown_more : (ns ws : List (List ℕ)) (x : List ℕ) → Grown ns (ws ++ x ∷ []) ≡ cond (is_new (first_names ns) ws x) (Grown ns ws + 1) (Grown ns ws)
grown_more ns ws x =
    let split : connected (ws ++ x ∷ []) ≡ connected ws ++ connected (x ∷ []) = filter-append (λ w. not (is_open w)) ws (x ∷ []) in
    elim (cases_Bool (is_open x)) [
      | inl h ↦
          let none : connected (ws ++ x ∷ []) ≡ connected ws = split ∙ rw h (append-nil (connected ws)) in
          ap (λ ns'. length (first_names (ns ++ ns'))) none ∙ rw h refl
      | inr h ↦
          let one : connected (ws ++ x ∷ []) ≡ connected ws ++ x ∷ [] = split ∙ rw h refl in
          let more : ns ++ connected (ws ++ x ∷ []) ≡ (ns ++ connected ws) ++ x ∷ [] = ap (λ zs. ns ++ zs) one ∙ sym (append_assoc ns (connected ws) (x ∷ [])) in
          let there = is_some (number_of x (first_names ns)) in
          let before = list_any (bytes_eq x) ws in
          let is : is_new (first_names ns) ws x ≡ not (is_some (number_of x (first_names (ns ++ connected ws)))) = rw h (not_or there before) ∙ ap not (sym (there_or x ns ws h)) in
          ap (λ zs. length (first_names zs)) more ∙ ap length (first_names_push (ns ++ connected ws) x)
          ∙ one_if_new (is_some (number_of x (first_names (ns ++ connected ws)))) (first_names (ns ++ connected ws)) x
          ∙ ap (λ b. cond b (Grown ns ws + 1) (Grown ns ws)) (sym is)
    ]

pub step_new : (names before self : List (List ℕ)) (x : List ℕ) (b : Bool) → self ≡ first_names names → b ≡ is_new self before x → Grown names (before ++ x ∷ []) ≡ cond b (Grown names before + 1) (Grown names before)
step_new names before self x b h e = grown_more names before x ∙ ap (λ c. cond c (Grown names before + 1) (Grown names before)) (sym (e ∙ ap (λ s. is_new s before x) h))

pub any_map : {X : Type 0} (p : List ℕ → Bool) (f : X → List ℕ) (xs : List X) → list_any (λ x. p (f x)) xs ≡ list_any p (map f xs)
any_map p f [] = refl
any_map p f (x ∷ xs) = ap (λ b. p (f x) || b) (any_map p f xs)

-- at most each word adds a net

longer : (x : List ℕ) (names : List (List ℕ)) (b : Bool) → length (cond b names (names ++ x ∷ [])) ≤ length names + 1
longer x names true = omega arith
longer x names false = omega (arith, length_push names x)

pub most_names : (ns ms : List (List ℕ)) → length (first_names (ns ++ ms)) ≤ length (first_names ns) + length ms
most_names ns [] = let e = ap (λ xs. length (first_names xs)) (append-nil ns) in omega (arith, e)
most_names ns (m ∷ ms) =
    let e : length (first_names ((ns ++ m ∷ []) ++ ms)) ≡ length (first_names (ns ++ m ∷ ms)) = ap (λ xs. length (first_names xs)) (append_assoc ns (m ∷ []) ms) in
    let a = most_names (ns ++ m ∷ []) ms in
    let p = ap length (first_names_push ns m) in
    let b = longer m (first_names ns) (is_some (number_of m (first_names ns))) in
    omega (arith, e, a, p, b)

-- the nets of the pins of entries

names_of : (arch : List PinKind) (kind : BlockKind) (block i : ℕ) (es : List Entry) → map net_of_pin (pins_at arch kind block i es) ≡ connected (map (λ e. e.name) es)
names_of arch kind block i [] = refl
names_of arch kind block i (e ∷ es) =
    let rest = names_of arch kind block (i + 1) es in
    elim (cases_Bool (is_open e.name)) [
      | inl h ↦ rw h rest
      | inr h ↦ rw h (ap (λ ns. e.name ∷ ns) rest)
    ]

entry_names : (ws : List (List ℕ)) (ss : List Span) → length ws ≡ length ss → map (λ e. e.name) (entries ws ss) ≡ ws
entry_names [] ss h = refl
entry_names (w ∷ ws) [] h = absurd (omega arith)
entry_names (w ∷ ws) (s ∷ ss) h = ap (λ ns. w ∷ ns) (entry_names ws ss (omega arith))

pub pins_named : (arch : List PinKind) (kind : BlockKind) (block : ℕ) (ws : List (List ℕ)) (ss : List Span) → length ws ≡ length ss → map net_of_pin (pins_at arch kind block 0 (entries ws ss)) ≡ connected ws
pins_named arch kind block ws ss h = names_of arch kind block 0 (entries ws ss) ∙ ap connected (entry_names ws ss h)

-- room for the pins of one more pinlist

record Sizes (pins more : List PinOf) (ws : List (List ℕ)) : Type 0 where
  all : length (pins ++ more) ≡ length pins + length (connected ws)
  nets : net_names (pins ++ more) ≡ first_names (map net_of_pin pins ++ connected ws)

sizes : (pins more : List PinOf) (ws : List (List ℕ)) → map net_of_pin more ≡ connected ws → Sizes pins more ws
sizes pins more ws h =
    let n : length more ≡ length (connected ws) = sym (length-map more net_of_pin) ∙ ap length h in
    record {
      all = length-append pins more ∙ ap (λ k. length pins + k) n;
      nets = ap first_names (map-append net_of_pin pins more ∙ ap (λ ns. map net_of_pin pins ++ ns) h);
    }

above : (n m : ℕ) → m < n → leb n m ≡ false
above n m h = grind (arith, nat_tests)

pub over : (n m : ℕ) → leb n m ≡ false → m < n
over n m h = grind (arith, nat_tests)

pub no_room : (pins more : List PinOf) (ws : List (List ℕ)) → map net_of_pin more ≡ connected ws → 1048576 < length pins + length (connected ws) → false ≡ are_few (pins ++ more)
no_room pins more ws h gt =
    let s = sizes pins more ws h in
    let t : leb (length (pins ++ more)) 1048576 ≡ false = above (length (pins ++ more)) 1048576 (omega (arith, s.all, gt)) in
    rw t refl

pub room_surely : (pins more : List PinOf) (ws : List (List ℕ)) → map net_of_pin more ≡ connected ws → length pins + length (connected ws) ≤ 1048576 → (n : ℕ) → n ≡ length (net_names pins) + length (connected ws) → n ≤ 65535 → leb n 65535 ≡ are_few (pins ++ more)
room_surely pins more ws h few n e le =
    let s = sizes pins more ws h in
    let most = most_names (map net_of_pin pins) (connected ws) in
    let nets = ap length s.nets in
    let a : leb n 65535 ≡ true = le-leb n 65535 le in
    let b : leb (length (pins ++ more)) 1048576 ≡ true = le-leb (length (pins ++ more)) 1048576 (omega (arith, s.all, few)) in
    let c : leb (length (net_names (pins ++ more))) 65535 ≡ true = le-leb (length (net_names (pins ++ more))) 65535 (omega (arith, nets, most, e, le)) in
    rw (a, b, c) refl

pub room_counted : (pins more : List PinOf) (ws : List (List ℕ)) → map net_of_pin more ≡ connected ws → length pins + length (connected ws) ≤ 1048576 → (n : ℕ) → n ≡ Grown (map net_of_pin pins) ws → leb n 65535 ≡ are_few (pins ++ more)
room_counted pins more ws h few n e =
    let s = sizes pins more ws h in
    let b : leb (length (pins ++ more)) 1048576 ≡ true = le-leb (length (pins ++ more)) 1048576 (omega (arith, s.all, few)) in
    let same : n ≡ length (net_names (pins ++ more)) = e ∙ sym (ap length s.nets) in
    rw b (ap (λ k. leb k 65535) same)

abbrev weight : Bor (List ℕ) → ℕ
weight w = cond (not (is_open w.now)) 1 0

pub connected_len : (ws : List (Bor (List ℕ))) → count_by (λ w. not (is_open w.now)) ws ≡ length (connected (map (λ w. w.now) ws))
connected_len [] = refl
connected_len (w ∷ ws) =
    let more = sum_by-cons weight w ws in
    let rest = connected_len ws in
    elim (cases_Bool (is_open w.now)) [
      | inl h ↦
          let none : weight w ≡ 0 = rw h refl in
          let same : length (connected (map (λ w. w.now) (w ∷ ws))) ≡ length (connected (map (λ w. w.now) ws)) = rw h refl in
          omega (arith, more, none, rest, same)
      | inr h ↦
          let one : weight w ≡ 1 = rw h refl in
          let longer : length (connected (map (λ w. w.now) (w ∷ ws))) ≡ length (connected (map (λ w. w.now) ws)) + 1 = rw h (omega arith) in
          omega (arith, more, one, rest, longer)
    ]

pub added_few : (ws : List (Bor (List ℕ))) → length (connected (map (λ w. w.now) ws)) ≤ length ws
added_few ws = omega (arith, connected_len ws, count_by-le-length (λ (w : Bor (List ℕ)). not (is_open w.now)) ws)

-- the fault of a pinlist whose block waits for it, with the right count of entries

pub few_pins : (arch : List PinKind) (kind : BlockKind) → length arch ≤ 1024 → pin_count arch kind ≤ 1024
few_pins arch InputPad h = omega arith
few_pins arch OutputPad h = omega arith
few_pins arch Logic h = h

pub by_room : (arch : List PinKind) (s : Said) (l : TextLine) (b : Bool) → is_some s.awaiting ≡ true → length (entries_in l) ≡ pin_count arch (kind_or_pad (last_kind s.kinds)) → b ≡ are_few (s.pins ++ pins_more arch s.kinds l)
    → pins_fault arch s l ≡ unless b (TooLarge l.number)
by_room arch s l b w n r =
    let e : eqb (length (entries_in l)) (pin_count arch (kind_or_pad (last_kind s.kinds))) ≡ true = eq-eqb (length (entries_in l)) (pin_count arch (kind_or_pad (last_kind s.kinds))) n in
    rw (w, e) (ap (λ b. unless b (TooLarge l.number)) (sym r))
