-- What is written reads back.
use Rattle.std.proofs.Common.{◌≡◌, ℕ, ◌+◌, ◌^◌, ◌<◌, ◌≤◌, true, not, leb, ◌||◌, ◌&&◌, List, [], ◌∷◌, ◌++◌, Some, None, length, map, get_or, zero, suc, refl, sym, ap, subst, ◌∙◌, arith, inl, inr}
use Rattle.std.specs.Prelude.{decimal, filter, nat_le, nat_lt, ◌==◌}
use Rattle.std.specs.List.{list_any, range_with_len, AllByRecursion}
use Rattle.std.specs.Str.{bytes_eq}
use Rattle.std.proofs.lemmas.Bool.{cases_Bool, and_parts}
use Rattle.std.proofs.lemmas.Bool.Decides.{nat_tests}
use Rattle.std.proofs.lemmas.Grind.{flat_map-append}
use Rattle.std.proofs.lemmas.List.FromFn.{fill_by_all}
use Rattle.fab_text.specs.Lines.{TextLine, lines, is_continued}
use Rattle.fab_text.specs.LineWords.{can_be_word, AreWords}
use Rattle.fab_arch.specs.declared.array.Site.{Site}
use Rattle.fab_arch.specs.declared.array.SiteKind.{SiteKind}
use Rattle.fab_arch.specs.Grid.{GridShape, AreLimits, kind_at, is_logic_site, is_pad_site}
use Rattle.fab_arch.proofs.Perimeter.{round_is}
use Rattle.fab_net.specs.Names.{number_of, AllDistinct}
use Rattle.fab_net.specs.Netlist.{Netlist, IsLawful}
use Rattle.fab_site.specs.Placement.{site_of, kind_wanted, IsLegal}
use Rattle.fab_file.specs.Place.{word_at, small_number, is_files_line, size_in, site_in, Places, names_block}
use Rattle.fab_file.specs.Written.{is_label, are_labels, head_lines, block_line, block_lines, ended, place_text}
use Rattle.fab_file.specs.ReadsBack.{ReadBack}
use Rattle.fab_file.proofs.Seats.{none_some, first_word}
use Rattle.fab_file.proofs.Legal.{any_at, number_at}
use Rattle.fab_file.proofs.Split.{Says}
use Rattle.fab_file.proofs.Told.{AllSay, has_word, words_in, lines_told}
use Rattle.fab_file.proofs.Spoken.{IsWord, word_of, decimal_word, decimal_back, not_true}
use Rattle.fab_file.proofs.Laid.{files_words, size_words, block_words, files_says, size_says, empty_says, names_say, rule_says, block_says}

-- a legal site has small numbers

pub record Small (s : Site) : Type 0 where
  pub x : s.x ≤ 65535
  pub y : s.y ≤ 65535
  pub sub : s.sub ≤ 65535

small_logic : (x y sub nx ny : ℕ) → nx ≤ 1000 → ny ≤ 1000 → (nat_le 1 x && nat_le x nx && (nat_le 1 y && nat_le y ny) && sub == 0) ≡ true → (x ≤ 65535) × (y ≤ 65535) × (sub ≤ 65535)
small_logic x y sub nx ny a b h = grind (arith, nat_tests)

small_pad : (x y sub nx ny io_rat : ℕ) → nx ≤ 1000 → ny ≤ 1000 → io_rat ≤ 64
    → ((((nat_le 1 y && nat_le y ny) && (x == 0 || x == nx + 1)) || ((nat_le 1 x && nat_le x nx) && (y == 0 || y == ny + 1))) && nat_lt sub io_rat) ≡ true → (x ≤ 65535) × (y ≤ 65535) × (sub ≤ 65535)
small_pad x y sub nx ny io_rat a b c h = grind (arith, nat_tests)

pub small_site : (g : GridShape) (s : Site) (k : SiteKind) → AreLimits g.nx g.ny g.io_rat → kind_at g s ≡ Some k → Small s
small_site g s k limits h = elim (cases_Bool (is_logic_site g s)) [
  | inl y ↦ let p = small_logic s.x s.y s.sub g.nx g.ny limits.columns.1 limits.rows.1 y in record { x = p.0; y = p.1; sub = p.2 }
  | inr n ↦
      elim (cases_Bool (is_pad_site g s)) [
        | inl y ↦
            let r = ap (λ b. b && nat_lt s.sub g.io_rat) (sym (round_is g.nx g.ny g.io_rat s)) ∙ y in
            let p = small_pad s.x s.y s.sub g.nx g.ny g.io_rat limits.columns.1 limits.rows.1 limits.ratio.1 r in
            record { x = p.0; y = p.1; sub = p.2 }
        | inr m ↦ let none : None ≡ Some k = rw (n, m) at h in absurd (none_some k none)
      ]
]

-- numbers

at_most : (n : ℕ) → n ≤ 65535 → leb n 65535 ≡ true
at_most n h = grind (arith, nat_tests)

pub wide : (n : ℕ) → n ≤ 65535 → n < 2 ^ 64
wide n h = omega arith

pub small_back : (n : ℕ) → n ≤ 65535 → small_number (decimal n) ≡ Some n
small_back n h = rw (decimal_back n (wide n h), at_most n h) refl

-- the lines of all blocks

abbrev pub name_at : Netlist → ℕ → List ℕ
name_at d b = get_or d.names b []

abbrev pub words_at_block : Netlist → List Site → ℕ → List (List ℕ)
words_at_block d sites b = block_words (name_at d b) (site_of sites b)

pub in_range : (P : ℕ → Type 0) (a n : ℕ) → ((b : ℕ) → a ≤ b → b < a + n → P b) → AllByRecursion P (range_with_len a n)
in_range P a zero f = tt
in_range P a (suc n) f = (f a (omega arith) (omega arith), in_range P (a + 1) n (λ b ge lt. f b (omega arith) (omega arith)))

pub name_word : (names : List (List ℕ)) (b : ℕ) → b < length names → AreWords names → IsWord (get_or names b [])
name_word [] b lt h = absurd (omega arith)
name_word (n ∷ ns) zero lt h = word_of n h.0
name_word (n ∷ ns) (suc b) lt h = name_word ns b (omega arith) h.1

blocks_say : (d : Netlist) (sites : List Site) (bs : List ℕ) → AllByRecursion (λ b. Says (block_line d sites b) (words_at_block d sites b)) bs → AllSay (map (block_line d sites) bs) (map (words_at_block d sites) bs)
blocks_say d sites [] h = tt
blocks_say d sites (b ∷ bs) h = (h.0, blocks_say d sites bs h.1)

all_have_words : (d : Netlist) (sites : List Site) (bs : List ℕ) → filter has_word (map (words_at_block d sites) bs) ≡ map (words_at_block d sites) bs
all_have_words d sites [] = refl
all_have_words d sites (b ∷ bs) = ap (λ ws. words_at_block d sites b ∷ ws) (all_have_words d sites bs)

pub site_small : (d : Netlist) (g : GridShape) (sites : List Site) (b : ℕ) → AreLimits g.nx g.ny g.io_rat → IsLegal d g [] sites → b < length d.kinds → Small (site_of sites b)
site_small d g sites b limits legal lt = small_site g (site_of sites b) (kind_wanted d b) limits (legal.fit b (omega (arith, legal.all)))

told : (net arch : List ℕ) (d : Netlist) (g : GridShape) (sites : List Site) → are_labels net arch ≡ true → IsLawful d → AreLimits g.nx g.ny g.io_rat → IsLegal d g [] sites
    → map words_in (lines (place_text net arch d g sites)) ≡ files_words net arch ∷ size_words g ∷ map (words_at_block d sites) (range_with_len 0 (length d.kinds))
told net arch d g sites labels law limits legal =
    let both : (is_label net ≡ true) × (is_label arch ≡ true) = and_parts (is_label net) (is_label arch) labels in
    let first : (can_be_word net ≡ true) × (not (is_continued net) ≡ true) = and_parts (can_be_word net) (not (is_continued net)) both.0 in
    let second : (can_be_word arch ≡ true) × (not (is_continued arch) ≡ true) = and_parts (can_be_word arch) (not (is_continued arch)) both.1 in
    let bs = range_with_len 0 (length d.kinds) in
    let block : (b : ℕ) → 0 ≤ b → b < 0 + length d.kinds → Says (block_line d sites b) (words_at_block d sites b) =
    λ b ge lt.
    let small = site_small d g sites b limits legal (omega arith) in
    block_says (name_at d b) (site_of sites b) b (name_word d.names b (omega (arith, law.named)) law.words) (wide _ small.x) (wide _ small.y) (wide _ small.sub) (omega (arith, law.few_blocks)) in
    let blocks = blocks_say d sites bs (in_range (λ b. Says (block_line d sites b) (words_at_block d sites b)) 0 (length d.kinds) block) in
    let say : AllSay (head_lines net arch g ++ block_lines d sites) (files_words net arch ∷ size_words g ∷ [] ∷ [] ∷ [] ∷ map (words_at_block d sites) bs) = (
      files_says net arch (word_of net first.0) (word_of arch second.0) (not_true (is_continued arch) second.1),
      (
        size_says g (decimal_word g.nx (omega (arith, limits.columns.1))) (decimal_word g.ny (omega (arith, limits.rows.1))),
        (empty_says, (names_say, (rule_says, blocks))),
      ),
    ) in
    ap (λ t. map words_in (lines t)) (sym (flat_map-append ended (head_lines net arch g) (block_lines d sites)))
    ∙ lines_told (head_lines net arch g ++ block_lines d sites) (files_words net arch ∷ size_words g ∷ [] ∷ [] ∷ [] ∷ map (words_at_block d sites) bs) say
    ∙ ap (λ ws. files_words net arch ∷ size_words g ∷ ws) (all_have_words d sites bs)

-- lines with these words stand for the placement

pub nil_cons : {X : Type 0} (x : X) (xs : List X) → [] ≡ x ∷ xs → ⊥
nil_cons x xs h = cc

pub cons_nil : {X : Type 0} (x : X) (xs : List X) → x ∷ xs ≡ [] → ⊥
cons_nil x xs h = cc

pub heads : {X : Type 0} (x y : X) (xs ys : List X) → x ∷ xs ≡ y ∷ ys → x ≡ y
heads x y xs ys h = cc

pub tails : {X : Type 0} (x y : X) (xs ys : List X) → x ∷ xs ≡ y ∷ ys → xs ≡ ys
tails x y xs ys h = cc

record Begun (ls : List TextLine) (f s : List (List ℕ)) (ws : List (List (List ℕ))) : Type 0 where
  pub files : TextLine
  pub size : TextLine
  pub rest : List TextLine
  pub text : ls ≡ files ∷ size ∷ rest
  pub first : files.words ≡ f
  pub second : size.words ≡ s
  pub others : map words_in rest ≡ ws

begun : (ls : List TextLine) (f s : List (List ℕ)) (ws : List (List (List ℕ))) → map words_in ls ≡ f ∷ s ∷ ws → Begun ls f s ws
begun [] f s ws h = absurd (nil_cons f (s ∷ ws) h)
begun (a ∷ []) f s ws h = absurd (nil_cons s ws (tails a.words f [] (s ∷ ws) h))
begun (a ∷ b ∷ rest) f s ws h =
    let more = tails a.words f (b.words ∷ map words_in rest) (s ∷ ws) h in
    record {
      files = a;
      size = b;
      rest = rest;
      text = refl;
      first = heads a.words f (b.words ∷ map words_in rest) (s ∷ ws) h;
      second = heads b.words s (map words_in rest) ws more;
      others = tails b.words s (map words_in rest) ws more;
    }

-- a line with these words
abbrev pub saying : List (List ℕ) → TextLine
saying ws = record { number = 0; words = ws; spans = [] }

site_back : (name : List ℕ) (s : Site) → Small s → site_in (saying (block_words name s)) ≡ Some s
site_back name s small = rw (small_back s.x small.x, small_back s.y small.y, small_back s.sub small.sub) refl

size_back : (g : GridShape) → g.nx ≤ 65535 → g.ny ≤ 65535 → size_in (saying (size_words g)) ≡ Some (g.nx, g.ny)
size_back g x y = rw (small_back g.nx x, small_back g.ny y) refl

pub record IsPlaced (d : Netlist) (sites : List Site) (b : ℕ) : Type 0 where
  pub named : number_of (name_at d b) d.names ≡ Some b
  pub small : Small (site_of sites b)

pub places : (d : Netlist) (sites : List Site) (rest : List TextLine) (bs : List ℕ) → AllByRecursion (IsPlaced d sites) bs → map words_in rest ≡ map (words_at_block d sites) bs → AllByRecursion (Places d sites) rest
places d sites [] bs h e = tt
places d sites (l ∷ ls) [] h e = absurd (cons_nil l.words (map words_in ls) e)
places d sites (l ∷ ls) (b ∷ bs) h e =
    let here = heads l.words (words_at_block d sites b) (map words_in ls) (map (words_at_block d sites) bs) e in
    let more = tails l.words (words_at_block d sites b) (map words_in ls) (map (words_at_block d sites) bs) e in
    let named = ap (λ ws. number_of (word_at (saying ws) 0) d.names) here ∙ h.0.named in
    let stands = ap (λ ws. site_in (saying ws)) here ∙ site_back (name_at d b) (site_of sites b) h.0.small in
    (record { block = b; named = named; stands = stands }, places d sites ls bs h.1 more)

pub first_words : (d : Netlist) (sites : List Site) (rest : List TextLine) (bs : List ℕ) → map words_in rest ≡ map (words_at_block d sites) bs → map first_word rest ≡ map (name_at d) bs
first_words d sites [] [] e = refl
first_words d sites [] (b ∷ bs) e = absurd (nil_cons (words_at_block d sites b) (map (words_at_block d sites) bs) e)
first_words d sites (l ∷ ls) [] e = absurd (cons_nil l.words (map words_in ls) e)
first_words d sites (l ∷ ls) (b ∷ bs) e =
    let here = heads l.words (words_at_block d sites b) (map words_in ls) (map (words_at_block d sites) bs) e in
    let more = tails l.words (words_at_block d sites b) (map words_in ls) (map (words_at_block d sites) bs) e in
    ap (λ ws. word_at (saying ws) 0 ∷ map first_word ls) here ∙ ap (λ xs. name_at d b ∷ xs) (first_words d sites ls bs more)

pub any_first : (name : List ℕ) (rest : List TextLine) → list_any (names_block name) rest ≡ list_any (bytes_eq name) (map first_word rest)
any_first name [] = refl
any_first name (l ∷ ls) = ap (λ b. bytes_eq name (first_word l) || b) (any_first name ls)

pub all_by_place : (P : List ℕ → Type 0) (xs : List (List ℕ)) → ((i : ℕ) → i < length xs → P (get_or xs i [])) → AllByRecursion P xs
all_by_place P [] f = tt
all_by_place P (x ∷ xs) f = (f 0 (omega arith), all_by_place P xs (λ i lt. f (suc i) (omega arith)))

pub reads_back : ReadBack
reads_back net arch d g sites labels law limits legal =
    let bs = range_with_len 0 (length d.kinds) in
    let t = begun (lines (place_text net arch d g sites)) (files_words net arch) (size_words g) (map (words_at_block d sites) bs) (told net arch d g sites labels law limits legal) in
    let names : map first_word t.rest ≡ d.names = first_words d sites t.rest bs t.others ∙ sym (fill_by_all (name_at d) d.names (length d.kinds) [] law.named (λ i lt. refl)) in
    let placed = in_range (IsPlaced d sites) 0 (length d.kinds)
    (λ b ge lt. record { named = number_at d.names b law.distinct (omega (arith, law.named)); small = site_small d g sites b limits legal (omega arith) }) in
    let each : (i : ℕ) → i < length d.names → list_any (names_block (get_or d.names i [])) t.rest ≡ true =
    λ i lt. any_first (get_or d.names i []) t.rest ∙ ap (list_any (bytes_eq (get_or d.names i []))) names ∙ any_at d.names i lt in
    record {
      files = t.files;
      size = t.size;
      rest = t.rest;
      text = t.text;
      files_line = ap (λ ws. is_files_line (saying ws)) t.first;
      size_line = ap (λ ws. size_in (saying ws)) t.second ∙ size_back g (omega (arith, limits.columns.1)) (omega (arith, limits.rows.1));
      lines = places d sites t.rest bs placed t.others;
      distinct = subst AllDistinct (sym names) law.distinct;
      complete = all_by_place (λ name. list_any (names_block name) t.rest ≡ true) d.names each;
      legal = legal;
    }
