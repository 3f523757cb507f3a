-- The words of the lines of a placement text.
use Rattle.std.proofs.Common.{◌≡◌, ℕ, ◌^◌, ◌<◌, ◌≤◌, Bool, true, false, eqb, List, [], ◌∷◌, ◌++◌, length, get_or, refl, sym, ap, subst, ◌∙◌, arith, append_assoc, lit<, codes}
use Rattle.std.specs.Prelude.{decimal}
use Rattle.std.specs.List.{list_any}
use Rattle.std.proofs.Math.Seq.{get_or-append_seam}
use Rattle.std.proofs.lemmas.List.{append-nil, length-append}
use Rattle.std.proofs.lemmas.List.Folds.{list_any-append}
use Rattle.fab_text.specs.Lines.{is_separator, is_hash, is_line_feed, is_continued, trimmed, content}
use Rattle.fab_arch.specs.declared.array.Site.{Site}
use Rattle.fab_arch.specs.Grid.{GridShape}
use Rattle.fab_file.specs.Written.{files_text, size_text, column, block_text}
use Rattle.fab_file.proofs.Split.{Reads, no_words, behind_separator, word_first, uncut, cut, last_byte, last-append, trimmed_is, not_continued, no_backslash_last, Says}
use Rattle.fab_file.proofs.Spoken.{IsWord, no_feed, no_hash, inside, last_inside, decimal_word, decimal_last}

-- a line without a comment
pub says_whole : (l : List ℕ) (ws : List (List ℕ)) → list_any is_line_feed l ≡ false → list_any is_hash l ≡ false → 0 < length l → is_separator (last_byte l) ≡ false → eqb (last_byte l) 92 ≡ false → Reads l ws → Says l ws
unfolding content
says_whole l ws feed hash some sep back r =
    let nil = append-nil l in
    let t : trimmed (l ++ []) ≡ l = trimmed_is l [] some sep (λ k ge lt. absurd (omega (arith, ap length nil))) in
    record {
      single = feed;
      kept = l;
      cut_off = [];
      front = sym nil;
      holds = ap trimmed (uncut l hash ∙ sym nil) ∙ t;
      ends = not_continued l back;
      reads = r;
    }

-- one that ends with a tab and a comment
pub says_cut : (body tail : List ℕ) (ws : List (List ℕ)) → list_any is_line_feed body ≡ false → list_any is_line_feed tail ≡ false → list_any is_hash body ≡ false → 0 < length body → is_separator (last_byte body) ≡ false → eqb (last_byte body) 92 ≡ false → Reads body ws
    → Says (body ++ 9 ∷ 35 ∷ tail) ws
unfolding content
says_cut body tail ws feed after hash some sep back r =
    let split = sym (append_assoc body (9 ∷ []) (35 ∷ tail)) in
    let clean : list_any is_hash (body ++ 9 ∷ []) ≡ false = list_any-append is_hash body (9 ∷ []) ∙ rw hash refl in
    let tab : (k : ℕ) → length body ≤ k → k < length (body ++ 9 ∷ []) → is_separator (get_or (body ++ 9 ∷ []) k 0) ≡ true =
    λ k ge lt.
    let e : k ≡ length body = omega (arith, length-append body (9 ∷ [])) in
    ap (λ i. is_separator (get_or (body ++ 9 ∷ []) i 0)) e ∙ ap is_separator (get_or-append_seam body 9 [] 0) in
    let single : list_any is_line_feed (body ++ 9 ∷ 35 ∷ tail) ≡ false = list_any-append is_line_feed body (9 ∷ 35 ∷ tail) ∙ rw (feed, after) refl in
    record {
      single = single;
      kept = body;
      cut_off = 9 ∷ 35 ∷ tail;
      front = refl;
      holds = ap content split ∙ ap trimmed (cut (body ++ 9 ∷ []) tail clean) ∙ trimmed_is body (9 ∷ []) some sep tab;
      ends = not_continued body back;
      reads = r;
    }

-- a line without words
pub says_nothing : (l : List ℕ) → list_any is_line_feed l ≡ false → content l ≡ [] → Says l []
says_nothing l feed none =
    record {
      single = feed;
      kept = [];
      cut_off = l;
      front = refl;
      holds = none;
      ends = not_continued [] refl;
      reads = no_words;
    }

-- a word, and a separator after it
pub word_then : (c : ℕ) (w rest : List ℕ) (ws : List (List ℕ)) → is_separator c ≡ true → IsWord w → Reads rest ws → Reads (w ++ c ∷ rest) (w ∷ ws)
word_then c w rest ws h k r = word_first w (c ∷ rest) ws k.some (inside w k.clean) h (behind_separator c rest ws h r)

pub last_word : (w : List ℕ) → IsWord w → Reads w (w ∷ [])
last_word w k =
    let r = word_first w [] [] k.some (inside w k.clean) tt no_words in
    let nil = append-nil w in
    let P : List ℕ → Type 0 = λ x. Reads x (w ∷ []) in
    subst P nil r

pub none_in_two : (p : ℕ → Bool) (x y : List ℕ) → list_any p x ≡ false → list_any p y ≡ false → list_any p (x ++ y) ≡ false
none_in_two p x y h k = list_any-append p x y ∙ rw (h, k) refl

-- the header

abbrev pub files_words : List ℕ → List ℕ → List (List ℕ)
files_words net arch = codes "Netlist" ∷ codes "file:" ∷ net ∷ codes "Architecture" ∷ codes "file:" ∷ arch ∷ []

files_reads : (net arch : List ℕ) → IsWord net → IsWord arch → Reads (files_text net arch) (files_words net arch)
files_reads net arch n a =
    let five = word_then 32 (codes "file:") arch (arch ∷ []) refl (record { some = lit< tt; clean = refl }) (last_word arch a) in
    let four = word_then 32 (codes "Architecture") _ _ refl (record { some = lit< tt; clean = refl }) five in
    let three = word_then 32 net _ _ refl n (behind_separator 32 _ _ refl (behind_separator 32 _ _ refl four)) in
    let two = word_then 32 (codes "file:") _ _ refl (record { some = lit< tt; clean = refl }) three in
    let one = word_then 32 (codes "Netlist") _ _ refl (record { some = lit< tt; clean = refl }) two in
    let P : List ℕ → Type 0 = λ x. Reads (codes "Netlist file: " ++ x) (files_words net arch) in
    subst P (sym (append_assoc net (codes "   Architecture file: ") arch)) one

pub files_says : (net arch : List ℕ) → IsWord net → IsWord arch → is_continued arch ≡ false → Says (files_text net arch) (files_words net arch)
files_says net arch n a back =
    let none : (p : ℕ → Bool) → list_any p net ≡ false → list_any p (codes "   Architecture file: ") ≡ false → list_any p arch ≡ false → list_any p (net ++ codes "   Architecture file: " ++ arch) ≡ false =
    λ p x b y. none_in_two p (net ++ codes "   Architecture file: ") arch (none_in_two p net (codes "   Architecture file: ") x b) y in
    let last : last_byte (files_text net arch) ≡ last_byte arch = last-append (codes "Netlist file: " ++ net ++ codes "   Architecture file: ") arch a.some in
    says_whole (files_text net arch) (files_words net arch)
    (none is_line_feed (no_feed net n.clean) refl (no_feed arch a.clean))
    (none is_hash (no_hash net n.clean) refl (no_hash arch a.clean))
    (omega arith)
    (ap is_separator last ∙ last_inside arch a)
    (ap (λ c. eqb c 92) last ∙ no_backslash_last arch back)
    (files_reads net arch n a)

abbrev pub size_words : GridShape → List (List ℕ)
size_words g = codes "Array" ∷ codes "size:" ∷ decimal g.nx ∷ codes "x" ∷ decimal g.ny ∷ codes "logic" ∷ codes "blocks" ∷ []

size_reads : (g : GridShape) → IsWord (decimal g.nx) → IsWord (decimal g.ny) → Reads (size_text g) (size_words g)
size_reads g x y =
    let six = word_then 32 (codes "logic") (codes "blocks") _ refl (record { some = lit< tt; clean = refl }) (last_word (codes "blocks") (record { some = lit< tt; clean = refl })) in
    let five = word_then 32 (decimal g.ny) _ _ refl y six in
    let four = word_then 32 (codes "x") _ _ refl (record { some = lit< tt; clean = refl }) five in
    let three = word_then 32 (decimal g.nx) _ _ refl x four in
    let two = word_then 32 (codes "size:") _ _ refl (record { some = lit< tt; clean = refl }) three in
    let one = word_then 32 (codes "Array") _ _ refl (record { some = lit< tt; clean = refl }) two in
    let e : decimal g.nx ++ (codes " x " ++ (decimal g.ny ++ codes " logic blocks")) ≡ decimal g.nx ++ codes " x " ++ decimal g.ny ++ codes " logic blocks" =
    sym (append_assoc (decimal g.nx ++ codes " x ") (decimal g.ny) (codes " logic blocks") ∙ append_assoc (decimal g.nx) (codes " x ") (decimal g.ny ++ codes " logic blocks")) in
    let P : List ℕ → Type 0 = λ x. Reads (codes "Array size: " ++ x) (size_words g) in
    subst P e one

pub size_says : (g : GridShape) → IsWord (decimal g.nx) → IsWord (decimal g.ny) → Says (size_text g) (size_words g)
size_says g x y =
    let none : (p : ℕ → Bool) → list_any p (decimal g.nx) ≡ false → list_any p (codes " x ") ≡ false → list_any p (decimal g.ny) ≡ false → list_any p (codes " logic blocks") ≡ false → list_any p (decimal g.nx ++ codes " x " ++ decimal g.ny ++ codes " logic blocks") ≡ false =
    λ p a b c d. none_in_two p (decimal g.nx ++ codes " x " ++ decimal g.ny) (codes " logic blocks") (none_in_two p (decimal g.nx ++ codes " x ") (decimal g.ny) (none_in_two p (decimal g.nx) (codes " x ") a b) c) d in
    let last : last_byte (size_text g) ≡ last_byte (codes " logic blocks") = last-append (codes "Array size: " ++ decimal g.nx ++ codes " x " ++ decimal g.ny) (codes " logic blocks") (lit< tt) in
    says_whole (size_text g) (size_words g)
    (none is_line_feed (no_feed (decimal g.nx) x.clean) refl (no_feed (decimal g.ny) y.clean) refl)
    (none is_hash (no_hash (decimal g.nx) x.clean) refl (no_hash (decimal g.ny) y.clean) refl)
    (omega arith)
    (ap is_separator last)
    (ap (λ c. eqb c 92) last)
    (size_reads g x y)

pub empty_says : Says [] []
unfolding content trimmed
empty_says = says_nothing [] refl refl

pub names_say : Says (codes "#block name\tx\ty\tsubblk\tblock number") []
unfolding content trimmed
names_say = says_nothing (codes "#block name\tx\ty\tsubblk\tblock number") refl refl

pub rule_says : Says (codes "#----------\t--\t--\t------\t------------") []
unfolding content trimmed
rule_says = says_nothing (codes "#----------\t--\t--\t------\t------------") refl refl

-- a block

abbrev pub block_words : List ℕ → Site → List (List ℕ)
block_words name s = name ∷ decimal s.x ∷ decimal s.y ∷ decimal s.sub ∷ []

abbrev body_of : List ℕ → Site → List ℕ
body_of name s = name ++ column s.x ++ column s.y ++ column s.sub

body_reads : (name : List ℕ) (s : Site) → IsWord name → IsWord (decimal s.x) → IsWord (decimal s.y) → IsWord (decimal s.sub) → Reads (body_of name s) (block_words name s)
body_reads name s n x y z =
    let three = word_then 9 (decimal s.y) (decimal s.sub) _ refl y (last_word (decimal s.sub) z) in
    let two = word_then 9 (decimal s.x) _ _ refl x three in
    let one = word_then 9 name _ _ refl n two in
    let e : name ++ (column s.x ++ (column s.y ++ column s.sub)) ≡ body_of name s =
    sym (append_assoc (name ++ column s.x) (column s.y) (column s.sub) ∙ append_assoc name (column s.x) (column s.y ++ column s.sub)) in
    let P : List ℕ → Type 0 = λ x. Reads x (block_words name s) in
    subst P e one

pub block_says : (name : List ℕ) (s : Site) (b : ℕ) → IsWord name → s.x < 2 ^ 64 → s.y < 2 ^ 64 → s.sub < 2 ^ 64 → b < 2 ^ 64 → Says (block_text name s b) (block_words name s)
block_says name s b n hx hy hz hb =
    let x = decimal_word s.x hx in
    let y = decimal_word s.y hy in
    let z = decimal_word s.sub hz in
    let none : (p : ℕ → Bool) → list_any p name ≡ false → list_any p (column s.x) ≡ false → list_any p (column s.y) ≡ false → list_any p (column s.sub) ≡ false → list_any p (body_of name s) ≡ false =
    λ p a b c d. none_in_two p (name ++ column s.x ++ column s.y) (column s.sub) (none_in_two p (name ++ column s.x) (column s.y) (none_in_two p name (column s.x) a b) c) d in
    let last : last_byte (body_of name s) ≡ last_byte (decimal s.sub) =
    last-append (name ++ column s.x ++ column s.y) (column s.sub) (omega arith) ∙ last-append (9 ∷ []) (decimal s.sub) z.some in
    let some : 0 < length (body_of name s) = omega (arith, length-append (name ++ column s.x ++ column s.y) (column s.sub)) in
    let says = says_cut (body_of name s) (decimal b) (block_words name s)
    (none is_line_feed (no_feed name n.clean) (no_feed (decimal s.x) x.clean) (no_feed (decimal s.y) y.clean) (no_feed (decimal s.sub) z.clean))
    (no_feed (decimal b) (decimal_word b hb).clean)
    (none is_hash (no_hash name n.clean) (no_hash (decimal s.x) x.clean) (no_hash (decimal s.y) y.clean) (no_hash (decimal s.sub) z.clean))
    some
    (ap is_separator last ∙ last_inside (decimal s.sub) z)
    (ap (λ c. eqb c 92) last ∙ decimal_last s.sub hz)
    (body_reads name s n x y z) in
    let P : List ℕ → Type 0 = λ l. Says l (block_words name s) in
    subst P (sym (append_assoc (body_of name s) (codes "\t#") (decimal b))) says
