-- The words of the lines of a checkpoint text that is written.
use Rattle.std.proofs.Common.{◌≡◌, ℕ, ◌^◌, ◌<◌, Bool, true, false, eqb, List, [], ◌∷◌, ◌++◌, length, map, refl, sym, ap, ◌∙◌, subst, arith, append_assoc, lit<, codes, inl, inr}
use Rattle.std.specs.Prelude.{decimal}
use Rattle.std.specs.Char.{is_ascii_digit}
use Rattle.std.specs.List.{AllByRecursion, list_all, list_any}
use Rattle.std.specs.Str.{bytes_eq}
use Rattle.std.proofs.lemmas.Bool.{cases_Bool, false≢true}
use Rattle.std.proofs.lemmas.List.{length-append}
use Rattle.std.proofs.lemmas.List.Folds.{list_any-append}
use Rattle.fab_text.specs.Lines.{is_separator, is_hash, is_line_feed}
use Rattle.fab_text.specs.LineWords.{is_mark}
use Rattle.fab_arch.specs.declared.array.Site.{Site}
use Rattle.fab_arch.specs.Grid.{GridShape, AreLimits}
use Rattle.fab_net.specs.Netlist.{Netlist, IsLawful}
use Rattle.fab_net.proofs.Naming.{same_name}
use Rattle.fab_site.specs.Placement.{IsLegal, site_of}
use Rattle.fab_sched.specs.declared.schedules.Cooling.{Cooling}
use Rattle.fab_sched.specs.declared.schedules.Cooling.TheVariants.{Factor, Adaptive}
use Rattle.fab_sched.specs.declared.schedules.Stage.{Stage}
use Rattle.fab_sched.specs.Annealing.{Plan}
use Rattle.fab_file.proofs.Split.{Reads, Says, last_byte, last-append}
use Rattle.fab_file.proofs.Spoken.{IsWord, decimal_digits, decimal_last, decimal_word, last_inside, no_feed, no_hash}
use Rattle.fab_file.proofs.Laid.{last_word, says_whole, word_then}
use Rattle.fab_file.proofs.Told.{AllSay}
use Rattle.fab_file.proofs.Back.{Small, name_at, name_word, site_small, wide, words_at_block}
use Rattle.fab_run.specs.PointText.{array_text, cooling_text, field_text, fixed_line, head_lines, place_line, schedule_text, seat_text, stage_lines, stage_text}

-- words with one space between them
abbrev joined : List (List ℕ) → List ℕ
joined [] = []
joined (w ∷ []) = w
joined (w ∷ v ∷ ws) = w ++ 32 ∷ joined (v ∷ ws)

-- the last one does not end with a backslash
abbrev EndsWell : List (List ℕ) → Type 0
EndsWell [] = ⊥
EndsWell (w ∷ []) = eqb (last_byte w) 92 ≡ false
EndsWell (w ∷ v ∷ ws) = EndsWell (v ∷ ws)

some_there : (w : List ℕ) (ws : List (List ℕ)) → AllByRecursion IsWord (w ∷ ws) → 0 < length (joined (w ∷ ws))
some_there w [] h = h.0.some
some_there w (v ∷ ws) h = omega (arith, length-append w (32 ∷ joined (v ∷ ws)))

none_there : (p : ℕ → Bool) (w : List ℕ) (ws : List (List ℕ)) → p 32 ≡ false → ((x : List ℕ) → IsWord x → list_any p x ≡ false) → AllByRecursion IsWord (w ∷ ws) → list_any p (joined (w ∷ ws)) ≡ false
none_there p w [] space f h = f w h.0
none_there p w (v ∷ ws) space f h = list_any-append p w (32 ∷ joined (v ∷ ws)) ∙ rw (f w h.0, space) (none_there p v ws space f h.1)

last_there : (w : List ℕ) (ws : List (List ℕ)) → AllByRecursion IsWord (w ∷ ws) → EndsWell (w ∷ ws) → (is_separator (last_byte (joined (w ∷ ws))) ≡ false) × (eqb (last_byte (joined (w ∷ ws))) 92 ≡ false)
last_there w [] h e = (last_inside w h.0, e)
last_there w (v ∷ ws) h e =
    let rest = joined (v ∷ ws) in
    let long : 0 < length rest = some_there v ws h.1 in
    let same : last_byte (w ++ 32 ∷ rest) ≡ last_byte rest = last-append w (32 ∷ rest) (omega arith) ∙ last-append (32 ∷ []) rest long in
    let more = last_there v ws h.1 e in
    (ap is_separator same ∙ more.0, ap (λ c. eqb c 92) same ∙ more.1)

read_there : (w : List ℕ) (ws : List (List ℕ)) → AllByRecursion IsWord (w ∷ ws) → Reads (joined (w ∷ ws)) (w ∷ ws)
read_there w [] h = last_word w h.0
read_there w (v ∷ ws) h = word_then 32 w (joined (v ∷ ws)) (v ∷ ws) refl h.0 (read_there v ws h.1)

pub says_words : (w : List ℕ) (ws : List (List ℕ)) → AllByRecursion IsWord (w ∷ ws) → EndsWell (w ∷ ws) → Says (joined (w ∷ ws)) (w ∷ ws)
says_words w ws h e =
    let last = last_there w ws h e in
    says_whole (joined (w ∷ ws)) (w ∷ ws)
    (none_there is_line_feed w ws refl (λ x k. no_feed x k.clean) h)
    (none_there is_hash w ws refl (λ x k. no_hash x k.clean) h)
    (some_there w ws h) last.0 last.1 (read_there w ws h)

plain : (w : List ℕ) → 0 < length w → list_any is_mark w ≡ false → IsWord w
plain w some clean = record { some = some; clean = clean }

-- the lines

pub field_says : (name : List ℕ) (n : ℕ) → IsWord name → n < 2 ^ 64 → Says (field_text name n) (name ∷ decimal n ∷ [])
field_says name n h lt =
    let e : joined (name ∷ decimal n ∷ []) ≡ field_text name n = sym (append_assoc name (32 ∷ []) (decimal n)) in
    subst (λ l. Says l (name ∷ decimal n ∷ [])) e (says_words name (decimal n ∷ []) (h, (decimal_word n lt, tt)) (decimal_last n lt))

abbrev pub array_words : GridShape → List (List ℕ)
array_words g = codes "array" ∷ decimal g.nx ∷ codes "x" ∷ decimal g.ny ∷ codes "io_rat" ∷ decimal g.io_rat ∷ []

six : (a b c d e f : List ℕ) → joined (a ∷ b ∷ c ∷ d ∷ e ∷ f ∷ []) ≡ a ++ 32 ∷ (b ++ 32 ∷ (c ++ 32 ∷ (d ++ 32 ∷ (e ++ 32 ∷ f))))
six a b c d e f = refl

array_says : (g : GridShape) → g.nx < 2 ^ 64 → g.ny < 2 ^ 64 → g.io_rat < 2 ^ 64 → Says (array_text g) (array_words g)
array_says g x y z =
    let e : joined (array_words g) ≡ array_text g = sym (simp append_assoc) in
    subst (λ l. Says l (array_words g)) e (says_words (codes "array") (decimal g.nx ∷ codes "x" ∷ decimal g.ny ∷ codes "io_rat" ∷ decimal g.io_rat ∷ [])
    (plain (codes "array") (lit< tt) refl, (decimal_word g.nx x, (plain (codes "x") (lit< tt) refl, (decimal_word g.ny y, (plain (codes "io_rat") (lit< tt) refl, (decimal_word g.io_rat z, tt))))))
    (decimal_last g.io_rat z))

abbrev pub schedule_words : Plan → List (List ℕ)
schedule_words p = codes "schedule" ∷ decimal p.init ∷ decimal p.exit ∷ cooling_text p.cooling ∷ decimal p.moves ∷ []

-- a factor fits in 64 bits
abbrev pub IsShort : Cooling → Type 0
IsShort (Factor f) = f < 2 ^ 64
IsShort Adaptive = Unit {0}

cooling_word : (c : Cooling) → IsShort c → IsWord (cooling_text c)
cooling_word (Factor f) h = decimal_word f h
cooling_word Adaptive h = plain (codes "adaptive") (lit< tt) refl

schedule_says : (p : Plan) → p.init < 2 ^ 64 → p.exit < 2 ^ 64 → IsShort p.cooling → p.moves < 2 ^ 64 → Says (schedule_text p) (schedule_words p)
schedule_says p x y c z =
    let e : joined (schedule_words p) ≡ schedule_text p = sym (simp append_assoc) in
    subst (λ l. Says l (schedule_words p)) e (says_words (codes "schedule") (decimal p.init ∷ decimal p.exit ∷ cooling_text p.cooling ∷ decimal p.moves ∷ [])
    (plain (codes "schedule") (lit< tt) refl, (decimal_word p.init x, (decimal_word p.exit y, (cooling_word p.cooling c, (decimal_word p.moves z, tt)))))
    (decimal_last p.moves z))

abbrev pub stage_words : Stage → List (List ℕ)
stage_words s = codes "stage" ∷ decimal s.index ∷ codes "done" ∷ decimal s.done ∷ codes "accepted" ∷ decimal s.accepted ∷ []

stage_says : (s : Stage) → s.index < 2 ^ 64 → s.done < 2 ^ 64 → s.accepted < 2 ^ 64 → Says (stage_text s) (stage_words s)
stage_says s x y z =
    let e : joined (stage_words s) ≡ stage_text s = sym (simp append_assoc) in
    subst (λ l. Says l (stage_words s)) e (says_words (codes "stage") (decimal s.index ∷ codes "done" ∷ decimal s.done ∷ codes "accepted" ∷ decimal s.accepted ∷ [])
    (plain (codes "stage") (lit< tt) refl, (decimal_word s.index x, (plain (codes "done") (lit< tt) refl, (decimal_word s.done y, (plain (codes "accepted") (lit< tt) refl, (decimal_word s.accepted z, tt))))))
    (decimal_last s.accepted z))

abbrev pub version_words : List (List ℕ)
version_words = codes "vplace" ∷ codes "point" ∷ codes "2" ∷ []

version_says : Says (codes "vplace point 2") version_words
version_says = says_words (codes "vplace") (codes "point" ∷ codes "2" ∷ []) (plain (codes "vplace") (lit< tt) refl, (plain (codes "point") (lit< tt) refl, (plain (codes "2") (lit< tt) refl, tt))) refl

abbrev pub end_words : List (List ℕ)
end_words = codes "end" ∷ []

pub end_says : Says (codes "end") end_words
end_says = says_words (codes "end") [] (plain (codes "end") (lit< tt) refl, tt) refl

abbrev pub fixed_words : Netlist → ℕ → List (List ℕ)
fixed_words d b = name_at d b ∷ codes "fixed" ∷ []

pub fixed_says : (d : Netlist) (b : ℕ) → IsWord (name_at d b) → Says (fixed_line d b) (fixed_words d b)
fixed_says d b h = says_words (name_at d b) (codes "fixed" ∷ []) (h, (plain (codes "fixed") (lit< tt) refl, tt)) refl

seat_says : (name : List ℕ) (s : Site) → IsWord name → Small s → Says (seat_text name s) (name ∷ decimal s.x ∷ decimal s.y ∷ decimal s.sub ∷ [])
seat_says name s h small =
    let x = wide s.x small.x in
    let y = wide s.y small.y in
    let z = wide s.sub small.sub in
    let e : joined (name ∷ decimal s.x ∷ decimal s.y ∷ decimal s.sub ∷ []) ≡ seat_text name s = sym (simp append_assoc) in
    subst (λ l. Says l (name ∷ decimal s.x ∷ decimal s.y ∷ decimal s.sub ∷ [])) e (says_words name (decimal s.x ∷ decimal s.y ∷ decimal s.sub ∷ []) (h, (decimal_word s.x x, (decimal_word s.y y, (decimal_word s.sub z, tt)))) (decimal_last s.sub z))

pub place_says : (d : Netlist) (g : GridShape) (sites : List Site) (b : ℕ) → IsLawful d → AreLimits g.nx g.ny g.io_rat → IsLegal d g [] sites → b < length d.kinds → Says (place_line d sites b) (words_at_block d sites b)
place_says d g sites b law limits legal lt = seat_says (name_at d b) (site_of sites b) (name_word d.names b (omega (arith, lt, law.named)) law.words) (site_small d g sites b limits legal lt)

-- the fields

-- the numbers of a text fit in 64 bits
pub record AreShort (seed : ℕ) (g : GridShape) (p : Plan) (s : Stage) (total : ℕ) : Type 0 where
  pub seed_is : seed < 2 ^ 64
  pub columns : g.nx < 2 ^ 64
  pub rows : g.ny < 2 ^ 64
  pub ratio : g.io_rat < 2 ^ 64
  pub init : p.init < 2 ^ 64
  pub exit : p.exit < 2 ^ 64
  pub cooling : IsShort p.cooling
  pub moves : p.moves < 2 ^ 64
  pub index : s.index < 2 ^ 64
  pub done : s.done < 2 ^ 64
  pub accepted : s.accepted < 2 ^ 64
  pub t : s.t < 2 ^ 64
  pub range : s.range < 2 ^ 64
  pub total_is : total < 2 ^ 64

abbrev pub head_words : ℕ → GridShape → Plan → List (List (List ℕ))
head_words seed g p = version_words ∷ (codes "seed" ∷ decimal seed ∷ []) ∷ array_words g ∷ schedule_words p ∷ []

abbrev pub place_words : Stage → ℕ → List (List (List ℕ))
place_words s total = stage_words s ∷ (codes "temperature" ∷ decimal s.t ∷ []) ∷ (codes "range" ∷ decimal s.range ∷ []) ∷ (codes "total" ∷ decimal total ∷ []) ∷ []

pub head_say : (seed : ℕ) (g : GridShape) (p : Plan) (s : Stage) (total : ℕ) → AreShort seed g p s total → AllSay (head_lines seed g p) (head_words seed g p)
head_say seed g p s total h = (version_says, (field_says (codes "seed") seed (plain (codes "seed") (lit< tt) refl) h.seed_is, (array_says g h.columns h.rows h.ratio, (schedule_says p h.init h.exit h.cooling h.moves, tt))))

pub stage_say : (seed : ℕ) (g : GridShape) (p : Plan) (s : Stage) (total : ℕ) → AreShort seed g p s total → AllSay (stage_lines s total) (place_words s total)
stage_say seed g p s total h = (stage_says s h.index h.done h.accepted, (field_says (codes "temperature") s.t (plain (codes "temperature") (lit< tt) refl) h.t, (field_says (codes "range") s.range (plain (codes "range") (lit< tt) refl) h.range, (field_says (codes "total") total (plain (codes "total") (lit< tt) refl) h.total_is, tt))))

pub all_say : (f : ℕ → List ℕ) (w : ℕ → List (List ℕ)) (bs : List ℕ) → AllByRecursion (λ b. Says (f b) (w b)) bs → AllSay (map f bs) (map w bs)
all_say f w [] h = tt
all_say f w (b ∷ bs) h = (h.0, all_say f w bs h.1)

pub say_both : (ls ks : List (List ℕ)) (ws vs : List (List (List ℕ))) → AllSay ls ws → AllSay ks vs → AllSay (ls ++ ks) (ws ++ vs)
say_both [] ks [] vs h k = k
say_both [] ks (w ∷ ws) vs h k = absurd h
say_both (l ∷ ls) ks [] vs h k = absurd h
say_both (l ∷ ls) ks (w ∷ ws) vs h k = (h.0, say_both ls ks ws vs h.1 k)

-- a factor is not the word for cooling by acceptance
pub no_word : (n : ℕ) → n < 2 ^ 64 → bytes_eq (decimal n) (codes "adaptive") ≡ false
no_word n lt = elim (cases_Bool (bytes_eq (decimal n) (codes "adaptive"))) [
  | inl y ↦
      let same : decimal n ≡ codes "adaptive" = same_name (decimal n) (codes "adaptive") y in
      let digits : list_all is_ascii_digit (codes "adaptive") ≡ true = ap (list_all is_ascii_digit) (sym same) ∙ decimal_digits n lt in
      absurd (false≢true digits)
  | inr k ↦ k
]
