-- The text of a point reads back.
use Rattle.std.proofs.Common.{◌≡◌, ℕ, ◌+◌, ◌*◌, ◌^◌, ◌<◌, ◌≤◌, Bool, true, false, cond, eqb, ◌||◌, List, [], ◌∷◌, ◌++◌, Option, Some, None, length, get_or, map, zero, suc, refl, sym, ap, ◌∙◌, subst, arith, append_assoc, codes, inl, inr}
use Rattle.std.specs.Prelude.{decimal, filter, is_some, slice_get}
use Rattle.std.specs.List.{AllByRecursion, flat_map, list_any, range_with_len}
use Rattle.std.specs.Str.{bytes_eq}
use Rattle.std.proofs.lemmas.Bool.{cases_Bool, cases_eq, false≢true, eqb-true, eq-eqb}
use Rattle.std.proofs.lemmas.List.{length-map}
use Rattle.std.proofs.lemmas.List.FromFn.{fill_by_all}
use Rattle.std.proofs.lemmas.Grind.{flat_map-append}
use Rattle.fab_text.specs.Lines.{TextLine, lines}
use Rattle.fab_arch.specs.declared.array.Site.{Site}
use Rattle.fab_arch.specs.Grid.{GridShape, AreLimits}
use Rattle.fab_net.specs.Names.{AllDistinct, number_of}
use Rattle.fab_net.specs.Netlist.{Netlist, IsLawful}
use Rattle.fab_net.proofs.Distinct.{by_number}
use Rattle.fab_site.specs.Placement.{IsLegal, fixed_at, site_of}
use Rattle.fab_sched.specs.declared.schedules.Cooling.{Cooling}
use Rattle.fab_sched.specs.declared.schedules.Cooling.TheVariants.{Factor, Adaptive}
use Rattle.fab_sched.specs.declared.schedules.Stage.{Stage}
use Rattle.fab_sched.specs.Annealing.{IsCooling, IsLawful as IsLawfulPlan, Plan}
use Rattle.fab_sched.proofs.Falling.{few_moves, heat_below, index_below}
use Rattle.fab_file.specs.Place.{block_in, names_block, word_at}
use Rattle.fab_file.specs.PlaceFaults.{is_block, is_repeated}
use Rattle.fab_file.specs.Written.{ended}
use Rattle.fab_file.proofs.Seats.{first_word}
use Rattle.fab_file.proofs.Legal.{any_at, number_at as number_at_name}
use Rattle.fab_file.proofs.Split.{Says}
use Rattle.fab_file.proofs.Spoken.{decimal_back}
use Rattle.fab_file.proofs.Told.{AllSay, has_word, lines_told, words_in}
use Rattle.fab_file.proofs.Back.{IsPlaced, all_by_place, any_first, first_words, in_range, name_at, name_word, places, saying, site_small, words_at_block}
use Rattle.fab_commit.specs.declared.run.point.Point.{Point}
use Rattle.fab_commit.specs.Run.Points.{IsPoint}
use Rattle.fab_run.specs.declared.point_words.Version.TheVariants.{Two}
use Rattle.fab_run.specs.PointFields.{array_in, cooling_in, is_end, is_fixed_line, number_at, number_in, schedule_from, schedule_in, stage_in, version_in}
use Rattle.fab_run.specs.PointMeaning.{NamesFixed, SaysFixed, SaysPlaces}
use Rattle.fab_run.specs.PointText.{PointsReadBack, blocks_of, cooling_text, fixed_blocks, fixed_line, fixed_lines, head_lines, place_line, place_lines, point_text, stage_lines}
use Rattle.fab_run.proofs.PointSpoken.{AreShort, IsShort, all_say, array_words, end_says, end_words, field_says, fixed_says, fixed_words, head_say, head_words, no_word, place_says, place_words, say_both, schedule_words, stage_say, stage_words, version_words}

-- the words of all lines

loose : (d : Netlist) (g : GridShape) (fixed : List (Option Site)) (sites : List Site) → IsLegal d g fixed sites → IsLegal d g [] sites
loose d g fixed sites h = record { all = h.all; fit = h.fit; apart = h.apart; stay = λ b s k. absurd (let none : None ≡ Some s = k in cc) }

abbrev count_words : List ℕ → ℕ → List (List ℕ)
count_words name n = name ∷ decimal n ∷ []

abbrev list_words : Netlist → List (Option Site) → List Site → List (List (List ℕ))
list_words d fixed sites =
    count_words (codes "fixed") (length (fixed_blocks d fixed)) ∷ (map (fixed_words d) (fixed_blocks d fixed) ++ (count_words (codes "places") (length d.kinds) ∷ (map (words_at_block d sites) (blocks_of d) ++ end_words ∷ [])))

abbrev all_words : ℕ → Netlist → GridShape → Point → List (List (List ℕ))
all_words seed d g p = head_words seed g p.schedule ++ (place_words p.stage p.total ++ list_words d p.fixed p.placement.sites)

abbrev all_lines : ℕ → Netlist → GridShape → Point → List (List ℕ)
all_lines seed d g p = head_lines seed g p.schedule ++ (stage_lines p.stage p.total ++ (fixed_lines d p.fixed ++ (place_lines d p.placement.sites ++ codes "end" ∷ [])))

one_text : (seed : ℕ) (d : Netlist) (g : GridShape) (p : Point) → point_text seed d g p ≡ flat_map ended (all_lines seed d g p)
one_text seed d g p =
    let h = head_lines seed g p.schedule in
    let s = stage_lines p.stage p.total in
    let f = fixed_lines d p.fixed in
    let l = place_lines d p.placement.sites in
    let e : List (List ℕ) = codes "end" ∷ [] in
    pieces (flat_map ended h) (flat_map ended s) (flat_map ended f) (flat_map ended l) (flat_map ended e)
    ∙ sym (flat_map-append ended h (s ++ (f ++ (l ++ e)))
    ∙ ap (λ x. flat_map ended h ++ x) (flat_map-append ended s (f ++ (l ++ e)))
    ∙ ap (λ x. flat_map ended h ++ (flat_map ended s ++ x)) (flat_map-append ended f (l ++ e))
    ∙ ap (λ x. flat_map ended h ++ (flat_map ended s ++ (flat_map ended f ++ x))) (flat_map-append ended l e))
  where
    pieces : (a b c d e : List ℕ) → a ++ b ++ c ++ d ++ e ≡ a ++ (b ++ (c ++ (d ++ e)))
    pieces a b c d e = simp append_assoc

few_fixed : (p : ℕ → Bool) (a n : ℕ) → length (filter p (range_with_len a n)) ≤ n
few_fixed p a zero = omega arith
few_fixed p a (suc n) = elim (cases_Bool (p a)) [
  | inl y ↦ let more = few_fixed p (a + 1) n in subst (λ b. length (cond b (a ∷ filter p (range_with_len (a + 1) n)) (filter p (range_with_len (a + 1) n))) ≤ suc n) (sym y) (omega (arith, more))
  | inr k ↦ let more = few_fixed p (a + 1) n in subst (λ b. length (cond b (a ∷ filter p (range_with_len (a + 1) n)) (filter p (range_with_len (a + 1) n))) ≤ suc n) (sym k) (omega (arith, more))
]

in_filter : (P : ℕ → Type 0) (p : ℕ → Bool) (bs : List ℕ) → AllByRecursion P bs → AllByRecursion P (filter p bs)
in_filter P p [] h = tt
in_filter P p (b ∷ bs) h = elim (cases_Bool (p b)) [
  | inl y ↦ subst (λ t. AllByRecursion P (cond t (b ∷ filter p bs) (filter p bs))) (sym y) (h.0, in_filter P p bs h.1)
  | inr n ↦ subst (λ t. AllByRecursion P (cond t (b ∷ filter p bs) (filter p bs))) (sym n) (in_filter P p bs h.1)
]

fixed_say : (d : Netlist) (fixed : List (Option Site)) → IsLawful d → AllSay (fixed_lines d fixed) (count_words (codes "fixed") (length (fixed_blocks d fixed)) ∷ map (fixed_words d) (fixed_blocks d fixed))
fixed_say d fixed law =
    let few = few_fixed (λ b. is_some (fixed_at fixed b)) 0 (length d.kinds) in
    let each = in_range (λ b. Says (fixed_line d b) (fixed_words d b)) 0 (length d.kinds) (λ b ge lt. fixed_says d b (name_word d.names b (omega (arith, lt, law.named)) law.words)) in
    (field_says (codes "fixed") (length (fixed_blocks d fixed)) (record { some = omega arith; clean = refl }) (omega (arith, few, law.few_blocks)), all_say (fixed_line d) (fixed_words d) (fixed_blocks d fixed) (in_filter _ (λ b. is_some (fixed_at fixed b)) (blocks_of d) each))

place_say : (d : Netlist) (g : GridShape) (sites : List Site) → IsLawful d → AreLimits g.nx g.ny g.io_rat → IsLegal d g [] sites → AllSay (place_lines d sites) (count_words (codes "places") (length d.kinds) ∷ map (words_at_block d sites) (blocks_of d))
place_say d g sites law limits legal =
    let each = in_range (λ b. Says (place_line d sites b) (words_at_block d sites b)) 0 (length d.kinds) (λ b ge lt. place_says d g sites b law limits legal (omega (arith, lt))) in
    (field_says (codes "places") (length d.kinds) (record { some = omega arith; clean = refl }) (omega (arith, law.few_blocks)), all_say (place_line d sites) (words_at_block d sites) (blocks_of d) each)

short_cooling : (c : Cooling) → IsCooling c → IsShort c
short_cooling (Factor f) h = omega (arith, h.1)
short_cooling Adaptive h = tt

short : (seed : ℕ) (d : Netlist) (g : GridShape) (p : Point) → seed < 2 ^ 64 → AreLimits g.nx g.ny g.io_rat → IsLawfulPlan p.schedule → IsPoint d g p → AreShort seed g p.schedule p.stage p.total
short seed d g p lt limits law point =
    let index = index_below p.schedule p.stage.index p.stage.t law point.stage.stands in
    let heat = heat_below p.schedule p.stage.index p.stage.t law point.stage.stands in
    let few = few_moves p.schedule p.stage.index p.stage.t law point.stage.stands in
    let made : p.stage.index * p.schedule.moves + p.stage.done ≤ (p.stage.index + 1) * p.schedule.moves = grind (arith, point.left) in
    record {
      seed_is = lt;
      columns = omega (arith, limits.columns.1);
      rows = omega (arith, limits.rows.1);
      ratio = omega (arith, limits.ratio.1);
      init = omega (arith, law.init.1);
      exit = omega (arith, law.exit.1);
      cooling = short_cooling p.schedule.cooling law.cooling;
      moves = omega (arith, law.moves.1);
      index = omega (arith, index);
      done = omega (arith, point.left, law.moves.1);
      accepted = omega (arith, point.stage.accepted, point.left, law.moves.1);
      t = omega (arith, heat);
      range = omega (arith, point.stage.range.1, limits.columns.1, limits.rows.1);
      total_is = omega (arith, point.counted.1, made, few);
    }

all_have_words : (f : ℕ → List (List ℕ)) (bs : List ℕ) → ((b : ℕ) → has_word (f b) ≡ true) → filter has_word (map f bs) ≡ map f bs
all_have_words f [] h = refl
all_have_words f (b ∷ bs) h = ap (λ t. cond t (f b ∷ filter has_word (map f bs)) (filter has_word (map f bs))) (h b) ∙ ap (λ x. f b ∷ x) (all_have_words f bs h)

words_append : (xs ys : List (List (List ℕ))) → filter has_word (xs ++ ys) ≡ filter has_word xs ++ filter has_word ys
words_append [] ys = refl
words_append ([] ∷ xs) ys = words_append xs ys
words_append ((w ∷ ws) ∷ xs) ys = ap (λ x. (w ∷ ws) ∷ x) (words_append xs ys)

told : (seed : ℕ) (d : Netlist) (g : GridShape) (p : Point) → seed < 2 ^ 64 → IsLawful d → AreLimits g.nx g.ny g.io_rat → IsLawfulPlan p.schedule → IsPoint d g p → map words_in (lines (point_text seed d g p)) ≡ all_words seed d g p
told seed d g p lt law limits plan point =
    let legal = loose d g p.fixed p.placement.sites point.legal in
    let numbers = short seed d g p lt limits plan point in
    let fs = fixed_blocks d p.fixed in
    let bs = blocks_of d in
    let sites = p.placement.sites in
    let seats : AllSay (place_lines d sites ++ codes "end" ∷ []) ((count_words (codes "places") (length d.kinds) ∷ map (words_at_block d sites) bs) ++ end_words ∷ []) =
    say_both (place_lines d sites) (codes "end" ∷ []) (count_words (codes "places") (length d.kinds) ∷ map (words_at_block d sites) bs) (end_words ∷ []) (place_say d g sites law limits legal) (end_says, tt) in
    let lists = say_both (fixed_lines d p.fixed) (place_lines d sites ++ codes "end" ∷ []) (count_words (codes "fixed") (length fs) ∷ map (fixed_words d) fs) ((count_words (codes "places") (length d.kinds) ∷ map (words_at_block d sites) bs) ++ end_words ∷ []) (fixed_say d p.fixed law) seats in
    let behind = say_both (stage_lines p.stage p.total) (fixed_lines d p.fixed ++ (place_lines d sites ++ codes "end" ∷ [])) (place_words p.stage p.total) (list_words d p.fixed sites) (stage_say seed g p.schedule p.stage p.total numbers) lists in
    let whole = say_both (head_lines seed g p.schedule) (stage_lines p.stage p.total ++ (fixed_lines d p.fixed ++ (place_lines d sites ++ codes "end" ∷ []))) (head_words seed g p.schedule) (place_words p.stage p.total ++ list_words d p.fixed sites) (head_say seed g p.schedule p.stage p.total numbers) behind in
    let fixed_words_there = all_have_words (fixed_words d) fs (λ b. refl) in
    let seat_words_there = all_have_words (words_at_block d sites) bs (λ b. refl) in
    let seat_part : filter has_word (map (words_at_block d sites) bs ++ end_words ∷ []) ≡ map (words_at_block d sites) bs ++ end_words ∷ [] = words_append (map (words_at_block d sites) bs) (end_words ∷ []) ∙ ap (λ x. x ++ end_words ∷ []) seat_words_there in
    let fixed_part : filter has_word (map (fixed_words d) fs ++ (count_words (codes "places") (length d.kinds) ∷ (map (words_at_block d sites) bs ++ end_words ∷ []))) ≡ map (fixed_words d) fs ++ (count_words (codes "places") (length d.kinds) ∷ (map (words_at_block d sites) bs ++ end_words ∷ [])) =
    words_append (map (fixed_words d) fs) (count_words (codes "places") (length d.kinds) ∷ (map (words_at_block d sites) bs ++ end_words ∷ []))
    ∙ ap (λ x. x ++ (count_words (codes "places") (length d.kinds) ∷ filter has_word (map (words_at_block d sites) bs ++ end_words ∷ []))) fixed_words_there
    ∙ ap (λ x. map (fixed_words d) fs ++ (count_words (codes "places") (length d.kinds) ∷ x)) seat_part in
    ap (λ x. map words_in (lines x)) (one_text seed d g p)
    ∙ lines_told (all_lines seed d g p) (all_words seed d g p) whole
    ∙ ap (λ x. head_words seed g p.schedule ++ (place_words p.stage p.total ++ (count_words (codes "fixed") (length fs) ∷ x))) fixed_part

-- lines with these words

record Next (ls : List TextLine) (w : List (List ℕ)) (ws : List (List (List ℕ))) : Type 0 where
  pub line : TextLine
  pub rest : List TextLine
  pub text : ls ≡ line ∷ rest
  pub words : line.words ≡ w
  pub others : map words_in rest ≡ ws

next : (ls : List TextLine) (w : List (List ℕ)) (ws : List (List (List ℕ))) → map words_in ls ≡ w ∷ ws → Next ls w ws
next [] w ws h = absurd (let k = h in cc)
next (l ∷ ls) w ws h = record { line = l; rest = ls; text = refl; words = (let k = h in cc); others = (let k = h in cc) }

record Some_of (ls : List TextLine) (us ws : List (List (List ℕ))) : Type 0 where
  pub there : List TextLine
  pub rest : List TextLine
  pub text : ls ≡ there ++ rest
  pub words : map words_in there ≡ us
  pub others : map words_in rest ≡ ws

some_of : (us ws : List (List (List ℕ))) (ls : List TextLine) → map words_in ls ≡ us ++ ws → Some_of ls us ws
some_of [] ws ls h = record { there = []; rest = ls; text = refl; words = refl; others = h }
some_of (u ∷ us) ws ls h =
    let n = next ls u (us ++ ws) h in
    let m = some_of us ws n.rest n.others in
    record { there = n.line ∷ m.there; rest = m.rest; text = n.text ∙ ap (λ x. n.line ∷ x) m.text; words = ap (λ x. x ∷ map words_in m.there) n.words ∙ ap (λ x. u ∷ x) m.words; others = m.others }

-- the fields read back

number_back : (name : List ℕ) (n : ℕ) → bytes_eq name name ≡ true → n < 2 ^ 64 → number_in name (saying (name ∷ decimal n ∷ [])) ≡ Some n
number_back name n is lt = rw (is, decimal_back n lt) refl

array_back : (g : GridShape) → g.nx < 2 ^ 64 → g.ny < 2 ^ 64 → g.io_rat < 2 ^ 64 → array_in (saying (array_words g)) ≡ Some (g.nx, g.ny, g.io_rat)
array_back g x y z = rw (decimal_back g.nx x, decimal_back g.ny y, decimal_back g.io_rat z) refl

stage_back : (s : Stage) → s.index < 2 ^ 64 → s.done < 2 ^ 64 → s.accepted < 2 ^ 64 → stage_in (saying (stage_words s)) ≡ Some (s.index, s.done, s.accepted)
stage_back s x y z = rw (decimal_back s.index x, decimal_back s.done y, decimal_back s.accepted z) refl

cooling_back : (p : Plan) (c : Cooling) → IsShort c → cooling_in Two (saying (codes "schedule" ∷ decimal p.init ∷ decimal p.exit ∷ cooling_text c ∷ decimal p.moves ∷ [])) ≡ Some c
cooling_back p (Factor f) h = rw (no_word f h, decimal_back f h) refl
cooling_back p Adaptive h = refl

schedule_back : (p : Plan) → p.init < 2 ^ 64 → p.exit < 2 ^ 64 → IsShort p.cooling → p.moves < 2 ^ 64 → schedule_in Two (saying (schedule_words p)) ≡ Some (p.init, p.exit, p.cooling, p.moves)
schedule_back p x y c z =
    ap (λ k. schedule_from (number_at (saying (schedule_words p)) 1) (number_at (saying (schedule_words p)) 2) k (number_at (saying (schedule_words p)) 4)) (cooling_back p p.cooling c)
    ∙ rw (decimal_back p.init x, decimal_back p.exit y, decimal_back p.moves z) refl

-- the fixed blocks

fixed_meant : (d : Netlist) (ls : List TextLine) (bs : List ℕ) → IsLawful d → AllByRecursion (λ b. b < length d.kinds) bs → map words_in ls ≡ map (fixed_words d) bs → AllByRecursion (NamesFixed Two d) ls
fixed_meant d [] bs law h e = tt
fixed_meant d (l ∷ ls) [] law h e = absurd (let k = e in cc)
fixed_meant d (l ∷ ls) (b ∷ bs) law h e =
    let here : l.words ≡ fixed_words d b = (let k = e in cc) in
    let more : map words_in ls ≡ map (fixed_words d) bs = (let k = e in cc) in (
      record {
        block = b;
        form = ap (λ ws. is_fixed_line (saying ws)) here;
        named = ap (λ ws. number_of (word_at (saying ws) 0) d.names) here ∙ number_at_name d.names b law.distinct (omega (arith, h.0, law.named));
        may = tt;
      },
      fixed_meant d ls bs law h.1 more,
    )

fixed_firsts : (d : Netlist) (ls : List TextLine) (bs : List ℕ) → map words_in ls ≡ map (fixed_words d) bs → map first_word ls ≡ map (name_at d) bs
fixed_firsts d [] [] e = refl
fixed_firsts d [] (b ∷ bs) e = absurd (let k = e in cc)
fixed_firsts d (l ∷ ls) [] e = absurd (let k = e in cc)
fixed_firsts d (l ∷ ls) (b ∷ bs) e =
    let here : l.words ≡ fixed_words d b = (let k = e in cc) in
    let more : map words_in ls ≡ map (fixed_words d) bs = (let k = e in cc) in
    ap (λ ws. word_at (saying ws) 0 ∷ map first_word ls) here ∙ ap (λ xs. name_at d b ∷ xs) (fixed_firsts d ls bs more)

none_alike : (d : Netlist) (p : ℕ → Bool) (b a n : ℕ) → AllDistinct d.names → b < a → a + n ≤ length d.names → list_any (bytes_eq (name_at d b)) (map (name_at d) (filter p (range_with_len a n))) ≡ false
none_alike d p b a zero distinct lt le = refl
none_alike d p b a (suc n) distinct lt le =
    let more = none_alike d p b (a + 1) n distinct (omega (arith, lt)) (omega (arith, le)) in
    let differs : bytes_eq (name_at d b) (name_at d a) ≡ false = by_number d.names b a distinct (omega (arith, lt, le)) (omega (arith, le)) ∙ apart a b lt in
    elim (cases_Bool (p a)) [
      | inl y ↦ rw y (ap (λ t. t || list_any (bytes_eq (name_at d b)) (map (name_at d) (filter p (range_with_len (a + 1) n)))) differs ∙ more)
      | inr k ↦ rw k more
    ]
  where
    apart : (a b : ℕ) → b < a → eqb a b ≡ false
    apart a b lt = elim (cases_Bool (eqb a b)) [ inl y ↦ absurd (omega (arith, lt, eqb-true a b y)) | inr n ↦ n ]

names_differ : (d : Netlist) (p : ℕ → Bool) (a n : ℕ) → AllDistinct d.names → a + n ≤ length d.names → AllDistinct (map (name_at d) (filter p (range_with_len a n)))
names_differ d p a zero distinct le = tt
names_differ d p a (suc n) distinct le =
    let more = names_differ d p (a + 1) n distinct (omega (arith, le)) in
    elim (cases_Bool (p a)) [
      | inl y ↦ rw y (none_alike d p a (a + 1) n distinct (omega arith) (omega (arith, le)), more)
      | inr k ↦ rw k more
    ]

abbrev is_in : ℕ → List ℕ → Bool
is_in b bs = list_any (λ a. eqb a b) bs

repeated_is : (d : Netlist) (b : ℕ) (ls : List TextLine) (bs : List ℕ) → IsLawful d → AllByRecursion (λ b. b < length d.kinds) bs → map words_in ls ≡ map (fixed_words d) bs → is_repeated d ls b ≡ is_in b bs
repeated_is d b [] [] law h e = refl
repeated_is d b [] (c ∷ bs) law h e = absurd (let k = e in cc)
repeated_is d b (l ∷ ls) [] law h e = absurd (let k = e in cc)
repeated_is d b (l ∷ ls) (c ∷ bs) law h e =
    let here : l.words ≡ fixed_words d c = (let k = e in cc) in
    let more : map words_in ls ≡ map (fixed_words d) bs = (let k = e in cc) in
    let named : block_in d l ≡ Some c = ap (λ ws. number_of (word_at (saying ws) 0) d.names) here ∙ number_at_name d.names c law.distinct (omega (arith, h.0, law.named)) in
    ap (λ o. is_block b o || is_repeated d ls b) named ∙ ap (λ t. eqb c b || t) (repeated_is d b ls bs law h.1 more)

not_in : (p : ℕ → Bool) (b : ℕ) (bs : List ℕ) → p b ≡ false → is_in b (filter p bs) ≡ false
not_in p b [] h = refl
not_in p b (c ∷ bs) h = elim (cases_Bool (p c)) [
  | inl y ↦
      let differs : eqb c b ≡ false = elim (cases_Bool (eqb c b)) [ inl k ↦ absurd (false≢true (sym h ∙ ap p (sym (eqb-true c b k)) ∙ y)) | inr n ↦ n ] in
      rw (y, differs) (not_in p b bs h)
  | inr n ↦ rw n (not_in p b bs h)
]

or_true : (t : Bool) → (t || true) ≡ true
or_true true = refl
or_true false = refl

is_in_range : (p : ℕ → Bool) (b a n : ℕ) → p b ≡ true → a ≤ b → b < a + n → is_in b (filter p (range_with_len a n)) ≡ true
is_in_range p b a zero h ge lt = absurd (omega (arith, ge, lt))
is_in_range p b a (suc n) h ge lt = elim (cases_eq a b) [
  | inl e ↦ rw (ap p e ∙ h, eq-eqb a b e) refl
  | inr other ↦
      let more = is_in_range p b (a + 1) n h (omega (arith, ge, other)) (omega (arith, lt)) in
      elim (cases_Bool (p a)) [
        | inl y ↦ rw (y, more) (or_true (eqb a b))
        | inr k ↦ rw k more
      ]
]

got : (sites : List Site) (b : ℕ) (s : Site) → slice_get sites b ≡ Some s → (b < length sites) × (s ≡ site_of sites b)
got [] b s h = absurd (let none : None ≡ Some s = h in cc)
got (x ∷ sites) zero s h = (omega arith, (let same : Some x ≡ Some s = h in cc))
got (x ∷ sites) (suc b) s h = let more = got sites b s h in (omega (arith, more.0), more.1)

fixed_sites : (d : Netlist) (g : GridShape) (fixed : List (Option Site)) (sites : List Site) (b : ℕ) (o : Option Site) → IsLegal d g fixed sites → fixed_at fixed b ≡ o → fixed_at fixed b ≡ cond (is_in b (fixed_blocks d fixed)) (Some (site_of sites b)) None
fixed_sites d g fixed sites b None legal e =
    let out : is_in b (fixed_blocks d fixed) ≡ false = not_in (λ c. is_some (fixed_at fixed c)) b (blocks_of d) (ap is_some e) in
    e ∙ sym (ap (λ t. cond t (Some (site_of sites b)) None) out)
fixed_sites d g fixed sites b (Some s) legal e =
    let at = got sites b s (legal.stay b s e) in
    let within : is_in b (fixed_blocks d fixed) ≡ true = is_in_range (λ c. is_some (fixed_at fixed c)) b 0 (length d.kinds) (ap is_some e) (omega arith) (omega (arith, at.0, legal.all)) in
    e ∙ ap (λ x. Some x) at.1 ∙ sym (ap (λ t. cond t (Some (site_of sites b)) None) within)

pub fixed_back : (d : Netlist) (g : GridShape) (fixed : List (Option Site)) (sites : List Site) (ls : List TextLine) (ws : List (List (List ℕ))) → IsLawful d → IsLegal d g fixed sites
    → map words_in ls ≡ count_words (codes "fixed") (length (fixed_blocks d fixed)) ∷ (map (fixed_words d) (fixed_blocks d fixed) ++ ws) → (behind : List TextLine) × (map words_in behind ≡ ws) × SaysFixed Two d sites ls behind fixed
fixed_back d g fixed sites ls ws law legal e =
    let fs = fixed_blocks d fixed in
    let n = next ls (count_words (codes "fixed") (length fs)) (map (fixed_words d) fs ++ ws) e in
    let m = some_of (map (fixed_words d) fs) ws n.rest n.others in
    let few = few_fixed (λ b. is_some (fixed_at fixed b)) 0 (length d.kinds) in
    let within : AllByRecursion (λ b. b < length d.kinds) fs = in_filter (λ b. b < length d.kinds) (λ b. is_some (fixed_at fixed b)) (blocks_of d) (in_range (λ b. b < length d.kinds) 0 (length d.kinds) (λ b ge lt. omega (arith, lt))) in
    let many : length m.there ≡ length fs = sym (length-map m.there words_in) ∙ ap length m.words ∙ length-map fs (fixed_words d) in (
      m.rest,
      m.others,
      record {
        count_line = n.line;
        names = m.there;
        text = n.text ∙ ap (λ x. n.line ∷ x) m.text;
        count = ap (λ ws. number_in (codes "fixed") (saying ws)) n.words ∙ number_back (codes "fixed") (length fs) refl (omega (arith, few, law.few_blocks)) ∙ ap (λ k. Some k) (sym many);
        each = fixed_meant d m.there fs law within m.words;
        distinct = subst AllDistinct (sym (fixed_firsts d m.there fs m.words)) (names_differ d (λ b. is_some (fixed_at fixed b)) 0 (length d.kinds) law.distinct (omega (arith, law.named)));
        sites_are = λ b. fixed_sites d g fixed sites b (fixed_at fixed b) legal refl ∙ ap (λ t. cond t (Some (site_of sites b)) None) (sym (repeated_is d b m.there fs law within m.words));
      },
    )

-- the places

pub places_back : (d : Netlist) (g : GridShape) (sites : List Site) (ls : List TextLine) → IsLawful d → AreLimits g.nx g.ny g.io_rat → IsLegal d g [] sites → map words_in ls ≡ count_words (codes "places") (length d.kinds) ∷ (map (words_at_block d sites) (blocks_of d) ++ end_words ∷ [])
    → (last : TextLine) × (is_end last ≡ true) × SaysPlaces d ls (last ∷ []) sites
places_back d g sites ls law limits legal e =
    let bs = blocks_of d in
    let n = next ls (count_words (codes "places") (length d.kinds)) (map (words_at_block d sites) bs ++ end_words ∷ []) e in
    let m = some_of (map (words_at_block d sites) bs) (end_words ∷ []) n.rest n.others in
    let k = next m.rest end_words [] m.others in
    let nothing : k.rest ≡ [] = none_left k.rest k.others in
    let names : map first_word m.there ≡ d.names = first_words d sites m.there bs m.words ∙ sym (fill_by_all (name_at d) d.names (length d.kinds) [] law.named (λ i lt. refl)) in
    let placed = in_range (IsPlaced d sites) 0 (length d.kinds) (λ b ge lt. record { named = number_at_name d.names b law.distinct (omega (arith, lt, law.named)); small = site_small d g sites b limits legal (omega (arith, lt)) }) in
    let each : (i : ℕ) → i < length d.names → list_any (names_block (get_or d.names i [])) m.there ≡ true = λ i lt. any_first (get_or d.names i []) m.there ∙ ap (list_any (bytes_eq (get_or d.names i []))) names ∙ any_at d.names i lt in
    let many : length m.there ≡ length d.kinds = sym (length-map m.there first_word) ∙ ap length names ∙ law.named in (
      k.line,
      ap (λ ws. is_end (saying ws)) k.words,
      record {
        count_line = n.line;
        places = m.there;
        text = n.text ∙ ap (λ x. n.line ∷ x) (m.text ∙ ap (λ x. m.there ++ x) (k.text ∙ ap (λ x. k.line ∷ x) nothing));
        count = ap (λ ws. number_in (codes "places") (saying ws)) n.words ∙ number_back (codes "places") (length d.kinds) refl (omega (arith, law.few_blocks)) ∙ ap (λ k. Some k) (sym many);
        all = many;
        each = places d sites m.there bs placed m.words;
        distinct = subst AllDistinct (sym names) law.distinct;
        complete = all_by_place (λ name. list_any (names_block name) m.there ≡ true) d.names each;
      },
    )
  where
    none_left : (xs : List TextLine) → map words_in xs ≡ [] → xs ≡ []
    none_left [] h = refl
    none_left (x ∷ xs) h = absurd (let k = h in cc)

-- all

pub reads_back : PointsReadBack
reads_back seed d g p lt law limits plan w =
    let point = w.point in
    let sites = p.placement.sites in
    let numbers = short seed d g p lt limits plan point in
    let legal = loose d g p.fixed sites point.legal in
    let version = next (lines (point_text seed d g p)) version_words _ (told seed d g p lt law limits plan point) in
    let seed_next = next version.rest (count_words (codes "seed") seed) _ version.others in
    let array = next seed_next.rest (array_words g) _ seed_next.others in
    let schedule = next array.rest (schedule_words p.schedule) _ array.others in
    let stage = next schedule.rest (stage_words p.stage) _ schedule.others in
    let heat = next stage.rest (count_words (codes "temperature") p.stage.t) _ stage.others in
    let range = next heat.rest (count_words (codes "range") p.stage.range) _ heat.others in
    let total = next range.rest (count_words (codes "total") p.total) _ range.others in
    let fixed = fixed_back d g p.fixed sites total.rest (count_words (codes "places") (length d.kinds) ∷ (map (words_at_block d sites) (blocks_of d) ++ end_words ∷ [])) law point.legal total.others in
    let seats = places_back d g sites fixed.0 law limits legal fixed.1 in
    let middle : stage.rest ≡ heat.line ∷ range.line ∷ total.line ∷ total.rest = heat.text ∙ ap (λ x. heat.line ∷ x) (range.text ∙ ap (λ x. range.line ∷ x) total.text) in
    record {
      version = Two;
      first = version.line;
      fields = version.rest;
      fixed_part = total.rest;
      place_part = fixed.0;
      last = seats.0;
      text = version.text;
      version_is = ap (λ ws. version_in (saying ws)) version.words;
      says_fields = record {
        seed_line = seed_next.line;
        array_line = array.line;
        schedule_line = schedule.line;
        stage_line = stage.line;
        heat_lines = heat.line ∷ [];
        range_line = range.line;
        total_line = total.line;
        text = seed_next.text ∙ ap (λ x. seed_next.line ∷ x) (array.text ∙ ap (λ x. array.line ∷ x) (schedule.text ∙ ap (λ x. schedule.line ∷ x) (stage.text ∙ ap (λ x. stage.line ∷ x) middle)));
        seed_is = ap (λ ws. number_in (codes "seed") (saying ws)) seed_next.words ∙ number_back (codes "seed") seed refl numbers.seed_is;
        array_is = ap (λ ws. array_in (saying ws)) array.words ∙ array_back g numbers.columns numbers.rows numbers.ratio;
        schedule_is = ap (λ ws. schedule_in Two (saying ws)) schedule.words ∙ schedule_back p.schedule numbers.init numbers.exit numbers.cooling numbers.moves;
        stage_is = ap (λ ws. stage_in (saying ws)) stage.words ∙ stage_back p.stage numbers.index numbers.done numbers.accepted;
        heat_is = (heat.line, refl, ap (λ ws. number_in (codes "temperature") (saying ws)) heat.words ∙ number_back (codes "temperature") p.stage.t refl numbers.t);
        range_is = ap (λ ws. number_in (codes "range") (saying ws)) range.words ∙ number_back (codes "range") p.stage.range refl numbers.range;
        total_is = ap (λ ws. number_in (codes "total") (saying ws)) total.words ∙ number_back (codes "total") p.total refl numbers.total_is;
      };
      says_fixed = fixed.2;
      says_places = seats.2;
      end = seats.1;
      array = record { limits = limits; ratio = refl; holds = w.holds };
      schedule = plan;
      point = point;
    }
