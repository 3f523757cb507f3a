-- Words that are right name one of the three subcommands.
use Rattle.std.proofs.Common.{◌≡◌, ◌⊎◌, ◌∙◌, ◌&&◌, ◌||◌, ℕ, Bool, true, false, cond, List, [], ◌∷◌, ◌++◌, Option, Some, None, is_some, option_map, unwrap_or, fold, refl, sym, ap, subst, inl, inr, codes}
use Rattle.std.specs.Prelude.{⊤}
use Rattle.std.specs.List.{slice_index_or}
use Rattle.std.specs.Str.{bytes_eq}
use Rattle.std.proofs.lemmas.Slice.Eq.{bytes_eq-Decides}
use Rattle.clap.specs.Kinds.{Kinds, or_else}
use Rattle.clap.specs.Walk.{Held, Names, Outcome, done, waits, plain, refused, Row, Rule, Step, next, trailing, subcommand, value, Text, Waiting, idle, option, positional, Walk, after_flag, after_step, arg_by_index, finished, long_or_other, nothing_held, plain_word, short_or_plain, stop_after, subcommand_met, subcommand_or_other, to_positional, walk, walk_from, walked, walked_from, word_met}
use Rattle.clap.specs.Lexer.{long_of, short_of}
use Rattle.clap.specs.Simple.{Shape, argument_words, built, entered, help_shape, names_of, rows_at, subcommand_of}
use Rattle.clap.specs.Faults.{check_fault, entered_fault, fault_of, other_fault, settle_fault, step_fault, turn_fault, walk_fault, word_fault}
use Rattle.clap.specs.declared.error.kind.ErrorKind.TheVariants.{DisplayHelp, InvalidSubcommand}
use Rattle.vplace.specs.Asking.{IsOneOfThree}
use Rattle.vplace.specs.CommandLine.{vplace}

none_of : (a b : Kinds) → or_else a b ≡ [] → (a ≡ []) × (b ≡ [])
none_of [] b e = (refl, e)
none_of (k ∷ ks) b e = cc

-- ---- a word that names no subcommand does not end the walk

abbrev IsNoName : Step → Type 0
IsNoName (subcommand name) = ⊥
IsNoName _ = ⊤

plain_goes : (c : List Rule) (waiting : Waiting) (word : Text) (h : Held) → IsNoName (plain_word c waiting word h).1
plain_goes c idle word h = tt
plain_goes c (option id) word h = tt
plain_goes c positional word h = tt

flag_goes : (c : List Rule) (waiting : Waiting) (word : Text) (h : Held) (out : Outcome) → IsNoName (after_flag c waiting word h out).1
flag_goes c waiting word h done = tt
flag_goes c waiting word h (waits id) = tt
flag_goes c waiting word h plain = plain_goes c waiting word h
flag_goes c waiting word h refused = plain_goes c waiting word h

other_goes : (c : List Rule) (waiting : Waiting) (word : Text) (long : Option (Text × Option Text)) (h : Held) → IsNoName (long_or_other c waiting word long h).1
other_goes c waiting word (Some p) h = flag_goes c waiting word _ _
other_goes c waiting word None h = go (short_of word)
  where
    go : (o : Option Text) → IsNoName (short_or_plain c waiting word o h).1
    go (Some flags) = flag_goes c waiting word _ _
    go None = plain_goes c waiting word h

positional_goes : (c : List Rule) (a : Option Rule) (word : Text) (w : Walk) (h : Held) → w.stopped ≡ None → (to_positional c a word w h).stopped ≡ None
positional_goes c None word w h going = going
positional_goes c (Some a) word w h going = refl

step_goes : (c : List Rule) (word : Text) (w : Walk) (h : Held) (step : Step) → IsNoName step → w.stopped ≡ None → (after_step c word w h step).stopped ≡ None
step_goes c word w h (next waiting) goes going = going
step_goes c word w h (trailing position) goes going = going
step_goes c word w h (subcommand name) goes going = absurd goes
step_goes c word w h value goes going = positional_goes c (arg_by_index c w.position) word w h going

-- ---- a walk that passes ends at no call for help

abbrev IsNoHelp : Option (Text × List Text) → Type 0
IsNoHelp stop = (stop ≡ None) ⊎ ((name : Text) × (rest : List Text) × (stop ≡ Some (name, rest)) × (bytes_eq name (codes "help") ≡ false))

module _ (s : Shape) (enabled : s.disable_help_subcommand ≡ false) (names : Names) where
  word_passes : (w : Walk) (word : Text) (is_trailing : Bool) (sub : Option Text) → w.stopped ≡ None
      → cond is_trailing [] (other_fault s sub word w.held) ≡ []
      → IsNoHelp (after_step s.rules word w (cond is_trailing (w.held, value) (subcommand_or_other s.rules sub w.waiting w.position word w.held)).0
      (cond is_trailing (w.held, value) (subcommand_or_other s.rules sub w.waiting w.position word w.held)).1).stopped
  word_passes w word true sub going ok = inl (positional_goes s.rules (arg_by_index s.rules w.position) word w w.held going)
  word_passes w word false (Some name) going ok = inr (name, [], refl, no_help (bytes_eq name (codes "help")) (rw enabled at ok))
    where
      no_help : (b : Bool) → cond (b && true) (DisplayHelp ∷ InvalidSubcommand ∷ []) [] ≡ [] → b ≡ false
      no_help true e = cc
      no_help false e = refl
  word_passes w word false None going ok = inl (go (bytes_eq word (45 ∷ 45 ∷ [])))
    where
      go : (b : Bool) → (after_step s.rules word w (cond b (w.held, trailing w.position) (long_or_other s.rules w.waiting word (long_of word) w.held)).0
          (cond b (w.held, trailing w.position) (long_or_other s.rules w.waiting word (long_of word) w.held)).1).stopped ≡ None
      go true = going
      go false = step_goes s.rules word w _ _ (other_goes s.rules w.waiting word (long_of word) w.held) going

  -- once the walk has stopped at a name it keeps it
  keeps_name : (w : Walk) (name : Text) (rest words : List Text) → w.stopped ≡ Some (name, rest)
      → (after : List Text) × ((fold (walked s.rules names) w words).stopped ≡ Some (name, after))
  unfolding walked
  keeps_name w name rest [] is = (rest, is)
  keeps_name w name rest (x ∷ xs) is =
      keeps_name (walked s.rules names w x) name (rest ++ x ∷ []) xs (ap (λ o. (walked_from s.rules names o w x).stopped) is)

  walk_passes : (w : Walk) (words : List Text) → w.stopped ≡ None → walk_fault s names w words ≡ []
      → IsNoHelp (fold (walked s.rules names) w words).stopped
  unfolding walk_fault walked
  walk_passes w [] going ok = inl going
  walk_passes w (x ∷ xs) going ok = then_rest (λ none. walk_passes (walked s.rules names w x) xs none parts.1) (subst IsNoHelp (sym here) (word_passes w x w.is_trailing (subcommand_met names w.waiting x) going word_ok))
    where
      parts : (turn_fault s names w x ≡ []) × (walk_fault s names (walked s.rules names w x) xs ≡ [])
      parts = none_of (turn_fault s names w x) (walk_fault s names (walked s.rules names w x) xs) ok

      turn : or_else (word_fault s names w.is_trailing w.waiting x w.held)
          (step_fault s w.position (word_met s.rules names w.is_trailing w.waiting w.position x w.held).0 (word_met s.rules names w.is_trailing w.waiting w.position x w.held).1) ≡ []
      turn = rw going at parts.0

      word_ok : word_fault s names w.is_trailing w.waiting x w.held ≡ []
      word_ok = (none_of _ _ turn).0

      here : (walked s.rules names w x).stopped ≡ (walked_from s.rules names None w x).stopped
      here = ap (λ o. (walked_from s.rules names o w x).stopped) going

      then_rest : ((walked s.rules names w x).stopped ≡ None → IsNoHelp (fold (walked s.rules names) (walked s.rules names w x) xs).stopped)
          → IsNoHelp (walked s.rules names w x).stopped → IsNoHelp (fold (walked s.rules names) (walked s.rules names w x) xs).stopped
      then_rest goes_on (inl none) = goes_on none
      then_rest goes_on (inr named) =
          let kept = keeps_name (walked s.rules names w x) named.0 named.1 xs named.2 in
          inr (named.0, kept.0, kept.1, named.3)

-- ---- the subcommand that was entered

found : (place resume check help : Shape) (rest : List Text) (b c d e : Bool)
    → place.name ≡ codes "place" → resume.name ≡ codes "resume" → check.name ≡ codes "check" → e ≡ false
    → is_some (option_map (λ s. rows_at s rest) (cond b (Some place) (cond c (Some resume) (cond d (Some check) (cond e (Some help) None))))) ≡ true
    → IsOneOfThree (option_map (λ s. rows_at s rest) (cond b (Some place) (cond c (Some resume) (cond d (Some check) (cond e (Some help) None)))))
found place resume check help rest true c d e is_place is_resume is_check unlike some = (place.name, (rows_at place rest).1, refl, inl is_place)
found place resume check help rest false true d e is_place is_resume is_check unlike some = (resume.name, (rows_at resume rest).1, refl, inr (inl is_resume))
found place resume check help rest false false true e is_place is_resume is_check unlike some = (check.name, (rows_at check rest).1, refl, inr (inr is_check))
found place resume check help rest false false false true is_place is_resume is_check unlike some = cc
found place resume check help rest false false false false is_place is_resume is_check unlike some = cc

entered_one : (stop : Option (Text × List Text)) → IsNoHelp stop → is_some (entered (built vplace) stop) ≡ true → IsOneOfThree (entered (built vplace) stop)
entered_one None unlike some = cc
entered_one (Some p) (inl none) some = cc
entered_one (Some p) (inr named) some =
    let sub : ℕ → Shape = λ i. slice_index_or (built vplace).subs i help_shape in
    let same : p.0 ≡ named.0 = ap (λ o. (unwrap_or o p).0) named.2 in
    let unlike : (bytes_eq (codes "help") p.0 || false) ≡ false = other_name (bytes_eq (codes "help") p.0) refl same in
    found (sub 0) (sub 1) (sub 2) (sub 3) p.1 _ _ _ _ refl refl refl unlike some
  where
    other_name : (b : Bool) → bytes_eq (codes "help") p.0 ≡ b → p.0 ≡ named.0 → (b || false) ≡ false
    other_name false e same = refl
    other_name true e same =
        let is : codes "help" ≡ p.0 = (bytes_eq-Decides (codes "help") p.0).0 e in
        let bad : bytes_eq (codes "help") (codes "help") ≡ false = ap (λ n. bytes_eq n (codes "help")) (is ∙ same) ∙ named.3 in
        cc

pub right_words_name_one : (words : List Text) → fault_of vplace words ≡ [] → IsOneOfThree (subcommand_of vplace words)
right_words_name_one words ok =
    let top = (built vplace).top in
    let names = names_of (built vplace) in
    let ws = argument_words vplace words in
    let stop = stop_after top.rules names ws in
    let level = none_of (walk_fault top names (walk_from nothing_held) ws) _ ok in
    let below = none_of (entered_fault (built vplace) stop) _ level.1 in
    let settled = none_of (settle_fault top.rules top.args_override_self (walk top.rules names nothing_held ws).held) _ below.1 in
    let defaults = none_of _ _ settled.1 in
    let has = wanted (finished top.rules (walk top.rules names nothing_held ws).held) (is_some (entered (built vplace) stop)) defaults.1 in
    entered_one stop (walk_passes top refl names (walk_from nothing_held) ws refl level.0) has
  where
    wanted : (rows : List Row) (has : Bool) → check_fault (built vplace).top rows has ≡ [] → has ≡ true
    wanted rows true e = refl
    wanted rows false e = cc
