use Rattle.std.proofs.Common.{rules, ◌≡◌, ◌∙◌, ap₂, ap, true, refl, sym, subst, map, List, ℕ, []}
use Rattle.std.specs.String.{string_bytes}
use Rattle.clap.specs.Words.{HasKind, fault_of, is_simple, is_simple_and_free, subcommand_of, subcommand_rows_of}
use Rattle.clap.proofs.OnLiterals.{clap_on_literals}
use Rattle.vplace.specs.declared.flags.Asked.{Asked}
use Rattle.vplace.specs.declared.flags.Asked.TheVariants.{Example, Check, Place, Resume}
use Rattle.vplace.specs.Asking.{Asks, IsAskedBy, IsOneOfThree, faults, subcommand}
use Rattle.vplace.specs.CommandLine.{shown_after_name, vplace}
use Rattle.vplace.proofs.Subcommands.{right_words_name_one}
use Rattle.vplace.proofs.flags.parse_words.Goals as goal

simple : is_simple vplace ≡ true
unfolding clap_on_literals
simple = refl

simple_and_free : is_simple_and_free vplace ≡ true
unfolding clap_on_literals
simple_and_free = refl

asks : (words : List (List ℕ)) (asked : Asked) → faults words ≡ [] → IsAskedBy (subcommand words) asked → Asks words asked
asks words Example right h = absurd h
asks words (Check names) right h = (right, h)
asks words (Place w) right h = (right, h)
asks words (Resume w) right h = (right, h)

pub asked_for-requires : goal.asked_for-requires
asked_for-requires c =
    let app_is = c.in_ok-vplace_command.ensures.app in
    let words : List (List ℕ) = map (λ word. word.items) c.args.words.now in
    let shown_are : map string_bytes c.as_slice.result.now ≡ shown_after_name words = search rules in
    let matches = c.in_ok-matches.ensures.matches (ap is_simple app_is ∙ simple) in
    let used : subcommand words ≡ subcommand_rows_of c.in_ok-matches.matches = sym (matches.1 ∙ ap₂ subcommand_of app_is shown_are) in
    let none : fault_of vplace (shown_after_name words) ≡ [] = sym (ap₂ fault_of app_is shown_are) ∙ c.in_ok-matches.ensures.kinds (ap is_simple_and_free app_is ∙ simple_and_free) in
    subst IsOneOfThree used (right_words_name_one (shown_after_name words) none)

pub returns-clause-asked : goal.returns-clause-asked
returns-clause-asked c =
    let app_is = c.in_ok-vplace_command.ensures.app in
    let words : List (List ℕ) = map (λ word. word.items) c.args.words.now in
    let shown_are : map string_bytes c.as_slice.result.now ≡ shown_after_name words = search rules in
    let matches = c.in_ok-matches.ensures.matches (ap is_simple app_is ∙ simple) in
    let used : subcommand_rows_of c.in_ok-matches.matches ≡ subcommand words = matches.1 ∙ ap₂ subcommand_of app_is shown_are in
    let none : faults words ≡ [] = sym (ap₂ fault_of app_is shown_are) ∙ c.in_ok-matches.ensures.kinds (ap is_simple_and_free app_is ∙ simple_and_free) in
    let given : IsAskedBy (subcommand_rows_of c.in_ok-matches.matches) c.in_ok-asked_for.field-0 = search rules in
    asks words c.in_ok-asked_for.field-0 none (subst (λ u. IsAskedBy u c.in_ok-asked_for.field-0) used given)

pub returns-in_err-matches-clause-wrong : goal.returns-in_err-matches-clause-wrong
returns-in_err-matches-clause-wrong c =
    let app_is = c.in_ok-vplace_command.ensures.app in
    let words : List (List ℕ) = map (λ word. word.items) c.args.words.now in
    let shown_are : map string_bytes c.as_slice.result.now ≡ shown_after_name words = search rules in
    let kinds = c.in_err-matches.ensures.kinds (ap is_simple_and_free app_is ∙ simple_and_free) in
    let here : HasKind (faults words) c.in_err-matches.field-0.0 = subst (λ k. HasKind k c.in_err-matches.field-0.0) (ap₂ fault_of app_is shown_are) kinds in
    search rules
