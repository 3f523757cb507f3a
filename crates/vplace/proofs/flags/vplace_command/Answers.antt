use Rattle.std.proofs.Common.{rules, ◌≡◌, ◌∙◌, true, ap, ap₂, codes, []}
use Rattle.std.proofs.lemmas.Result.{IfOk-weaker}
use Rattle.clap.specs.Words.{app_of, with_subcommand}
use Rattle.clap.specs.Simple.{new_shape}
use Rattle.clap.proofs.SimpleLemmas.{plain_fields}
use Rattle.vplace.proofs.flags.vplace_command.Goals as goal

pub returns : goal.returns
returns c =
    let place = c.in_ok-place_command.field-0 in
    let resume = c.in_ok-resume_command.field-0 in
    let check = c.in_ok-check_command.field-0 in
    let own : app_of c.after_help.result ≡ record { top = record (new_shape (codes "vplace")) { has_version = true; subcommand_required = true }; subs = [] } = search rules in
    let place_is = c.in_ok-place_command.ensures.shape in
    let resume_is = c.in_ok-resume_command.ensures.shape in
    let check_is = c.in_ok-check_command.ensures.shape in
    let one = c.in_ok-subcommand.ensures.shape (plain_fields place (ap (λ s. s.is_plain) place_is)).globals ∙ ap₂ with_subcommand own place_is in
    let two = c.in_ok-subcommand-2.ensures.shape (plain_fields resume (ap (λ s. s.is_plain) resume_is)).globals ∙ ap₂ with_subcommand one resume_is in
    record {
      app = IfOk-weaker c.subcommand-3.result _ _ (λ made h.
          h.shape (plain_fields check (ap (λ s. s.is_plain) check_is)).globals ∙ ap₂ with_subcommand two check_is) c.subcommand-3.ensures;
    }
