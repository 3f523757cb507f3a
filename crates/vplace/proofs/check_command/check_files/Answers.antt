use Rattle.std.proofs.Common.{◌∙◌, List, ℕ, inl, inr, rules, subst}
use Rattle.fab_run.specs.Check.{AreChecked, FaultOf}
use Rattle.fab_run.specs.FaultLines.{fault_line}
use Rattle.vplace.specs.Placing.{AreGiven}
use Rattle.vplace.specs.declared.messages.Role.TheVariants.{Place}
use Rattle.vplace.specs.Said.{IsSaid, IsToldRefusal, IsUnread, report_line}
use Rattle.vplace.proofs.Heard.{line_since}
use Rattle.vplace.proofs.Once.{texts_once_to_check}
use Rattle.vplace.proofs.Telling.{unread_since}
use Rattle.vplace.proofs.check_command.check_files.Goals as goal

pub returns-clause-refused : goal.returns-clause-refused
returns-clause-refused g c h =
    let quiet = c.in-Ok-read_role.ensures.read ∙ c.in-Ok.ensures.read in
    let still = c.in-Ok-read_role.ensures.still ∙ c.in-Ok.ensures.still in
    let r = c.check_texts.ensures.refused h in
    let told : IsToldRefusal (FaultOf c.as_slice-4.result.now c.as_slice-5.result.now c.as_slice-6.result.now) c.as_slice-5.result.now c.check_texts.result (λ line. IsSaid line (g.E.Sink.contents c.args.err.now) (g.E.Sink.contents c.check_texts.new.err) (g.E.Sink.failed c.args.err.now) (g.E.Sink.failed c.check_texts.new.err)) =
    (r.0, r.1, r.2, line_since _ _ _ _ _ _ (fault_line r.0 c.as_slice-5.result.now) quiet still r.3) in
    (_, _, _, search (rules, c.in-Ok.ensures.arch, c.in-Ok.ensures.net, c.in-Ok-read_role.ensures.gives), told)

pub returns-clause-only : goal.returns-clause-only
returns-clause-only g c h arch net place d grid sites is given checked =
    let found : AreGiven (g.F.NamedFiles.held c.args.files.now) c.args.names.now c.in-Ok.texts.0.items c.in-Ok.texts.1.items c.in-Ok-read_role.text.items = search (rules, c.in-Ok.ensures.arch, c.in-Ok.ensures.net, c.in-Ok-read_role.ensures.gives) in
    let same = texts_once_to_check h c.args.names.now arch net place c.in-Ok.texts.0.items c.in-Ok.texts.1.items c.in-Ok-read_role.text.items given (subst (λ x. AreGiven x c.args.names.now c.in-Ok.texts.0.items c.in-Ok.texts.1.items c.in-Ok-read_role.text.items) is found) in
    let here : AreChecked c.in-Ok.texts.0.items c.in-Ok.texts.1.items c.in-Ok-read_role.text.items d grid sites = rw (← same.0, ← same.1, ← same.2) checked in
    c.check_texts.ensures.only d grid sites (search (rules, here))

pub returns-clause-device : goal.returns-clause-device
returns-clause-device g c q =
    let quiet = c.in-Ok-read_role.ensures.read ∙ c.in-Ok.ensures.read in
    let still = c.in-Ok-read_role.ensures.still ∙ c.in-Ok.ensures.still in
    let d = c.check_texts.ensures.device q in
    inr (_, _, _, search (rules, c.in-Ok.ensures.arch, c.in-Ok.ensures.net, c.in-Ok-read_role.ensures.gives), d.0, d.1, line_since _ _ _ _ _ _ report_line quiet still d.2)

pub returns-clause-cut : goal.returns-clause-cut
returns-clause-cut g c q = elim (c.check_texts.ensures.cut q) [
  | inl same ↦ inl same
  | inr cut ↦ inr (_, _, _, search (rules, c.in-Ok.ensures.arch, c.in-Ok.ensures.net, c.in-Ok-read_role.ensures.gives), cut)
]

pub returns-in-Err-clause-device : goal.returns-in-Err-clause-device
returns-in-Err-clause-device g c q = inl (inl (search (rules, c.in-Err.ensures.unread)))

pub returns-in-Err-read_role-clause-device : goal.returns-in-Err-read_role-clause-device
returns-in-Err-read_role-clause-device g c q =
    let role = c.in-Err-read_role.ensures.unread in
    let since : (line : List ℕ) → IsSaid line (g.E.Sink.contents c.read_arch_and_net-texts.new.err) (g.E.Sink.contents c.read_role.new.err) (g.E.Sink.failed c.read_arch_and_net-texts.new.err) (g.E.Sink.failed c.read_role.new.err)
    → IsSaid line (g.E.Sink.contents c.args.err.now) (g.E.Sink.contents c.read_role.new.err) (g.E.Sink.failed c.args.err.now) (g.E.Sink.failed c.read_role.new.err) = λ line. line_since _ _ _ _ _ _ line c.in-Ok.ensures.read c.in-Ok.ensures.still in
    let told = unread_since (g.F.NamedFiles.held c.args.files.now) Place c.as_slice-3.result.now c.in-Err-read_role.status
    (λ line. IsSaid line (g.E.Sink.contents c.read_arch_and_net-texts.new.err) (g.E.Sink.contents c.read_role.new.err) (g.E.Sink.failed c.read_arch_and_net-texts.new.err) (g.E.Sink.failed c.read_role.new.err))
    (λ line. IsSaid line (g.E.Sink.contents c.args.err.now) (g.E.Sink.contents c.read_role.new.err) (g.E.Sink.failed c.args.err.now) (g.E.Sink.failed c.read_role.new.err)) since role in
    let named = subst (λ name. IsUnread (g.F.NamedFiles.held c.args.files.now) Place name c.in-Err-read_role.status (λ line. IsSaid line (g.E.Sink.contents c.args.err.now) (g.E.Sink.contents c.read_role.new.err) (g.E.Sink.failed c.args.err.now) (g.E.Sink.failed c.read_role.new.err))) c.as_slice-3.ensures.value told in
    inl (inr (search (rules, c.in-Ok.ensures.arch, c.in-Ok.ensures.net), named))
