use Rattle.std.proofs.Common.{◌≡◌, sym, ap, ◌∙◌, length, subst}
use Rattle.std.proofs.lemmas.Result.{err_from_is_err_and}
use Rattle.fab_run.specs.Setting.{texts_of}
use Rattle.fab_run.specs.RunChecks.{IsOptionFault}
use Rattle.fab_run.proofs.Asked.{number_run}
use Rattle.fab_run.proofs.setting.read_setting.Goals as goal

pub returns-in_err-schedule-clause-only : goal.returns-in_err-schedule-clause-only
returns-in_err-schedule-clause-only c s k =
    let pins = k.asked.pins in
    let one = c.in_ok-design.ensures.only s.design s.grid s.fixed s.begun pins in
    let blocks : length s.design.kinds ≡ c.blocks-2.result = sym (c.blocks-2.ensures.count ∙ ap (λ d. length d.kinds) one.0) in
    absurd (c.in_err-schedule.ensures.only s k blocks)

pub returns-in_err-schedule-clause-fault : goal.returns-in_err-schedule-clause-fault
returns-in_err-schedule-clause-fault c =
    let p = err_from_is_err_and c.from_residual-in_err-schedule.result c.from_residual-in_err-schedule.ensures.1 in
    let t = texts_of c.args.inputs.now in
    let o = c.args.options.now in
    let fault = subst (λ n. IsOptionFault t o n c.in_err-schedule.field-0.0) c.blocks-2.ensures.count c.in_err-schedule.ensures.fault in
    rw (p.1, p.2) (number_run t o c.in_ok-design.design c.in_ok-design.grid c.in_ok-design.pins.fixed c.in_ok-design.pins.begun _ c.in_ok-design.ensures.found fault)
