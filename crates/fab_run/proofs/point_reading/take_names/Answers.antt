use Rattle.std.proofs.Common.{◌∷◌, rules, subst, sym}
use Rattle.std.proofs.lemmas.Result.{err_from_is_err_and}
use Rattle.fab_text.specs.FirstFault.{TookNoFault}
use Rattle.fab_text.specs.Shown.{shown}
use Rattle.fab_run.specs.PointFaults.{fixed_fault}
use Rattle.fab_run.proofs.PointParts.{taking_fails, took, took_none}
use Rattle.fab_run.proofs.PointLists.{Naming, list_refused, marked, name_never_memory, naming_fails, naming_one}
use Rattle.fab_run.proofs.point_reading.take_names.Goals as goal

pub returns-in_err-block-clause-fault : goal.returns-in_err-block-clause-fault
returns-in_err-block-clause-fault c =
    let p = err_from_is_err_and c.from_residual-in_err-block.result c.from_residual-in_err-block.ensures.1 in
    let v = c.args.version in
    let d = c.args.design.now in
    let all = c.args.left.now in
    let l = shown c.in_ok-line.line in
    let here : Naming v d c.args.count all (l ∷ c.take_line.new.left) c.names.named.items c.names.counter = rw c.in_ok-line.ensures.ok at c.names.invariant in
    let first = naming_fails v d c.args.count all l c.take_line.new.left c.names.named.items c.names.counter _ here (rw c.deref.ensures.value at c.in_err-block.ensures.fault) in
    rw (p.1, p.2) (list_refused (fixed_fault v d) c.args.count all _ (taking_fails (fixed_fault v d) c.args.count all here.before l c.take_line.new.left c.names.counter _ here.taking c.names-test.true first))

pub names-preserved : goal.names-preserved
names-preserved c =
    let v = c.args.version in
    let d = c.args.design.now in
    let all = c.args.left.now in
    let l = shown c.in_ok-line.line in
    let here : Naming v d c.args.count all (l ∷ c.take_line.new.left) c.names.named.items c.names.counter = rw c.in_ok-line.ensures.ok at c.names.invariant in
    naming_one v d c.args.count all l c.take_line.new.left c.names.named.items c.in_ok-block.block.0 c.names.counter here c.names-test.true c.in_ok-block.ensures.named (rw c.deref.ensures.value at c.in_ok-block.ensures.within) (rw c.deref.ensures.value at c.in_ok-block.ensures.ok)

pub returns-in_err-named-clause-memory : goal.returns-in_err-named-clause-memory
returns-in_err-named-clause-memory c =
    let fact = took_none (fixed_fault c.args.version c.args.design.now) c.args.left.now in
    search (rules, fact)

pub returns-in_err-line-clause-memory : goal.returns-in_err-line-clause-memory
returns-in_err-line-clause-memory c =
    let p = err_from_is_err_and c.from_residual-in_err-line.result c.from_residual-in_err-line.ensures.1 in
    let v = c.args.version in
    let d = c.args.design.now in
    let all = c.args.left.now in
    let here = c.names.invariant in
    rw (p.1, p.2) (λ memory. subst (TookNoFault (fixed_fault v d) all) (sym (c.in_err-line.ensures.stays memory)) (took (fixed_fault v d) c.args.count all here.before c.names.left c.names.counter here.taking))

pub returns-in_err-block-clause-memory : goal.returns-in_err-block-clause-memory
returns-in_err-block-clause-memory c =
    let p = err_from_is_err_and c.from_residual-in_err-block.result c.from_residual-in_err-block.ensures.1 in
    let l = shown c.in_ok-line.line in
    rw (p.1, p.2) (λ memory. absurd (name_never_memory c.args.version c.args.design.now (marked c.names.named.items) l.number _ _ _ (rw c.deref.ensures.value at c.in_err-block.ensures.fault) memory))
