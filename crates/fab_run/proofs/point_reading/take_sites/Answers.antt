use Rattle.std.proofs.Common.{◌∷◌, ap, length, inl, arith, rules, subst, sym}
use Rattle.std.proofs.lemmas.Result.{err_from_is_err_and}
use Rattle.fab_text.specs.FirstFault.{TookNoFault}
use Rattle.fab_text.specs.Shown.{shown}
use Rattle.fab_file.proofs.Legal.{memory_only}
use Rattle.fab_file.specs.Taken.{end_fault}
use Rattle.fab_run.specs.PointFaultTexts.{of_line_fault}
use Rattle.fab_run.specs.PointFaults.{seat_fault}
use Rattle.fab_run.proofs.PointParts.{taking_fails, took, took_none}
use Rattle.fab_run.proofs.PointLists.{Seating, list_refused, seat_never_memory, seated_all, seating_all, seating_fails, seating_none, seating_one}
use Rattle.fab_run.proofs.point_reading.take_sites.Goals as goal

pub places-init : goal.places-init
places-init c = seating_none c.args.design.now c.args.grid.now c.args.left.now c.in_ok-placed.placed c.in_ok-placed.ensures.none

pub returns-in_err-take-clause-fault : goal.returns-in_err-take-clause-fault
returns-in_err-take-clause-fault c =
    let p = err_from_is_err_and c.from_residual-in_err-take.result c.from_residual-in_err-take.ensures.1 in
    let d = c.args.design.now in
    let g = c.args.grid.now in
    let all = c.args.left.now in
    let l = shown c.in_ok-line.line in
    let here : Seating d g all (l ∷ c.take_line.new.left) c.places.placed c.places.counter = rw c.in_ok-line.ensures.ok at c.places.invariant in
    let below = rw c.blocks-end.ensures.count at c.places-test.true in
    let first = seating_fails d g all l c.take_line.new.left c.places.placed c.places.counter _ here c.in_err-take.ensures.fault in
    rw (p.1, p.2) (list_refused (seat_fault d g) (length d.kinds) all _ (taking_fails (seat_fault d g) (length d.kinds) all here.before l c.take_line.new.left c.places.counter _ here.taking below first))

pub places-preserved : goal.places-preserved
places-preserved c =
    let d = c.args.design.now in
    let g = c.args.grid.now in
    let all = c.args.left.now in
    let l = shown c.in_ok-line.line in
    let here : Seating d g all (l ∷ c.take_line.new.left) c.places.placed c.places.counter = rw c.in_ok-line.ensures.ok at c.places.invariant in
    let below = rw c.blocks-end.ensures.count at c.places-test.true in
    seating_one d g all l c.take_line.new.left c.places.placed c.take.new.self c.places.counter c.in_ok-placed.ensures.lawful here below c.in_ok-take.ensures.ok c.in_ok-take.ensures.taken

pub returns-in_err-finish-clause-fault : goal.returns-in_err-finish-clause-fault
returns-in_err-finish-clause-fault c =
    let p = err_from_is_err_and c.from_residual-in_err-finish.result c.from_residual-in_err-finish.ensures.1 in
    let all = seating_all c.args.design.now c.args.grid.now c.args.left.now c.places.left c.places.placed c.places.counter (omega (arith, c.places.auto.counter-end, c.places-test.false, c.blocks-end.ensures.count)) c.places.invariant in
    let memory = memory_only _ (end_fault c.places.placed) all.end c.in_err-finish.ensures.fault in
    rw (p.1, p.2) (inl (ap of_line_fault memory))

pub returns-clause-read : goal.returns-clause-read
returns-clause-read c =
    let d = c.args.design.now in
    let g = c.args.grid.now in
    let all = seating_all d g c.args.left.now c.places.left c.places.placed c.places.counter (omega (arith, c.places.auto.counter-end, c.places-test.false, c.blocks-end.ensures.count)) c.places.invariant in
    seated_all d g c.args.left.now c.places.left c.places.placed c.in_ok-finish.field-0 c.in_ok-placed.ensures.lawful all c.in_ok-finish.ensures.sites c.in_ok-finish.ensures.grid

pub returns-in_err-placed-clause-memory : goal.returns-in_err-placed-clause-memory
returns-in_err-placed-clause-memory c =
    let fact = took_none (seat_fault c.args.design.now c.args.grid.now) c.args.left.now in
    search (rules, fact)

pub returns-in_err-line-clause-memory : goal.returns-in_err-line-clause-memory
returns-in_err-line-clause-memory c =
    let p = err_from_is_err_and c.from_residual-in_err-line.result c.from_residual-in_err-line.ensures.1 in
    let d = c.args.design.now in
    let g = c.args.grid.now in
    let all = c.args.left.now in
    let here = c.places.invariant in
    rw (p.1, p.2) (λ memory. subst (TookNoFault (seat_fault d g) all) (sym (c.in_err-line.ensures.stays memory)) (took (seat_fault d g) (length d.kinds) all here.before c.places.left c.places.counter here.taking))

pub returns-in_err-take-clause-memory : goal.returns-in_err-take-clause-memory
returns-in_err-take-clause-memory c =
    let p = err_from_is_err_and c.from_residual-in_err-take.result c.from_residual-in_err-take.ensures.1 in
    rw (p.1, p.2) (λ memory. absurd (seat_never_memory c.places.placed (shown c.in_ok-line.line) _ c.in_err-take.ensures.fault memory))

pub returns-in_err-finish-clause-memory : goal.returns-in_err-finish-clause-memory
returns-in_err-finish-clause-memory c =
    let p = err_from_is_err_and c.from_residual-in_err-finish.result c.from_residual-in_err-finish.ensures.1 in
    let d = c.args.design.now in
    let g = c.args.grid.now in
    let here = c.places.invariant in
    rw p.1 (λ memory. took (seat_fault d g) (length d.kinds) c.args.left.now here.before c.places.left c.places.counter here.taking)
