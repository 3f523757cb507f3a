use Rattle.std.proofs.Common.{◌≡◌, ◌∷◌}
use Rattle.std.proofs.lemmas.Result.{err_from_is_err_and, IfErr-weaker}
use Rattle.fab_text.specs.Shown.{shown}
use Rattle.fab_arch.proofs.Standing.{step, fails, took_too, never_memory, ends, ratio_in_bounds}
use Rattle.fab_arch.proofs.reading.read.Goals as goal

pub returns-in_err-check_line-clause-fault : goal.returns-in_err-check_line-clause-fault
returns-in_err-check_line-clause-fault c =
    let p = err_from_is_err_and c.from_residual-in_err-check_line.result c.from_residual-in_err-check_line.ensures.1 in
    let next : c.loop-seen.left ≡ shown c.in-Some.line ∷ c.next.new.self = rw c.in-Some.is at c.in_ok-line.ensures.some in
    let here = rw next at c.loop-seen.invariant in
    rw (p.1, p.2) (fails c.args.left.now (shown c.in-Some.line) c.next.new.self _ _ _ here c.in_err-check_line.ensures)

pub loop-seen-preserved : goal.loop-seen-preserved
loop-seen-preserved c =
    let next : c.loop-seen.left ≡ shown c.in-Some.line ∷ c.next.new.self = rw c.in-Some.is at c.in_ok-line.ensures.some in
    let here = rw next at c.loop-seen.invariant in
    let there = step c.args.left.now (shown c.in-Some.line) c.next.new.self _ _ here c.in_ok-check_line.ensures in
    rw (c.in_ok-add_line.ensures.io_rat, c.in_ok-add_line.ensures.pins) there

pub returns-in_err-check_line-clause-memory : goal.returns-in_err-check_line-clause-memory
returns-in_err-check_line-clause-memory c =
    let p = err_from_is_err_and c.from_residual-in_err-check_line.result c.from_residual-in_err-check_line.ensures.1 in
    rw (p.1, p.2) (λ memory. absurd (never_memory _ _ (shown c.in-Some.line) _ c.in_err-check_line.ensures memory))

pub returns-in_err-add_line-clause-memory : goal.returns-in_err-add_line-clause-memory
returns-in_err-add_line-clause-memory c =
    let p = err_from_is_err_and c.from_residual-in_err-add_line.result c.from_residual-in_err-add_line.ensures.1 in
    let next : c.loop-seen.left ≡ shown c.in-Some.line ∷ c.next.new.self = rw c.in-Some.is at c.in_ok-line.ensures.some in
    let here = rw next at c.loop-seen.invariant in
    rw p.1 (λ memory. took_too c.args.left.now (shown c.in-Some.line) c.next.new.self _ _ here c.in_ok-check_line.ensures)

pub finish-requires-clause-ratio : goal.finish-requires-clause-ratio
finish-requires-clause-ratio c = ratio_in_bounds c.loop-seen.seen.io_rat c.loop-seen.invariant.before c.loop-seen.invariant.ratio

pub returns-clause-fault : goal.returns-clause-fault
returns-clause-fault c =
    let end = rw c.in_default.is at c.in_ok-line.ensures.none in
    let here = rw end.0 at c.loop-seen.invariant in
    IfErr-weaker c.finish.result _ _ (λ e k. ends c.args.left.now _ _ e here k) c.finish.ensures.fault
