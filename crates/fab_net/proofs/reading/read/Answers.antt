use Rattle.std.proofs.Common.{◌≡◌, ◌∷◌, refl}
use Rattle.std.proofs.lemmas.Result.{err_from_is_err_and}
use Rattle.fab_text.specs.Shown.{shown}
use Rattle.fab_net.proofs.Standing.{step, fails, took, never_memory, all_said, all_underway, all_fault}
use Rattle.fab_net.proofs.Ready.{ready_of}
use Rattle.fab_net.proofs.reading.read.Goals as goal

pub loop-seen-preserved : goal.loop-seen-preserved
loop-seen-preserved c =
    let next : c.loop-seen.left ≡ shown c.in-Some.line ∷ c.next_in_room_of.new.self = rw c.in-Some.is at c.in_ok-line.ensures.some in
    let here = rw next at c.loop-seen.invariant in
    let ok = rw c.deref.ensures.value at c.in_ok-check_line.ensures in
    let new = rw c.deref-in-Some.ensures.value at c.in_ok-take_line.ensures in
    step c.args.arch.now.pins.items c.args.left.now (shown c.in-Some.line) c.next_in_room_of.new.self _ _ here ok new

pub returns-clause-said : goal.returns-clause-said
returns-clause-said c =
    let end = rw c.in_default.is at c.in_ok-line.ensures.none in
    let here = rw end.0 at c.loop-seen.invariant in
    all_said c.args.arch.now.pins.items c.args.left.now c.loop-seen.seen here

pub returns-clause-ready : goal.returns-clause-ready
returns-clause-ready c =
    let end = rw c.in_default.is at c.in_ok-line.ensures.none in
    let here = rw end.0 at c.loop-seen.invariant in
    let arch = c.args.arch.now.pins.items in
    let all = c.args.left.now in
    ready_of arch all c.loop-seen.seen (all_said arch all c.loop-seen.seen here) (all_underway arch all c.loop-seen.seen here) c.requires.words

pub returns-clause-clean : goal.returns-clause-clean
returns-clause-clean c =
    let end = rw c.in_default.is at c.in_ok-line.ensures.none in
    let here = rw end.0 at c.loop-seen.invariant in
    all_fault c.args.arch.now.pins.items c.args.left.now c.loop-seen.seen here

pub returns-in_err-check_line-clause-fault : goal.returns-in_err-check_line-clause-fault
returns-in_err-check_line-clause-fault c =
    let p = err_from_is_err_and c.from_residual-in_err-check_line.result c.from_residual-in_err-check_line.ensures.1 in
    let next : c.loop-seen.left ≡ shown c.in-Some.line ∷ c.next_in_room_of.new.self = rw c.in-Some.is at c.in_ok-line.ensures.some in
    let here = rw next at c.loop-seen.invariant in
    let err = rw c.deref.ensures.value at c.in_err-check_line.ensures in
    rw (p.1, p.2) (fails c.args.arch.now.pins.items c.args.left.now (shown c.in-Some.line) c.next_in_room_of.new.self _ _ here err)

pub returns-in_err-check_line-clause-memory : goal.returns-in_err-check_line-clause-memory
returns-in_err-check_line-clause-memory c =
    let p = err_from_is_err_and c.from_residual-in_err-check_line.result c.from_residual-in_err-check_line.ensures.1 in
    let err = rw c.deref.ensures.value at c.in_err-check_line.ensures in
    rw (p.1, p.2) (λ memory. absurd (never_memory c.args.arch.now.pins.items c.loop-seen.seen (shown c.in-Some.line) _ err memory))

pub returns-in_err-take_line-clause-memory : goal.returns-in_err-take_line-clause-memory
returns-in_err-take_line-clause-memory c =
    let p = err_from_is_err_and c.from_residual-in_err-take_line.result c.from_residual-in_err-take_line.ensures.1 in
    let next : c.loop-seen.left ≡ shown c.in-Some.line ∷ c.next_in_room_of.new.self = rw c.in-Some.is at c.in_ok-line.ensures.some in
    let here = rw next at c.loop-seen.invariant in
    let ok = rw c.deref.ensures.value at c.in_ok-check_line.ensures in
    rw p.1 (λ memory. took c.args.arch.now.pins.items c.args.left.now c.next_in_room_of.new.self _ (step c.args.arch.now.pins.items c.args.left.now (shown c.in-Some.line) c.next_in_room_of.new.self _ _ here ok refl))
