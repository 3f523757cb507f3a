use Rattle.std.proofs.Common.{Some, ap, ◌≡◌, ◌∷◌, sym, ◌∙◌}
use Rattle.std.proofs.lemmas.Result.{err_from_is_err_and}
use Rattle.fab_text.specs.Lines.{lines}
use Rattle.fab_text.specs.Shown.{shown}
use Rattle.fab_file.proofs.Seats.{none_some, inner}
use Rattle.fab_file.proofs.PinLines.{size_is}
use Rattle.fab_file.proofs.Legal.{no_fault_in}
use Rattle.fab_file.proofs.Underway.{header, size_refused, begin, step, fails, fault_is, found_stands, found_alone, first_refused}
use Rattle.fab_file.proofs.reading.read_place.Goals as goal

pub returns-in_err-nx-clause-fault : goal.returns-in_err-nx-clause-fault
returns-in_err-nx-clause-fault c =
    let p = err_from_is_err_and c.from_residual-in_err-nx.result c.from_residual-in_err-nx.ensures.1 in
    let h = rw c.new-left.ensures at c.in_err-nx.ensures.fault in
    rw (p.1, p.2) (size_refused c.args.design.now c.args.grid.now (lines c.args.bytes.now) _ h)

pub loop-placed-init : goal.loop-placed-init
loop-placed-init c =
    let g = c.args.grid.now in
    let size = rw c.new-left.ensures at c.in_ok-nx.ensures.size in
    let rest = rw c.new-left.ensures at c.in_ok-nx.ensures.rest in
    let same = inner (c.in_ok-nx.nx, c.in_ok-nx.ny) (g.nx, g.ny) (size_is g (Some (c.in_ok-nx.nx, c.in_ok-nx.ny)) c.in_ok-check_size.ensures.ok) in
    begin c.args.design.now g (lines c.args.bytes.now) c.take_size.new.left c.in_ok-placed.placed
    (header g (lines c.args.bytes.now) c.take_size.new.left c.in_ok-nx.nx c.in_ok-nx.ny size rest (ap (λ s. s.0) same) (ap (λ s. s.1) same))
    c.in_ok-placed.ensures.none

pub returns-in_err-take-clause-only : goal.returns-in_err-take-clause-only
returns-in_err-take-clause-only c sites one =
    let next : c.loop-placed.left ≡ shown c.in-Some.line ∷ c.next_in_room_of.new.self = rw c.in-Some.is at c.in_ok-line.ensures.some in
    let here = rw next at c.loop-placed.invariant in
    let first = fails c.args.design.now c.args.grid.now (lines c.args.bytes.now) c.next_in_room_of.new.self (shown c.in-Some.line) c.loop-placed.placed _ here c.in_err-take.ensures.fault in
    absurd (none_some _ (sym (no_fault_in c.args.design.now c.args.grid.now (lines c.args.bytes.now) sites c.in_ok-placed.ensures.lawful one) ∙ first))

pub returns-in_err-take-clause-fault : goal.returns-in_err-take-clause-fault
returns-in_err-take-clause-fault c =
    let p = err_from_is_err_and c.from_residual-in_err-take.result c.from_residual-in_err-take.ensures.1 in
    let next : c.loop-placed.left ≡ shown c.in-Some.line ∷ c.next_in_room_of.new.self = rw c.in-Some.is at c.in_ok-line.ensures.some in
    let here = rw next at c.loop-placed.invariant in
    let first = fails c.args.design.now c.args.grid.now (lines c.args.bytes.now) c.next_in_room_of.new.self (shown c.in-Some.line) c.loop-placed.placed _ here c.in_err-take.ensures.fault in
    rw (p.1, p.2) (fault_is _ _ first)

pub loop-placed-preserved : goal.loop-placed-preserved
loop-placed-preserved c =
    let next : c.loop-placed.left ≡ shown c.in-Some.line ∷ c.next_in_room_of.new.self = rw c.in-Some.is at c.in_ok-line.ensures.some in
    let here = rw next at c.loop-placed.invariant in
    step c.args.design.now c.args.grid.now (lines c.args.bytes.now) c.next_in_room_of.new.self (shown c.in-Some.line) c.loop-placed.placed c.take.new.self c.in_ok-placed.ensures.lawful here c.in_ok-take.ensures.ok c.in_ok-take.ensures.taken

pub returns-clause-found : goal.returns-clause-found
returns-clause-found c =
    let end = rw c.in_default.is at c.in_ok-line.ensures.none in
    let here = rw end.0 at c.loop-placed.invariant in
    found_stands c.args.design.now c.args.grid.now (lines c.args.bytes.now) c.loop-placed.placed c.finish.result c.in_ok-placed.ensures.lawful here c.finish.ensures.ok c.finish.ensures.sites

pub returns-clause-only : goal.returns-clause-only
returns-clause-only c sites one =
    let d = c.args.design.now in
    let g = c.args.grid.now in
    let all = lines c.args.bytes.now in
    let end = rw c.in_default.is at c.in_ok-line.ensures.none in
    let here = rw end.0 at c.loop-placed.invariant in
    let law = c.in_ok-placed.ensures.lawful in
    found_alone d g all c.loop-placed.placed sites c.finish.result law here one (found_stands d g all c.loop-placed.placed c.finish.result law here c.finish.ensures.ok c.finish.ensures.sites) c.finish.ensures.fault

pub returns-clause-fault : goal.returns-clause-fault
returns-clause-fault c =
    let end = rw c.in_default.is at c.in_ok-line.ensures.none in
    let here = rw end.0 at c.loop-placed.invariant in
    first_refused c.args.design.now c.args.grid.now (lines c.args.bytes.now) c.loop-placed.placed c.finish.result c.in_ok-placed.ensures.lawful here c.finish.ensures.fault
