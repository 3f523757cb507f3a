use Rattle.std.proofs.lemmas.Result.{err_from_is_err_and}
use Rattle.fab_text.specs.Lines.{lines}
use Rattle.fab_run.proofs.PointWhole.{has_head, in_head, in_names, in_seats, in_stage}
use Rattle.fab_run.proofs.PointFound.{found}
use Rattle.fab_run.proofs.point_reading.read_parts.Goals as goal

pub returns-in_err-head-clause-fault : goal.returns-in_err-head-clause-fault
returns-in_err-head-clause-fault c =
    let p = err_from_is_err_and c.from_residual-in_err-head.result c.from_residual-in_err-head.ensures.1 in
    let version = rw c.new-left.ensures at c.in_ok-version.ensures.read in
    rw (p.1, p.2) (in_head _ c.args.io_rat c.args.design.now (lines c.args.bytes.now) c.in_ok-version.version c.read_version.new.left version c.in_err-head.ensures.fault)

pub returns-in_err-stage-clause-fault : goal.returns-in_err-stage-clause-fault
returns-in_err-stage-clause-fault c =
    let p = err_from_is_err_and c.from_residual-in_err-stage.result c.from_residual-in_err-stage.ensures.1 in
    let version = rw c.new-left.ensures at c.in_ok-version.ensures.read in
    let h = c.in_ok-head.head in
    let head = has_head c.args.io_rat c.args.design.now (lines c.args.bytes.now) c.in_ok-version.version h.seed h.grid h.schedule c.read_version.new.left c.read_head.new.left version c.in_ok-head.ensures.read in
    rw (p.1, p.2) (in_stage _ c.args.io_rat c.args.design.now (lines c.args.bytes.now) c.in_ok-version.version h.seed h.grid h.schedule c.read_head.new.left head c.in_err-stage.ensures.fault)

pub returns-in_err-named-clause-fault : goal.returns-in_err-named-clause-fault
returns-in_err-named-clause-fault c =
    let p = err_from_is_err_and c.from_residual-in_err-named.result c.from_residual-in_err-named.ensures.1 in
    let version = rw c.new-left.ensures at c.in_ok-version.ensures.read in
    let h = c.in_ok-head.head in
    let head = has_head c.args.io_rat c.args.design.now (lines c.args.bytes.now) c.in_ok-version.version h.seed h.grid h.schedule c.read_version.new.left c.read_head.new.left version c.in_ok-head.ensures.read in
    rw (p.1, p.2) (in_names _ c.args.io_rat c.args.design.now (lines c.args.bytes.now) c.in_ok-version.version h.seed h.grid h.schedule c.in_ok-stage.stage c.in_ok-stage.total c.read_head.new.left c.read_stage.new.left head c.in_ok-stage.ensures.read c.in_err-named.ensures.fault)

pub returns-in_err-placement-clause-fault : goal.returns-in_err-placement-clause-fault
returns-in_err-placement-clause-fault c =
    let p = err_from_is_err_and c.from_residual-in_err-placement.result c.from_residual-in_err-placement.ensures.1 in
    let version = rw c.new-left.ensures at c.in_ok-version.ensures.read in
    let h = c.in_ok-head.head in
    let head = has_head c.args.io_rat c.args.design.now (lines c.args.bytes.now) c.in_ok-version.version h.seed h.grid h.schedule c.read_version.new.left c.read_head.new.left version c.in_ok-head.ensures.read in
    rw (p.1, p.2) (in_seats _ c.args.io_rat c.args.design.now (lines c.args.bytes.now) c.in_ok-version.version h.seed h.grid h.schedule c.in_ok-stage.stage c.in_ok-stage.total c.in_ok-named.named.items c.read_head.new.left c.read_stage.new.left c.read_names.new.left head c.in_ok-stage.ensures.read c.in_ok-named.ensures.read c.in_err-placement.ensures.fault)

pub returns-clause-found : goal.returns-clause-found
returns-clause-found c =
    let version = rw c.new-left.ensures at c.in_ok-version.ensures.read in
    let h = c.in_ok-head.head in
    let head = has_head c.args.io_rat c.args.design.now (lines c.args.bytes.now) c.in_ok-version.version h.seed h.grid h.schedule c.read_version.new.left c.read_head.new.left version c.in_ok-head.ensures.read in
    found c.args.io_rat c.args.design.now (lines c.args.bytes.now) c.in_ok-version.version h.seed h.grid c.read_head.new.left c.read_stage.new.left c.read_names.new.left c.read_sites.new.left c.in_ok-named.named.items _ head c.in_ok-stage.ensures.read c.in_ok-named.ensures.read
    c.in_ok-placement.ensures.read c.in_ok-read_end.ensures.read (rw c.deref.ensures.value at c.in_ok-fixed.ensures)
