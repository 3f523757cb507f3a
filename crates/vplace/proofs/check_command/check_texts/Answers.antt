use Rattle.std.proofs.Common.{inl}
use Rattle.fab_run.specs.Check.{FaultOf}
use Rattle.vplace.specs.Said.{IsSaid}
use Rattle.vplace.proofs.Ends.{cut_of_check, device_of_check, memory_of, never_refused, refusal_of}
use Rattle.vplace.proofs.check_command.check_texts.Goals as goal

pub returns-in-Err-clause-only : goal.returns-in-Err-clause-only
returns-in-Err-clause-only g c d grid sites k = never_refused c.run_fault.result c.in-Err.fault (c.in-Err.ensures.only d grid sites k) c.run_fault.ensures.status

pub returns-in-Err-clause-device : goal.returns-in-Err-clause-device
returns-in-Err-clause-device g c q =
    device_of_check (FaultOf c.args.arch.now c.args.net.now c.args.place.now) c.run_fault.result c.in-Err.fault c.args.net.now (λ line. IsSaid line (g.E.Sink.contents c.args.err.now) (g.E.Sink.contents c.run_fault.new.err) (g.E.Sink.failed c.args.err.now) (g.E.Sink.failed c.run_fault.new.err)) _ _ c.in-Err.ensures.fault c.in-Err.ensures.text c.run_fault.ensures.said c.in-Err.ensures.failed q

pub returns-in-Err-clause-memory : goal.returns-in-Err-clause-memory
returns-in-Err-clause-memory g c q =
    memory_of c.run_fault.result c.in-Err.fault c.args.net.now (λ line. IsSaid line (g.E.Sink.contents c.args.err.now) (g.E.Sink.contents c.run_fault.new.err) (g.E.Sink.failed c.args.err.now) (g.E.Sink.failed c.run_fault.new.err)) c.run_fault.ensures.said q

pub returns-in-Err-clause-refused : goal.returns-in-Err-clause-refused
returns-in-Err-clause-refused g c q =
    refusal_of (FaultOf c.args.arch.now c.args.net.now c.args.place.now) c.run_fault.result c.in-Err.fault c.args.net.now (λ line. IsSaid line (g.E.Sink.contents c.args.err.now) (g.E.Sink.contents c.run_fault.new.err) (g.E.Sink.failed c.args.err.now) (g.E.Sink.failed c.run_fault.new.err)) c.in-Err.ensures.fault c.run_fault.ensures.said (inl q)

pub returns-in-Err-clause-cut : goal.returns-in-Err-clause-cut
returns-in-Err-clause-cut g c q = cut_of_check c.in-Err.fault _ _ c.in-Err.ensures.silent c.in-Err.ensures.cut
