use Rattle.std.proofs.Common.{◌≡◌, sym, ap, ◌∙◌}
use Rattle.std.proofs.lemmas.Result.{MatchResult-from_both, IfOk-weaker, IfErr-weaker, err_from_is_err_and}
use Rattle.fab_text.proofs.Clean.{lines_have_words}
use Rattle.fab_net.specs.declared.fault.NetFault.TheVariants.{NoMemory}
use Rattle.fab_net.specs.Faults.{FaultIs, first_fault}
use Rattle.fab_net.specs.Text.{IsNetlist}
use Rattle.fab_net.specs.Said.{netlist_said, end_fault}
use Rattle.fab_net.proofs.Accepted.{no_fault_in, memory_only}
use Rattle.fab_net.proofs.Ready.{found_is_meaning}
use Rattle.fab_net.proofs.reading.read_net.Goals as goal

pub returns-in_err-seen-clause-only : goal.returns-in_err-seen-clause-only
returns-in_err-seen-clause-only c d given =
    let arch = c.args.arch.now.pins.items in
    let all = c.new-left.result in
    let n : IsNetlist arch all d = rw c.new-left.ensures given in
    let p = err_from_is_err_and c.from_residual.result c.from_residual.ensures.1 in
    rw (p.1, p.2) (memory_only _ (first_fault arch all) (no_fault_in arch all d n) c.in_err-seen.ensures.fault)

pub returns-clause-found : goal.returns-clause-found
returns-clause-found c =
    let r = c.in_ok-seen.ensures in
    rw (← c.new-left.ensures) (found_is_meaning c.args.arch.now.pins.items c.new-left.result c.in_ok-seen.seen c.finish.result r.said r.clean c.finish.ensures.sound c.finish.ensures.found)

pub returns-clause-only : goal.returns-clause-only
returns-clause-only c d given =
    let arch = c.args.arch.now.pins.items in
    let all = c.new-left.result in
    let n : IsNetlist arch all d = rw c.new-left.ensures given in
    let r = c.in_ok-seen.ensures in
    let same : netlist_said c.in_ok-seen.seen ≡ d = ap netlist_said r.said ∙ sym n.netlist in
    let clean : end_fault c.in_ok-seen.seen ≡ first_fault arch all = ap end_fault r.said ∙ sym r.clean in
    MatchResult-from_both c.finish.result (λ x. x ≡ d) (λ e. e ≡ NoMemory)
    (IfOk-weaker c.finish.result (λ x. x ≡ netlist_said c.in_ok-seen.seen) (λ x. x ≡ d) (λ x h. h ∙ same) c.finish.ensures.found)
    (IfErr-weaker c.finish.result (λ e. FaultIs e (end_fault c.in_ok-seen.seen)) (λ e. e ≡ NoMemory) (λ e k. memory_only e (end_fault c.in_ok-seen.seen) (clean ∙ no_fault_in arch all d n) k) c.finish.ensures.fault)

pub read-requires : goal.read-requires
read-requires c = record { words = rw c.new-left.ensures (lines_have_words c.args.bytes.now) }
