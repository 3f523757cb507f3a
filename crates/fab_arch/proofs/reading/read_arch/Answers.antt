use Rattle.std.proofs.Common.{◌≡◌}
use Rattle.std.proofs.lemmas.Result.{MatchResult-from_both, IfOk-weaker, IfErr-weaker}
use Rattle.fab_arch.specs.declared.fault.ArchFault.TheVariants.{NoMemory}
use Rattle.fab_arch.specs.Arch.{FaultIs, IsArch, first_fault}
use Rattle.fab_arch.proofs.Accepted.{no_fault_in, one_meaning, memory_only}
use Rattle.fab_arch.proofs.reading.read_arch.Goals as goal

pub returns-clause-only : goal.returns-clause-only
returns-clause-only c io_rat pins given =
    let all = c.new-left.result in
    let arch : IsArch all io_rat pins = rw c.new-left.ensures given in
    MatchResult-from_both c.read.result (λ a. (a.io_rat ≡ io_rat) × (a.pins.items ≡ pins)) (λ e. e ≡ NoMemory)
    (IfOk-weaker c.read.result (λ a. IsArch all a.io_rat a.pins.items) (λ a. (a.io_rat ≡ io_rat) × (a.pins.items ≡ pins)) (λ a k. one_meaning all a.io_rat io_rat a.pins.items pins k arch) c.read.ensures.found)
    (IfErr-weaker c.read.result (λ e. FaultIs e (first_fault all)) (λ e. e ≡ NoMemory) (λ e k. memory_only e (first_fault all) (no_fault_in all io_rat pins arch) k) c.read.ensures.fault)
