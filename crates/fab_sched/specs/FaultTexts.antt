-- How a fault of a schedule is printed (our own): its code and its name.
use Rattle.std.specs.Prelude.{ℕ, ◌≡◌, List, codes, refl}
use Rattle.fab_sched.specs.declared.fault.SchedFault.{SchedFault}
use Rattle.fab_sched.specs.declared.fault.SchedFault.TheVariants.{InitOutOfRange, ExitOutOfRange, AlphaOutOfRange, MovesOutOfRange}

abbrev pub sched_fault_text : SchedFault → List ℕ
sched_fault_text InitOutOfRange = codes "S1 InitOutOfRange"
sched_fault_text ExitOutOfRange = codes "S2 ExitOutOfRange"
sched_fault_text AlphaOutOfRange = codes "S3 AlphaOutOfRange"
sched_fault_text MovesOutOfRange = codes "S4 MovesOutOfRange"

pub no_lawful_factor : sched_fault_text AlphaOutOfRange ≡ codes "S3 AlphaOutOfRange"
no_lawful_factor = refl
