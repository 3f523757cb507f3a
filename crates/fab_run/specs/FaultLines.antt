-- The line that reports a fault (our own): `vplace: `, the role of the faulty input, the fault's code and name, and its detail: a line, a
-- block, a field or a name. A lack of memory, and a writer that failed, are reported in words.
use Rattle.std.specs.Prelude.{ℕ, ◌≡◌, nat_le, List, [], ◌++◌, Option, Some, None, if◌then◌else◌, length, codes, refl}
use Rattle.std.specs.Fmt.{digits}
use Rattle.fab_text.specs.declared.spans.Span.{Span}
use Rattle.fab_text.specs.Lines.{bytes_at}
use Rattle.fab_arch.specs.declared.fault.ArchFault.TheVariants.{NoMemory as ArchNoMemory}
use Rattle.fab_arch.specs.FaultTexts.{arch_fault_text, grid_fault_text}
use Rattle.fab_net.specs.declared.fault.NetFault.TheVariants.{MissingPinlist, PinCount, NoDriver, TwoDrivers, NoMemory as NetNoMemory}
use Rattle.fab_net.specs.FaultTexts.{net_fault_text}
use Rattle.fab_file.specs.declared.fault.PlaceFault.TheVariants.{Missing, Write as PlaceWrite, NoMemory as PlaceNoMemory}
use Rattle.fab_file.specs.FaultTexts.{place_fault_text}
use Rattle.fab_sched.specs.FaultTexts.{sched_fault_text}
use Rattle.fab_run.specs.declared.point_fault.PointFault.TheVariants.{OutOfRange, Write as PointWrite, NoMemory as PointNoMemory}
use Rattle.fab_run.specs.declared.point_fault.PointField.TheVariants.{Stage}
use Rattle.fab_run.specs.PointFaultTexts.{point_fault_text}
use Rattle.fab_run.specs.declared.fault.RunFault.{RunFault}
use Rattle.fab_run.specs.declared.fault.RunFault.TheVariants.{Arch, Net, Pads, Place, Point, Size, Schedule, BatchOutOfRange, WorkersOutOfRange, Report, NoMemory}

-- a fault with its role
abbrev pub run_fault_text : RunFault → List ℕ
run_fault_text (Arch ArchNoMemory) = codes "no memory"
run_fault_text (Arch fault) = codes "arch: " ++ arch_fault_text fault
run_fault_text (Net NetNoMemory) = codes "no memory"
run_fault_text (Net fault) = codes "net: " ++ net_fault_text fault
run_fault_text (Pads PlaceNoMemory) = codes "no memory"
run_fault_text (Pads fault) = codes "pads: " ++ place_fault_text fault
run_fault_text (Place PlaceNoMemory) = codes "no memory"
run_fault_text (Place PlaceWrite) = codes "cannot write place"
run_fault_text (Place fault) = codes "place: " ++ place_fault_text fault
run_fault_text (Point PointNoMemory) = codes "no memory"
run_fault_text (Point PointWrite) = codes "cannot write point"
run_fault_text (Point fault) = codes "point: " ++ point_fault_text fault
run_fault_text (Size fault) = codes "size: " ++ grid_fault_text fault
run_fault_text (Schedule fault) = codes "schedule: " ++ sched_fault_text fault
run_fault_text BatchOutOfRange = codes "option: O1 BatchOutOfRange"
run_fault_text WorkersOutOfRange = codes "option: O2 WorkersOutOfRange"
run_fault_text Report = codes "cannot write report"
run_fault_text NoMemory = codes "no memory"

-- the span, in the netlist text, of the name that the line of a fault shows
abbrev pub named_place : RunFault → Option Span
named_place (Net (MissingPinlist span)) = Some span
named_place (Net (NoDriver span)) = Some span
named_place (Net (TwoDrivers span)) = Some span
named_place fault = None

-- the bytes of a span; none if the span is not within the text
abbrev pub named_bytes : List ℕ → Span → List ℕ
named_bytes net span = if nat_le span.stop (length net) then bytes_at net span else []

-- ` name NAME` with the name at a fault's place in the netlist text, or nothing
abbrev pub name_text : Option Span → List ℕ → List ℕ
name_text None net = []
name_text (Some span) net = codes " name " ++ named_bytes net span

-- the line of a fault, whose spans are within this netlist text
abbrev pub fault_line : RunFault → List ℕ → List ℕ
fault_line fault net = codes "vplace: " ++ run_fault_text fault ++ name_text (named_place fault) net

pub a_line_of_the_netlist : fault_line (Net (PinCount 6)) [] ≡ codes "vplace: net: N5 PinCount line 6"
unfolding digits
a_line_of_the_netlist = refl

pub a_net_without_driver : fault_line (Net (NoDriver (record { start = 2; stop = 4 }))) (codes "a n2 ") ≡ codes "vplace: net: N8 NoDriver name n2"
a_net_without_driver = refl

pub a_missing_block : fault_line (Place (Missing 2)) [] ≡ codes "vplace: place: P8 Missing block 2"
unfolding digits
a_missing_block = refl

pub a_stage_that_the_schedule_lacks : fault_line (Point (OutOfRange Stage)) [] ≡ codes "vplace: point: C3 OutOfRange field stage"
a_stage_that_the_schedule_lacks = refl
