-- How a run of the program ends (our own): its exit status, and the end that each fault of a run leads to.
use Rattle.std.specs.Prelude.{ℕ, ◌≡◌, ◌⊎◌}
use Rattle.fab_arch.specs.declared.fault.ArchFault.TheVariants.{NoMemory as ArchNoMemory}
use Rattle.fab_net.specs.declared.fault.NetFault.TheVariants.{NoMemory as NetNoMemory}
use Rattle.fab_file.specs.declared.fault.PlaceFault.TheVariants.{NoMemory as PlaceNoMemory, Write as PlaceWrite}
use Rattle.fab_run.specs.declared.point_fault.PointFault.TheVariants.{NoMemory as PointNoMemory, Write as PointWrite}
use Rattle.fab_run.specs.declared.fault.RunFault.{RunFault}
use Rattle.fab_run.specs.declared.fault.RunFault.TheVariants.{Arch, Net, Pads, Place, Point, Size, Schedule, BatchOutOfRange, WorkersOutOfRange, Report, NoMemory as RunNoMemory}
use Rattle.vplace.specs.declared.status.Status.{Status}
use Rattle.vplace.specs.declared.status.Status.TheVariants.{Done, Refused, CommandLine, NoMemory, Device}

-- the number of a status
abbrev pub code_of : Status → ℕ
code_of Done = 0
code_of Refused = 1
code_of CommandLine = 2
code_of NoMemory = 3
code_of Device = 4

-- A faulty text or size is refused, and so are numbers of the command line. A lack of memory is reported as such, whichever reader met it.
-- A writer that failed is a device.
abbrev pub status_of : RunFault → Status
status_of (Arch ArchNoMemory) = NoMemory
status_of (Arch _) = Refused
status_of (Net NetNoMemory) = NoMemory
status_of (Net _) = Refused
status_of (Pads PlaceNoMemory) = NoMemory
status_of (Pads _) = Refused
status_of (Place PlaceNoMemory) = NoMemory
status_of (Place PlaceWrite) = Device
status_of (Place _) = Refused
status_of (Point PointNoMemory) = NoMemory
status_of (Point PointWrite) = Device
status_of (Point _) = Refused
status_of (Size _) = Refused
status_of (Schedule _) = CommandLine
status_of BatchOutOfRange = CommandLine
status_of WorkersOutOfRange = CommandLine
status_of Report = Device
status_of RunNoMemory = NoMemory

-- a file, a size or the command line was refused
abbrev pub IsRefused : Status → Type 0
IsRefused status = (status ≡ Refused) ⊎ (status ≡ CommandLine)
