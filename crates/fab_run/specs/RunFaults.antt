-- What a run answers for a fault of one of its readers or writers (our own): the fault with its role, or a lack of memory.
use Rattle.fab_arch.specs.declared.fault.ArchFault.{ArchFault}
use Rattle.fab_arch.specs.declared.fault.ArchFault.TheVariants.{NoMemory as ArchNoMemory}
use Rattle.fab_net.specs.declared.fault.NetFault.{NetFault}
use Rattle.fab_net.specs.declared.fault.NetFault.TheVariants.{NoMemory as NetNoMemory}
use Rattle.fab_file.specs.declared.fault.PlaceFault.{PlaceFault}
use Rattle.fab_file.specs.declared.fault.PlaceFault.TheVariants.{NoMemory as PlaceNoMemory}
use Rattle.fab_run.specs.declared.point_fault.PointFault.{PointFault}
use Rattle.fab_run.specs.declared.point_fault.PointFault.TheVariants.{NoMemory as PointNoMemory}
use Rattle.fab_run.specs.declared.fault.RunFault.{RunFault}
use Rattle.fab_run.specs.declared.fault.RunFault.TheVariants.{Arch, Net, Pads, Place, Point, NoMemory}

-- an architecture's fault as that of a run
abbrev pub of_arch : ArchFault → RunFault
of_arch ArchNoMemory = NoMemory
of_arch fault = Arch fault

-- a netlist's fault as that of a run
abbrev pub of_net : NetFault → RunFault
of_net NetNoMemory = NoMemory
of_net fault = Net fault

-- a placement text's fault as that of a run
abbrev pub of_place : PlaceFault → RunFault
of_place PlaceNoMemory = NoMemory
of_place fault = Place fault

-- a checkpoint's fault as that of a run
abbrev pub of_point : PointFault → RunFault
of_point PointNoMemory = NoMemory
of_point fault = Point fault

-- a fault of a location text
abbrev pub of_pads : PlaceFault → RunFault
of_pads PlaceNoMemory = NoMemory
of_pads fault = Pads fault
