-- The faults of three texts, in their order.
use Rattle.std.proofs.Common.{◌≡◌, ℕ, List, Some, refl, inr}
use Rattle.fab_text.specs.Lines.{lines}
use Rattle.fab_arch.specs.declared.fault.ArchFault.{ArchFault}
use Rattle.fab_arch.specs.declared.fault.ArchFault.TheVariants as arch_fault
use Rattle.fab_arch.specs.Grid.{GridShape}
use Rattle.fab_net.specs.declared.fault.NetFault.{NetFault}
use Rattle.fab_net.specs.declared.fault.NetFault.TheVariants as net_fault
use Rattle.fab_file.specs.declared.fault.PlaceFault.{PlaceFault}
use Rattle.fab_file.specs.declared.fault.PlaceFault.TheVariants as place_fault
use Rattle.fab_file.specs.Place.{place_size_of}
use Rattle.fab_file.specs.PlaceFaults.{FaultIs, first_fault}
use Rattle.fab_run.specs.declared.fault.RunFault.{RunFault}
use Rattle.fab_run.specs.declared.fault.RunFault.TheVariants as run_fault
use Rattle.fab_run.specs.RunFaults.{of_arch, of_net, of_place}
use Rattle.fab_run.specs.Check.{MeanDesign, FitsOn, FaultOf, IsDesignFault, IsTextFault, report_failed_with}
use Rattle.fab_net.specs.Netlist.{Netlist}

-- the fault of a reader is not that of a writer

pub arch_text : (e : ArchFault) → IsTextFault (of_arch e)
arch_text arch_fault.NoIoRat = tt
arch_text (arch_fault.RepeatedIoRat n) = tt
arch_text (arch_fault.BadNumber n) = tt
arch_text (arch_fault.BadPinLine n) = tt
arch_text arch_fault.NoPins = tt
arch_text (arch_fault.TooLarge n) = tt
arch_text arch_fault.NoMemory = tt

pub net_text : (e : NetFault) → IsTextFault (of_net e)
net_text (net_fault.UnknownWord n) = tt
net_text (net_fault.NoName n) = tt
net_text (net_fault.PinlistWithoutBlock n) = tt
net_text (net_fault.MissingPinlist n) = tt
net_text (net_fault.PinCount n) = tt
net_text (net_fault.SubblockWithoutLogic n) = tt
net_text (net_fault.DuplicateBlock n) = tt
net_text (net_fault.NoDriver n) = tt
net_text (net_fault.TwoDrivers n) = tt
net_text (net_fault.TooLarge n) = tt
net_text net_fault.NoMemory = tt

pub never_report : (e : RunFault) → IsTextFault e → e ≡ run_fault.Report → ⊥
never_report e h k = rw k at h

pub failed_never : (e : RunFault) (n : ℕ) → IsTextFault e → report_failed_with e n ≡ n
failed_never (run_fault.Arch e) n h = refl
failed_never (run_fault.Net e) n h = refl
failed_never (run_fault.Place e) n h = refl
failed_never (run_fault.Pads e) n h = refl
failed_never (run_fault.Point e) n h = refl
failed_never (run_fault.Size e) n h = refl
failed_never (run_fault.Schedule e) n h = refl
failed_never run_fault.BatchOutOfRange n h = refl
failed_never run_fault.WorkersOutOfRange n h = refl
failed_never run_fault.Report n h = absurd h
failed_never run_fault.NoMemory n h = refl

-- the fault of one of the first two texts
pub of_design : (arch net place : List ℕ) (e : RunFault) → IsDesignFault arch net e → FaultOf arch net place e
of_design arch net place (run_fault.Arch e) h = h
of_design arch net place (run_fault.Net e) h = h
of_design arch net place (run_fault.Pads e) h = absurd h
of_design arch net place (run_fault.Place e) h = absurd h
of_design arch net place (run_fault.Point e) h = absurd h
of_design arch net place (run_fault.Size e) h = absurd h
of_design arch net place (run_fault.Schedule e) h = absurd h
of_design arch net place run_fault.BatchOutOfRange h = absurd h
of_design arch net place run_fault.WorkersOutOfRange h = absurd h
of_design arch net place run_fault.Report h = absurd h
of_design arch net place run_fault.NoMemory h = tt

pub design_text : (arch net : List ℕ) (e : RunFault) → IsDesignFault arch net e → IsTextFault e
design_text arch net (run_fault.Arch e) h = tt
design_text arch net (run_fault.Net e) h = tt
design_text arch net (run_fault.Pads e) h = tt
design_text arch net (run_fault.Place e) h = absurd h
design_text arch net (run_fault.Point e) h = absurd h
design_text arch net (run_fault.Size e) h = tt
design_text arch net (run_fault.Schedule e) h = tt
design_text arch net run_fault.BatchOutOfRange h = tt
design_text arch net run_fault.WorkersOutOfRange h = tt
design_text arch net run_fault.Report h = absurd h
design_text arch net run_fault.NoMemory h = tt

-- a fault of a placement text, after its header
pub placed : (arch net place : List ℕ) (io_rat : ℕ) (d : Netlist) (g : GridShape) (e : PlaceFault) → MeanDesign arch net io_rat d → g.io_rat ≡ io_rat → place_size_of (lines place) ≡ Some (g.nx, g.ny) → FitsOn d g → FaultIs e (first_fault d g (lines place)) → FaultOf arch net place (of_place e)
placed arch net place io_rat d g place_fault.BadHeader m r s f h = (io_rat, d, m, inr (g, r, s, f, h))
placed arch net place io_rat d g place_fault.WrongSize m r s f h = (io_rat, d, m, inr (g, r, s, f, h))
placed arch net place io_rat d g (place_fault.UnknownBlock n) m r s f h = (io_rat, d, m, inr (g, r, s, f, h))
placed arch net place io_rat d g (place_fault.Repeated n) m r s f h = (io_rat, d, m, inr (g, r, s, f, h))
placed arch net place io_rat d g (place_fault.NoSuchSite n) m r s f h = (io_rat, d, m, inr (g, r, s, f, h))
placed arch net place io_rat d g (place_fault.WrongKind n) m r s f h = (io_rat, d, m, inr (g, r, s, f, h))
placed arch net place io_rat d g (place_fault.Taken n) m r s f h = (io_rat, d, m, inr (g, r, s, f, h))
placed arch net place io_rat d g (place_fault.Missing n) m r s f h = (io_rat, d, m, inr (g, r, s, f, h))
placed arch net place io_rat d g (place_fault.NotAPad n) m r s f h = (io_rat, d, m, inr (g, r, s, f, h))
placed arch net place io_rat d g (place_fault.BadLine n) m r s f h = (io_rat, d, m, inr (g, r, s, f, h))
placed arch net place io_rat d g place_fault.BadLabel m r s f h = (io_rat, d, m, inr (g, r, s, f, h))
placed arch net place io_rat d g place_fault.Write m r s f h = (io_rat, d, m, inr (g, r, s, f, h))
placed arch net place io_rat d g place_fault.NoMemory m r s f h = tt
