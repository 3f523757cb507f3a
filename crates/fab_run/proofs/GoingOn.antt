-- A fault that comes after the texts of a resumed run is one of the run.
use Rattle.std.proofs.Common.{ℕ, List}
use Rattle.fab_file.specs.declared.fault.PlaceFault.TheVariants as place_fault
use Rattle.fab_run.specs.declared.fault.RunFault.{RunFault}
use Rattle.fab_run.specs.declared.fault.RunFault.TheVariants as run_fault
use Rattle.fab_run.specs.Going.{HasSomePoint, IsGoingFault, IsGoingNumberFault}
use Rattle.fab_run.specs.Setting.{Texts}

pub number_going : (t : Texts) (point : List ℕ) (batch workers : ℕ) (e : RunFault) → HasSomePoint t point → IsGoingNumberFault t batch workers e → IsGoingFault t point batch workers e
number_going t point batch workers (run_fault.Arch e) some h = absurd h
number_going t point batch workers (run_fault.Net e) some h = absurd h
number_going t point batch workers (run_fault.Pads e) some h = absurd h
number_going t point batch workers (run_fault.Place place_fault.BadHeader) some h = absurd h
number_going t point batch workers (run_fault.Place place_fault.WrongSize) some h = absurd h
number_going t point batch workers (run_fault.Place (place_fault.UnknownBlock n)) some h = absurd h
number_going t point batch workers (run_fault.Place (place_fault.Repeated n)) some h = absurd h
number_going t point batch workers (run_fault.Place (place_fault.NoSuchSite n)) some h = absurd h
number_going t point batch workers (run_fault.Place (place_fault.WrongKind n)) some h = absurd h
number_going t point batch workers (run_fault.Place (place_fault.Taken n)) some h = absurd h
number_going t point batch workers (run_fault.Place (place_fault.Missing n)) some h = absurd h
number_going t point batch workers (run_fault.Place (place_fault.NotAPad n)) some h = absurd h
number_going t point batch workers (run_fault.Place (place_fault.BadLine n)) some h = absurd h
number_going t point batch workers (run_fault.Place place_fault.BadLabel) some h = (some, h)
number_going t point batch workers (run_fault.Place place_fault.Write) some h = absurd h
number_going t point batch workers (run_fault.Place place_fault.NoMemory) some h = absurd h
number_going t point batch workers (run_fault.Point e) some h = absurd h
number_going t point batch workers (run_fault.Size e) some h = absurd h
number_going t point batch workers (run_fault.Schedule e) some h = absurd h
number_going t point batch workers run_fault.BatchOutOfRange some h = (some, h)
number_going t point batch workers run_fault.WorkersOutOfRange some h = (some, h)
number_going t point batch workers run_fault.Report some h = absurd h
number_going t point batch workers run_fault.NoMemory some h = absurd h
