-- How a fault is printed (our own): its code and its name, and the line if it has one.
use Rattle.std.specs.Prelude.{ℕ, ◌≡◌, List, ◌++◌, decimal, codes, refl}
use Rattle.std.specs.Fmt.{digits}
use Rattle.fab_arch.specs.declared.fault.ArchFault.{ArchFault}
use Rattle.fab_arch.specs.declared.fault.ArchFault.TheVariants.{NoIoRat, RepeatedIoRat, BadNumber, BadPinLine, NoPins, TooLarge, NoMemory}
use Rattle.fab_arch.specs.declared.fault.GridFault.{GridFault}
use Rattle.fab_arch.specs.declared.fault.GridFault.TheVariants.{TooFewLogicSites, TooFewPadSites, SizeOutOfRange}

abbrev pub arch_fault_text : ArchFault → List ℕ
arch_fault_text NoIoRat = codes "A1 NoIoRat"
arch_fault_text (RepeatedIoRat line) = codes "A2 RepeatedIoRat line " ++ decimal line
arch_fault_text (BadNumber line) = codes "A3 BadNumber line " ++ decimal line
arch_fault_text (BadPinLine line) = codes "A4 BadPinLine line " ++ decimal line
arch_fault_text NoPins = codes "A5 NoPins"
arch_fault_text (TooLarge line) = codes "A6 TooLarge line " ++ decimal line
arch_fault_text NoMemory = codes "no memory"

abbrev pub grid_fault_text : GridFault → List ℕ
grid_fault_text TooFewLogicSites = codes "G1 TooFewLogicSites"
grid_fault_text TooFewPadSites = codes "G2 TooFewPadSites"
grid_fault_text SizeOutOfRange = codes "G3 SizeOutOfRange"

pub a_line_of_several_digits : arch_fault_text (TooLarge 1026) ≡ codes "A6 TooLarge line 1026"
unfolding digits
a_line_of_several_digits = refl
