-- How a fault is printed (our own): its code and its name, and the line if it has one. A caller that has the text adds the name at the
-- span.
use Rattle.std.specs.Prelude.{ℕ, ◌≡◌, List, ◌++◌, decimal, codes, refl}
use Rattle.std.specs.Fmt.{digits}
use Rattle.fab_net.specs.declared.fault.NetFault.{NetFault}
use Rattle.fab_net.specs.declared.fault.NetFault.TheVariants.{UnknownWord, NoName, PinlistWithoutBlock, MissingPinlist, PinCount, SubblockWithoutLogic, DuplicateBlock, NoDriver, TwoDrivers, TooLarge, NoMemory}

abbrev pub net_fault_text : NetFault → List ℕ
net_fault_text (UnknownWord line) = codes "N1 UnknownWord line " ++ decimal line
net_fault_text (NoName line) = codes "N2 NoName line " ++ decimal line
net_fault_text (PinlistWithoutBlock line) = codes "N3 PinlistWithoutBlock line " ++ decimal line
net_fault_text (MissingPinlist span) = codes "N4 MissingPinlist"
net_fault_text (PinCount line) = codes "N5 PinCount line " ++ decimal line
net_fault_text (SubblockWithoutLogic line) = codes "N6 SubblockWithoutLogic line " ++ decimal line
net_fault_text (DuplicateBlock line) = codes "N7 DuplicateBlock line " ++ decimal line
net_fault_text (NoDriver span) = codes "N8 NoDriver"
net_fault_text (TwoDrivers span) = codes "N9 TwoDrivers"
net_fault_text (TooLarge line) = codes "N10 TooLarge line " ++ decimal line
net_fault_text NoMemory = codes "no memory"

pub a_line_of_several_digits : net_fault_text (TooLarge 131071) ≡ codes "N10 TooLarge line 131071"
unfolding digits
a_line_of_several_digits = refl
