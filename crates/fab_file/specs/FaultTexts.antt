-- How a fault is printed (our own): its code and its name, and the line or the block if it has one.
use Rattle.std.specs.Prelude.{ℕ, ◌≡◌, List, ◌++◌, decimal, codes, refl}
use Rattle.std.specs.Fmt.{digits}
use Rattle.fab_file.specs.declared.fault.PlaceFault.{PlaceFault}
use Rattle.fab_file.specs.declared.fault.PlaceFault.TheVariants.{BadHeader, WrongSize, UnknownBlock, Repeated, NoSuchSite, WrongKind, Taken, Missing, NotAPad, BadLine, BadLabel, Write, NoMemory}

abbrev pub place_fault_text : PlaceFault → List ℕ
place_fault_text BadHeader = codes "P1 BadHeader"
place_fault_text WrongSize = codes "P2 WrongSize"
place_fault_text (UnknownBlock line) = codes "P3 UnknownBlock line " ++ decimal line
place_fault_text (Repeated line) = codes "P4 Repeated line " ++ decimal line
place_fault_text (NoSuchSite line) = codes "P5 NoSuchSite line " ++ decimal line
place_fault_text (WrongKind line) = codes "P6 WrongKind line " ++ decimal line
place_fault_text (Taken line) = codes "P7 Taken line " ++ decimal line
place_fault_text (Missing block) = codes "P8 Missing block " ++ decimal block
place_fault_text (NotAPad line) = codes "P9 NotAPad line " ++ decimal line
place_fault_text (BadLine line) = codes "P10 BadLine line " ++ decimal line
place_fault_text BadLabel = codes "P11 BadLabel"
place_fault_text Write = codes "the writer failed"
place_fault_text NoMemory = codes "no memory"

pub a_block_of_one_digit : place_fault_text (Missing 2) ≡ codes "P8 Missing block 2"
unfolding digits
a_block_of_one_digit = refl
