-- How a fault is printed (our own): its code and its name, or words if it has no code.
use Rattle.std.specs.Prelude.{ℕ, ◌≡◌, List, codes, refl}
use Rattle.fab_text.specs.declared.numbers.NumFault.{NumFault}
use Rattle.fab_text.specs.declared.numbers.NumFault.TheVariants.{BadDigit, TooManyPlaces, TooLarge}
use Rattle.fab_text.specs.declared.output.WriteFault.{WriteFault}

abbrev pub num_fault_text : NumFault → List ℕ
num_fault_text BadDigit = codes "U1 BadDigit"
num_fault_text TooManyPlaces = codes "U2 TooManyPlaces"
num_fault_text TooLarge = codes "U3 TooLarge"

abbrev pub write_fault_text : WriteFault → List ℕ
write_fault_text fault = codes "the writer failed"

pub too_large_is_printed : num_fault_text TooLarge ≡ codes "U3 TooLarge"
too_large_is_printed = refl
