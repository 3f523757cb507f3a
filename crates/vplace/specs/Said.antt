-- What is printed on standard error (our own).
use Rattle.std.specs.Prelude.{ℕ, ◌≡◌, ◌<◌, ◌⊎◌, List, ◌++◌, Option, Some, codes, length, refl}
use Rattle.std.specs.Io.KnownBytes.{Appends}
use Rattle.fab_text.specs.Failures.{grown}
use Rattle.fab_text.specs.FaultTexts.{num_fault_text}
use Rattle.fab_text.specs.declared.numbers.NumFault.TheVariants.{BadDigit}
use Rattle.fab_file.specs.declared.fault.PlaceFault.TheVariants.{Write}
use Rattle.fab_run.specs.declared.fault.RunFault.{RunFault}
use Rattle.fab_run.specs.declared.fault.RunFault.TheVariants.{Place as RunPlace}
use Rattle.fab_run.specs.FaultLines.{fault_line}
use Rattle.vplace.specs.declared.files.WriteFault.TheVariants.{Unwritable}
use Rattle.vplace.specs.declared.out_file.Refusal.{Refusal}
use Rattle.vplace.specs.declared.status.Status.{Status}
use Rattle.vplace.specs.declared.status.Status.TheVariants.{NoMemory, Device}
use Rattle.vplace.specs.Files.{Held, Lacks}
use Rattle.vplace.specs.Status.{status_of}
use Rattle.vplace.specs.declared.messages.Role.{Role}
use Rattle.vplace.specs.declared.messages.Role.TheVariants.{Arch, Net, Pads, Place, Point}
use Rattle.vplace.specs.declared.messages.OutRole.{OutRole}
use Rattle.vplace.specs.declared.messages.OutRole.TheVariants.{Place as OutPlace, Point as OutPoint}
use Rattle.vplace.specs.declared.requests.Number.{Number}
use Rattle.vplace.specs.declared.requests.Number.TheVariants.{InitT, ExitT, AlphaT}
use Rattle.vplace.specs.declared.requests.WordFault.{WordFault}
use Rattle.vplace.specs.declared.requests.WordFault.TheVariants.{SizeInPart, StopInPart, BadNumber}

-- the line was written, with a line feed at its end, unless the writer failed
abbrev pub IsSaid : List ℕ → Option (List ℕ) → Option (List ℕ) → ℕ → ℕ → Type 0
IsSaid line old new failed_old failed_new = Appends old new (line ++ codes "\n") ⊎ (failed_new ≡ grown failed_old)

-- something was printed: a text that is not empty was written, unless the writer failed
abbrev pub IsFaultSaid : Option (List ℕ) → Option (List ℕ) → ℕ → ℕ → Type 0
IsFaultSaid old new failed_old failed_new = (text : List ℕ) × (0 < length text) × (Appends old new text ⊎ (failed_new ≡ grown failed_old))

-- the line of a report that cannot be written
abbrev pub report_line : List ℕ
report_line = codes "vplace: cannot write report"

-- the line of a lack of memory
abbrev pub no_memory_line : List ℕ
no_memory_line = codes "vplace: no memory"

-- the line of a file that cannot be read
abbrev pub unreadable_line : Role → List ℕ
unreadable_line Arch = codes "vplace: cannot read arch"
unreadable_line Net = codes "vplace: cannot read net"
unreadable_line Pads = codes "vplace: cannot read pads"
unreadable_line Place = codes "vplace: cannot read place"
unreadable_line Point = codes "vplace: cannot read point"

-- the line of a file that cannot be written
abbrev pub unwritable_line : OutRole → List ℕ
unwritable_line OutPlace = codes "vplace: cannot write place"
unwritable_line OutPoint = codes "vplace: cannot write point"

-- a file of this role and name was not read, and that is printed: no file has the name, or memory ran out
abbrev pub IsUnread : Option Held → Role → List ℕ → Status → (List ℕ → Type 0) → Type 0
IsUnread held role name status Said =
    ((status ≡ Device) × Lacks held name × Said (unreadable_line role)) ⊎ ((status ≡ NoMemory) × Said no_memory_line)

-- what is printed of a run that gave no answer. If memory ran out (for the run, its place text, a place at a name, or the line of its
-- fault), it is that. If the writer of the place text failed otherwise, it is which name was refused. For any other fault it is its line
abbrev pub IsFaultTold : RunFault → Option Refusal → List ℕ → Status → (List ℕ → Type 0) → Type 0
IsFaultTold fault refusal net status Said =
    ((status ≡ NoMemory) × Said no_memory_line)
    ⊎ (((fault ≡ RunPlace Write) × (status ≡ Device) × (x : Refusal) × (refusal ≡ Some x) × (x.fault ≡ Unwritable) × Said (unwritable_line x.role))
    ⊎ ((fault ≡ RunPlace Write → ⊥) × (status_of fault ≡ NoMemory → ⊥) × (status ≡ status_of fault) × Said (fault_line fault net)))

-- a run or a check was refused for a fault of its inputs, and the line of the fault is printed
abbrev pub IsToldRefusal : (RunFault → Type 0) → List ℕ → Status → (List ℕ → Type 0) → Type 0
IsToldRefusal IsFault net status Said = (fault : RunFault) × IsFault fault × (status_of fault ≡ status) × Said (fault_line fault net)

-- the name of a number's option
abbrev pub option_name : Number → List ℕ
option_name InitT = codes "init-t"
option_name ExitT = codes "exit-t"
option_name AlphaT = codes "alpha-t"

-- the line of a fault of the words
abbrev pub word_fault_line : WordFault → List ℕ
word_fault_line SizeInPart = codes "vplace: --nx and --ny go together"
word_fault_line StopInPart = codes "vplace: --stop and --save go together"
word_fault_line (BadNumber option fault) = codes "vplace: option " ++ option_name option ++ codes ": " ++ num_fault_text fault

pub a_factor_with_letters : word_fault_line (BadNumber AlphaT BadDigit) ≡ codes "vplace: option alpha-t: U1 BadDigit"
a_factor_with_letters = refl
