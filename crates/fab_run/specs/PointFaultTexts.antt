-- The text of a fault of a checkpoint text (our own): its code, its name and its detail.
use Rattle.std.specs.Prelude.{ℕ, ◌≡◌, List, ◌++◌, decimal, codes, refl}
use Rattle.std.specs.Fmt.{digits}
use Rattle.fab_file.specs.declared.fault.PlaceFault.{PlaceFault}
use Rattle.fab_file.specs.declared.fault.PlaceFault.TheVariants.{NotAPad, NoMemory as PlaceNoMemory}
use Rattle.fab_file.specs.FaultTexts.{place_fault_text}
use Rattle.fab_run.specs.declared.point_fault.PointField.{PointField}
use Rattle.fab_run.specs.declared.point_fault.PointField.TheVariants.{Array, Schedule, Stage, Temperature, Range, Total, Fixed, Places}
use Rattle.fab_run.specs.declared.point_fault.PointFault.{PointFault}
use Rattle.fab_run.specs.declared.point_fault.PointFault.TheVariants.{BadVersion, BadField, OutOfRange, Block, Write, NoMemory}

-- the word of a field
abbrev pub field_word : PointField → List ℕ
field_word Array = codes "array"
field_word Schedule = codes "schedule"
field_word Stage = codes "stage"
field_word Temperature = codes "temperature"
field_word Range = codes "range"
field_word Total = codes "total"
field_word Fixed = codes "fixed"
field_word Places = codes "places"

-- the text of a checkpoint's fault
abbrev pub point_fault_text : PointFault → List ℕ
point_fault_text BadVersion = codes "C1 BadVersion"
point_fault_text (BadField line) = codes "C2 BadField line " ++ decimal line
point_fault_text (OutOfRange field) = codes "C3 OutOfRange field " ++ field_word field
point_fault_text (Block fault) = place_fault_text fault
point_fault_text Write = codes "the writer failed"
point_fault_text NoMemory = codes "no memory"

-- the fault of a line, or the lack of memory that its reader met
abbrev pub of_line_fault : PlaceFault → PointFault
of_line_fault PlaceNoMemory = NoMemory
of_line_fault fault = Block fault

pub a_stage_out_of_range : point_fault_text (OutOfRange Stage) ≡ codes "C3 OutOfRange field stage"
a_stage_out_of_range = refl

pub a_text_that_ends_too_early : point_fault_text (BadField 0) ≡ codes "C2 BadField line 0"
unfolding digits
a_text_that_ends_too_early = refl

pub a_fixed_block_that_is_no_pad : point_fault_text (Block (NotAPad 10)) ≡ codes "P9 NotAPad line 10"
unfolding digits
a_fixed_block_that_is_no_pad = refl
