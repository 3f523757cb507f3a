-- No fault of a checkpoint text is that of its writer.
use Rattle.std.proofs.Common.{◌≡◌, ◌⊎◌, ℕ, ◌≤◌, Bool, true, false, eqb, List, [], ◌∷◌, ◌++◌, Option, Some, None, length, take, drop, codes, refl, sym, ap, ◌∙◌, inl, inr}
use Rattle.std.specs.Prelude.{option_map}
use Rattle.std.proofs.lemmas.Bool.{false≢true}
use Rattle.fab_text.specs.Lines.{TextLine}
use Rattle.fab_text.specs.FirstFault.{or_else, unless, fault_behind, fault_of_all}
use Rattle.fab_arch.specs.Grid.{GridShape}
use Rattle.fab_net.specs.Netlist.{Netlist}
use Rattle.fab_sched.specs.Annealing.{IsLawful, MayStand, Plan}
use Rattle.fab_file.specs.declared.fault.PlaceFault.{PlaceFault}
use Rattle.fab_run.specs.Check.{IsTextFault}
use Rattle.fab_run.specs.declared.point_fault.PointFault.{PointFault}
use Rattle.fab_run.specs.declared.point_fault.PointFault.TheVariants.{BadField, BadVersion, Block, NoMemory, OutOfRange, Write}
use Rattle.fab_run.specs.declared.point_fault.PointField.{PointField}
use Rattle.fab_run.specs.declared.point_fault.PointField.TheVariants as field
use Rattle.fab_run.specs.declared.point_words.Version.{Version}
use Rattle.fab_run.specs.declared.point_words.Version.TheVariants.{One, Two}
use Rattle.fab_run.specs.PointFields.{version_in, number_in, array_in, schedule_in, stage_in, is_end}
use Rattle.fab_run.specs.PointFaults.{DueFault, EndFault, FaultBehind, FieldFault, HeadFault, HeatFault, IsFirstFault, IsPointFault, IsRangeOn, IsStageOf, IsTotal, LastFault, LineFault, ListFault, MoreFault, NamesFault, SeatsFault, StageFault, VersionFault, fixed_fault, grid_of, schedule_of, seat_fault}
use Rattle.fab_run.specs.PointMeaning.{IsArrayFor}
use Rattle.fab_run.specs.RunFaults.{of_point}

version_never : (B : Version → List TextLine → Type 0) → ((v : Version) (ls : List TextLine) → B v ls → ⊥) → (ls : List TextLine) (o : Option Version) → VersionFault Write B ls o → ⊥
version_never B none ls None h = absurd (let q : Write ≡ BadVersion = h in cc)
version_never B none ls (Some v) h = none v ls h

line_never : {A : Type 0} (B : A → List TextLine → Type 0) → ((a : A) (ls : List TextLine) → B a ls → ⊥) → (n : ℕ) (ls : List TextLine) (o : Option A) → LineFault Write B n ls o → ⊥
line_never B none n ls None h = absurd (let q : Write ≡ BadField n = h in cc)
line_never B none n ls (Some a) h = none a ls h

due_never : {A : Type 0} (read : TextLine → Option A) (B : A → List TextLine → Type 0) → ((a : A) (ls : List TextLine) → B a ls → ⊥) → (ls : List TextLine) → DueFault Write read B ls → ⊥
due_never read B none [] h = absurd (let q : Write ≡ BadField 0 = h in cc)
due_never read B none (l ∷ ls) h = line_never B none l.number ls (read l) h

field_never : {A : Type 0} (read : TextLine → Option A) (IsIn : A → Type 0) (name : PointField) (B : A → List TextLine → Type 0) → ((a : A) (ls : List TextLine) → B a ls → ⊥) → (ls : List TextLine) → FieldFault Write read IsIn name B ls → ⊥
field_never read IsIn name B none ls h =
    due_never read (λ a behind. ((IsIn a → ⊥) × (Write ≡ OutOfRange name)) ⊎ (IsIn a × B a behind)) (λ a behind k. elim k [ inl out ↦ absurd (let q : Write ≡ OutOfRange name = out.1 in cc) | inr within ↦ none a behind within.1 ]) ls h

abbrev is_written : Option PointFault → Bool
is_written None = false
is_written (Some BadVersion) = false
is_written (Some (BadField n)) = false
is_written (Some (OutOfRange f)) = false
is_written (Some (Block e)) = false
is_written (Some Write) = true
is_written (Some NoMemory) = false

or_else_never : (f g : Option PointFault) → is_written f ≡ false → is_written g ≡ false → is_written (or_else f g) ≡ false
or_else_never None g h k = k
or_else_never (Some e) g h k = h

unless_never : (b : Bool) → is_written (unless b (BadField 0)) ≡ false
unless_never true = refl
unless_never false = refl

block_never : (f : Option PlaceFault) → is_written (option_map (λ e. Block e) f) ≡ false
block_never None = refl
block_never (Some e) = refl

all_never : (of_line : List TextLine → TextLine → Option PointFault) (last : List TextLine → Option PointFault) → ((before : List TextLine) (l : TextLine) → is_written (of_line before l) ≡ false) → ((there : List TextLine) → is_written (last there) ≡ false) → (before ls : List TextLine)
    → is_written (fault_behind of_line last before ls) ≡ false
all_never of_line last each end before [] = end before
all_never of_line last each end before (l ∷ ls) = or_else_never (of_line before l) _ (each before l) (all_never of_line last each end (before ++ l ∷ []) ls)

list_never : (of_line : List TextLine → TextLine → Option PointFault) (n : ℕ) (B : List TextLine → Type 0) → ((before : List TextLine) (l : TextLine) → is_written (of_line before l) ≡ false) → ((ls : List TextLine) → B ls → ⊥) → (ls : List TextLine) → ListFault Write of_line n B ls → ⊥
list_never of_line n B each none ls h = elim h [
  | inl here ↦
      let clean : is_written (fault_of_all of_line (λ there. unless (eqb (length there) n) (BadField 0)) (take n ls)) ≡ false = all_never of_line (λ there. unless (eqb (length there) n) (BadField 0)) each (λ there. unless_never (eqb (length there) n)) [] (take n ls) in
      absurd (false≢true (sym clean ∙ ap is_written here))
  | inr later ↦ none (drop n ls) later.1
]

heat_never : (v : Version) (p : Plan) (x : ℕ) (B : ℕ → List TextLine → Type 0) → ((t : ℕ) (ls : List TextLine) → B t ls → ⊥) → (ls : List TextLine) → HeatFault Write v p x B ls → ⊥
heat_never One p x B none ls h = none h.0 ls h.2
heat_never Two p x B none ls h = field_never (number_in (codes "temperature")) (MayStand p x) field.Temperature B none ls h

more_never : (ls : List TextLine) → MoreFault Write ls → ⊥
more_never [] h = h
more_never (l ∷ ls) h = absurd (let q : Write ≡ BadField l.number = h in cc)

last_never : (n : ℕ) (ls : List TextLine) (b : Bool) → LastFault Write n ls b → ⊥
last_never n ls true h = more_never ls h
last_never n ls false h = absurd (let q : Write ≡ BadField n = h in cc)

end_never : (ls : List TextLine) → EndFault Write ls → ⊥
end_never [] h = absurd (let q : Write ≡ BadField 0 = h in cc)
end_never (l ∷ ls) h = last_never l.number ls (is_end l) h

seats_never : (d : Netlist) (g : GridShape) (B : List TextLine → Type 0) → ((ls : List TextLine) → B ls → ⊥) → (ls : List TextLine) → SeatsFault Write d g B ls → ⊥
seats_never d g B none ls h =
    field_never (number_in (codes "places")) (λ m. m ≡ length d.kinds) field.Places (λ m. ListFault Write (seat_fault d g) m B) (λ m behind. list_never (seat_fault d g) m B (λ before l. block_never _) none behind) ls h

names_never : (v : Version) (d : Netlist) (B : List TextLine → Type 0) → ((ls : List TextLine) → B ls → ⊥) → (ls : List TextLine) → NamesFault Write v d B ls → ⊥
names_never v d B none ls h =
    field_never (number_in (codes "fixed")) (λ n. n ≤ length d.kinds) field.Fixed (λ n. ListFault Write (fixed_fault v d) n B) (λ n behind. list_never (fixed_fault v d) n B (λ before l. block_never _) none behind) ls h

stage_never : (v : Version) (g : GridShape) (p : Plan) (B : List TextLine → Type 0) → ((ls : List TextLine) → B ls → ⊥) → (ls : List TextLine) → StageFault Write v g p B ls → ⊥
stage_never v g p B none ls h =
    field_never stage_in (IsStageOf p) field.Stage (λ x. HeatFault Write v p x.0 (λ t. FieldFault Write (number_in (codes "range")) (IsRangeOn g) field.Range (λ range. FieldFault Write (number_in (codes "total")) (IsTotal p x) field.Total (λ total. B))))
    (λ x. heat_never v p x.0 (λ t. FieldFault Write (number_in (codes "range")) (IsRangeOn g) field.Range (λ range. FieldFault Write (number_in (codes "total")) (IsTotal p x) field.Total (λ total. B)))
    (λ t. field_never (number_in (codes "range")) (IsRangeOn g) field.Range (λ range. FieldFault Write (number_in (codes "total")) (IsTotal p x) field.Total (λ total. B))
    (λ range. field_never (number_in (codes "total")) (IsTotal p x) field.Total (λ total. B) (λ total. none)))) ls h

head_never : (io_rat : ℕ) (d : Netlist) (v : Version) (B : GridShape → Plan → List TextLine → Type 0) → ((g : GridShape) (p : Plan) (ls : List TextLine) → B g p ls → ⊥) → (ls : List TextLine) → HeadFault Write io_rat d v B ls → ⊥
head_never io_rat d v B none ls h =
    due_never (number_in (codes "seed")) (λ seed. FieldFault Write array_in (λ a. IsArrayFor io_rat d (grid_of a)) field.Array (λ a. FieldFault Write (schedule_in v) (λ s. IsLawful (schedule_of s)) field.Schedule (λ s. B (grid_of a) (schedule_of s))))
    (λ seed. field_never array_in (λ a. IsArrayFor io_rat d (grid_of a)) field.Array (λ a. FieldFault Write (schedule_in v) (λ s. IsLawful (schedule_of s)) field.Schedule (λ s. B (grid_of a) (schedule_of s)))
    (λ a. field_never (schedule_in v) (λ s. IsLawful (schedule_of s)) field.Schedule (λ s. B (grid_of a) (schedule_of s)) (λ s. none (grid_of a) (schedule_of s)))) ls h

behind_never : (io_rat : ℕ) (d : Netlist) (v : Version) (ls : List TextLine) → FaultBehind Write io_rat d v ls → ⊥
behind_never io_rat d v ls h =
    head_never io_rat d v (λ g p. StageFault Write v g p (NamesFault Write v d (SeatsFault Write d g (EndFault Write))))
    (λ g p. stage_never v g p (NamesFault Write v d (SeatsFault Write d g (EndFault Write)))
    (names_never v d (SeatsFault Write d g (EndFault Write)) (seats_never d g (EndFault Write) end_never))) ls h

first_never : (io_rat : ℕ) (d : Netlist) (ls : List TextLine) → IsFirstFault io_rat d ls Write → ⊥
first_never io_rat d [] h = absurd (let q : Write ≡ BadVersion = h in cc)
first_never io_rat d (l ∷ ls) h = version_never (FaultBehind Write io_rat d) (behind_never io_rat d) ls (version_in l) h

pub point_text : (io_rat : ℕ) (d : Netlist) (ls : List TextLine) (e : PointFault) → IsPointFault io_rat d ls e → IsTextFault (of_point e)
point_text io_rat d ls BadVersion h = tt
point_text io_rat d ls (BadField n) h = tt
point_text io_rat d ls (OutOfRange f) h = tt
point_text io_rat d ls (Block e) h = tt
point_text io_rat d ls Write h = absurd (first_never io_rat d ls h)
point_text io_rat d ls NoMemory h = tt
