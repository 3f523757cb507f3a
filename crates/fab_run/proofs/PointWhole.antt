-- The parts of a checkpoint text, put together.
use Rattle.std.proofs.Common.{◌≡◌, ◌⊎◌, ℕ, ◌≤◌, Bool, List, [], ◌∷◌, Option, Some, None, length, take, drop, codes, sym, subst, inl, inr}
use Rattle.fab_text.specs.Lines.{TextLine}
use Rattle.fab_text.specs.FirstFault.{fault_of_all}
use Rattle.fab_arch.specs.Grid.{GridShape}
use Rattle.fab_net.specs.Netlist.{Netlist}
use Rattle.fab_site.specs.Placement.{PlacementOf}
use Rattle.fab_sched.specs.declared.schedules.Stage.{Stage}
use Rattle.fab_sched.specs.Annealing.{IsLawful, MayStand, Plan}
use Rattle.fab_run.specs.declared.point_fault.PointFault.{PointFault}
use Rattle.fab_run.specs.declared.point_fault.PointFault.TheVariants.{NoMemory, OutOfRange}
use Rattle.fab_run.specs.declared.point_fault.PointField.{PointField}
use Rattle.fab_run.specs.declared.point_fault.PointField.TheVariants as field
use Rattle.fab_run.specs.declared.point_words.Version.{Version}
use Rattle.fab_run.specs.declared.point_words.Version.TheVariants.{One, Two}
use Rattle.fab_run.specs.PointFields.{version_in, number_in, array_in, schedule_in, stage_in}
use Rattle.fab_run.specs.PointMeaning.{IsArrayFor}
use Rattle.fab_run.specs.PointFaults.{DueFault, EndFault, FaultBehind, FieldFault, HeadFault, HeatFault, IsFirstFault, IsRangeOn, IsStageOf, IsTotal, LineFault, ListFault, NamesFault, SeatsFault, StageFault, VersionFault, fixed_fault, grid_of, schedule_of, seat_fault}
use Rattle.fab_run.specs.PointReading.{HeadRead, HeatRead, IsAny, IsRead, NamesRead, SeatsRead, StageRead}
use Rattle.fab_run.proofs.PointParts.{end_by}

-- a fault of the rest is one of the whole

line_map : {A : Type 0} (e : PointFault) (B C : A → List TextLine → Type 0) (n : ℕ) (ls : List TextLine) (o : Option A) → ((a : A) (xs : List TextLine) → B a xs → C a xs) → LineFault e B n ls o → LineFault e C n ls o
line_map e B C n ls None f h = h
line_map e B C n ls (Some a) f h = f a ls h

pub due_map : {A : Type 0} (e : PointFault) (read : TextLine → Option A) (B C : A → List TextLine → Type 0) (ls : List TextLine) → ((a : A) (xs : List TextLine) → B a xs → C a xs) → DueFault e read B ls → DueFault e read C ls
due_map e read B C [] f h = h
due_map e read B C (l ∷ ls) f h = line_map e B C l.number ls (read l) f h

pub field_map : {A : Type 0} (e : PointFault) (read : TextLine → Option A) (IsIn : A → Type 0) (name : PointField) (B C : A → List TextLine → Type 0) (ls : List TextLine) → ((a : A) (xs : List TextLine) → B a xs → C a xs) → FieldFault e read IsIn name B ls → FieldFault e read IsIn name C ls
field_map e read IsIn name B C ls f h =
    due_map e read (λ a xs. ((IsIn a → ⊥) × (e ≡ OutOfRange name)) ⊎ (IsIn a × B a xs)) (λ a xs. ((IsIn a → ⊥) × (e ≡ OutOfRange name)) ⊎ (IsIn a × C a xs)) ls
    (λ a xs x. elim x [
      | inl out ↦ inl out
      | inr within ↦ inr (within.0, f a xs within.1)
    ]) h

pub list_map : (e : PointFault) (of_line : List TextLine → TextLine → Option PointFault) (n : ℕ) (B C : List TextLine → Type 0) (ls : List TextLine) → ((xs : List TextLine) → B xs → C xs) → ListFault e of_line n B ls → ListFault e of_line n C ls
list_map e of_line n B C ls f h = elim h [
  | inl here ↦ inl here
  | inr behind ↦ inr (behind.0, f (drop n ls) behind.1)
]

pub heat_map : (e : PointFault) (v : Version) (p : Plan) (x : ℕ) (B C : ℕ → List TextLine → Type 0) (ls : List TextLine) → ((t : ℕ) (xs : List TextLine) → B t xs → C t xs) → HeatFault e v p x B ls → HeatFault e v p x C ls
heat_map e One p x B C ls f h = (h.0, h.1, f h.0 ls h.2)
heat_map e Two p x B C ls f h = field_map e (number_in (codes "temperature")) (MayStand p x) field.Temperature B C ls f h

pub head_map : (e : PointFault) (io_rat : ℕ) (d : Netlist) (v : Version) (B C : GridShape → Plan → List TextLine → Type 0) (ls : List TextLine) → ((g : GridShape) (p : Plan) (xs : List TextLine) → B g p xs → C g p xs) → HeadFault e io_rat d v B ls → HeadFault e io_rat d v C ls
head_map e io_rat d v B C ls f h = due_map e (number_in (codes "seed")) _ _ ls (λ seed xs.
    field_map e array_in (λ a. IsArrayFor io_rat d (grid_of a)) field.Array _ _ xs (λ a ys.
    field_map e (schedule_in v) (λ s. IsLawful (schedule_of s)) field.Schedule _ _ ys (λ s zs. f (grid_of a) (schedule_of s) zs))) h

pub stage_map : (e : PointFault) (v : Version) (g : GridShape) (p : Plan) (B C : List TextLine → Type 0) (ls : List TextLine) → ((xs : List TextLine) → B xs → C xs) → StageFault e v g p B ls → StageFault e v g p C ls
stage_map e v g p B C ls f h = field_map e stage_in (IsStageOf p) field.Stage _ _ ls (λ x xs.
    heat_map e v p x.0 _ _ xs (λ t ys.
    field_map e (number_in (codes "range")) (IsRangeOn g) field.Range _ _ ys (λ range zs.
    field_map e (number_in (codes "total")) (IsTotal p x) field.Total _ _ zs (λ total ws. f ws)))) h

pub names_map : (e : PointFault) (v : Version) (d : Netlist) (B C : List TextLine → Type 0) (ls : List TextLine) → ((xs : List TextLine) → B xs → C xs) → NamesFault e v d B ls → NamesFault e v d C ls
names_map e v d B C ls f h = field_map e (number_in (codes "fixed")) (λ n. n ≤ length d.kinds) field.Fixed _ _ ls (λ n xs. list_map e (fixed_fault v d) n B C xs f) h

pub seats_map : (e : PointFault) (d : Netlist) (g : GridShape) (B C : List TextLine → Type 0) (ls : List TextLine) → ((xs : List TextLine) → B xs → C xs) → SeatsFault e d g B ls → SeatsFault e d g C ls
seats_map e d g B C ls f h = field_map e (number_in (codes "places")) (λ m. m ≡ length d.kinds) field.Places _ _ ls (λ m xs. list_map e (seat_fault d g) m B C xs f) h

-- a fault after what was read

pub due_past : {A : Type 0} (e : PointFault) (read : TextLine → Option A) (IsIn : A → Type 0) (B : A → List TextLine → Type 0) (ls : List TextLine) (a : A) (behind : List TextLine) → IsRead read IsIn ls a behind → B a behind → DueFault e read B ls
due_past e read IsIn B ls a behind r h =
    let at : DueFault e read B (r.line ∷ behind) = subst (LineFault e B r.line.number behind) (sym r.says) h in
    subst (DueFault e read B) (sym r.text) at

pub field_past : {A : Type 0} (e : PointFault) (read : TextLine → Option A) (IsIn : A → Type 0) (name : PointField) (B : A → List TextLine → Type 0) (ls : List TextLine) (a : A) (behind : List TextLine) → IsRead read IsIn ls a behind → B a behind → FieldFault e read IsIn name B ls
field_past e read IsIn name B ls a behind r h = due_past e read IsIn (λ a xs. ((IsIn a → ⊥) × (e ≡ OutOfRange name)) ⊎ (IsIn a × B a xs)) ls a behind r (inr (r.within, h))

pub heat_past : (e : PointFault) (v : Version) (p : Plan) (x : ℕ) (B : ℕ → List TextLine → Type 0) (ls : List TextLine) (t : ℕ) (behind : List TextLine) → HeatRead v p x ls t behind → B t behind → HeatFault e v p x B ls
heat_past e One p x B ls t behind r h = (t, r.1, subst (B t) r.0 h)
heat_past e Two p x B ls t behind r h = field_past e (number_in (codes "temperature")) (MayStand p x) field.Temperature B ls t behind r h

pub head_past : (e : PointFault) (io_rat : ℕ) (d : Netlist) (v : Version) (B : GridShape → Plan → List TextLine → Type 0) (ls : List TextLine) (seed : ℕ) (g : GridShape) (p : Plan) (behind : List TextLine) → HeadRead v io_rat d ls seed g p behind → B g p behind → HeadFault e io_rat d v B ls
head_past e io_rat d v B ls seed g p behind r h =
    due_past e (number_in (codes "seed")) IsAny _ ls seed r.after_seed r.seed_read
    (field_past e array_in (λ a. IsArrayFor io_rat d (grid_of a)) field.Array _ r.after_seed (g.nx, g.ny, g.io_rat) r.after_array r.array_read
    (field_past e (schedule_in v) (λ s. IsLawful (schedule_of s)) field.Schedule _ r.after_array (p.init, p.exit, p.cooling, p.moves) behind r.schedule_read h))

pub stage_past : (e : PointFault) (v : Version) (g : GridShape) (p : Plan) (B : List TextLine → Type 0) (ls : List TextLine) (s : Stage) (total : ℕ) (behind : List TextLine) → StageRead v g p ls s total behind → B behind → StageFault e v g p B ls
stage_past e v g p B ls s total behind r h =
    field_past e stage_in (IsStageOf p) field.Stage _ ls (s.index, s.done, s.accepted) r.after_stage r.stage_read
    (heat_past e v p s.index _ r.after_stage s.t r.after_heat r.heat_read
    (field_past e (number_in (codes "range")) (IsRangeOn g) field.Range _ r.after_heat s.range r.after_range r.range_read
    (field_past e (number_in (codes "total")) (IsTotal p (s.index, s.done, s.accepted)) field.Total _ r.after_range total behind r.total_read h)))

list_past : (e : PointFault) (of_line : List TextLine → TextLine → Option PointFault) (n : ℕ) (B : List TextLine → Type 0) (ls behind : List TextLine) → fault_of_all of_line (end_by n) (take n ls) ≡ None → behind ≡ drop n ls → B behind → ListFault e of_line n B ls
list_past e of_line n B ls behind clean rest h = inr (clean, subst B rest h)

pub names_past : (e : PointFault) (v : Version) (d : Netlist) (B : List TextLine → Type 0) (ls : List TextLine) (named : List Bool) (behind : List TextLine) → NamesRead v d ls named behind → B behind → NamesFault e v d B ls
names_past e v d B ls named behind r h =
    field_past e (number_in (codes "fixed")) (λ n. n ≤ length d.kinds) field.Fixed _ ls r.many r.after r.count_read
    (list_past e (fixed_fault v d) r.many B r.after behind r.names.clean r.names.rest h)

pub seats_past : (e : PointFault) (d : Netlist) (g : GridShape) (B : List TextLine → Type 0) (ls : List TextLine) (placement : PlacementOf) (behind : List TextLine) → SeatsRead d g ls placement behind → B behind → SeatsFault e d g B ls
seats_past e d g B ls placement behind r h =
    field_past e (number_in (codes "places")) (λ m. m ≡ length d.kinds) field.Places _ ls (length d.kinds) r.after r.count_read
    (list_past e (seat_fault d g) (length d.kinds) B r.after behind r.seats.clean r.seats.rest h)

pub first_past : (e : PointFault) (io_rat : ℕ) (d : Netlist) (ls : List TextLine) (v : Version) (behind : List TextLine) → IsRead version_in (λ v. Unit {0}) ls v behind → FaultBehind e io_rat d v behind → IsFirstFault io_rat d ls e
first_past e io_rat d ls v behind r h =
    let at : IsFirstFault io_rat d (r.line ∷ behind) e = subst (VersionFault e (FaultBehind e io_rat d) behind) (sym r.says) h in
    subst (λ xs. IsFirstFault io_rat d xs e) (sym r.text) at

-- the fault of a part, where the parts before it were read

abbrev pub BehindNames : PointFault → Netlist → GridShape → List TextLine → Type 0
BehindNames e d g = SeatsFault e d g (EndFault e)

abbrev pub BehindStage : PointFault → Version → Netlist → GridShape → List TextLine → Type 0
BehindStage e v d g = NamesFault e v d (BehindNames e d g)

abbrev pub BehindHead : PointFault → Version → Netlist → GridShape → Plan → List TextLine → Type 0
BehindHead e v d g p = StageFault e v g p (BehindStage e v d g)

pub in_head : (e : PointFault) (io_rat : ℕ) (d : Netlist) (ls : List TextLine) (v : Version) (behind : List TextLine) → IsRead version_in (λ v. Unit {0}) ls v behind → (e ≡ NoMemory) ⊎ HeadFault e io_rat d v (λ g p xs. ⊥) behind → (e ≡ NoMemory) ⊎ IsFirstFault io_rat d ls e
in_head e io_rat d ls v behind r h = elim h [
  | inl memory ↦ inl memory
  | inr fault ↦ inr (first_past e io_rat d ls v behind r (head_map e io_rat d v (λ g p xs. ⊥) (BehindHead e v d) behind (λ g p xs x. absurd x) fault))
]

-- the array and the schedule, and what was read before the running stage
pub record HasHead (io_rat : ℕ) (d : Netlist) (ls : List TextLine) (v : Version) (seed : ℕ) (g : GridShape) (p : Plan) (behind : List TextLine) : Type 0 where
  pub after_version : List TextLine
  pub version : IsRead version_in (λ v. Unit {0}) ls v after_version
  pub head : HeadRead v io_rat d after_version seed g p behind

pub has_head : (io_rat : ℕ) (d : Netlist) (ls : List TextLine) (v : Version) (seed : ℕ) (g : GridShape) (p : Plan) (mid behind : List TextLine) → IsRead version_in (λ v. Unit {0}) ls v mid → HeadRead v io_rat d mid seed g p behind → HasHead io_rat d ls v seed g p behind
has_head io_rat d ls v seed g p mid behind version head = record { after_version = mid; version = version; head = head }

past_head : (e : PointFault) (io_rat : ℕ) (d : Netlist) (ls : List TextLine) (v : Version) (seed : ℕ) (g : GridShape) (p : Plan) (behind : List TextLine) → HasHead io_rat d ls v seed g p behind → BehindHead e v d g p behind → IsFirstFault io_rat d ls e
past_head e io_rat d ls v seed g p behind r h =
    first_past e io_rat d ls v r.after_version r.version (head_past e io_rat d v (BehindHead e v d) r.after_version seed g p behind r.head h)

pub in_stage : (e : PointFault) (io_rat : ℕ) (d : Netlist) (ls : List TextLine) (v : Version) (seed : ℕ) (g : GridShape) (p : Plan) (behind : List TextLine) → HasHead io_rat d ls v seed g p behind → (e ≡ NoMemory) ⊎ StageFault e v g p (λ xs. ⊥) behind → (e ≡ NoMemory) ⊎ IsFirstFault io_rat d ls e
in_stage e io_rat d ls v seed g p behind r h = elim h [
  | inl memory ↦ inl memory
  | inr fault ↦ inr (past_head e io_rat d ls v seed g p behind r (stage_map e v g p (λ xs. ⊥) (BehindStage e v d g) behind (λ xs x. absurd x) fault))
]

pub in_names : (e : PointFault) (io_rat : ℕ) (d : Netlist) (ls : List TextLine) (v : Version) (seed : ℕ) (g : GridShape) (p : Plan) (s : Stage) (total : ℕ) (mid behind : List TextLine) → HasHead io_rat d ls v seed g p mid → StageRead v g p mid s total behind
    → (e ≡ NoMemory) ⊎ NamesFault e v d (λ xs. ⊥) behind → (e ≡ NoMemory) ⊎ IsFirstFault io_rat d ls e
in_names e io_rat d ls v seed g p s total mid behind r t h = elim h [
  | inl memory ↦ inl memory
  | inr fault ↦ inr (past_head e io_rat d ls v seed g p mid r (stage_past e v g p (BehindStage e v d g) mid s total behind t (names_map e v d (λ xs. ⊥) (BehindNames e d g) behind (λ xs x. absurd x) fault)))
]

pub in_seats : (e : PointFault) (io_rat : ℕ) (d : Netlist) (ls : List TextLine) (v : Version) (seed : ℕ) (g : GridShape) (p : Plan) (s : Stage) (total : ℕ) (named : List Bool) (mid after behind : List TextLine) → HasHead io_rat d ls v seed g p mid → StageRead v g p mid s total after → NamesRead v d after named behind
    → (e ≡ NoMemory) ⊎ SeatsFault e d g (λ xs. ⊥) behind → (e ≡ NoMemory) ⊎ IsFirstFault io_rat d ls e
in_seats e io_rat d ls v seed g p s total named mid after behind r t n h = elim h [
  | inl memory ↦ inl memory
  | inr fault ↦ inr (past_head e io_rat d ls v seed g p mid r (stage_past e v g p (BehindStage e v d g) mid s total after t (names_past e v d (BehindNames e d g) after named behind n (seats_map e d g (λ xs. ⊥) (EndFault e) behind (λ xs x. absurd x) fault))))
]

pub in_end : (e : PointFault) (io_rat : ℕ) (d : Netlist) (ls : List TextLine) (v : Version) (seed : ℕ) (g : GridShape) (p : Plan) (s : Stage) (total : ℕ) (named : List Bool) (placement : PlacementOf) (mid after then behind : List TextLine) → HasHead io_rat d ls v seed g p mid → StageRead v g p mid s total after → NamesRead v d after named then → SeatsRead d g then placement behind
    → (e ≡ NoMemory) ⊎ EndFault e behind → (e ≡ NoMemory) ⊎ IsFirstFault io_rat d ls e
in_end e io_rat d ls v seed g p s total named placement mid after then behind r t n u h = elim h [
  | inl memory ↦ inl memory
  | inr fault ↦ inr (past_head e io_rat d ls v seed g p mid r (stage_past e v g p (BehindStage e v d g) mid s total after t (names_past e v d (BehindNames e d g) after named then n (seats_past e d g (EndFault e) then placement behind u fault))))
]
