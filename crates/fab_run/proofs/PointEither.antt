-- A checkpoint text stands for a point or has a first fault.
use Rattle.std.proofs.Common.{◌≡◌, ◌⊎◌, ℕ, ◌+◌, ◌*◌, ◌<◌, ◌≤◌, Bool, true, false, cond, leb, eqb, List, [], ◌∷◌, Option, Some, None, length, get_or, map, replicate, take, drop, max, codes, zero, suc, refl, sym, ap, ◌∙◌, subst, arith, inl, inr}
use Rattle.std.proofs.lemmas.Bool.{cases_Bool, cases_eq}
use Rattle.std.proofs.lemmas.Bool.Decides.{nat_tests}
use Rattle.std.proofs.lemmas.List.{length-replicate}
use Rattle.fab_text.specs.Lines.{TextLine}
use Rattle.fab_text.specs.FirstFault.{fault_of_all}
use Rattle.fab_arch.specs.declared.array.Site.{Site}
use Rattle.fab_arch.specs.Grid.{GridShape}
use Rattle.fab_net.specs.Netlist.{Netlist, IsLawful as IsLawfulDesign, logic_count, pad_count}
use Rattle.fab_site.specs.Placement.{PlacementOf, fixed_at, site_of}
use Rattle.fab_sched.specs.declared.schedules.Cooling.{Cooling}
use Rattle.fab_sched.specs.declared.schedules.Cooling.TheVariants.{Factor, Adaptive}
use Rattle.fab_sched.specs.declared.schedules.Stage.{Stage}
use Rattle.fab_sched.specs.Annealing.{IsCooling, IsLawful, MayStand, MayStandBy, Plan, heat_by, hot}
use Rattle.fab_file.specs.declared.fault.PlaceFault.{PlaceFault}
use Rattle.fab_file.specs.Taken.{LinesOf, no_lines, take_fault, with_line}
use Rattle.fab_file.proofs.Meaning.{each_there, there}
use Rattle.fab_commit.specs.declared.run.point.Point.{Point}
use Rattle.fab_run.specs.declared.point_fault.PointFault.{PointFault}
use Rattle.fab_run.specs.declared.point_fault.PointFault.TheVariants.{BadField, BadVersion, OutOfRange}
use Rattle.fab_run.specs.declared.point_fault.PointField.{PointField}
use Rattle.fab_run.specs.declared.point_fault.PointField.TheVariants as field
use Rattle.fab_run.specs.declared.point_words.Version.{Version}
use Rattle.fab_run.specs.declared.point_words.Version.TheVariants.{One, Two}
use Rattle.fab_run.specs.PointFields.{version_in, number_in, array_in, schedule_in, stage_in, is_end}
use Rattle.fab_run.specs.PointMeaning.{IsArrayFor, StandsForPoint}
use Rattle.fab_run.specs.PointFaults.{DueFault, EndFault, FieldFault, HeadFault, HeatFault, IsFirstFault, IsRangeOn, IsStageOf, IsTotal, LastFault, LineFault, ListFault, NamesFault, PointMeansOrFaults, SeatsFault, StageFault, VersionFault, FaultBehind, fixed_fault, grid_of, schedule_of, seat_fault}
use Rattle.fab_run.specs.PointReading.{EndRead, HeadRead, HeatRead, IsAny, IsRead, NamesRead, SeatsRead, StageRead}
use Rattle.fab_run.proofs.PointParts.{end_by, taking_fails, taking_missing}
use Rattle.fab_run.proofs.PointLists.{AreAll, Seating, none_named, seated_all, seating_all, seating_fails, seating_none, seating_one}
use Rattle.fab_run.proofs.PointWhole.{BehindHead, BehindNames, BehindStage, HasHead, due_map, due_past, field_map, field_past, head_map, head_past, heat_map, heat_past, names_map, names_past, seats_map, seats_past, stage_map, stage_past}
use Rattle.fab_run.proofs.PointFound.{AreNames, found, names_meant}
use Rattle.fab_run.proofs.PointOne.{Marked, count_none, mark_all, names_of_lawful, never_both, same}
use Rattle.fab_run.proofs.PointFirst.{one_fault}

-- what can be decided

abbrev Decided : Type 0 → Type 0
Decided A = A ⊎ (A → ⊥)

and_too : {A B : Type 0} → Decided A → Decided B → Decided (A × B)
and_too (inl a) (inl b) = inl (a, b)
and_too (inl a) (inr no_b) = inr (λ h. no_b h.1)
and_too (inr no_a) b = inr (λ h. no_a h.0)

or_too : {A B : Type 0} → Decided A → Decided B → Decided (A ⊎ B)
or_too (inl a) b = inl (inl a)
or_too (inr no_a) (inl b) = inl (inr b)
or_too (inr no_a) (inr no_b) = inr (λ h. elim h [ inl a ↦ no_a a | inr b ↦ no_b b ])

at_most : (a b : ℕ) → Decided (a ≤ b)
at_most a b = elim (cases_Bool (leb a b)) [
  | inl y ↦ inl (grind (arith, nat_tests))
  | inr n ↦ inr (λ h. grind (arith, nat_tests))
]

below : (a b : ℕ) → Decided (a < b)
below a b = at_most (suc a) b

equal : (a b : ℕ) → Decided (a ≡ b)
equal a b = cases_eq a b

array_decided : (io_rat : ℕ) (d : Netlist) (g : GridShape) → Decided (IsArrayFor io_rat d g)
array_decided io_rat d g =
    let columns = and_too (at_most 1 g.nx) (at_most g.nx 1000) in
    let rows = and_too (at_most 1 g.ny) (at_most g.ny 1000) in
    let ratio = and_too (at_most 1 g.io_rat) (at_most g.io_rat 64) in
    let here = equal g.io_rat io_rat in
    let holds = and_too (at_most (logic_count d) (g.nx * g.ny)) (at_most (pad_count d) (2 * (g.nx + g.ny) * g.io_rat)) in
    elim (and_too (and_too columns rows) (and_too ratio (and_too here holds))) [
      | inl h ↦ inl (record { limits = record { columns = h.0.0; rows = h.0.1; ratio = h.1.0 }; ratio = h.1.1.0; holds = h.1.1.1 })
      | inr other ↦ inr (λ h. other ((h.limits.columns, h.limits.rows), (h.limits.ratio, (h.ratio, h.holds))))
    ]

cooling_decided : (c : Cooling) → Decided (IsCooling c)
cooling_decided (Factor f) = and_too (at_most 1 f) (at_most f 999)
cooling_decided Adaptive = inl tt

plan_decided : (p : Plan) → Decided (IsLawful p)
plan_decided p =
    let init = and_too (at_most 1 p.init) (at_most p.init 1073741824) in
    let exit = and_too (at_most 1 p.exit) (at_most p.exit 1073741824) in
    let moves = and_too (at_most 1 p.moves) (at_most p.moves 1073741824) in
    elim (and_too (and_too init exit) (and_too (cooling_decided p.cooling) moves)) [
      | inl h ↦ inl (record { init = h.0.0; exit = h.0.1; cooling = h.1.0; moves = h.1.1 })
      | inr other ↦ inr (λ h. other ((h.init, h.exit), (h.cooling, h.moves)))
    ]

heat_decided : (o : Option ℕ) (t : ℕ) → Decided (o ≡ Some t)
heat_decided None t = inr (λ h. let none : None ≡ Some t = h in cc)
heat_decided (Some s) t = elim (cases_eq s t) [
  | inl e ↦ inl (ap (λ x. Some x) e)
  | inr other ↦ inr (λ h. other (let same : Some s ≡ Some t = h in cc))
]

stands_decided : (c : Cooling) (p : Plan) (x t : ℕ) → Decided (MayStandBy c p x t)
stands_decided (Factor f) p x t = heat_decided (heat_by p f x) t
stands_decided Adaptive p zero t = equal t (hot p p.init)
stands_decided Adaptive p (suc x) t = and_too (at_most (p.exit + x) p.init) (or_too (equal t 0) (and_too (at_most p.exit t) (at_most (t + suc x) p.init)))

some_heat : (p : Plan) (f x : ℕ) (o : Option ℕ) → heat_by p f x ≡ o → Decided ((t : ℕ) × (heat_by p f x ≡ Some t))
some_heat p f x None e = inr (λ h. let none : None ≡ Some h.0 = sym e ∙ h.1 in cc)
some_heat p f x (Some t) e = inl (t, e)

stage_decided : (c : Cooling) (p : Plan) (x : ℕ) → Decided ((t : ℕ) × MayStandBy c p x t)
stage_decided (Factor f) p x = some_heat p f x (heat_by p f x) refl
stage_decided Adaptive p zero = inl (hot p p.init, refl)
stage_decided Adaptive p (suc x) = elim (at_most (p.exit + x) p.init) [
  | inl le ↦ inl (0, (le, inl refl))
  | inr no_le ↦ inr (λ h. no_le h.1.0)
]

is_stage_decided : (p : Plan) (x : ℕ × ℕ × ℕ) → Decided (IsStageOf p x)
is_stage_decided p x = elim (and_too (stage_decided p.cooling p x.0) (and_too (below x.1 p.moves) (at_most x.2 x.1))) [
  | inl h ↦ inl (h.0, h.1.0, h.1.1)
  | inr other ↦ inr (λ h. other (h.0, (h.1, h.2)))
]

-- a field is read, or has a fault

pub record Read {A : Type 0} (read : TextLine → Option A) (IsIn : A → Type 0) (ls : List TextLine) : Type 0 where
  pub value : A
  pub behind : List TextLine
  pub is : IsRead read IsIn ls value behind

field_by : {A : Type 0} (read : TextLine → Option A) (IsIn : A → Type 0) (name : PointField) (l : TextLine) (ls : List TextLine) (o : Option A) → read l ≡ o → ((a : A) → Decided (IsIn a)) → Read read IsIn (l ∷ ls) ⊎ ((e : PointFault) × FieldFault e read IsIn name (λ a xs. ⊥) (l ∷ ls))
field_by read IsIn name l ls None is dec = inr (BadField l.number, subst (LineFault (BadField l.number) (λ a xs. ((IsIn a → ⊥) × (BadField l.number ≡ OutOfRange name)) ⊎ (IsIn a × ⊥)) l.number ls) (sym is) refl)
field_by read IsIn name l ls (Some a) is dec = elim (dec a) [
  | inl within ↦ inl (record { value = a; behind = ls; is = record { line = l; text = refl; says = is; within = within } })
  | inr out ↦ inr (OutOfRange name, subst (LineFault (OutOfRange name) (λ a xs. ((IsIn a → ⊥) × (OutOfRange name ≡ OutOfRange name)) ⊎ (IsIn a × ⊥)) l.number ls) (sym is) (inl (out, refl)))
]

field_read : {A : Type 0} (read : TextLine → Option A) (IsIn : A → Type 0) (name : PointField) (ls : List TextLine) → ((a : A) → Decided (IsIn a)) → Read read IsIn ls ⊎ ((e : PointFault) × FieldFault e read IsIn name (λ a xs. ⊥) ls)
field_read read IsIn name [] dec = inr (BadField 0, refl)
field_read read IsIn name (l ∷ ls) dec = field_by read IsIn name l ls (read l) refl dec

seed_by : (read : TextLine → Option ℕ) (l : TextLine) (ls : List TextLine) (o : Option ℕ) → read l ≡ o → Read read IsAny (l ∷ ls) ⊎ ((e : PointFault) × DueFault e read (λ a xs. ⊥) (l ∷ ls))
seed_by read l ls None is = inr (BadField l.number, subst (LineFault (BadField l.number) (λ a xs. ⊥) l.number ls) (sym is) refl)
seed_by read l ls (Some a) is = inl (record { value = a; behind = ls; is = record { line = l; text = refl; says = is; within = tt } })

seed_read : (read : TextLine → Option ℕ) (ls : List TextLine) → Read read IsAny ls ⊎ ((e : PointFault) × DueFault e read (λ a xs. ⊥) ls)
seed_read read [] = inr (BadField 0, refl)
seed_read read (l ∷ ls) = seed_by read l ls (read l) refl

-- the fields before the running stage

record Head (v : Version) (io_rat : ℕ) (d : Netlist) (ls : List TextLine) : Type 0 where
  pub seed : ℕ
  pub grid : GridShape
  pub plan : Plan
  pub behind : List TextLine
  pub is : HeadRead v io_rat d ls seed grid plan behind

abbrev IsHere : ℕ → Netlist → ℕ × ℕ × ℕ → Type 0
IsHere io_rat d a = IsArrayFor io_rat d (grid_of a)

abbrev IsPlan : ℕ × ℕ × Cooling × ℕ → Type 0
IsPlan s = IsLawful (schedule_of s)

head_read : (v : Version) (io_rat : ℕ) (d : Netlist) (ls : List TextLine) → Head v io_rat d ls ⊎ ((e : PointFault) × HeadFault e io_rat d v (λ g p xs. ⊥) ls)
head_read v io_rat d ls = elim (seed_read (number_in (codes "seed")) ls) [
  | inr fault ↦ inr (fault.0, due_map fault.0 (number_in (codes "seed")) (λ a xs. ⊥) (λ seed. FieldFault fault.0 array_in (IsHere io_rat d) field.Array (λ a. FieldFault fault.0 (schedule_in v) IsPlan field.Schedule (λ s xs. ⊥))) ls (λ a xs x. absurd x) fault.1)
  | inl seed ↦ elim (field_read array_in (IsHere io_rat d) field.Array seed.behind (λ a. array_decided io_rat d (grid_of a))) [
    | inr fault ↦ inr (fault.0, past_seed fault.0 seed (field_map fault.0 array_in (IsHere io_rat d) field.Array (λ a xs. ⊥) (λ a. FieldFault fault.0 (schedule_in v) IsPlan field.Schedule (λ s xs. ⊥)) seed.behind (λ a xs x. absurd x) fault.1))
    | inl array ↦ elim (field_read (schedule_in v) IsPlan field.Schedule array.behind (λ s. plan_decided (schedule_of s))) [
      | inr fault ↦ inr (fault.0, past_seed fault.0 seed (past_array fault.0 seed array fault.1))
      | inl plan ↦ inl (record { seed = seed.value; grid = grid_of array.value; plan = schedule_of plan.value; behind = plan.behind; is = record { after_seed = seed.behind; after_array = array.behind; seed_read = seed.is; array_read = array.is; schedule_read = plan.is } })
    ]
  ]
]
  where
    past_seed : (e : PointFault) (seed : Read (number_in (codes "seed")) IsAny ls) → FieldFault e array_in (IsHere io_rat d) field.Array (λ a. FieldFault e (schedule_in v) IsPlan field.Schedule (λ s xs. ⊥)) seed.behind → HeadFault e io_rat d v (λ g p xs. ⊥) ls
    past_seed e seed h = due_past e (number_in (codes "seed")) IsAny (λ seed. FieldFault e array_in (IsHere io_rat d) field.Array (λ a. FieldFault e (schedule_in v) IsPlan field.Schedule (λ s xs. ⊥))) ls seed.value seed.behind seed.is h

    past_array : (e : PointFault) (seed : Read (number_in (codes "seed")) IsAny ls) (array : Read array_in (IsHere io_rat d) seed.behind) → FieldFault e (schedule_in v) IsPlan field.Schedule (λ s xs. ⊥) array.behind → FieldFault e array_in (IsHere io_rat d) field.Array (λ a. FieldFault e (schedule_in v) IsPlan field.Schedule (λ s xs. ⊥)) seed.behind
    past_array e seed array h = field_past e array_in (IsHere io_rat d) field.Array (λ a. FieldFault e (schedule_in v) IsPlan field.Schedule (λ s xs. ⊥)) seed.behind array.value array.behind array.is h

-- the running stage

record AtStage (v : Version) (g : GridShape) (p : Plan) (ls : List TextLine) : Type 0 where
  pub stage : Stage
  pub total : ℕ
  pub behind : List TextLine
  pub is : StageRead v g p ls stage total behind

record AtHeat (v : Version) (p : Plan) (x : ℕ) (ls : List TextLine) : Type 0 where
  pub heat : ℕ
  pub behind : List TextLine
  pub is : HeatRead v p x ls heat behind

heat_read : (v : Version) (p : Plan) (x : ℕ) (ls : List TextLine) → ((t : ℕ) × MayStand p x t) → AtHeat v p x ls ⊎ ((e : PointFault) × HeatFault e v p x (λ t xs. ⊥) ls)
heat_read One p x ls may = inl (record { heat = may.0; behind = ls; is = (refl, may.1) })
heat_read Two p x ls may = elim (field_read (number_in (codes "temperature")) (MayStand p x) field.Temperature ls (λ t. stands_decided p.cooling p x t)) [
  | inl r ↦ inl (record { heat = r.value; behind = r.behind; is = r.is })
  | inr fault ↦ inr fault
]

abbrev RangeOn : PointFault → GridShape → Plan → ℕ × ℕ × ℕ → List TextLine → Type 0
RangeOn e g p x = FieldFault e (number_in (codes "range")) (IsRangeOn g) field.Range (λ range. FieldFault e (number_in (codes "total")) (IsTotal p x) field.Total (λ total xs. ⊥))

stage_past_stage : (e : PointFault) (v : Version) (g : GridShape) (p : Plan) (ls : List TextLine) (r : Read stage_in (IsStageOf p) ls) → HeatFault e v p r.value.0 (λ t. RangeOn e g p r.value) r.behind → StageFault e v g p (λ xs. ⊥) ls
stage_past_stage e v g p ls r h = field_past e stage_in (IsStageOf p) field.Stage (λ x. HeatFault e v p x.0 (λ t. RangeOn e g p x)) ls r.value r.behind r.is h

range_read : (v : Version) (g : GridShape) (p : Plan) (ls : List TextLine) (r : Read stage_in (IsStageOf p) ls) (heat : AtHeat v p r.value.0 r.behind) → AtStage v g p ls ⊎ ((e : PointFault) × StageFault e v g p (λ xs. ⊥) ls)
range_read v g p ls r heat = elim (field_read (number_in (codes "range")) (IsRangeOn g) field.Range heat.behind (λ n. and_too (at_most 1000 n) (at_most n (1000 * max g.nx g.ny)))) [
  | inr fault ↦ inr (fault.0, stage_past_stage fault.0 v g p ls r (heat_past fault.0 v p r.value.0 (λ t. RangeOn fault.0 g p r.value) r.behind heat.heat heat.behind heat.is (field_map fault.0 (number_in (codes "range")) (IsRangeOn g) field.Range (λ a xs. ⊥) (λ range. FieldFault fault.0 (number_in (codes "total")) (IsTotal p r.value) field.Total (λ total xs. ⊥)) heat.behind (λ a xs x. absurd x) fault.1)))
  | inl range ↦ elim (field_read (number_in (codes "total")) (IsTotal p r.value) field.Total range.behind (λ n. and_too (at_most r.value.2 n) (at_most n (r.value.0 * p.moves + r.value.1)))) [
    | inr fault ↦ inr (fault.0, stage_past_stage fault.0 v g p ls r (heat_past fault.0 v p r.value.0 (λ t. RangeOn fault.0 g p r.value) r.behind heat.heat heat.behind heat.is (field_past fault.0 (number_in (codes "range")) (IsRangeOn g) field.Range (λ range. FieldFault fault.0 (number_in (codes "total")) (IsTotal p r.value) field.Total (λ total xs. ⊥)) heat.behind range.value range.behind range.is fault.1)))
    | inl total ↦ inl (record {
      stage = record { index = r.value.0; t = heat.heat; range = range.value; done = r.value.1; accepted = r.value.2; frozen = eqb heat.heat 0 };
      total = total.value;
      behind = total.behind;
      is = record { after_stage = r.behind; after_heat = heat.behind; after_range = range.behind; stage_read = r.is; heat_read = heat.is; range_read = range.is; total_read = total.is; frozen = refl };
    })
  ]
]

stage_read : (v : Version) (g : GridShape) (p : Plan) (ls : List TextLine) → AtStage v g p ls ⊎ ((e : PointFault) × StageFault e v g p (λ xs. ⊥) ls)
stage_read v g p ls = elim (field_read stage_in (IsStageOf p) field.Stage ls (is_stage_decided p)) [
  | inr fault ↦ inr (fault.0, field_map fault.0 stage_in (IsStageOf p) field.Stage (λ a xs. ⊥) (λ x. HeatFault fault.0 v p x.0 (λ t. RangeOn fault.0 g p x)) ls (λ a xs x. absurd x) fault.1)
  | inl r ↦ elim (heat_read v p r.value.0 r.behind r.is.within.0) [
    | inr fault ↦ inr (fault.0, stage_past_stage fault.0 v g p ls r (heat_map fault.0 v p r.value.0 (λ t xs. ⊥) (λ t. RangeOn fault.0 g p r.value) r.behind (λ t xs x. absurd x) fault.1))
    | inl heat ↦ range_read v g p ls r heat
  ]
]

-- the lists

list_decided : (of_line : List TextLine → TextLine → Option PointFault) (n : ℕ) (ls : List TextLine) (o : Option PointFault) → fault_of_all of_line (end_by n) (take n ls) ≡ o → (fault_of_all of_line (end_by n) (take n ls) ≡ None) ⊎ ((e : PointFault) × ListFault e of_line n (λ xs. ⊥) ls)
list_decided of_line n ls None is = inl is
list_decided of_line n ls (Some e) is = inr (e, inl is)

record Names (v : Version) (d : Netlist) (ls : List TextLine) : Type 0 where
  pub named : List Bool
  pub behind : List TextLine
  pub is : NamesRead v d ls named behind

names_read : (v : Version) (d : Netlist) (ls : List TextLine) → IsLawfulDesign d → Names v d ls ⊎ ((e : PointFault) × NamesFault e v d (λ xs. ⊥) ls)
names_read v d ls law = elim (field_read (number_in (codes "fixed")) (λ n. n ≤ length d.kinds) field.Fixed ls (λ n. at_most n (length d.kinds))) [
  | inr fault ↦ inr (fault.0, field_map fault.0 (number_in (codes "fixed")) (λ n. n ≤ length d.kinds) field.Fixed (λ a xs. ⊥) (λ n. ListFault fault.0 (fixed_fault v d) n (λ xs. ⊥)) ls (λ a xs x. absurd x) fault.1)
  | inl count ↦ elim (list_decided (fixed_fault v d) count.value count.behind (fault_of_all (fixed_fault v d) (end_by count.value) (take count.value count.behind)) refl) [
    | inr fault ↦ inr (fault.0, field_past fault.0 (number_in (codes "fixed")) (λ n. n ≤ length d.kinds) field.Fixed (λ n. ListFault fault.0 (fixed_fault v d) n (λ xs. ⊥)) ls count.value count.behind count.is fault.1)
    | inl clean ↦
        let there = take count.value count.behind in
        let names : AreNames v d there = names_meant v d count.value [] there (record { each = tt; distinct = tt }) clean in
        let none : Marked d [] = record { marks = replicate (length d.kinds) false; long = length-replicate (length d.kinds) false; are = λ b. none_named (length d.kinds) b; count = count_none (length d.kinds) } in
        let marked : Marked d there = mark_all v d [] there law none tt names.each names.distinct in
        inl (record { named = marked.marks; behind = drop count.value count.behind; is = record { many = count.value; after = count.behind; count_read = count.is; names = record { clean = clean; rest = refl; long = marked.long; named_are = marked.are } } })
  ]
]

record All (d : Netlist) (g : GridShape) (all : List TextLine) : Type 0 where
  pub left : List TextLine
  pub lines : LinesOf
  pub is : AreAll d g all left lines

seats_from : (d : Netlist) (g : GridShape) (all : List TextLine) (k i : ℕ) (left : List TextLine) (p : LinesOf) → IsLawfulDesign d → Seating d g all left p i → fault_of_all (seat_fault d g) (end_by (length d.kinds)) (take (length d.kinds) all) ≡ None → i + k ≡ length d.kinds → All d g all
seats_from d g all zero i left p law r clean e = record { left = left; lines = p; is = seating_all d g all left p i (omega (arith, e)) r }
seats_from d g all (suc k) i [] p law r clean e = absurd (let none : None ≡ Some (BadField 0) = sym clean ∙ taking_missing (seat_fault d g) (length d.kinds) all r.before i r.taking (omega (arith, e)) in cc)
seats_from d g all (suc k) i (l ∷ left) p law r clean e = by_fault (take_fault p l) refl (λ none.
    seats_from d g all k (i + 1) left (with_line p l) law (seating_one d g all l left p (with_line p l) i law r (omega (arith, e)) none refl) clean (omega (arith, e)))
  where
    by_fault : (o : Option PlaceFault) → take_fault p l ≡ o → (take_fault p l ≡ None → All d g all) → All d g all
    by_fault None none go = go none
    by_fault (Some f) some go = absurd (let none : None ≡ Some _ = sym clean ∙ taking_fails (seat_fault d g) (length d.kinds) all r.before l left i _ r.taking (omega (arith, e)) (seating_fails d g all l left p i f r some) in cc)

record Places (d : Netlist) (g : GridShape) (ls : List TextLine) : Type 0 where
  pub placement : PlacementOf
  pub behind : List TextLine
  pub is : SeatsRead d g ls placement behind

seats_read : (d : Netlist) (g : GridShape) (ls : List TextLine) → IsLawfulDesign d → Places d g ls ⊎ ((e : PointFault) × SeatsFault e d g (λ xs. ⊥) ls)
seats_read d g ls law = elim (field_read (number_in (codes "places")) (λ m. m ≡ length d.kinds) field.Places ls (λ m. equal m (length d.kinds))) [
  | inr fault ↦ inr (fault.0, field_map fault.0 (number_in (codes "places")) (λ m. m ≡ length d.kinds) field.Places (λ a xs. ⊥) (λ m. ListFault fault.0 (seat_fault d g) m (λ xs. ⊥)) ls (λ a xs x. absurd x) fault.1)
  | inl count ↦ elim (list_decided (seat_fault d g) count.value count.behind (fault_of_all (seat_fault d g) (end_by count.value) (take count.value count.behind)) refl) [
    | inr fault ↦ inr (fault.0, field_past fault.0 (number_in (codes "places")) (λ m. m ≡ length d.kinds) field.Places (λ m. ListFault fault.0 (seat_fault d g) m (λ xs. ⊥)) ls count.value count.behind count.is fault.1)
    | inl clean ↦
        let n = length d.kinds in
        let whole : fault_of_all (seat_fault d g) (end_by n) (take n count.behind) ≡ None = subst (λ m. fault_of_all (seat_fault d g) (end_by m) (take m count.behind) ≡ None) count.is.within clean in
        let read : IsRead (number_in (codes "places")) (λ m. m ≡ n) ls n count.behind = record { line = count.is.line; text = count.is.text; says = count.is.says ∙ ap (λ m. Some m) count.is.within; within = refl } in
        let all = seats_from d g count.behind n 0 count.behind (no_lines d g) law (seating_none d g count.behind (no_lines d g) refl) whole (omega arith) in
        let sites : List Site = there all.is.sites in
        let given : map Some sites ≡ all.lines.sites = each_there all.is.sites all.is.whole ∙ sym (ap (λ (x : LinesOf). x.sites) all.is.is) in
        let placement : PlacementOf = record { grid = g; sites = sites } in
        inl (record { placement = placement; behind = all.left; is = record { after = count.behind; count_read = read; seats = seated_all d g count.behind all.left all.lines placement law all.is given (sym (ap (λ (x : LinesOf). x.grid) all.is.is)) } })
  ]
]

end_by_test : (l : TextLine) (ls : List TextLine) (b : Bool) → is_end l ≡ b → EndRead (l ∷ ls) ⊎ ((e : PointFault) × EndFault e (l ∷ ls))
end_by_test l ls false is = inr (BadField l.number, subst (LastFault (BadField l.number) l.number ls) (sym is) refl)
end_by_test l [] true is = inl (record { line = l; text = refl; end = is })
end_by_test l (m ∷ ms) true is = inr (BadField m.number, subst (LastFault (BadField m.number) l.number (m ∷ ms)) (sym is) refl)

end_read : (ls : List TextLine) → EndRead ls ⊎ ((e : PointFault) × EndFault e ls)
end_read [] = inr (BadField 0, refl)
end_read (l ∷ ls) = end_by_test l ls (is_end l) refl

-- the blocks that are named, at their sites

fixed_marks : List Bool → List Site → ℕ → List (Option Site)
fixed_marks [] sites i = []
fixed_marks (m ∷ ms) sites i = cond m (Some (site_of sites i)) None ∷ fixed_marks ms sites (i + 1)

fixed_marks_at : (ms : List Bool) (sites : List Site) (i b : ℕ) → fixed_at (fixed_marks ms sites i) b ≡ cond (get_or ms b false) (Some (site_of sites (i + b))) None
unfolding fixed_marks
fixed_marks_at [] sites i b = refl
fixed_marks_at (m ∷ ms) sites i zero = let e : i + 0 ≡ i = omega arith in ap (λ n. cond m (Some (site_of sites n)) None) (sym e)
fixed_marks_at (m ∷ ms) sites i (suc b) = let e : i + 1 + b ≡ i + suc b = omega arith in fixed_marks_at ms sites (i + 1) b ∙ ap (λ n. cond (get_or ms b false) (Some (site_of sites n)) None) e

pub record Stands (io_rat : ℕ) (d : Netlist) (ls : List TextLine) : Type 0 where
  pub seed : ℕ
  pub grid : GridShape
  pub point : Point
  pub is : StandsForPoint io_rat d ls seed grid point

behind_first : (io_rat : ℕ) (d : Netlist) (l : TextLine) (ls : List TextLine) (v : Version) → IsLawfulDesign d → version_in l ≡ Some v → Stands io_rat d (l ∷ ls) ⊎ ((e : PointFault) × FaultBehind e io_rat d v ls)
behind_first io_rat d l ls v law is = elim (head_read v io_rat d ls) [
  | inr fault ↦ inr (fault.0, head_map fault.0 io_rat d v (λ g p xs. ⊥) (BehindHead fault.0 v d) ls (λ g p xs x. absurd x) fault.1)
  | inl head ↦ elim (stage_read v head.grid head.plan head.behind) [
    | inr fault ↦ inr (fault.0, past_head fault.0 head (stage_map fault.0 v head.grid head.plan (λ xs. ⊥) (BehindStage fault.0 v d head.grid) head.behind (λ xs x. absurd x) fault.1))
    | inl stage ↦ elim (names_read v d stage.behind law) [
      | inr fault ↦ inr (fault.0, past_head fault.0 head (past_stage fault.0 head stage (names_map fault.0 v d (λ xs. ⊥) (BehindNames fault.0 d head.grid) stage.behind (λ xs x. absurd x) fault.1)))
      | inl names ↦ elim (seats_read d head.grid names.behind law) [
        | inr fault ↦ inr (fault.0, past_head fault.0 head (past_stage fault.0 head stage (names_past fault.0 v d (BehindNames fault.0 d head.grid) stage.behind names.named names.behind names.is (seats_map fault.0 d head.grid (λ xs. ⊥) (EndFault fault.0) names.behind (λ xs x. absurd x) fault.1))))
        | inl seats ↦ elim (end_read seats.behind) [
          | inr fault ↦ inr (fault.0, past_head fault.0 head (past_stage fault.0 head stage (names_past fault.0 v d (BehindNames fault.0 d head.grid) stage.behind names.named names.behind names.is (seats_past fault.0 d head.grid (EndFault fault.0) names.behind seats.placement seats.behind seats.is fault.1))))
          | inl end ↦
              let p : Point = record { schedule = head.plan; stage = stage.stage; total = stage.total; fixed = fixed_marks names.named seats.placement.sites 0; placement = seats.placement } in
              let first : HasHead io_rat d (l ∷ ls) v head.seed head.grid head.plan head.behind = record { after_version = ls; version = record { line = l; text = refl; says = is; within = tt }; head = head.is } in
              let fixed : (b : ℕ) → fixed_at p.fixed b ≡ cond (get_or names.named b false) (Some (site_of seats.placement.sites b)) None =
              λ b. let e : 0 + b ≡ b = omega arith in fixed_marks_at names.named seats.placement.sites 0 b ∙ ap (λ n. cond (get_or names.named b false) (Some (site_of seats.placement.sites n)) None) e in
              inl (record { seed = head.seed; grid = head.grid; point = p; is = found io_rat d (l ∷ ls) v head.seed head.grid head.behind stage.behind names.behind seats.behind names.named p first stage.is names.is seats.is end fixed })
        ]
      ]
    ]
  ]
]
  where
    past_head : (e : PointFault) (head : Head v io_rat d ls) → BehindHead e v d head.grid head.plan head.behind → FaultBehind e io_rat d v ls
    past_head e head h = head_past e io_rat d v (BehindHead e v d) ls head.seed head.grid head.plan head.behind head.is h

    past_stage : (e : PointFault) (head : Head v io_rat d ls) (stage : AtStage v head.grid head.plan head.behind) → BehindStage e v d head.grid stage.behind → BehindHead e v d head.grid head.plan head.behind
    past_stage e head stage h = stage_past e v head.grid head.plan (BehindStage e v d head.grid) head.behind stage.stage stage.total stage.behind stage.is h

by_version : (io_rat : ℕ) (d : Netlist) (l : TextLine) (ls : List TextLine) (o : Option Version) → IsLawfulDesign d → version_in l ≡ o → Stands io_rat d (l ∷ ls) ⊎ ((e : PointFault) × IsFirstFault io_rat d (l ∷ ls) e)
by_version io_rat d l ls None law is = inr (BadVersion, subst (VersionFault BadVersion (FaultBehind BadVersion io_rat d) ls) (sym is) refl)
by_version io_rat d l ls (Some v) law is = elim (behind_first io_rat d l ls v law is) [
  | inl stands ↦ inl stands
  | inr fault ↦ inr (fault.0, subst (VersionFault fault.0 (FaultBehind fault.0 io_rat d) ls) (sym is) fault.1)
]

either : (io_rat : ℕ) (d : Netlist) (ls : List TextLine) → IsLawfulDesign d → Stands io_rat d ls ⊎ ((e : PointFault) × IsFirstFault io_rat d ls e)
either io_rat d [] law = inr (BadVersion, refl)
either io_rat d (l ∷ ls) law = by_version io_rat d l ls (version_in l) law refl

pub means_or_faults : (io_rat : ℕ) (d : Netlist) (ls : List TextLine) → IsLawfulDesign d → PointMeansOrFaults io_rat d ls
means_or_faults io_rat d ls law =
    record {
      one = elim (either io_rat d ls law) [
        | inl stands ↦ inl (stands.seed, stands.grid, stands.point, stands.is)
        | inr fault ↦ inr fault
      ];
      never_both = λ seed g p e t h. never_both io_rat d ls seed g p e law t h;
      one_point = λ seed other g h p q t u. same io_rat d ls seed other g h p q (names_of_lawful d law) t u;
      one_fault = one_fault io_rat d ls;
    }
