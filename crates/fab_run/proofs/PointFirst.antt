-- A checkpoint text has one first fault.
use Rattle.std.proofs.Common.{◌≡◌, ◌⊎◌, ℕ, ◌≤◌, Bool, true, false, List, [], ◌∷◌, Option, Some, None, length, drop, codes, sym, ◌∙◌, inl, inr}
use Rattle.fab_text.specs.Lines.{TextLine}
use Rattle.fab_arch.specs.Grid.{GridShape}
use Rattle.fab_net.specs.Netlist.{Netlist}
use Rattle.fab_sched.specs.Annealing.{IsLawful, MayStand, Plan}
use Rattle.fab_run.specs.declared.point_fault.PointFault.{PointFault}
use Rattle.fab_run.specs.declared.point_fault.PointField.{PointField}
use Rattle.fab_run.specs.declared.point_fault.PointField.TheVariants as field
use Rattle.fab_run.specs.declared.point_words.Version.{Version}
use Rattle.fab_run.specs.declared.point_words.Version.TheVariants.{One, Two}
use Rattle.fab_run.specs.PointFields.{version_in, number_in, array_in, schedule_in, stage_in, is_end}
use Rattle.fab_run.specs.PointMeaning.{IsArrayFor}
use Rattle.fab_run.specs.PointFaults.{DueFault, EndFault, FaultBehind, FieldFault, HeatFault, IsFirstFault, IsRangeOn, IsStageOf, IsTotal, LastFault, LineFault, ListFault, VersionFault, fixed_fault, grid_of, schedule_of, seat_fault}
use Rattle.fab_run.proofs.PointWhole.{BehindHead, BehindNames, BehindStage}

line_one : {A : Type 0} (e f : PointFault) (B C : A → List TextLine → Type 0) (n : ℕ) (ls : List TextLine) (o : Option A) → ((a : A) (xs : List TextLine) → B a xs → C a xs → e ≡ f) → LineFault e B n ls o → LineFault f C n ls o → e ≡ f
line_one e f B C n ls None next h k = h ∙ sym k
line_one e f B C n ls (Some a) next h k = next a ls h k

due_one : {A : Type 0} (e f : PointFault) (read : TextLine → Option A) (B C : A → List TextLine → Type 0) (ls : List TextLine) → ((a : A) (xs : List TextLine) → B a xs → C a xs → e ≡ f) → DueFault e read B ls → DueFault f read C ls → e ≡ f
due_one e f read B C [] next h k = h ∙ sym k
due_one e f read B C (l ∷ ls) next h k = line_one e f B C l.number ls (read l) next h k

range_one : (e f x : PointFault) (In B C : Type 0) → (B → C → e ≡ f) → ((In → ⊥) × (e ≡ x)) ⊎ (In × B) → ((In → ⊥) × (f ≡ x)) ⊎ (In × C) → e ≡ f
range_one e f x In B C next (inl h) (inl k) = h.1 ∙ sym k.1
range_one e f x In B C next (inl h) (inr k) = absurd (h.0 k.0)
range_one e f x In B C next (inr h) (inl k) = absurd (k.0 h.0)
range_one e f x In B C next (inr h) (inr k) = next h.1 k.1

field_one : {A : Type 0} (e f : PointFault) (read : TextLine → Option A) (IsIn : A → Type 0) (name : PointField) (B C : A → List TextLine → Type 0) (ls : List TextLine) → ((a : A) (xs : List TextLine) → B a xs → C a xs → e ≡ f) → FieldFault e read IsIn name B ls → FieldFault f read IsIn name C ls → e ≡ f
field_one e f read IsIn name B C ls next h k = due_one e f read _ _ ls (λ a xs x y. range_one e f _ (IsIn a) (B a xs) (C a xs) (next a xs) x y) h k

list_one : (e f : PointFault) (of_line : List TextLine → TextLine → Option PointFault) (n : ℕ) (B C : List TextLine → Type 0) (ls : List TextLine) → ((xs : List TextLine) → B xs → C xs → e ≡ f) → ListFault e of_line n B ls → ListFault f of_line n C ls → e ≡ f
list_one e f of_line n B C ls next (inl h) (inl k) = let same : Some e ≡ Some f = sym h ∙ k in cc
list_one e f of_line n B C ls next (inl h) (inr k) = absurd (let none : Some e ≡ None = sym h ∙ k.0 in cc)
list_one e f of_line n B C ls next (inr h) (inl k) = absurd (let none : Some f ≡ None = sym k ∙ h.0 in cc)
list_one e f of_line n B C ls next (inr h) (inr k) = next (drop n ls) h.1 k.1

heat_one : (e f : PointFault) (v : Version) (p : Plan) (x : ℕ) (B C : List TextLine → Type 0) (ls : List TextLine) → ((xs : List TextLine) → B xs → C xs → e ≡ f) → HeatFault e v p x (λ t. B) ls → HeatFault f v p x (λ t. C) ls → e ≡ f
heat_one e f One p x B C ls next h k = next ls h.2 k.2
heat_one e f Two p x B C ls next h k = field_one e f (number_in (codes "temperature")) (MayStand p x) field.Temperature (λ t. B) (λ t. C) ls (λ t xs. next xs) h k

end_one : (e f : PointFault) (ls : List TextLine) → EndFault e ls → EndFault f ls → e ≡ f
end_one e f [] h k = h ∙ sym k
end_one e f (l ∷ ls) h k = last_one e f l.number ls (is_end l) h k
  where
    last_one : (e f : PointFault) (n : ℕ) (ls : List TextLine) (b : Bool) → LastFault e n ls b → LastFault f n ls b → e ≡ f
    last_one e f n [] true h k = absurd h
    last_one e f n (m ∷ ms) true h k = h ∙ sym k
    last_one e f n ls false h k = h ∙ sym k

seats_one : (e f : PointFault) (d : Netlist) (g : GridShape) (ls : List TextLine) → BehindNames e d g ls → BehindNames f d g ls → e ≡ f
seats_one e f d g ls h k =
    field_one e f (number_in (codes "places")) (λ m. m ≡ length d.kinds) field.Places (λ m. ListFault e (seat_fault d g) m (EndFault e)) (λ m. ListFault f (seat_fault d g) m (EndFault f)) ls
    (λ m xs. list_one e f (seat_fault d g) m (EndFault e) (EndFault f) xs (end_one e f)) h k

names_one : (e f : PointFault) (v : Version) (d : Netlist) (g : GridShape) (ls : List TextLine) → BehindStage e v d g ls → BehindStage f v d g ls → e ≡ f
names_one e f v d g ls h k =
    field_one e f (number_in (codes "fixed")) (λ n. n ≤ length d.kinds) field.Fixed (λ n. ListFault e (fixed_fault v d) n (BehindNames e d g)) (λ n. ListFault f (fixed_fault v d) n (BehindNames f d g)) ls
    (λ n xs. list_one e f (fixed_fault v d) n (BehindNames e d g) (BehindNames f d g) xs (seats_one e f d g)) h k

abbrev BehindHeat : PointFault → Version → Netlist → GridShape → Plan → ℕ × ℕ × ℕ → List TextLine → Type 0
BehindHeat e v d g p x =
    FieldFault e (number_in (codes "range")) (IsRangeOn g) field.Range (λ range. FieldFault e (number_in (codes "total")) (IsTotal p x) field.Total (λ total. BehindStage e v d g))

stage_one : (e f : PointFault) (v : Version) (d : Netlist) (g : GridShape) (p : Plan) (ls : List TextLine) → BehindHead e v d g p ls → BehindHead f v d g p ls → e ≡ f
stage_one e f v d g p ls h k =
    field_one e f stage_in (IsStageOf p) field.Stage (λ x. HeatFault e v p x.0 (λ t. BehindHeat e v d g p x)) (λ x. HeatFault f v p x.0 (λ t. BehindHeat f v d g p x)) ls
    (λ x xs. heat_one e f v p x.0 (BehindHeat e v d g p x) (BehindHeat f v d g p x) xs (λ ys.
    field_one e f (number_in (codes "range")) (IsRangeOn g) field.Range (λ r. FieldFault e (number_in (codes "total")) (IsTotal p x) field.Total (λ t. BehindStage e v d g)) (λ r. FieldFault f (number_in (codes "total")) (IsTotal p x) field.Total (λ t. BehindStage f v d g)) ys (λ r zs.
    field_one e f (number_in (codes "total")) (IsTotal p x) field.Total (λ t. BehindStage e v d g) (λ t. BehindStage f v d g) zs (λ t ws. names_one e f v d g ws)))) h k

head_one : (e f : PointFault) (io_rat : ℕ) (d : Netlist) (v : Version) (ls : List TextLine) → FaultBehind e io_rat d v ls → FaultBehind f io_rat d v ls → e ≡ f
head_one e f io_rat d v ls h k =
    due_one e f (number_in (codes "seed")) (λ s. FieldFault e array_in (λ a. IsArrayFor io_rat d (grid_of a)) field.Array (λ a. FieldFault e (schedule_in v) (λ s. IsLawful (schedule_of s)) field.Schedule (λ s. BehindHead e v d (grid_of a) (schedule_of s))))
    (λ s. FieldFault f array_in (λ a. IsArrayFor io_rat d (grid_of a)) field.Array (λ a. FieldFault f (schedule_in v) (λ s. IsLawful (schedule_of s)) field.Schedule (λ s. BehindHead f v d (grid_of a) (schedule_of s)))) ls (λ seed xs.
    field_one e f array_in (λ a. IsArrayFor io_rat d (grid_of a)) field.Array (λ a. FieldFault e (schedule_in v) (λ s. IsLawful (schedule_of s)) field.Schedule (λ s. BehindHead e v d (grid_of a) (schedule_of s))) (λ a. FieldFault f (schedule_in v) (λ s. IsLawful (schedule_of s)) field.Schedule (λ s. BehindHead f v d (grid_of a) (schedule_of s))) xs (λ a ys.
    field_one e f (schedule_in v) (λ s. IsLawful (schedule_of s)) field.Schedule (λ s. BehindHead e v d (grid_of a) (schedule_of s)) (λ s. BehindHead f v d (grid_of a) (schedule_of s)) ys (λ s zs. stage_one e f v d (grid_of a) (schedule_of s) zs))) h k

version_one : (e f : PointFault) (io_rat : ℕ) (d : Netlist) (ls : List TextLine) (o : Option Version) → VersionFault e (FaultBehind e io_rat d) ls o → VersionFault f (FaultBehind f io_rat d) ls o → e ≡ f
version_one e f io_rat d ls None h k = h ∙ sym k
version_one e f io_rat d ls (Some v) h k = head_one e f io_rat d v ls h k

pub one_fault : (io_rat : ℕ) (d : Netlist) (ls : List TextLine) (e f : PointFault) → IsFirstFault io_rat d ls e → IsFirstFault io_rat d ls f → e ≡ f
one_fault io_rat d [] e f h k = h ∙ sym k
one_fault io_rat d (l ∷ ls) e f h k = version_one e f io_rat d ls (version_in l) h k
