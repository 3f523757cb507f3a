-- A checkpoint text that stands for a point has no fault, and stands for only one point.
use Rattle.std.proofs.Common.{◌≡◌, ◌⊎◌, ℕ, ◌<◌, ◌≤◌, Bool, true, false, cond, not, eqb, List, [], ◌∷◌, ◌++◌, Option, Some, None, length, get_or, map, replicate, set, take, drop, codes, zero, suc, refl, sym, ap, ◌∙◌, subst, arith, inl, inr}
use Rattle.std.specs.Prelude.{option_map, Result, Ok, Err, IfOk, IfErr, MatchResult}
use Rattle.std.specs.List.{AllByRecursion, list_any}
use Rattle.std.specs.Str.{bytes_eq}
use Rattle.std.proofs.lemmas.Bool.{cases_Bool, false≢true, eqb-true, eq-eqb}
use Rattle.std.proofs.lemmas.List.{append-nil, append_assoc, map-append, ext_get_or, length-append, length-map, length-replicate, length-set}
use Rattle.fab_text.specs.Lines.{TextLine}
use Rattle.fab_text.specs.FirstFault.{or_else, unless, fault_behind, fault_of_all}
use Rattle.fab_arch.specs.declared.array.Site.{Site}
use Rattle.fab_arch.specs.Grid.{GridShape}
use Rattle.fab_net.specs.Names.{AllDistinct}
use Rattle.fab_arch.specs.declared.architecture.PinKind.{PinKind}
use Rattle.fab_net.specs.Netlist.{Netlist, IsLawful as IsLawfulDesign, is_logic_at}
use Rattle.fab_net.specs.Text.{IsNetlist, kind_in, name_in, sections}
use Rattle.fab_net.proofs.Naming.{itself, name_at_number}
use Rattle.fab_net.proofs.Underway.{all_push}
use Rattle.fab_site.specs.Placement.{IsLegal, fixed_at, nowhere, site_of}
use Rattle.fab_sched.specs.declared.schedules.Cooling.{Cooling}
use Rattle.fab_sched.specs.declared.schedules.Cooling.TheVariants.{Factor}
use Rattle.fab_sched.specs.declared.schedules.Stage.{Stage}
use Rattle.fab_sched.specs.Annealing.{IsLawful, MayStand, MayStandBy, Plan, heat_by}
use Rattle.fab_file.specs.declared.fault.PlaceFault.{PlaceFault}
use Rattle.fab_file.specs.declared.fault.PlaceFault.TheVariants.{NotAPad, Repeated}
use Rattle.fab_file.specs.Place.{Places, block_in, names_block}
use Rattle.fab_file.specs.PlaceFaults.{is_repeated}
use Rattle.fab_file.proofs.Seats.{first_word, or_neither}
use Rattle.fab_file.proofs.Legal.{agree, all_at, before_distinct, no_block_fault, number_at as number_at_name}
use Rattle.fab_commit.specs.declared.run.point.Point.{Point}
use Rattle.fab_commit.specs.Run.Points.{IsPoint}
use Rattle.fab_run.specs.declared.point_fault.PointFault.{PointFault}
use Rattle.fab_run.specs.declared.point_fault.PointFault.TheVariants.{BadField, Block, NoMemory, OutOfRange}
use Rattle.fab_run.specs.declared.point_fault.PointField.{PointField}
use Rattle.fab_run.specs.declared.point_fault.PointField.TheVariants as field
use Rattle.fab_run.specs.declared.point_words.Version.{Version}
use Rattle.fab_run.specs.declared.point_words.Version.TheVariants.{One, Two}
use Rattle.fab_run.specs.PointFields.{version_in, number_in, array_in, cooling_in, factor, number_at, schedule_from, schedule_in, stage_in, is_fixed_line, is_end}
use Rattle.fab_run.specs.PointMeaning.{IsArrayFor, IsSamePoint, MayBeFixed, NamesFixed, SaysFields, SaysFixed, SaysHeat, SaysPlaces, StandsForPoint}
use Rattle.fab_run.specs.PointFaults.{DueFault, EndFault, FieldFault, HeadFault, HeatFault, IsFirstFault, IsRangeOn, IsStageOf, IsTotal, LastFault, LineFault, ListFault, NamesFault, SeatsFault, StageFault, VersionFault, FaultBehind, fixed_fault, grid_of, name_fault, schedule_of, seat_fault}
use Rattle.fab_run.specs.PointReading.{HeadRead, HeatRead, IsAny, IsRead, StageRead}
use Rattle.fab_run.proofs.PointParts.{end_by}
use Rattle.fab_run.proofs.PointLists.{named_on, none_named}
use Rattle.fab_run.proofs.PointWhole.{BehindHead, BehindNames, BehindStage}

-- a fault of a text is after what was read

due_through : {A : Type 0} (e : PointFault) (read : TextLine → Option A) (IsIn : A → Type 0) (B : A → List TextLine → Type 0) (ls : List TextLine) (a : A) (behind : List TextLine) → IsRead read IsIn ls a behind → DueFault e read B ls → B a behind
due_through e read IsIn B ls a behind r h =
    let at : DueFault e read B (r.line ∷ behind) = subst (DueFault e read B) r.text h in
    subst (LineFault e B r.line.number behind) r.says at

field_through : {A : Type 0} (e : PointFault) (read : TextLine → Option A) (IsIn : A → Type 0) (name : PointField) (B : A → List TextLine → Type 0) (ls : List TextLine) (a : A) (behind : List TextLine) → IsRead read IsIn ls a behind → FieldFault e read IsIn name B ls → B a behind
field_through e read IsIn name B ls a behind r h = elim (due_through e read IsIn (λ a xs. ((IsIn a → ⊥) × (e ≡ OutOfRange name)) ⊎ (IsIn a × B a xs)) ls a behind r h) [
  | inl out ↦ absurd (out.0 r.within)
  | inr within ↦ within.1
]

heat_same : (p : Plan) (x t s : ℕ) (f : ℕ) → p.cooling ≡ Factor f → MayStand p x t → MayStand p x s → t ≡ s
heat_same p x t s f is h k =
    let one : heat_by p f x ≡ Some t = subst (λ c. MayStandBy c p x t) is h in
    let two : heat_by p f x ≡ Some s = subst (λ c. MayStandBy c p x s) is k in
    let same : Some t ≡ Some s = sym one ∙ two in cc

abbrev pub OneCools : Version → Plan → Type 0
OneCools One p = (f : ℕ) × (p.cooling ≡ Factor f)
OneCools Two p = Unit {0}

heat_through : (e : PointFault) (v : Version) (p : Plan) (x : ℕ) (B : ℕ → List TextLine → Type 0) (ls : List TextLine) (t : ℕ) (behind : List TextLine) → OneCools v p → HeatRead v p x ls t behind → HeatFault e v p x B ls → B t behind
heat_through e One p x B ls t behind cools r h =
    let same : h.0 ≡ t = heat_same p x h.0 t cools.0 cools.1 h.1 r.1 in
    subst (B t) (sym r.0) (subst (λ n. B n ls) same h.2)
heat_through e Two p x B ls t behind cools r h = field_through e (number_in (codes "temperature")) (MayStand p x) field.Temperature B ls t behind r h

head_through : (e : PointFault) (io_rat : ℕ) (d : Netlist) (v : Version) (B : GridShape → Plan → List TextLine → Type 0) (ls : List TextLine) (seed : ℕ) (g : GridShape) (p : Plan) (behind : List TextLine) → HeadRead v io_rat d ls seed g p behind → HeadFault e io_rat d v B ls → B g p behind
head_through e io_rat d v B ls seed g p behind r h =
    field_through e (schedule_in v) (λ s. IsLawful (schedule_of s)) field.Schedule (λ s. B g (schedule_of s)) r.after_array (p.init, p.exit, p.cooling, p.moves) behind r.schedule_read
    (field_through e array_in (λ a. IsArrayFor io_rat d (grid_of a)) field.Array (λ a. FieldFault e (schedule_in v) (λ s. IsLawful (schedule_of s)) field.Schedule (λ s. B (grid_of a) (schedule_of s))) r.after_seed (g.nx, g.ny, g.io_rat) r.after_array r.array_read
    (due_through e (number_in (codes "seed")) IsAny (λ seed. FieldFault e array_in (λ a. IsArrayFor io_rat d (grid_of a)) field.Array (λ a. FieldFault e (schedule_in v) (λ s. IsLawful (schedule_of s)) field.Schedule (λ s. B (grid_of a) (schedule_of s)))) ls seed r.after_seed r.seed_read h))

stage_through : (e : PointFault) (v : Version) (g : GridShape) (p : Plan) (B : List TextLine → Type 0) (ls : List TextLine) (s : Stage) (total : ℕ) (behind : List TextLine) → OneCools v p → StageRead v g p ls s total behind → StageFault e v g p B ls → B behind
stage_through e v g p B ls s total behind cools r h =
    let x : ℕ × ℕ × ℕ = (s.index, s.done, s.accepted) in
    let one = field_through e stage_in (IsStageOf p) field.Stage (λ x. HeatFault e v p x.0 (λ t. FieldFault e (number_in (codes "range")) (IsRangeOn g) field.Range (λ range. FieldFault e (number_in (codes "total")) (IsTotal p x) field.Total (λ total. B)))) ls x r.after_stage r.stage_read h in
    let two = heat_through e v p s.index (λ t. FieldFault e (number_in (codes "range")) (IsRangeOn g) field.Range (λ range. FieldFault e (number_in (codes "total")) (IsTotal p x) field.Total (λ total. B))) r.after_stage s.t r.after_heat cools r.heat_read one in
    let three = field_through e (number_in (codes "range")) (IsRangeOn g) field.Range (λ range. FieldFault e (number_in (codes "total")) (IsTotal p x) field.Total (λ total. B)) r.after_heat s.range r.after_range r.range_read two in
    field_through e (number_in (codes "total")) (IsTotal p x) field.Total (λ total. B) r.after_range total behind r.total_read three

list_through : (e : PointFault) (of_line : List TextLine → TextLine → Option PointFault) (B : List TextLine → Type 0) (there behind : List TextLine) → fault_of_all of_line (end_by (length there)) there ≡ None → ListFault e of_line (length there) B (there ++ behind) → B behind
list_through e of_line B there behind clean h = elim h [
  | inl here ↦
      let at : fault_of_all of_line (end_by (length there)) there ≡ Some e = ap (fault_of_all of_line (end_by (length there))) (sym (take_front there behind)) ∙ here in
      absurd (let none : None ≡ Some e = sym clean ∙ at in cc)
  | inr later ↦ subst B (drop_front there behind) later.1
]
  where
    take_front : (xs ys : List TextLine) → take (length xs) (xs ++ ys) ≡ xs
    take_front [] ys = refl
    take_front (x ∷ xs) ys = ap (λ v. x ∷ v) (take_front xs ys)

    drop_front : (xs ys : List TextLine) → drop (length xs) (xs ++ ys) ≡ ys
    drop_front [] ys = refl
    drop_front (x ∷ xs) ys = drop_front xs ys

-- lines that name fixed blocks have no fault

not_named_yet : (v : Version) (d : Netlist) (l : TextLine) (b : ℕ) (before : List TextLine) → block_in d l ≡ Some b → AllByRecursion (NamesFixed v d) before → list_any (bytes_eq (first_word l)) (map first_word before) ≡ false → is_repeated d before b ≡ false
not_named_yet v d l b [] named h none = refl
not_named_yet v d l b (k ∷ before) named h none =
    let parts = or_neither (bytes_eq (first_word l) (first_word k)) (list_any (bytes_eq (first_word l)) (map first_word before)) none in
    elim (cases_Bool (eqb h.0.block b)) [
      | inl y ↦
          let one = name_at_number (first_word l) d.names b named in
          let two = name_at_number (first_word k) d.names h.0.block h.0.named in
          let same : first_word l ≡ first_word k = sym one.1 ∙ ap (λ i. get_or d.names i []) (sym (eqb-true h.0.block b y)) ∙ two.1 in
          absurd (false≢true (sym parts.0 ∙ ap (λ w. bytes_eq (first_word l) w) (sym same) ∙ itself (first_word l)))
      | inr n ↦ rw (h.0.named, n) (not_named_yet v d l b before named h.1 parts.1)
    ]

no_name_fault_by : (v : Version) (d : Netlist) (is_fixed : ℕ → Bool) (n b : ℕ) → is_fixed b ≡ false → MayBeFixed v d b → name_fault v d is_fixed n true (Some b) ≡ None
no_name_fault_by One d is_fixed n b new may = ap (λ r. or_else (unless (not r) (Repeated n)) (unless (not (is_logic_at d b)) (NotAPad n))) new ∙ ap (λ r. unless (not r) (NotAPad n)) may
no_name_fault_by Two d is_fixed n b new may = ap (λ r. unless (not r) (Repeated n)) new

no_name_fault : (v : Version) (d : Netlist) (before : List TextLine) (l : TextLine) (after : List TextLine) → AllByRecursion (NamesFixed v d) before → NamesFixed v d l → AllDistinct (map first_word (before ++ l ∷ after)) → fixed_fault v d before l ≡ None
no_name_fault v d before l after h k distinct =
    let words : AllDistinct (map first_word before ++ first_word l ∷ map first_word after) = rw (← map-append first_word before (l ∷ after)) distinct in
    let once = not_named_yet v d l k.block before k.named h (before_distinct (map first_word before) (first_word l) (map first_word after) words) in
    ap (option_map (λ (e : PlaceFault). Block e)) (ap (λ o. name_fault v d (is_repeated d before) l.number (is_fixed_line l) o) k.named ∙ ap (λ f. name_fault v d (is_repeated d before) l.number f (Some k.block)) k.form ∙ no_name_fault_by v d (is_repeated d before) l.number k.block once k.may)

same_length : (n : ℕ) → eqb n n ≡ true
same_length n = eq-eqb n n refl

names_clean_behind : (v : Version) (d : Netlist) (many : ℕ) (before after : List TextLine) → AllByRecursion (NamesFixed v d) before → AllByRecursion (NamesFixed v d) after → AllDistinct (map first_word (before ++ after)) → length (before ++ after) ≡ many → fault_behind (fixed_fault v d) (end_by many) before after ≡ None
names_clean_behind v d many before [] h k distinct long =
    let nil : before ++ [] ≡ before = append-nil before in
    ap (λ b. unless b (BadField 0)) (eq-eqb (length before) many (ap length (sym nil) ∙ long))
names_clean_behind v d many before (l ∷ after) h k distinct long =
    let none = no_name_fault v d before l after h k.0 distinct in
    let same : (before ++ l ∷ []) ++ after ≡ before ++ l ∷ after = append_assoc before (l ∷ []) after in
    ap (λ f. or_else f (fault_behind (fixed_fault v d) (end_by many) (before ++ l ∷ []) after)) none
    ∙ names_clean_behind v d many (before ++ l ∷ []) after (all_push (NamesFixed v d) before l h k.0) k.1 (subst (λ x. AllDistinct (map first_word x)) (sym same) distinct) (ap length same ∙ long)

-- lines that place blocks have none

seats_clean_behind : (d : Netlist) (g : GridShape) (sites : List Site) (many : ℕ) (before after : List TextLine) → IsLawfulDesign d → IsLegal d g [] sites → AllByRecursion (Places d sites) before → AllByRecursion (Places d sites) after → AllDistinct (map first_word (before ++ after)) → length (before ++ after) ≡ many
    → fault_behind (seat_fault d g) (end_by many) before after ≡ None
seats_clean_behind d g sites many before [] law legal h k distinct long =
    let nil : before ++ [] ≡ before = append-nil before in
    ap (λ b. unless b (BadField 0)) (eq-eqb (length before) many (ap length (sym nil) ∙ long))
seats_clean_behind d g sites many before (l ∷ after) law legal h k distinct long =
    let none : seat_fault d g before l ≡ None = ap (option_map (λ (e : PlaceFault). Block e)) (no_block_fault d g sites before l after law legal h k.0 distinct) in
    let same : (before ++ l ∷ []) ++ after ≡ before ++ l ∷ after = append_assoc before (l ∷ []) after in
    ap (λ f. or_else f (fault_behind (seat_fault d g) (end_by many) (before ++ l ∷ []) after)) none
    ∙ seats_clean_behind d g sites many (before ++ l ∷ []) after law legal (all_push (Places d sites) before l h k.0) k.1 (subst (λ x. AllDistinct (map first_word x)) (sym same) distinct) (ap length same ∙ long)

-- the parts of a text that stands for a point

is_factor : (o : Option ℕ) (c : Cooling) → factor o ≡ Some c → (f : ℕ) × (c ≡ Factor f)
is_factor None c h = absurd (let none : None ≡ Some c = h in cc)
is_factor (Some f) c h = (f, (let same : Some (Factor f) ≡ Some c = h in cc))

cooling_of : (i e : Option ℕ) (c : Option Cooling) (m : Option ℕ) (a b : ℕ) (k : Cooling) (n : ℕ) → schedule_from i e c m ≡ Some (a, b, k, n) → c ≡ Some k
cooling_of None e c m a b k n h = absurd (let none : None ≡ Some (a, b, k, n) = h in cc)
cooling_of (Some i) None c m a b k n h = absurd (let none : None ≡ Some (a, b, k, n) = h in cc)
cooling_of (Some i) (Some e) None m a b k n h = absurd (let none : None ≡ Some (a, b, k, n) = h in cc)
cooling_of (Some i) (Some e) (Some c) None a b k n h = absurd (let none : None ≡ Some (a, b, k, n) = h in cc)
cooling_of (Some i) (Some e) (Some c) (Some m) a b k n h = let same : Some (i, e, c, m) ≡ Some (a, b, k, n) = h in ap (λ o. third o) same
  where
    third : Option (ℕ × ℕ × Cooling × ℕ) → Option Cooling
    third None = None
    third (Some x) = Some x.2

from_form : (t : Bool) (o : Option (ℕ × ℕ × Cooling × ℕ)) (x : ℕ × ℕ × Cooling × ℕ) → cond t o None ≡ Some x → o ≡ Some x
from_form true o x h = h
from_form false o x h = absurd (let none : None ≡ Some x = h in cc)

pub one_cools : (v : Version) (p : Plan) (l : TextLine) → schedule_in v l ≡ Some (p.init, p.exit, p.cooling, p.moves) → OneCools v p
one_cools One p l h = is_factor (number_at l 3) p.cooling (cooling_of (number_at l 1) (number_at l 2) (cooling_in One l) (number_at l 4) p.init p.exit p.cooling p.moves (from_form _ (schedule_from (number_at l 1) (number_at l 2) (cooling_in One l) (number_at l 4)) (p.init, p.exit, p.cooling, p.moves) h))
one_cools Two p l h = tt

heat_said : (v : Version) (p : Plan) (x t : ℕ) (lines rest : List TextLine) → SaysHeat v lines t → MayStand p x t → HeatRead v p x (lines ++ rest) t rest
heat_said One p x t lines rest h may = (sym (ap (λ xs. xs ++ rest) h), may)
heat_said Two p x t lines rest h may = record { line = h.0; text = ap (λ xs. xs ++ rest) h.1; says = h.2; within = may }

pub record Said (v : Version) (io_rat : ℕ) (d : Netlist) (ls behind : List TextLine) (seed : ℕ) (g : GridShape) (p : Point) : Type 0 where
  pub mid : List TextLine
  pub head : HeadRead v io_rat d ls seed g p.schedule mid
  pub stage : StageRead v g p.schedule mid p.stage p.total behind
  pub cools : OneCools v p.schedule

pub said : (v : Version) (io_rat : ℕ) (d : Netlist) (ls behind : List TextLine) (seed : ℕ) (g : GridShape) (p : Point) → SaysFields v ls behind seed g p → IsArrayFor io_rat d g → IsLawful p.schedule → IsPoint d g p → Said v io_rat d ls behind seed g p
said v io_rat d ls behind seed g p f array law point =
    let tail : List TextLine = f.range_line ∷ f.total_line ∷ behind in
    let mid : List TextLine = f.stage_line ∷ (f.heat_lines ++ tail) in
    record {
      mid = mid;
      head = record {
        after_seed = f.array_line ∷ f.schedule_line ∷ mid;
        after_array = f.schedule_line ∷ mid;
        seed_read = record { line = f.seed_line; text = f.text; says = f.seed_is; within = tt };
        array_read = record { line = f.array_line; text = refl; says = f.array_is; within = array };
        schedule_read = record { line = f.schedule_line; text = refl; says = f.schedule_is; within = law };
      };
      stage = record {
        after_stage = f.heat_lines ++ tail;
        after_heat = tail;
        after_range = f.total_line ∷ behind;
        stage_read = record { line = f.stage_line; text = refl; says = f.stage_is; within = ((p.stage.t, point.stage.stands), point.left, point.stage.accepted) };
        heat_read = heat_said v p.schedule p.stage.index p.stage.t f.heat_lines tail f.heat_is point.stage.stands;
        range_read = record { line = f.range_line; text = refl; says = f.range_is; within = point.stage.range };
        total_read = record { line = f.total_line; text = refl; says = f.total_is; within = point.counted };
        frozen = point.stage.frozen;
      };
      cools = one_cools v p.schedule f.schedule_line f.schedule_is;
    }

pub names_through : (e : PointFault) (v : Version) (d : Netlist) (sites : List Site) (B : List TextLine → Type 0) (ls behind : List TextLine) (fixed : List (Option Site)) (r : SaysFixed v d sites ls behind fixed) → length r.names ≤ length d.kinds → NamesFault e v d B ls → B behind
names_through e v d sites B ls behind fixed r few h =
    let count : IsRead (number_in (codes "fixed")) (λ n. n ≤ length d.kinds) ls (length r.names) (r.names ++ behind) = record { line = r.count_line; text = r.text; says = r.count; within = few } in
    let list = field_through e (number_in (codes "fixed")) (λ n. n ≤ length d.kinds) field.Fixed (λ n. ListFault e (fixed_fault v d) n B) ls (length r.names) (r.names ++ behind) count h in
    list_through e (fixed_fault v d) B r.names behind (names_clean_behind v d (length r.names) [] r.names tt r.each r.distinct refl) list

pub seats_through : (e : PointFault) (d : Netlist) (g : GridShape) (sites : List Site) (B : List TextLine → Type 0) (ls behind : List TextLine) → IsLawfulDesign d → IsLegal d g [] sites → SaysPlaces d ls behind sites → SeatsFault e d g B ls → B behind
seats_through e d g sites B ls behind law legal r h =
    let count : IsRead (number_in (codes "places")) (λ m. m ≡ length d.kinds) ls (length r.places) (r.places ++ behind) = record { line = r.count_line; text = r.text; says = r.count; within = r.all } in
    let list = field_through e (number_in (codes "places")) (λ m. m ≡ length d.kinds) field.Places (λ m. ListFault e (seat_fault d g) m B) ls (length r.places) (r.places ++ behind) count h in
    list_through e (seat_fault d g) B r.places behind (seats_clean_behind d g sites (length r.places) [] r.places law legal tt r.each r.distinct refl) list

-- no more blocks are fixed than there are

abbrev count_true : List Bool → ℕ
count_true [] = 0
count_true (true ∷ bs) = suc (count_true bs)
count_true (false ∷ bs) = count_true bs

count_at_most : (bs : List Bool) → count_true bs ≤ length bs
count_at_most [] = omega arith
count_at_most (true ∷ bs) = omega (arith, count_at_most bs)
count_at_most (false ∷ bs) = omega (arith, count_at_most bs)

pub count_none : (n : ℕ) → count_true (replicate n false) ≡ 0
count_none zero = refl
count_none (suc n) = count_none n

count_set : (bs : List Bool) (b : ℕ) → b < length bs → get_or bs b false ≡ false → count_true (set bs b true) ≡ suc (count_true bs)
count_set [] b lt h = absurd (omega (arith, lt))
count_set (true ∷ bs) zero lt h = absurd (false≢true (sym h))
count_set (false ∷ bs) zero lt h = refl
count_set (true ∷ bs) (suc b) lt h = ap suc (count_set bs b (omega (arith, lt)) h)
count_set (false ∷ bs) (suc b) lt h = count_set bs b (omega (arith, lt)) h

pub record Marked (d : Netlist) (before : List TextLine) : Type 0 where
  pub marks : List Bool
  pub long : length marks ≡ length d.kinds
  pub are : (b : ℕ) → get_or marks b false ≡ is_repeated d before b
  pub count : count_true marks ≡ length before

mark_one : (v : Version) (d : Netlist) (before : List TextLine) (l : TextLine) (after : List TextLine) → IsLawfulDesign d → Marked d before → AllByRecursion (NamesFixed v d) before → NamesFixed v d l → AllDistinct (map first_word (before ++ l ∷ after)) → Marked d (before ++ l ∷ [])
mark_one v d before l after law m h k distinct =
    let words : AllDistinct (map first_word before ++ first_word l ∷ map first_word after) = rw (← map-append first_word before (l ∷ after)) distinct in
    let once = not_named_yet v d l k.block before k.named h (before_distinct (map first_word before) (first_word l) (map first_word after) words) in
    let within : k.block < length m.marks = let at = name_at_number (first_word l) d.names k.block k.named in omega (arith, at.0, law.named, m.long) in
    record {
      marks = set m.marks k.block true;
      long = length-set m.marks k.block true ∙ m.long;
      are = named_on d before l m.marks k.block k.named within m.are;
      count = count_set m.marks k.block within (m.are k.block ∙ once) ∙ ap suc m.count ∙ sym (length-append before (l ∷ []) ∙ omega arith);
    }

pub mark_all : (v : Version) (d : Netlist) (before after : List TextLine) → IsLawfulDesign d → Marked d before → AllByRecursion (NamesFixed v d) before → AllByRecursion (NamesFixed v d) after → AllDistinct (map first_word (before ++ after)) → Marked d (before ++ after)
mark_all v d before [] law m h k distinct = let nil : before ++ [] ≡ before = append-nil before in subst (Marked d) (sym nil) m
mark_all v d before (l ∷ after) law m h k distinct =
    let same : (before ++ l ∷ []) ++ after ≡ before ++ l ∷ after = append_assoc before (l ∷ []) after in
    subst (Marked d) same (mark_all v d (before ++ l ∷ []) after law (mark_one v d before l after law m h k.0 distinct) (all_push (NamesFixed v d) before l h k.0) k.1 (subst (λ x. AllDistinct (map first_word x)) (sym same) distinct))

pub few_names : (v : Version) (d : Netlist) (names : List TextLine) → IsLawfulDesign d → AllByRecursion (NamesFixed v d) names → AllDistinct (map first_word names) → length names ≤ length d.kinds
few_names v d names law each distinct =
    let none : Marked d [] = record { marks = replicate (length d.kinds) false; long = length-replicate (length d.kinds) false; are = λ b. none_named (length d.kinds) b; count = count_none (length d.kinds) } in
    let m = mark_all v d [] names law none tt each distinct in
    omega (arith, count_at_most m.marks, m.count, m.long)

-- never both

end_clear : (e : PointFault) (l : TextLine) → is_end l ≡ true → EndFault e (l ∷ []) → ⊥
end_clear e l is h = subst (LastFault e l.number []) is h

loose : (d : Netlist) (g : GridShape) (fixed : List (Option Site)) (sites : List Site) → IsLegal d g fixed sites → IsLegal d g [] sites
loose d g fixed sites h = record { all = h.all; fit = h.fit; apart = h.apart; stay = λ b s k. absurd (let none : None ≡ Some s = k in cc) }

version_through : (io_rat : ℕ) (d : Netlist) (ls : List TextLine) (first : TextLine) (fields : List TextLine) (v : Version) (e : PointFault) → ls ≡ first ∷ fields → version_in first ≡ Some v → IsFirstFault io_rat d ls e → FaultBehind e io_rat d v fields
version_through io_rat d ls first fields v e text is h =
    let at : IsFirstFault io_rat d (first ∷ fields) e = subst (λ x. IsFirstFault io_rat d x e) text h in
    subst (VersionFault e (FaultBehind e io_rat d) fields) is at

pub never_both : (io_rat : ℕ) (d : Netlist) (ls : List TextLine) (seed : ℕ) (g : GridShape) (p : Point) (e : PointFault) → IsLawfulDesign d → StandsForPoint io_rat d ls seed g p → IsFirstFault io_rat d ls e → ⊥
never_both io_rat d ls seed g p e law t h =
    let v = t.version in
    let r = said v io_rat d t.fields t.fixed_part seed g p t.says_fields t.array t.schedule t.point in
    let one = version_through io_rat d ls t.first t.fields v e t.text t.version_is h in
    let two = head_through e io_rat d v (BehindHead e v d) t.fields seed g p.schedule r.mid r.head one in
    let three = stage_through e v g p.schedule (BehindStage e v d g) r.mid p.stage p.total t.fixed_part r.cools r.stage two in
    let four = names_through e v d p.placement.sites (BehindNames e d g) t.fixed_part t.place_part p.fixed t.says_fixed (few_names v d t.says_fixed.names law t.says_fixed.each t.says_fixed.distinct) three in
    let five = seats_through e d g p.placement.sites (EndFault e) t.place_part (t.last ∷ []) law (loose d g p.fixed p.placement.sites t.point.legal) t.says_places four in
    end_clear e t.last t.end five

-- only one point

read_same : {A : Type 0} (read : TextLine → Option A) (I J : A → Type 0) (ls : List TextLine) (a b : A) (x y : List TextLine) → IsRead read I ls a x → IsRead read J ls b y → (a ≡ b) × (x ≡ y)
read_same read I J ls a b x y r s =
    let both : r.line ∷ x ≡ s.line ∷ y = sym r.text ∙ s.text in
    let lines : r.line ≡ s.line = (let k = both in cc) in
    let behind : x ≡ y = (let k = both in cc) in
    let says : Some a ≡ Some b = sym r.says ∙ ap read lines ∙ s.says in
    ((let k = says in cc), behind)

heat_read_same : (v : Version) (p : Plan) (x : ℕ) (ls : List TextLine) (t s : ℕ) (xs ys : List TextLine) → OneCools v p → HeatRead v p x ls t xs → HeatRead v p x ls s ys → (t ≡ s) × (xs ≡ ys)
heat_read_same One p x ls t s xs ys cools h k = (heat_same p x t s cools.0 cools.1 h.1 k.1, h.0 ∙ sym k.0)
heat_read_same Two p x ls t s xs ys cools h k = read_same (number_in (codes "temperature")) (MayStand p x) (MayStand p x) ls t s xs ys h k

record SameHead (seed other : ℕ) (g h : GridShape) (p q : Plan) (xs ys : List TextLine) : Type 0 where
  pub seed_is : seed ≡ other
  pub grid_is : g ≡ h
  pub plan_is : p ≡ q
  pub behind : xs ≡ ys

head_same : (v : Version) (io_rat : ℕ) (d : Netlist) (ls : List TextLine) (seed other : ℕ) (g h : GridShape) (p q : Plan) (xs ys : List TextLine) → HeadRead v io_rat d ls seed g p xs → HeadRead v io_rat d ls other h q ys → SameHead seed other g h p q xs ys
head_same v io_rat d ls seed other g h p q xs ys r s =
    let one = read_same (number_in (codes "seed")) IsAny IsAny ls seed other r.after_seed s.after_seed r.seed_read s.seed_read in
    let array : IsRead array_in (λ a. IsArrayFor io_rat d (grid_of a)) r.after_seed (h.nx, h.ny, h.io_rat) s.after_array = subst (λ x. IsRead array_in (λ a. IsArrayFor io_rat d (grid_of a)) x (h.nx, h.ny, h.io_rat) s.after_array) (sym one.1) s.array_read in
    let two = read_same array_in (λ a. IsArrayFor io_rat d (grid_of a)) (λ a. IsArrayFor io_rat d (grid_of a)) r.after_seed (g.nx, g.ny, g.io_rat) (h.nx, h.ny, h.io_rat) r.after_array s.after_array r.array_read array in
    let schedule : IsRead (schedule_in v) (λ x. IsLawful (schedule_of x)) r.after_array (q.init, q.exit, q.cooling, q.moves) ys = subst (λ x. IsRead (schedule_in v) (λ x. IsLawful (schedule_of x)) x (q.init, q.exit, q.cooling, q.moves) ys) (sym two.1) s.schedule_read in
    let three = read_same (schedule_in v) (λ x. IsLawful (schedule_of x)) (λ x. IsLawful (schedule_of x)) r.after_array (p.init, p.exit, p.cooling, p.moves) (q.init, q.exit, q.cooling, q.moves) xs ys r.schedule_read schedule in
    record { seed_is = one.0; grid_is = ap grid_of two.0; plan_is = ap schedule_of three.0; behind = three.1 }

abbrev stage_by : ℕ × ℕ × ℕ → ℕ → ℕ → Stage
stage_by x t range = record { index = x.0; t = t; range = range; done = x.1; accepted = x.2; frozen = eqb t 0 }

stage_is : (s : Stage) → s.frozen ≡ eqb s.t 0 → s ≡ stage_by (s.index, s.done, s.accepted) s.t s.range
stage_is s h = ap (λ (f : Bool). record { index = s.index; t = s.t; range = s.range; done = s.done; accepted = s.accepted; frozen = f }) h

record SameStage (s u : Stage) (total other : ℕ) (xs ys : List TextLine) : Type 0 where
  pub stage_is : s ≡ u
  pub total_is : total ≡ other
  pub behind : xs ≡ ys

stage_same : (v : Version) (g : GridShape) (p : Plan) (ls : List TextLine) (s u : Stage) (total other : ℕ) (xs ys : List TextLine) → OneCools v p → StageRead v g p ls s total xs → StageRead v g p ls u other ys → SameStage s u total other xs ys
stage_same v g p ls s u total other xs ys cools r k =
    let x : ℕ × ℕ × ℕ = (s.index, s.done, s.accepted) in
    let y : ℕ × ℕ × ℕ = (u.index, u.done, u.accepted) in
    let one = read_same stage_in (IsStageOf p) (IsStageOf p) ls x y r.after_stage k.after_stage r.stage_read k.stage_read in
    let heat : HeatRead v p s.index r.after_stage u.t k.after_heat = subst (λ i. HeatRead v p i r.after_stage u.t k.after_heat) (sym (ap (λ (z : ℕ × ℕ × ℕ). z.0) one.0)) (subst (λ w. HeatRead v p u.index w u.t k.after_heat) (sym one.1) k.heat_read) in
    let two = heat_read_same v p s.index r.after_stage s.t u.t r.after_heat k.after_heat cools r.heat_read heat in
    let three = read_same (number_in (codes "range")) (IsRangeOn g) (IsRangeOn g) r.after_heat s.range u.range r.after_range k.after_range r.range_read (subst (λ w. IsRead (number_in (codes "range")) (IsRangeOn g) w u.range k.after_range) (sym two.1) k.range_read) in
    let four = read_same (number_in (codes "total")) (IsTotal p x) (IsTotal p y) r.after_range total other xs ys r.total_read (subst (λ w. IsRead (number_in (codes "total")) (IsTotal p y) w other ys) (sym three.1) k.total_read) in
    record {
      stage_is = stage_is s r.frozen ∙ ap (λ (z : ℕ × ℕ × ℕ). stage_by z s.t s.range) one.0 ∙ ap (λ n. stage_by y n s.range) two.0 ∙ ap (stage_by y u.t) three.0 ∙ sym (stage_is u k.frozen);
      total_is = four.0;
      behind = four.1;
    }

list_same : (us bs xs ys : List TextLine) → length us ≡ length bs → us ++ xs ≡ bs ++ ys → (us ≡ bs) × (xs ≡ ys)
list_same [] [] xs ys long h = (refl, h)
list_same [] (b ∷ bs) xs ys long h = absurd (omega (arith, long))
list_same (a ∷ us) [] xs ys long h = absurd (omega (arith, long))
list_same (a ∷ us) (b ∷ bs) xs ys long h =
    let first : a ≡ b = (let k = h in cc) in
    let rest : us ++ xs ≡ bs ++ ys = (let k = h in cc) in
    let more = list_same us bs xs ys (omega (arith, long)) rest in
    (ap (λ x. x ∷ us) first ∙ ap (λ x. b ∷ x) more.0, more.1)

-- two lists that begin with a count of their own
counted_same : (name : List ℕ) (ls : List TextLine) (c k : TextLine) (us bs xs ys : List TextLine) → ls ≡ c ∷ (us ++ xs) → ls ≡ k ∷ (bs ++ ys) → number_in name c ≡ Some (length us) → number_in name k ≡ Some (length bs) → (us ≡ bs) × (xs ≡ ys)
counted_same name ls c k us bs xs ys t u m n =
    let both : c ∷ (us ++ xs) ≡ k ∷ (bs ++ ys) = sym t ∙ u in
    let first : c ≡ k = (let e = both in cc) in
    let rest : us ++ xs ≡ bs ++ ys = (let e = both in cc) in
    let many : Some (length us) ≡ Some (length bs) = sym m ∙ ap (number_in name) first ∙ n in
    let long : length us ≡ length bs = (let e = many in cc) in
    list_same us bs xs ys long rest

-- each block has a name, and no two have one
pub record HasNames (d : Netlist) : Type 0 where
  pub named : length d.names ≡ length d.kinds
  pub distinct : AllDistinct d.names

pub names_of_lawful : (d : Netlist) → IsLawfulDesign d → HasNames d
names_of_lawful d law = record { named = law.named; distinct = law.distinct }

pub names_of_meaning : (arch : List PinKind) (ls : List TextLine) (d : Netlist) → IsNetlist arch ls d → HasNames d
names_of_meaning arch ls d h = subst HasNames (sym h.netlist) (record { named = length-map (sections ls) name_in ∙ sym (length-map (sections ls) kind_in); distinct = h.distinct })

sites_same : (d : Netlist) (g : GridShape) (ls xs ys : List TextLine) (one two : List Site) → HasNames d → length one ≡ length d.kinds → length two ≡ length d.kinds → SaysPlaces d ls xs one → SaysPlaces d ls ys two → one ≡ two
sites_same d g ls xs ys one two law m n r s =
    let same = counted_same (codes "places") ls r.count_line s.count_line r.places s.places xs ys r.text s.text r.count s.count in
    let each : AllByRecursion (Places d two) r.places = subst (AllByRecursion (Places d two)) (sym same.0) s.each in
    ext_get_or nowhere one two (m ∙ sym n) (λ b lt.
    let below : b < length d.names = omega (arith, lt, m, law.named) in
    agree d one two (get_or d.names b []) b r.places (number_at_name d.names b law.distinct below) r.each each (all_at (λ name. list_any (names_block name) r.places ≡ true) d.names b [] below r.complete))

record Same (seed other : ℕ) (g h : GridShape) (p q : Point) : Type 0 where
  pub seed_is : seed ≡ other
  pub grid_is : g ≡ h
  pub point_is : IsSamePoint p q

fixed_same : (v : Version) (d : Netlist) (one two : List Site) (ls xs ys : List TextLine) (f h : List (Option Site)) → one ≡ two → SaysFixed v d one ls xs f → SaysFixed v d two ls ys h → ((b : ℕ) → fixed_at f b ≡ fixed_at h b) × (xs ≡ ys)
fixed_same v d one two ls xs ys f h same r s =
    let names = counted_same (codes "fixed") ls r.count_line s.count_line r.names s.names xs ys r.text s.text r.count s.count in
    (λ b. r.sites_are b ∙ ap (λ ns. cond (is_repeated d ns b) (Some (site_of one b)) None) names.0 ∙ ap (λ ss. cond (is_repeated d s.names b) (Some (site_of ss b)) None) same ∙ sym (s.sites_are b), names.1)

names_behind : (v : Version) (d : Netlist) (one two : List Site) (ls xs ys : List TextLine) (f h : List (Option Site)) → SaysFixed v d one ls xs f → SaysFixed v d two ls ys h → xs ≡ ys
names_behind v d one two ls xs ys f h r s = (counted_same (codes "fixed") ls r.count_line s.count_line r.names s.names xs ys r.text s.text r.count s.count).1

same_by : (v : Version) (io_rat : ℕ) (d : Netlist) (fields : List TextLine) (seed other : ℕ) (g h : GridShape) (p q : Point) (fp pp fq pq e1 e2 : List TextLine) → HasNames d
    → SaysFields v fields fp seed g p → SaysFixed v d p.placement.sites fp pp p.fixed → SaysPlaces d pp e1 p.placement.sites → IsArrayFor io_rat d g → IsLawful p.schedule → IsPoint d g p
    → SaysFields v fields fq other h q → SaysFixed v d q.placement.sites fq pq q.fixed → SaysPlaces d pq e2 q.placement.sites → IsArrayFor io_rat d h → IsLawful q.schedule → IsPoint d h q → Same seed other g h p q
same_by v io_rat d fields seed other g h p q fp pp fq pq e1 e2 law f1 x1 s1 a1 l1 p1 f2 x2 s2 a2 l2 p2 =
    let r = said v io_rat d fields fp seed g p f1 a1 l1 p1 in
    let s = said v io_rat d fields fq other h q f2 a2 l2 p2 in
    let head = head_same v io_rat d fields seed other g h p.schedule q.schedule r.mid s.mid r.head s.head in
    let moved : StageRead v g p.schedule r.mid q.stage q.total fq = subst (λ m. StageRead v g p.schedule m q.stage q.total fq) (sym head.behind) (subst (λ k. StageRead v g k s.mid q.stage q.total fq) (sym head.plan_is) (subst (λ k. StageRead v k q.schedule s.mid q.stage q.total fq) (sym head.grid_is) s.stage)) in
    let stage = stage_same v g p.schedule r.mid p.stage q.stage p.total q.total fp fq r.cools r.stage moved in
    let names : SaysFixed v d q.placement.sites fp pq q.fixed = subst (λ x. SaysFixed v d q.placement.sites x pq q.fixed) (sym stage.behind) x2 in
    let behind : pp ≡ pq = names_behind v d p.placement.sites q.placement.sites fp pp pq p.fixed q.fixed x1 names in
    let seats : SaysPlaces d pp e2 q.placement.sites = subst (λ x. SaysPlaces d x e2 q.placement.sites) (sym behind) s2 in
    let sites = sites_same d g pp e1 e2 p.placement.sites q.placement.sites law p1.legal.all p2.legal.all s1 seats in
    let fixed = fixed_same v d p.placement.sites q.placement.sites fp pp pq p.fixed q.fixed sites x1 names in
    record {
      seed_is = head.seed_is;
      grid_is = head.grid_is;
      point_is = record {
        schedule = head.plan_is;
        stage = stage.stage_is;
        total = stage.total_is;
        fixed = fixed.0;
        placement = ap (λ (k : GridShape). record { grid = k; sites = p.placement.sites }) (p1.array ∙ head.grid_is ∙ sym p2.array) ∙ ap (λ (k : List Site). record { grid = q.placement.grid; sites = k }) sites;
      };
    }

pub same : (io_rat : ℕ) (d : Netlist) (ls : List TextLine) (seed other : ℕ) (g h : GridShape) (p q : Point) → HasNames d → StandsForPoint io_rat d ls seed g p → StandsForPoint io_rat d ls other h q → (seed ≡ other) × (g ≡ h) × IsSamePoint p q
same io_rat d ls seed other g h p q law t u =
    let both : t.first ∷ t.fields ≡ u.first ∷ u.fields = sym t.text ∙ u.text in
    let firsts : t.first ≡ u.first = (let k = both in cc) in
    let fields : t.fields ≡ u.fields = (let k = both in cc) in
    let versions : Some t.version ≡ Some u.version = sym t.version_is ∙ ap version_in firsts ∙ u.version_is in
    let version : u.version ≡ t.version = (let k = versions in cc) in
    let f2 : SaysFields t.version t.fields u.fixed_part other h q = subst (λ x. SaysFields t.version x u.fixed_part other h q) (sym fields) (subst (λ v. SaysFields v u.fields u.fixed_part other h q) version u.says_fields) in
    let x2 : SaysFixed t.version d q.placement.sites u.fixed_part u.place_part q.fixed = subst (λ v. SaysFixed v d q.placement.sites u.fixed_part u.place_part q.fixed) version u.says_fixed in
    let one = same_by t.version io_rat d t.fields seed other g h p q t.fixed_part t.place_part u.fixed_part u.place_part (t.last ∷ []) (u.last ∷ []) law t.says_fields t.says_fixed t.says_places t.array t.schedule t.point f2 x2 u.says_places u.array u.schedule u.point in
    (one.seed_is, one.grid_is, one.point_is)

pub only_by : (io_rat : ℕ) (d : Netlist) (ls : List TextLine) (seed : ℕ) (g : GridShape) (p : Point) (r : Result (ℕ × GridShape × Point) PointFault) → IsLawfulDesign d → IfOk r (λ x. StandsForPoint io_rat d ls x.0 x.1 x.2) → IfErr r (λ e. (e ≡ NoMemory) ⊎ IsFirstFault io_rat d ls e) → StandsForPoint io_rat d ls seed g p
    → MatchResult r (λ x. (x.0 ≡ seed) × (x.1 ≡ g) × IsSamePoint x.2 p) (λ e. e ≡ NoMemory)
only_by io_rat d ls seed g p (Ok x) law found fault t = same io_rat d ls x.0 seed x.1 g x.2 p (names_of_lawful d law) found t
only_by io_rat d ls seed g p (Err e) law found fault t = elim fault [
  | inl memory ↦ memory
  | inr first ↦ absurd (never_both io_rat d ls seed g p e law t first)
]
