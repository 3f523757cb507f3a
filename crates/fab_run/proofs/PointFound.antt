-- What was read of a checkpoint text is what it stands for.
use Rattle.std.proofs.Common.{◌≡◌, ℕ, ◌<◌, Bool, true, false, cond, not, eqb, List, [], ◌∷◌, ◌++◌, Option, Some, None, length, get_or, map, take, drop, zero, suc, refl, sym, ap, ◌∙◌, subst, arith, inl, inr}
use Rattle.std.specs.Prelude.{slice_get, option_map}
use Rattle.std.specs.List.{AllByRecursion}
use Rattle.std.proofs.lemmas.Bool.{cases_Bool, false≢true, eqb-true}
use Rattle.std.proofs.lemmas.List.{append-nil, append_assoc, map_push}
use Rattle.fab_text.specs.Lines.{TextLine}
use Rattle.fab_text.specs.FirstFault.{or_else, unless, fault_behind}
use Rattle.fab_arch.specs.declared.array.Site.{Site}
use Rattle.fab_arch.specs.Grid.{GridShape}
use Rattle.fab_net.specs.Names.{AllDistinct}
use Rattle.fab_net.specs.Netlist.{Netlist, is_logic_at}
use Rattle.fab_net.proofs.Underway.{all_push, distinct_push}
use Rattle.fab_site.specs.Placement.{PlacementOf, fixed_at, site_of}
use Rattle.fab_sched.specs.Annealing.{MayStand, Plan}
use Rattle.fab_file.specs.declared.fault.PlaceFault.{PlaceFault}
use Rattle.fab_file.specs.declared.fault.PlaceFault.TheVariants.{NotAPad, Repeated}
use Rattle.fab_file.specs.Place.{block_in}
use Rattle.fab_file.specs.PlaceFaults.{is_repeated}
use Rattle.fab_file.proofs.Seats.{first_word, unnamed}
use Rattle.fab_commit.specs.declared.run.point.Point.{Point}
use Rattle.fab_commit.specs.Run.Points.{IsPoint}
use Rattle.fab_run.specs.declared.point_fault.PointFault.{PointFault}
use Rattle.fab_run.specs.declared.point_fault.PointFault.TheVariants.{BadField, Block}
use Rattle.fab_run.specs.declared.point_words.Version.{Version}
use Rattle.fab_run.specs.declared.point_words.Version.TheVariants.{One, Two}
use Rattle.fab_run.specs.PointFields.{is_fixed_line}
use Rattle.fab_run.specs.PointMeaning.{MayBeFixed, NamesFixed, SaysFields, SaysFixed, SaysHeat, SaysPlaces, StandsForPoint}
use Rattle.fab_run.specs.PointFaults.{fixed_fault, name_fault, seat_fault}
use Rattle.fab_run.specs.PointReading.{EndRead, HeadRead, HeatRead, NamesRead, SeatsRead, StageRead}
use Rattle.fab_text.proofs.Taken.{none_of_both}
use Rattle.fab_run.proofs.PointParts.{end_by, unless_none}
use Rattle.fab_run.proofs.PointWhole.{HasHead}

-- lines without a fault are as many as are due

pub many_there : (of_line : List TextLine → TextLine → Option PointFault) (many : ℕ) (before ls : List TextLine) → fault_behind of_line (end_by many) before ls ≡ None → length (before ++ ls) ≡ many
many_there of_line many before [] none =
    let nil : before ++ [] ≡ before = append-nil before in
    ap length nil ∙ eqb-true (length before) many (unless_none (eqb (length before) many) (BadField 0) none)
many_there of_line many before (l ∷ ls) none =
    let parts = none_of_both (of_line before l) (fault_behind of_line (end_by many) (before ++ l ∷ []) ls) none in
    ap length (sym (append_assoc before (l ∷ []) ls)) ∙ many_there of_line many (before ++ l ∷ []) ls parts.1

-- names of fixed blocks without a fault

pub record IsClear (v : Version) (d : Netlist) (is_fixed : ℕ → Bool) (form : Bool) (o : Option ℕ) : Type 0 where
  pub block : ℕ
  pub form_is : form ≡ true
  pub named : o ≡ Some block
  pub new : is_fixed block ≡ false
  pub may : MayBeFixed v d block

none_of : (o : Option PlaceFault) → option_map (λ (e : PlaceFault). Block e) o ≡ None → o ≡ None
none_of None h = refl
none_of (Some e) h = absurd (let some : Some (Block e) ≡ None = h in cc)

not_so : (b : Bool) (e : PlaceFault) → unless (not b) e ≡ None → b ≡ false
not_so true e h = absurd (let some : Some e ≡ None = h in cc)
not_so false e h = refl

both_none : (a b : Option PlaceFault) → or_else a b ≡ None → (a ≡ None) × (b ≡ None)
both_none None b h = (refl, h)
both_none (Some e) b h = absurd (let some : Some e ≡ None = h in cc)

pub clear_name : (v : Version) (d : Netlist) (is_fixed : ℕ → Bool) (n : ℕ) (form : Bool) (o : Option ℕ) → name_fault v d is_fixed n form o ≡ None → IsClear v d is_fixed form o
clear_name v d is_fixed n false o h = absurd (let some : Some _ ≡ None = h in cc)
clear_name v d is_fixed n true None h = absurd (let some : Some _ ≡ None = h in cc)
clear_name One d is_fixed n true (Some b) h =
    let parts = both_none (unless (not (is_fixed b)) (Repeated n)) (unless (not (is_logic_at d b)) (NotAPad n)) h in
    record { block = b; form_is = refl; named = refl; new = not_so (is_fixed b) (Repeated n) parts.0; may = not_so (is_logic_at d b) (NotAPad n) parts.1 }
clear_name Two d is_fixed n true (Some b) h = record { block = b; form_is = refl; named = refl; new = not_so (is_fixed b) (Repeated n) h; may = tt }

pub record AreNames (v : Version) (d : Netlist) (ls : List TextLine) : Type 0 where
  pub each : AllByRecursion (NamesFixed v d) ls
  pub distinct : AllDistinct (map first_word ls)

pub names_meant : (v : Version) (d : Netlist) (many : ℕ) (before ls : List TextLine) → AreNames v d before → fault_behind (fixed_fault v d) (end_by many) before ls ≡ None → AreNames v d (before ++ ls)
names_meant v d many before [] r none = let nil : before ++ [] ≡ before = append-nil before in subst (AreNames v d) (sym nil) r
names_meant v d many before (l ∷ ls) r none =
    let parts = none_of_both (fixed_fault v d before l) (fault_behind (fixed_fault v d) (end_by many) (before ++ l ∷ []) ls) none in
    let k = clear_name v d (is_repeated d before) l.number (is_fixed_line l) (block_in d l) (none_of _ parts.0) in
    let one : NamesFixed v d l = record { block = k.block; form = k.form_is; named = k.named; may = k.may } in
    let next : AreNames v d (before ++ l ∷ []) = record {
      each = all_push (NamesFixed v d) before l r.each one;
      distinct = subst AllDistinct (sym (map_push first_word before l)) (distinct_push (map first_word before) (first_word l) r.distinct (unnamed d.names (first_word l) k.block before k.named k.new));
    } in
    subst (AreNames v d) (append_assoc before (l ∷ []) ls) (names_meant v d many (before ++ l ∷ []) ls next parts.1)

take_drop : (n : ℕ) (xs : List TextLine) → xs ≡ take n xs ++ drop n xs
take_drop zero xs = refl
take_drop (suc n) [] = refl
take_drop (suc n) (x ∷ xs) = ap (λ v. x ∷ v) (take_drop n xs)

pub says_fixed : (v : Version) (d : Netlist) (ls : List TextLine) (named : List Bool) (behind : List TextLine) (sites : List Site) (fixed : List (Option Site)) → NamesRead v d ls named behind
    → ((b : ℕ) → fixed_at fixed b ≡ cond (get_or named b false) (Some (site_of sites b)) None) → SaysFixed v d sites ls behind fixed
says_fixed v d ls named behind sites fixed r h =
    let there = take r.many r.after in
    let names = names_meant v d r.many [] there (record { each = tt; distinct = tt }) r.names.clean in
    let many : length there ≡ r.many = many_there (fixed_fault v d) r.many [] there r.names.clean in
    record {
      count_line = r.count_read.line;
      names = there;
      text = r.count_read.text ∙ ap (λ x. r.count_read.line ∷ x) (take_drop r.many r.after ∙ ap (λ x. there ++ x) (sym r.names.rest));
      count = r.count_read.says ∙ ap (λ n. Some n) (sym many);
      each = names.each;
      distinct = names.distinct;
      sites_are = λ b. h b ∙ ap (λ t. cond t (Some (site_of sites b)) None) (r.names.named_are b);
    }

pub says_places : (d : Netlist) (g : GridShape) (ls : List TextLine) (placement : PlacementOf) (behind : List TextLine) → SeatsRead d g ls placement behind → SaysPlaces d ls behind placement.sites
says_places d g ls placement behind r =
    let n = length d.kinds in
    let there = take n r.after in
    let many : length there ≡ n = many_there (seat_fault d g) n [] there r.seats.clean in
    record {
      count_line = r.count_read.line;
      places = there;
      text = r.count_read.text ∙ ap (λ x. r.count_read.line ∷ x) (take_drop n r.after ∙ ap (λ x. there ++ x) (sym r.seats.rest));
      count = r.count_read.says ∙ ap (λ n. Some n) (sym many);
      all = many;
      each = r.seats.each;
      distinct = r.seats.distinct;
      complete = r.seats.complete;
    }

-- the fields

record HasHeat (v : Version) (p : Plan) (x : ℕ) (ls : List TextLine) (t : ℕ) (behind : List TextLine) : Type 0 where
  pub lines : List TextLine
  pub text : ls ≡ lines ++ behind
  pub says : SaysHeat v lines t
  pub may : MayStand p x t

has_heat : (v : Version) (p : Plan) (x : ℕ) (ls : List TextLine) (t : ℕ) (behind : List TextLine) → HeatRead v p x ls t behind → HasHeat v p x ls t behind
has_heat One p x ls t behind r = record { lines = []; text = sym r.0; says = refl; may = r.1 }
has_heat Two p x ls t behind r = record { lines = r.line ∷ []; text = r.text; says = (r.line, refl, r.says); may = r.within }

pub says_fields : (v : Version) (io_rat : ℕ) (d : Netlist) (ls mid behind : List TextLine) (seed : ℕ) (g : GridShape) (p : Point) → HeadRead v io_rat d ls seed g p.schedule mid → StageRead v g p.schedule mid p.stage p.total behind → SaysFields v ls behind seed g p
says_fields v io_rat d ls mid behind seed g p h s =
    let heat = has_heat v p.schedule p.stage.index s.after_stage p.stage.t s.after_heat s.heat_read in
    let tail : s.after_heat ≡ s.range_read.line ∷ s.total_read.line ∷ behind = s.range_read.text ∙ ap (λ x. s.range_read.line ∷ x) s.total_read.text in
    let stage : mid ≡ s.stage_read.line ∷ (heat.lines ++ (s.range_read.line ∷ s.total_read.line ∷ behind)) = s.stage_read.text ∙ ap (λ x. s.stage_read.line ∷ x) (heat.text ∙ ap (λ x. heat.lines ++ x) tail) in
    record {
      seed_line = h.seed_read.line;
      array_line = h.array_read.line;
      schedule_line = h.schedule_read.line;
      stage_line = s.stage_read.line;
      heat_lines = heat.lines;
      range_line = s.range_read.line;
      total_line = s.total_read.line;
      text = h.seed_read.text ∙ ap (λ x. h.seed_read.line ∷ x) (h.array_read.text ∙ ap (λ x. h.array_read.line ∷ x) (h.schedule_read.text ∙ ap (λ x. h.schedule_read.line ∷ x) stage));
      seed_is = h.seed_read.says;
      array_is = h.array_read.says;
      schedule_is = h.schedule_read.says;
      stage_is = s.stage_read.says;
      heat_is = heat.says;
      range_is = s.range_read.says;
      total_is = s.total_read.says;
    }

-- the point

slice_there : (sites : List Site) (b : ℕ) → b < length sites → slice_get sites b ≡ Some (site_of sites b)
slice_there [] b lt = absurd (omega (arith, lt))
slice_there (s ∷ sites) zero lt = refl
slice_there (s ∷ sites) (suc b) lt = slice_there sites b (omega (arith, lt))

beyond : (named : List Bool) (b : ℕ) → get_or named b false ≡ true → b < length named
beyond [] b h = absurd (false≢true h)
beyond (n ∷ ns) zero h = omega arith
beyond (n ∷ ns) (suc b) h = omega (arith, beyond ns b h)

stays : (named : List Bool) (sites : List Site) (o : Option Site) (b : ℕ) (s : Site) → length named ≡ length sites → o ≡ cond (get_or named b false) (Some (site_of sites b)) None → o ≡ Some s → slice_get sites b ≡ Some s
stays named sites o b s long h k = elim (cases_Bool (get_or named b false)) [
  | inl y ↦
      let is : Some (site_of sites b) ≡ Some s = sym (h ∙ ap (λ t. cond t (Some (site_of sites b)) None) y) ∙ k in
      slice_there sites b (omega (arith, beyond named b y, long)) ∙ is
  | inr n ↦ absurd (let none : None ≡ Some s = sym (h ∙ ap (λ t. cond t (Some (site_of sites b)) None) n) ∙ k in cc)
]

pub is_point : (v : Version) (d : Netlist) (g : GridShape) (mid after then behind : List TextLine) (named : List Bool) (p : Point) → StageRead v g p.schedule mid p.stage p.total after → NamesRead v d after named then → SeatsRead d g then p.placement behind
    → ((b : ℕ) → fixed_at p.fixed b ≡ cond (get_or named b false) (Some (site_of p.placement.sites b)) None) → IsPoint d g p
is_point v d g mid after then behind named p s n u h =
    let legal = u.seats.legal in
    let heat = has_heat v p.schedule p.stage.index s.after_stage p.stage.t s.after_heat s.heat_read in
    record {
      array = u.seats.array;
      legal = record {
        all = legal.all;
        fit = legal.fit;
        apart = legal.apart;
        stay = λ b x k. stays named p.placement.sites (fixed_at p.fixed b) b x (n.names.long ∙ sym legal.all) (h b) k;
      };
      stage = record {
        stands = heat.may;
        range = s.range_read.within;
        accepted = s.stage_read.within.2;
        done = omega (arith, s.stage_read.within.1);
        frozen = s.frozen;
      };
      left = s.stage_read.within.1;
      counted = s.total_read.within;
    }

pub found : (io_rat : ℕ) (d : Netlist) (ls : List TextLine) (v : Version) (seed : ℕ) (g : GridShape) (mid after then behind : List TextLine) (named : List Bool) (p : Point) → HasHead io_rat d ls v seed g p.schedule mid → StageRead v g p.schedule mid p.stage p.total after → NamesRead v d after named then
    → SeatsRead d g then p.placement behind → EndRead behind → ((b : ℕ) → fixed_at p.fixed b ≡ cond (get_or named b false) (Some (site_of p.placement.sites b)) None) → StandsForPoint io_rat d ls seed g p
found io_rat d ls v seed g mid after then behind named p r s n u e h =
    record {
      version = v;
      first = r.version.line;
      fields = r.after_version;
      fixed_part = after;
      place_part = then;
      last = e.line;
      text = r.version.text;
      version_is = r.version.says;
      says_fields = says_fields v io_rat d r.after_version mid after seed g p r.head s;
      says_fixed = says_fixed v d after named then p.placement.sites p.fixed n h;
      says_places = subst (λ x. SaysPlaces d then x p.placement.sites) e.text (says_places d g then p.placement behind u);
      end = e.end;
      array = r.head.array_read.within;
      schedule = r.head.schedule_read.within;
      point = is_point v d g mid after then behind named p s n u h;
    }
