-- Examples of what a checkpoint text stands for, and of its first fault: a pad and a logic block on an array of two by two.
use Rattle.std.specs.Prelude.{ℕ, zero, suc, ◌≡◌, List, [], ◌∷◌, Some, None, true, false, if◌then◌else◌, slice_get, codes, refl}
use Rattle.std.proofs.Common.{eqb, arith, inl, lit<, lit≤}
use Rattle.std.proofs.lemmas.Bool.{ne_eqb}
use Rattle.fab_text.specs.Lines.{TextLine}
use Rattle.fab_text.specs.Decimal.{decimal_of}
use Rattle.fab_arch.specs.declared.array.Site.{Site}
use Rattle.fab_site.specs.Placement.{fixed_at, site, site_of}
use Rattle.fab_site.specs.Examples.{pad_and_logic, two_by_two, each_on_a_site_of_its_kind}
use Rattle.fab_sched.specs.declared.schedules.Cooling.TheVariants.{Factor}
use Rattle.fab_sched.specs.Annealing.{plan_of}
use Rattle.fab_file.specs.declared.fault.PlaceFault.TheVariants.{NotAPad, Repeated}
use Rattle.fab_file.specs.PlaceFaults.{is_repeated}
use Rattle.fab_commit.specs.declared.run.point.Point.{Point}
use Rattle.fab_run.specs.declared.point_fault.PointFault.TheVariants.{BadField, BadVersion, OutOfRange}
use Rattle.fab_run.specs.declared.point_fault.PointField.TheVariants.{Array}
use Rattle.fab_run.specs.declared.point_words.Version.TheVariants.{One, Two}
use Rattle.fab_run.specs.PointMeaning.{StandsForPoint}
use Rattle.fab_run.specs.PointFaults.{EndFault, IsFirstFault, name_fault}

abbrev line : ℕ → List (List ℕ) → TextLine
line n words = record { number = n; words = words; spans = [] }

abbrev version : TextLine
version = line 1 (codes "vplace" ∷ codes "point" ∷ codes "1" ∷ [])

abbrev seed_line : TextLine
seed_line = line 2 (codes "seed" ∷ codes "7" ∷ [])

abbrev array_line : TextLine
array_line = line 3 (codes "array" ∷ codes "2" ∷ codes "x" ∷ codes "2" ∷ codes "io_rat" ∷ codes "1" ∷ [])

abbrev schedule_line : TextLine
schedule_line = line 4 (codes "schedule" ∷ codes "9" ∷ codes "1" ∷ codes "500" ∷ codes "3" ∷ [])

abbrev stage_line : TextLine
stage_line = line 5 (codes "stage" ∷ codes "1" ∷ codes "done" ∷ codes "2" ∷ codes "accepted" ∷ codes "1" ∷ [])

abbrev range_line : TextLine
range_line = line 6 (codes "range" ∷ codes "1500" ∷ [])

abbrev total_line : TextLine
total_line = line 7 (codes "total" ∷ codes "3" ∷ [])

abbrev fixed_line : TextLine
fixed_line = line 8 (codes "fixed" ∷ codes "1" ∷ [])

abbrev pad_is_fixed : TextLine
pad_is_fixed = line 9 (codes "a" ∷ codes "fixed" ∷ [])

abbrev places_line : TextLine
places_line = line 10 (codes "places" ∷ codes "2" ∷ [])

abbrev logic_line : TextLine
logic_line = line 11 (codes "b" ∷ codes "2" ∷ codes "2" ∷ codes "0" ∷ [])

abbrev pad_line : TextLine
pad_line = line 12 (codes "a" ∷ codes "0" ∷ codes "1" ∷ codes "0" ∷ [])

abbrev end_line : TextLine
end_line = line 13 (codes "end" ∷ [])

abbrev places : List TextLine
places = places_line ∷ logic_line ∷ pad_line ∷ end_line ∷ []

abbrev fixed_and_places : List TextLine
fixed_and_places = fixed_line ∷ pad_is_fixed ∷ places

abbrev fields : List TextLine
fields = seed_line ∷ array_line ∷ schedule_line ∷ stage_line ∷ range_line ∷ total_line ∷ fixed_and_places

-- the second stage, of which one move is left, at half the first temperature, rounded down
abbrev in_the_second_stage : Point
in_the_second_stage = record {
  schedule = plan_of 9 1 (Factor 500) 3;
  stage = record { index = 1; t = 4; range = 1500; done = 2; accepted = 1; frozen = false };
  total = 3;
  fixed = Some (site 0 1 0) ∷ [];
  placement = record { grid = two_by_two; sites = site 0 1 0 ∷ site 2 2 0 ∷ [] };
}

none_some : {X : Type 0} (x : X) → None ≡ Some x → ⊥
none_some x h = cc

pub a_text_of_the_first_version : StandsForPoint 1 pad_and_logic (version ∷ fields) 7 two_by_two in_the_second_stage
unfolding decimal_of
a_text_of_the_first_version = record {
  version = One;
  first = version;
  fields = fields;
  fixed_part = fixed_and_places;
  place_part = places;
  last = end_line;
  text = refl;
  version_is = refl;
  says_fields = record {
    seed_line = seed_line;
    array_line = array_line;
    schedule_line = schedule_line;
    stage_line = stage_line;
    heat_lines = [];
    range_line = range_line;
    total_line = total_line;
    text = refl;
    seed_is = refl;
    array_is = refl;
    schedule_is = refl;
    stage_is = refl;
    heat_is = refl;
    range_is = refl;
    total_is = refl;
  };
  says_fixed = record {
    count_line = fixed_line;
    names = pad_is_fixed ∷ [];
    text = refl;
    count = refl;
    each = (record { block = 0; form = refl; named = refl; may = refl }, tt);
    distinct = (refl, tt);
    sites_are = sites_are;
  };
  says_places = record {
    count_line = places_line;
    places = logic_line ∷ pad_line ∷ [];
    text = refl;
    count = refl;
    all = refl;
    each = (record { block = 1; named = refl; stands = refl }, (record { block = 0; named = refl; stands = refl }, tt));
    distinct = (refl, (refl, tt));
    complete = (refl, (refl, tt));
  };
  end = refl;
  array = record { limits = record { columns = (lit≤ tt, lit≤ tt); rows = (lit≤ tt, lit≤ tt); ratio = (lit≤ tt, lit≤ tt) }; ratio = refl; holds = (lit≤ tt, lit≤ tt) };
  schedule = record { init = (lit≤ tt, lit≤ tt); exit = (lit≤ tt, lit≤ tt); cooling = (lit≤ tt, lit≤ tt); moves = (lit≤ tt, lit≤ tt) };
  point = record {
    array = refl;
    legal = record { all = refl; fit = each_on_a_site_of_its_kind.fit; apart = each_on_a_site_of_its_kind.apart; stay = stay };
    stage = record { stands = refl; range = (lit≤ tt, lit≤ tt); accepted = lit≤ tt; done = lit≤ tt; frozen = refl };
    left = lit< tt;
    counted = (lit≤ tt, lit≤ tt);
  };
}
  where
    sites_are : (b : ℕ) → fixed_at (Some (site 0 1 0) ∷ []) b ≡ (if is_repeated pad_and_logic (pad_is_fixed ∷ []) b then Some (site_of (site 0 1 0 ∷ site 2 2 0 ∷ []) b) else None)
    sites_are zero = refl
    sites_are (suc b) = let not_pad : eqb 0 (suc b) ≡ false = ne_eqb 0 (suc b) (λ e. omega (arith, e)) in rw not_pad refl

    stay : (b : ℕ) (s : Site) → fixed_at (Some (site 0 1 0) ∷ []) b ≡ Some s → slice_get (site 0 1 0 ∷ site 2 2 0 ∷ []) b ≡ Some s
    stay zero s h = h
    stay (suc b) s h = absurd (none_some s h)

pub no_lines_at_all : IsFirstFault 1 pad_and_logic [] BadVersion
no_lines_at_all = refl

pub nothing_behind_the_version : IsFirstFault 1 pad_and_logic (version ∷ []) (BadField 0)
nothing_behind_the_version = refl

pub a_seed_without_a_number : IsFirstFault 1 pad_and_logic (version ∷ line 2 (codes "seed" ∷ []) ∷ []) (BadField 2)
a_seed_without_a_number = refl

-- the architecture has two pads at a position
pub another_ratio : IsFirstFault 2 pad_and_logic (version ∷ seed_line ∷ array_line ∷ []) (OutOfRange Array)
unfolding decimal_of
another_ratio = inl ((λ h. let same : 1 ≡ 2 = h.ratio in absurd cc), refl)

pub a_logic_block_fixed_by_the_first_version : name_fault One pad_and_logic (λ b. false) 9 true (Some 1) ≡ Some (NotAPad 9)
a_logic_block_fixed_by_the_first_version = refl

pub one_fixed_by_the_second : name_fault Two pad_and_logic (λ b. false) 9 true (Some 1) ≡ None
one_fixed_by_the_second = refl

pub fixed_twice : name_fault One pad_and_logic (λ b. true) 9 true (Some 1) ≡ Some (Repeated 9)
fixed_twice = refl

pub a_line_behind_the_end : EndFault (BadField 14) (end_line ∷ line 14 (codes "end" ∷ []) ∷ [])
a_line_behind_the_end = refl
