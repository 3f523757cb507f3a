-- What a checkpoint text stands for (our own): a seed, an array, and a point of a run there.
use Rattle.std.specs.Prelude.{ℕ, ◌≡◌, true, false, List, [], ◌∷◌, ◌++◌, if◌then◌else◌, length, map, codes, Option, Some, None}
use Rattle.std.specs.List.{AllByRecursion, list_any}
use Rattle.fab_text.specs.Lines.{TextLine}
use Rattle.fab_arch.specs.declared.array.Site.{Site}
use Rattle.fab_arch.specs.Grid.{GridShape, AreLimits, Holds}
use Rattle.fab_net.specs.Names.{AllDistinct}
use Rattle.fab_net.specs.Netlist.{Netlist, is_logic_at, logic_count, pad_count}
use Rattle.fab_site.specs.Placement.{fixed_at, site_of}
use Rattle.fab_sched.specs.Annealing.{IsLawful}
use Rattle.fab_file.specs.Place.{Places, block_in, names_block, word_at}
use Rattle.fab_file.specs.PlaceFaults.{is_repeated}
use Rattle.fab_commit.specs.declared.run.point.Point.{Point}
use Rattle.fab_commit.specs.Run.Points.{IsPoint}
use Rattle.fab_run.specs.declared.point_words.Version.{Version}
use Rattle.fab_run.specs.declared.point_words.Version.TheVariants.{One, Two}
use Rattle.fab_run.specs.PointFields.{version_in, number_in, array_in, schedule_in, stage_in, is_fixed_line, is_end}

-- the temperature of the running stage has a line of its own; in the first version only the schedule gives it
abbrev pub SaysHeat : Version → List TextLine → ℕ → Type 0
SaysHeat One ls t = ls ≡ []
SaysHeat Two ls t = (l : TextLine) × (ls ≡ l ∷ []) × (number_in (codes "temperature") l ≡ Some t)

-- the fields from the seed to the moves accepted in all, and the lines after them
pub record SaysFields (v : Version) (ls behind : List TextLine) (seed : ℕ) (g : GridShape) (p : Point) : Type 0 where
  pub seed_line : TextLine
  pub array_line : TextLine
  pub schedule_line : TextLine
  pub stage_line : TextLine
  pub heat_lines : List TextLine
  pub range_line : TextLine
  pub total_line : TextLine
  pub text : ls ≡ seed_line ∷ array_line ∷ schedule_line ∷ stage_line ∷ (heat_lines ++ (range_line ∷ total_line ∷ behind))
  pub seed_is : number_in (codes "seed") seed_line ≡ Some seed
  pub array_is : array_in array_line ≡ Some (g.nx, g.ny, g.io_rat)
  pub schedule_is : schedule_in v schedule_line ≡ Some (p.schedule.init, p.schedule.exit, p.schedule.cooling, p.schedule.moves)
  pub stage_is : stage_in stage_line ≡ Some (p.stage.index, p.stage.done, p.stage.accepted)
  pub heat_is : SaysHeat v heat_lines p.stage.t
  pub range_is : number_in (codes "range") range_line ≡ Some p.stage.range
  pub total_is : number_in (codes "total") total_line ≡ Some p.total

-- the first version fixes only pads
abbrev pub MayBeFixed : Version → Netlist → ℕ → Type 0
MayBeFixed One d b = is_logic_at d b ≡ false
MayBeFixed Two d b = Unit {0}

-- `NAME fixed`, with the name of a block
pub record NamesFixed (v : Version) (d : Netlist) (l : TextLine) : Type 0 where
  pub block : ℕ
  pub form : is_fixed_line l ≡ true
  pub named : block_in d l ≡ Some block
  pub may : MayBeFixed v d block

-- the fixed blocks, one line for each, and each fixed at its site
pub record SaysFixed (v : Version) (d : Netlist) (sites : List Site) (ls behind : List TextLine) (fixed : List (Option Site)) : Type 0 where
  pub count_line : TextLine
  pub names : List TextLine
  pub text : ls ≡ count_line ∷ (names ++ behind)
  pub count : number_in (codes "fixed") count_line ≡ Some (length names)
  pub each : AllByRecursion (NamesFixed v d) names
  pub distinct : AllDistinct (map (λ l. word_at l 0) names)
  pub sites_are : (b : ℕ) → fixed_at fixed b ≡ (if is_repeated d names b then Some (site_of sites b) else None)

-- the site of each block, in any order: as many lines as blocks, no block twice, and none missing
pub record SaysPlaces (d : Netlist) (ls behind : List TextLine) (sites : List Site) : Type 0 where
  pub count_line : TextLine
  pub places : List TextLine
  pub text : ls ≡ count_line ∷ (places ++ behind)
  pub count : number_in (codes "places") count_line ≡ Some (length places)
  pub all : length places ≡ length d.kinds
  pub each : AllByRecursion (Places d sites) places
  pub distinct : AllDistinct (map (λ l. word_at l 0) places)
  pub complete : AllByRecursion (λ name. list_any (names_block name) places ≡ true) d.names

-- an array with `io_rat` pads at a position, which holds the design
pub record IsArrayFor (io_rat : ℕ) (d : Netlist) (g : GridShape) : Type 0 where
  pub limits : AreLimits g.nx g.ny g.io_rat
  pub ratio : g.io_rat ≡ io_rat
  pub holds : Holds g (logic_count d) (pad_count d)

-- the text stands for this seed, this array, and this point of a run of the design there
pub record StandsForPoint (io_rat : ℕ) (d : Netlist) (ls : List TextLine) (seed : ℕ) (g : GridShape) (p : Point) : Type 0 where
  pub version : Version
  pub first : TextLine
  pub fields : List TextLine
  pub fixed_part : List TextLine
  pub place_part : List TextLine
  pub last : TextLine
  pub text : ls ≡ first ∷ fields
  pub version_is : version_in first ≡ Some version
  pub says_fields : SaysFields version fields fixed_part seed g p
  pub says_fixed : SaysFixed version d p.placement.sites fixed_part place_part p.fixed
  pub says_places : SaysPlaces d place_part (last ∷ []) p.placement.sites
  pub end : is_end last ≡ true
  pub array : IsArrayFor io_rat d g
  pub schedule : IsLawful p.schedule
  pub point : IsPoint d g p

-- the two are one point: fixed blocks are compared as a map from blocks to sites
pub record IsSamePoint (p q : Point) : Type 0 where
  pub schedule : p.schedule ≡ q.schedule
  pub stage : p.stage ≡ q.stage
  pub total : p.total ≡ q.total
  pub fixed : (b : ℕ) → fixed_at p.fixed b ≡ fixed_at q.fixed b
  pub placement : p.placement ≡ q.placement
