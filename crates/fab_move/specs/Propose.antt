-- What a move proposes (our own; the range limit after Betz, Rose and Marquardt): a block that may move, and a site near it. Three of the
-- four words of the move draw them.
use Rattle.std.specs.Prelude.{ℕ, ◌≡◌, ◌+◌, ◌-◌, ◌/◌, min, max, Bool, if◌then◌else◌, nat_le, ◌&&◌, filter, List, [], ◌∷◌, length, is_some, Option, Some, None, slice_get, slice_index, slice_index_or, codes, refl}
use Rattle.fab_arch.specs.declared.array.Site.{Site}
use Rattle.fab_arch.specs.Grid.{GridShape, shape, perimeter}
use Rattle.fab_net.specs.declared.netlist_types.BlockId.{BlockId}
use Rattle.fab_net.specs.declared.netlist_types.BlockKind.TheVariants.{InputPad, Logic}
use Rattle.fab_net.specs.Netlist.{Netlist, is_logic_at}
use Rattle.fab_site.specs.Placement.{same_site, site, site_of, at, fixed_at}
use Rattle.fab_site.specs.Free.{free_below}
use Rattle.fab_site.specs.Words.{pick_of}
use Rattle.fab_move.specs.declared.proposals.Proposal.{Proposal}
use Rattle.fab_move.specs.declared.proposals.Proposal.TheVariants.{Nothing, Void, Move}

-- the block is fixed
abbrev pub is_fixed : List (Option Site) → ℕ → Bool
is_fixed fixed b = is_some (fixed_at fixed b)

-- the blocks that may move, in order
abbrev pub movable : Netlist → List (Option Site) → List ℕ
movable d fixed = free_below fixed (length d.kinds)

-- the coordinate that a word picks among those from 1 to n that are at most `reach` from `here`. So the window ends at the array's edge
abbrev pub near : ℕ → ℕ → ℕ → ℕ → ℕ
near here reach n w =
    let low = max 1 (here - reach) in
    low + pick_of w (min n (here + reach) - low + 1)

-- the target of a logic block
abbrev pub logic_target : GridShape → Site → ℕ → List ℕ → Site
logic_target g from reach ws =
    site (near from.x reach g.nx (slice_index ws 1)) (near from.y reach g.ny (slice_index ws 2)) 0

-- two coordinates are at most `reach` apart
abbrev pub within : ℕ → ℕ → ℕ → Bool
within reach a b = nat_le a (b + reach) && nat_le b (a + reach)

-- the pad positions near a site, in perimeter order, including its own
abbrev pub near_positions : GridShape → Site → ℕ → List (ℕ × ℕ)
near_positions g from reach =
    filter (λ p. within reach from.x p.0 && within reach from.y p.1) (perimeter g)

-- the target of a pad
abbrev pub pad_target : GridShape → Site → ℕ → List ℕ → Site
pad_target g from reach ws =
    let positions = near_positions g from reach in
    let p = slice_index_or positions (pick_of (slice_index ws 1) (length positions)) (0, 0) in
    site p.0 p.1 (pick_of (slice_index ws 2) g.io_rat)

-- the target of a block that is at `from`; the range is in thousandths
unfoldable pub target : Netlist → GridShape → ℕ → Site → ℕ → List ℕ → Site
target d g b from range ws =
    if is_logic_at d b then logic_target g from (range / 1000) ws else pad_target g from (range / 1000) ws

-- the proposal for a block and its target. The last parameter is the block on the target, if any
abbrev pub propose_held : List (Option Site) → BlockId → Site → Site → Option BlockId → Proposal
propose_held fixed b from to None = Move (record { block = b; from = from; to = to; other = None })
propose_held fixed b from to (Some holder) =
    if is_fixed fixed holder.0 then Void b to else Move (record { block = b; from = from; to = to; other = Some holder })

-- the proposal for a block and its target `to`
abbrev pub propose_to : List (Option Site) → List Site → BlockId → Site → Site → Proposal
propose_to fixed sites b from to = if same_site from to then Void b to else propose_held fixed b from to (at sites to)

-- what is proposed for the chosen block, if there is one
abbrev pub propose_for : Netlist → GridShape → List (Option Site) → List Site → ℕ → List ℕ → Option ℕ → Proposal
propose_for d g fixed sites range ws None = Nothing
propose_for d g fixed sites range ws (Some b) =
    propose_to fixed sites (record { 0 = b }) (site_of sites b) (target d g b (site_of sites b) range ws)

-- what four words propose. If no block may move, nothing; if the target is the block's own site or is held by a fixed block, a void move;
-- otherwise a swap
unfoldable pub proposal : Netlist → GridShape → List (Option Site) → List Site → ℕ → List ℕ → Proposal
proposal d g fixed sites range ws =
    propose_for d g fixed sites range ws (slice_get (movable d fixed) (pick_of (slice_index ws 0) (length (movable d fixed))))

abbrev clock_and_two : Netlist
clock_and_two = record {
  kinds = InputPad ∷ Logic ∷ Logic ∷ [];
  names = codes "ck" ∷ codes "b1" ∷ codes "b2" ∷ [];
  terminals = [];
  globals = [];
}

abbrev three_sites : List Site
three_sites = site 0 1 0 ∷ site 1 1 0 ∷ site 2 2 0 ∷ []

abbrev half : ℕ
half = 2147483648

-- the second of three blocks goes to the site of the third
pub two_blocks_change_places : proposal clock_and_two (shape 2 2 1) [] three_sites 2000 (half ∷ half ∷ half ∷ 0 ∷ []) ≡ Move (record { block = record { 0 = 1 }; from = site 1 1 0; to = site 2 2 0; other = Some (record { 0 = 2 }) })
unfolding proposal target
two_blocks_change_places = refl

-- a pad whose window reaches round the corner of the array
pub the_window_of_a_pad : near_positions (shape 2 2 1) (site 0 1 0) 1 ≡ (0, 1) ∷ (0, 2) ∷ (1, 0) ∷ []
the_window_of_a_pad = refl

pub a_pad_stays_at_its_site : proposal clock_and_two (shape 2 2 1) [] three_sites 1000 (0 ∷ 0 ∷ 0 ∷ 0 ∷ []) ≡ Void (record { 0 = 0 }) (site 0 1 0)
unfolding proposal target
a_pad_stays_at_its_site = refl

pub a_pad_goes_up : proposal clock_and_two (shape 2 2 1) [] three_sites 1000 (0 ∷ half ∷ 0 ∷ 0 ∷ []) ≡ Move (record { block = record { 0 = 0 }; from = site 0 1 0; to = site 0 2 0; other = None })
unfolding proposal target
a_pad_goes_up = refl

-- the holder of the target is fixed
pub a_fixed_holder : proposal clock_and_two (shape 2 2 1) (None ∷ None ∷ Some (site 2 2 0) ∷ []) three_sites 2000 (half ∷ half ∷ half ∷ 0 ∷ []) ≡ Void (record { 0 = 1 }) (site 2 2 0)
unfolding proposal target
a_fixed_holder = refl

pub all_blocks_fixed : proposal clock_and_two (shape 2 2 1) (Some (site 0 1 0) ∷ Some (site 1 1 0) ∷ Some (site 2 2 0) ∷ []) three_sites 2000 (0 ∷ 0 ∷ 0 ∷ 0 ∷ []) ≡ Nothing
unfolding proposal target
all_blocks_fixed = refl

-- the greatest word picks the last position of the window, round the corner
pub a_pad_goes_round_the_corner : proposal clock_and_two (shape 2 2 1) [] three_sites 1000 (0 ∷ 4294967295 ∷ 0 ∷ 0 ∷ []) ≡ Move (record { block = record { 0 = 0 }; from = site 0 1 0; to = site 1 0 0; other = None })
unfolding proposal target
a_pad_goes_round_the_corner = refl

-- the fixed block is left out: the first word picks among the two others
pub a_fixed_block_is_not_chosen : proposal clock_and_two (shape 2 2 1) (Some (site 0 1 0) ∷ []) three_sites 2000 (0 ∷ half ∷ 0 ∷ 0 ∷ []) ≡ Move (record { block = record { 0 = 1 }; from = site 1 1 0; to = site 2 1 0; other = None })
unfolding proposal target
a_fixed_block_is_not_chosen = refl
