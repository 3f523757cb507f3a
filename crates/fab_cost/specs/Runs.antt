-- Positions as vectors of lanes, the nets of a block as records of the other blocks on them, and how kept values fit together (our own).
use Rattle.std.specs.Prelude.{ℕ, ◌≡◌, ◌+◌, ◌*◌, ◌^◌, ◌-◌, ◌<◌, ◌≤◌, ◌==◌, ◌&&◌, ◌||◌, not, nat_lt, nat_le, min, if◌then◌else◌, Bool, true, false, List, [], ◌∷◌, ◌++◌, map, replicate, take, filter, length, slice_index, slice_index_or, refl}
use Rattle.std.specs.List.{sum_by, range_with_len}
use lib.Lanes.{Each1, zip2, fold_l, sum_l}
use Rattle.fab_arch.specs.declared.array.Site.{Site}
use Rattle.fab_arch.specs.Grid.{GridShape}
use Rattle.fab_net.specs.Rows.{row_of}
use Rattle.fab_net.specs.Netlist.{Netlist, net_at, nets_of, counted, has_number, terminal}
use Rattle.fab_site.specs.declared.placement_types.Swap.{Swap}
use Rattle.fab_cost.specs.declared.records.Record.{Record}
use Rattle.fab_cost.specs.declared.runs.Runs.{Runs}
use Rattle.fab_cost.specs.declared.edge_counts.CountedBox.{CountedBox}
use Rattle.fab_cost.specs.Cost.{cross_of, net_cost}
use Rattle.fab_cost.specs.Boxes.{Counts}
use Rattle.fab_cost.specs.Edges.{edges_of, times}
use Rattle.fab_cost.specs.Swapping.{Position, position_at, counted_blocks, counted_at, blocks_of}

-- four lanes
abbrev pub four : ℕ → ℕ → ℕ → ℕ → List ℕ
four a b c d = a ∷ b ∷ c ∷ d ∷ []

-- each of the first four numbers is below its counterpart
pub record AreFourBelow (a b c d e f g h : ℕ) : Type 0 where
  pub first : a < e
  pub second : b < f
  pub third : c < g
  pub fourth : d < h

-- a position as four lanes: column, 1001 minus column, row, 1001 minus row. So one minimum finds all four edges of a box
abbrev pub lanes_for : Position → List ℕ
lanes_for p = four p.x (1001 - p.x) p.y (1001 - p.y)

-- the lanes of a site
abbrev pub lanes_at : GridShape → Site → List ℕ
lanes_at g s = lanes_for (position_at g s)

-- the lesser number of each lane
abbrev pub least_of : List ℕ → List ℕ → List ℕ
least_of a b = zip2 (λ x y. min x y) a b

-- the edges of a box as lanes: the least column and row, and 1001 minus the greatest column and row
abbrev pub edge_lanes : CountedBox → List ℕ
edge_lanes b = four b.x.least.at (1001 - b.x.greatest.at) b.y.least.at (1001 - b.y.greatest.at)

-- the lane of an edge, or 1 less if the edge has more than `most` terminals
abbrev pub lowered : ℕ → ℕ → ℕ → ℕ
lowered most count lane = if nat_lt most count then lane - 1 else lane

-- the edges of a box as lanes. A site's lanes are all greater if the site is inside the box, or only on edges with more than `most`
-- terminals
abbrev pub inner_lanes : ℕ → CountedBox → List ℕ
inner_lanes most b =
    four (lowered most b.x.least.count b.x.least.at) (lowered most b.x.greatest.count (1001 - b.x.greatest.at)) (lowered most b.y.least.count b.y.least.at) (lowered most b.y.greatest.count (1001 - b.y.greatest.at))

-- `inner` has the inner lanes of each box, by its number in `most`
pub record AreInner (inner : List (List ℕ)) (most : List ℕ) (boxes : List CountedBox) : Type 0 where
  pub long : length inner ≡ length boxes
  pub told : length most ≡ length boxes
  pub each : (n : ℕ) (z : List ℕ) → n < length boxes → slice_index_or inner n z ≡ inner_lanes (slice_index_or most n 0) (counted_at boxes n)

-- for each net, `most` is at least the number of terminals that one block has on it
pub record AreMost (most : List ℕ) (nets : List (List ℕ)) : Type 0 where
  pub each : (n b : ℕ) → times b (slice_index_or nets n []) ≤ slice_index_or most n 0

-- the number of each of a block's first `i` nets is raised to the count of the net's terminals on the block, and no number is lowered
pub record AreRaised (d : Netlist) (b i : ℕ) (old new : List ℕ) : Type 0 where
  pub long : length new ≡ length old
  pub grown : (n : ℕ) → slice_index_or old n 0 ≤ slice_index_or new n 0
  pub each : (k : ℕ) → k < i → k < length (nets_of d b) → times b (blocks_of d (slice_index (nets_of d b) k)) ≤ slice_index_or new (slice_index (nets_of d b) k) 0

-- lane by lane, the lesser of the swap's two sites
abbrev pub reach_lanes : GridShape → Swap → List ℕ
reach_lanes g s = least_of (lanes_at g s.from) (lanes_at g s.to)

-- the lanes for no block
abbrev pub no_lanes : List ℕ
no_lanes = four 65535 65535 65535 65535

-- the lanes of site number k; past the last site those for no block
abbrev pub lanes_in : GridShape → List Site → ℕ → List ℕ
lanes_in g sites k = slice_index_or (map (lanes_at g) sites) k no_lanes

-- the table of a placement
abbrev pub table_of : GridShape → List Site → List (List ℕ)
table_of g sites = map (lanes_at g) sites ++ no_lanes ∷ []

-- the positions from which a table is made. The table's last vector is for no block
abbrev pub positions_in : List (List ℕ) → List Position
positions_in table = map (λ v. record { x = slice_index v 0; y = slice_index v 2 }) (take (length table - 1) table)

-- the table of some positions. Its last vector is for no block
abbrev pub table_from : List Position → List (List ℕ)
table_from positions = map lanes_for positions ++ no_lanes ∷ []

-- the vector of block k: `to` if it is the block `moved`, else the one in the table
abbrev pub seen_in : List (List ℕ) → ℕ → List ℕ → ℕ → List ℕ
seen_in table moved to k = if k == moved then to else slice_index_or table k no_lanes

-- block 1 has another vector than the table's
pub seen_at_another_place : seen_in (four 1 9 2 8 ∷ four 3 7 4 6 ∷ []) 1 (four 5 5 5 5) 1 ≡ four 5 5 5 5
seen_at_another_place = refl

pub seen_at_its_own_place : seen_in (four 1 9 2 8 ∷ four 3 7 4 6 ∷ []) 1 (four 5 5 5 5) 0 ≡ four 1 9 2 8
seen_at_its_own_place = refl

-- each block has the vector of its site, if the block `moved` has `to` instead of the one in the table
pub record AreSeen (g : GridShape) (sites : List Site) (table : List (List ℕ)) (moved : ℕ) (to : List ℕ) : Type 0 where
  pub each : (k : ℕ) → seen_in table moved to k ≡ lanes_in g sites k

-- four lanes, none above 1001
pub record AreLanes (v : List ℕ) : Type 0 where
  pub four : length v ≡ 4
  pub low : Each1 (λ x. x ≤ 1001) v

-- the least of the vectors of some blocks
abbrev pub least_among : (ℕ → List ℕ) → List ℕ → List ℕ
least_among f ks = fold_l (λ v k. least_of v (f k)) no_lanes ks

-- net n of block b as the other blocks on it, and its cross count. A number past the last block stands for none
pub record IsRecord (d : Netlist) (b n : ℕ) (others : List ℕ) (q : ℕ) : Type 0 where
  pub counts : Counts d n
  pub on : has_number b (blocks_of d n) ≡ true
  pub factor : q ≡ cross_of (length (blocks_of d n))
  pub each : (k : ℕ) → k < length d.kinds → has_number k others ≡ (has_number k (blocks_of d n) && not (k == b))
  pub within : (i : ℕ) → i < length others → slice_index others i ≤ length d.kinds

-- a net with more than `above` and at most `most` terminals
abbrev pub is_sized : Netlist → ℕ → ℕ → ℕ → Bool
is_sized d above most n = nat_lt above (length (blocks_of d n)) && nat_le (length (blocks_of d n)) most

-- the nets of a block with more than `above` terminals, and at most `most`
abbrev pub nets_between : Netlist → ℕ → ℕ → ℕ → List ℕ
nets_between d above most b = filter (is_sized d above most) (nets_of d b)

-- a net has more than 16 terminals
abbrev pub is_large : Netlist → ℕ → Bool
is_large d n = nat_lt 16 (length (blocks_of d n))

-- a net's share of a sum: its cross count times the sum of the least lanes. v is the vector of the net's own block, and f returns the
-- vectors of the others
abbrev pub weight : {W : ℕ} → (ℕ → List ℕ) → List ℕ → Record W → ℕ
weight f v r = r.factor * sum_l (least_of (least_among f r.others) v)

-- all numbers of a record are below k
abbrev pub AreWithin : {W : ℕ} → ℕ → Record W → Type 0
AreWithin k r = (i : ℕ) → i < length r.others → slice_index r.others i < k

-- these nets of a block, one record each
pub record AreRecords {W : ℕ} (d : Netlist) (b : ℕ) (ns : List ℕ) (rs : List (Record W)) : Type 0 where
  pub long : length rs ≡ length ns
  pub each : (i : ℕ) (z : Record W) → i < length ns → IsRecord d b (slice_index ns i) (slice_index_or rs i z).others (slice_index_or rs i z).factor

-- the places among a block's nets of those with many terminals
pub record AreLarge (d : Netlist) (b : ℕ) (is : List ℕ) : Type 0 where
  pub within : (k : ℕ) → k < length is → slice_index is k < length (nets_of d b)
  pub nets : map (λ i. slice_index (nets_of d b) i) is ≡ filter (is_large d) (nets_of d b)

-- for each block, the records of its nets with more than `above` and at most `most` terminals
pub record HasRows {W : ℕ} (d : Netlist) (above most : ℕ) (rows : List (List (Record W))) : Type 0 where
  pub long : length rows ≡ length d.kinds
  pub each : (b : ℕ) → b < length d.kinds → AreRecords d b (nets_between d above most b) (slice_index_or rows b [])

-- for each block, the places of its nets with many terminals
pub record HasLarge (d : Netlist) (rows : List (List ℕ)) : Type 0 where
  pub long : length rows ≡ length d.kinds
  pub each : (b : ℕ) → b < length d.kinds → AreLarge d b (slice_index_or rows b [])

-- for each block, a record of each net with 2 to 4, 5 to 8 and 9 to 16 terminals, and the places of those with more
pub record HasRecords (p : Runs) (d : Netlist) : Type 0 where
  pub small : HasRows {W = 3} d 1 4 p.rows.small
  pub middle : HasRows {W = 7} d 4 8 p.rows.middle
  pub wide : HasRows {W = 15} d 8 16 p.rows.wide
  pub large : HasLarge d p.rows.large

-- the cost of those of the nets `ns` that have up to 16 terminals
abbrev pub few_cost : Netlist → GridShape → List Site → List ℕ → ℕ
few_cost d g sites ns = sum_by (net_cost d g sites) (filter (λ n. not (is_large d n)) ns)

-- the cost of all nets that count and have up to 16 terminals
abbrev pub few_all : Netlist → GridShape → List Site → ℕ
few_all d g sites = few_cost d g sites (counted d)

-- `gained` minus `lost` is `after` minus `before`; both are below 2^48
pub record IsStep (before after gained lost : ℕ) : Type 0 where
  pub balance : after + lost ≡ before + gained
  pub gained_few : gained < 2 ^ 48
  pub lost_few : lost < 2 ^ 48

-- the nets of block c if c is below k, its first j nets if c is k, and else none
abbrev pub nets_to : Netlist → ℕ → ℕ → ℕ → List ℕ
nets_to d k j c = if nat_lt c k then nets_of d c else (if c == k then take j (nets_of d c) else [])

-- the entries are the records of the nets with more than `above` and at most `most` terminals, of the blocks below k, and among the
-- first j nets of block k
pub record ArePacked {W : ℕ} (d : Netlist) (above most k j : ℕ) (entries : List (ℕ × Record W)) : Type 0 where
  pub rows : (c : ℕ) → AreRecords d c (filter (is_sized d above most) (nets_to d k j c)) (row_of entries c)
  pub within : (i : ℕ) (z : ℕ × Record W) → i < length entries → (slice_index_or entries i z).0 < length d.kinds
  pub few : length entries ≤ k * 65535 + j

-- the places of the nets with many terminals among those of the blocks below k, and among the first j nets of block k
pub record AreLarger (d : Netlist) (k j : ℕ) (entries : List (ℕ × ℕ)) : Type 0 where
  pub rows : (c : ℕ) → map (λ i. slice_index (nets_of d c) i) (row_of entries c) ≡ filter (is_large d) (nets_to d k j c)
  pub places : (c i : ℕ) → i < length (row_of entries c) → slice_index (row_of entries c) i < length (nets_of d c)
  pub within : (i : ℕ) (z : ℕ × ℕ) → i < length entries → (slice_index_or entries i z).0 < length d.kinds
  pub few : length entries ≤ k * 65535 + j

-- the blocks of the terminals of the nets below n that count
pub record AreListed (d : Netlist) (n : ℕ) (entries : List (ℕ × ℕ)) : Type 0 where
  pub rows : (c : ℕ) → row_of entries c ≡ (if nat_lt c n then slice_index_or (counted_blocks d) c [] else [])
  pub within : (i : ℕ) (z : ℕ × ℕ) → i < length entries → (slice_index_or entries i z).0 < length d.terminals
  pub few : length entries ≤ sum_by length (take n d.terminals)

-- the design in which, of the nets that count, only those with more than 16 terminals still do. The others are marked global here, so that
-- cost, the nets of a block, and footprints leave them out
abbrev pub large_of : Netlist → Netlist
large_of d = record d { globals = map (λ n. not (is_large d n) || (net_at d n).global) (range_with_len 0 (length d.terminals)) }

-- the same, with only those of up to 16 terminals
abbrev pub few_of : Netlist → Netlist
few_of d = record d { globals = map (λ n. is_large d n || (net_at d n).global) (range_with_len 0 (length d.terminals)) }

-- the position of no block
abbrev pub no_position : Position
no_position = record { x = 0; y = 0 }

-- the box of some blocks by their positions, with how many of them are on each edge
unfoldable pub counted_over : List Position → List ℕ → CountedBox
counted_over positions blocks =
    record {
      x = edges_of (map (λ k. (slice_index_or positions k no_position).x) blocks);
      y = edges_of (map (λ k. (slice_index_or positions k no_position).y) blocks);
    }

-- the box of a net. If it has many terminals, the kept one; else the box from the positions of its blocks
abbrev pub box_seen : List (List ℕ) → List Position → List CountedBox → ℕ → CountedBox
box_seen nets positions kept n = if nat_lt 16 (length (slice_index_or nets n [])) then counted_at kept n else counted_over positions (slice_index_or nets n [])

-- the boxes of all nets. Those of nets with few terminals come from positions
unfoldable pub boxes_seen : List (List ℕ) → List Position → List CountedBox → List CountedBox
boxes_seen nets positions kept = map (box_seen nets positions kept) (range_with_len 0 (length nets))

-- the kept values fit together. For every design with these nets and blocks, the runs are its nets
pub record IsKept (table : List (List ℕ)) (r : Runs) (kept : List CountedBox) (most : List ℕ) (total : ℕ) : Type 0 where
  pub below : total < 2 ^ 43
  pub vectors : table ≡ table_from (positions_in table)
  pub long : length kept ≡ length r.terminals
  pub bounds : AreMost most r.terminals
  pub within : (n i : ℕ) → i < length (slice_index_or r.terminals n []) → slice_index (slice_index_or r.terminals n []) i < length (positions_in table)
  pub runs : (d : Netlist) → r.terminals ≡ counted_blocks d → length (positions_in table) ≡ length d.kinds → HasRecords r d

-- nets of 16 and 17 terminals, and a global one of two
abbrev three_nets : Netlist
three_nets = record {
  kinds = [];
  names = [];
  terminals = replicate 16 (terminal 0 0) ∷ replicate 17 (terminal 0 0) ∷ replicate 2 (terminal 0 0) ∷ [];
  globals = false ∷ false ∷ true ∷ [];
}

pub sixteen_terminals_are_few : counted (few_of three_nets) ≡ 0 ∷ []
sixteen_terminals_are_few = refl

pub seventeen_are_many : counted (large_of three_nets) ≡ 1 ∷ []
seventeen_are_many = refl

-- two blocks at (1, 2) and (3, 2): their box has three columns and one line of sites, so its half perimeter is 2004 less the sum of
-- these lanes
pub lanes_of_two_blocks : sum_l (least_of (lanes_for (record { x = 1; y = 2 })) (lanes_for (record { x = 3; y = 2 }))) + 4 ≡ 2004
lanes_of_two_blocks = refl

-- the box of two terminals of block 0 and one of block 1
pub box_by_positions : counted_over (record { x = 1; y = 2 } ∷ record { x = 3; y = 2 } ∷ []) (0 ∷ 0 ∷ 1 ∷ []) ≡ record { x = record { least = record { at = 1; count = 2 }; greatest = record { at = 3; count = 1 } }; y = record { least = record { at = 2; count = 3 }; greatest = record { at = 2; count = 3 } } }
unfolding counted_over edges_of times
box_by_positions = refl
