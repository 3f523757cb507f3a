-- The start placement (our own): given blocks are at their sites. Each other block, in order of number, draws one of the remaining sites of
-- its kind.
use Rattle.std.specs.Prelude.{ℕ, ◌≡◌, ◌+◌, ◌*◌, not, filter, if◌then◌else◌, Bool, List, [], ◌∷◌, length, map, is_some, Option, Some, None, codes, refl}
use Rattle.std.specs.List.{range_with_len, flat_map, swap_remove}
use Rattle.fab_arch.specs.declared.array.Site.{Site}
use Rattle.fab_arch.specs.Grid.{GridShape, shape, perimeter}
use Rattle.fab_net.specs.declared.netlist_types.BlockKind.{BlockKind}
use Rattle.fab_net.specs.declared.netlist_types.BlockKind.TheVariants.{InputPad, Logic}
use Rattle.fab_net.specs.Netlist.{Netlist, is_logic}
use Rattle.fab_site.specs.Placement.{nowhere, site, site_of}
use Rattle.fab_site.specs.Draft.{holder_of}
use Rattle.fab_site.specs.Pins.{given_at}
use Rattle.fab_site.specs.Words.{pick_of}

-- the logic sites, row by row
abbrev pub logic_sites : GridShape → List Site
logic_sites g = flat_map (λ y. map (λ x. site x y 0) (range_with_len 1 g.nx)) (range_with_len 1 g.ny)

-- the pad sites, by position around the array, then by sub
abbrev pub pad_sites : GridShape → List Site
pad_sites g = flat_map (λ at. map (λ sub. site at.0 at.1 sub) (range_with_len 0 g.io_rat)) (perimeter g)

-- the site that each block is given, if any
abbrev pub given_sites : Netlist → List (Option Site) → List (Option Site) → List (Option Site)
given_sites d fixed begun = map (given_at fixed begun) (range_with_len 0 (length d.kinds))

-- the sites that no given block has
abbrev pub sites_left : List (Option Site) → List Site → List Site
sites_left given sites = filter (λ s. not (is_some (holder_of given s))) sites

-- the index in the list `left` that the word `w` picks
abbrev pub entry_of : ℕ → List Site → ℕ
entry_of w left = pick_of w (length left)

-- a list without its entry `i`: the last entry fills the gap
abbrev pub without : List Site → ℕ → List Site
without left i = swap_remove left i nowhere

-- the sites of blocks with these given sites and kinds. A block without a given site draws from the remaining sites, `logic` or `pads`,
-- with the next start word. The first is start word `i`, and there is one counter for all blocks that draw
abbrev pub deal : (ℕ → ℕ) → ℕ → List Site → List Site → List (Option Site) → List BlockKind → List Site
deal word i logic pads [] kinds = []
deal word i logic pads (o ∷ given) [] = []
deal word i logic pads (Some s ∷ given) (k ∷ kinds) = s ∷ deal word i logic pads given kinds
deal word i logic pads (None ∷ given) (k ∷ kinds) =
    if is_logic k then site_of logic (entry_of (word i) logic) ∷ deal word (i + 1) (without logic (entry_of (word i) logic)) pads given kinds
    else site_of pads (entry_of (word i) pads) ∷ deal word (i + 1) logic (without pads (entry_of (word i) pads)) given kinds

-- a pad, not a logic block
abbrev pub is_pad : BlockKind → Bool
is_pad k = not (is_logic k)

-- how many blocks without a given site have a kind that passes the test `p`
abbrev pub waiting : (BlockKind → Bool) → List (Option Site) → List BlockKind → ℕ
waiting p [] kinds = 0
waiting p (o ∷ given) [] = 0
waiting p (Some s ∷ given) (k ∷ kinds) = waiting p given kinds
waiting p (None ∷ given) (k ∷ kinds) = (if p k then 1 else 0) + waiting p given kinds

-- how many blocks draw
abbrev pub drawing : List (Option Site) → List BlockKind → ℕ
drawing given kinds = waiting is_logic given kinds + waiting is_pad given kinds

-- the start placement of a netlist on an array, with these fixed and begun blocks
abbrev pub start_sites : Netlist → GridShape → List (Option Site) → List (Option Site) → (ℕ → ℕ) → List Site
start_sites d g fixed begun word =
    deal word 0 (sites_left (given_sites d fixed begun) (logic_sites g)) (sites_left (given_sites d fixed begun) (pad_sites g)) (given_sites d fixed begun) d.kinds

abbrev pad_and_two : Netlist
pad_and_two = record {
  kinds = InputPad ∷ Logic ∷ Logic ∷ [];
  names = codes "ck" ∷ codes "b1" ∷ codes "b2" ∷ [];
  terminals = [];
  globals = [];
}

-- a word of 0 draws the first site, and then the last site of the list takes its place
pub words_of_0 : start_sites pad_and_two (shape 2 2 1) [] [] (λ i. 0) ≡ site 0 1 0 ∷ site 1 1 0 ∷ site 2 2 0 ∷ []
words_of_0 = refl

-- a begun block keeps its site out of the list
pub a_begun_block : start_sites pad_and_two (shape 2 2 1) [] (None ∷ None ∷ Some (site 1 1 0) ∷ []) (λ i. 0) ≡ site 0 1 0 ∷ site 2 1 0 ∷ site 1 1 0 ∷ []
a_begun_block = refl

-- one counter for pads and logic blocks: the logic blocks draw by the second and the third word
pub words_by_number : start_sites pad_and_two (shape 2 2 1) [] [] (λ i. 1073741824 * i) ≡ site 0 1 0 ∷ site 2 1 0 ∷ site 2 2 0 ∷ []
words_by_number = refl
