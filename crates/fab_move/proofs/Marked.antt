-- Marks of a block and of its nets, and of two lists.
use Rattle.std.proofs.Common.{◌≡◌, ℕ, Bool, true, false, ◌||◌, ◌==◌, List, [], ◌∷◌, ◌++◌, map, refl, sym, ap, ◌∙◌}
use Rattle.std.specs.List.{list_any}
use Rattle.fab_arch.specs.declared.array.Site.{Site}
use Rattle.fab_net.specs.declared.netlist_types.BlockId.{BlockId}
use Rattle.fab_net.specs.declared.netlist_types.NetId.{NetId}
use Rattle.fab_net.specs.BlockNets.{net_id}
use Rattle.fab_move.specs.declared.marks.Mark.{Mark}
use Rattle.fab_move.specs.declared.marks.Mark.TheVariants.{Block, Place, Net}
use Rattle.fab_move.specs.Judge.{has_mark, same_mark}

no_block : (b : BlockId) (ns : List ℕ) → has_mark (Block b) (map (λ n. Net (record { 0 = n })) ns) ≡ false
no_block b [] = refl
no_block b (n ∷ ns) = no_block b ns

no_place : (s : Site) (ns : List ℕ) → has_mark (Place s) (map (λ n. Net (record { 0 = n })) ns) ≡ false
no_place s [] = refl
no_place s (n ∷ ns) = no_place s ns

pub net_among : (net : NetId) (ns : List ℕ) → list_any (λ (n : NetId). net.0 == n.0) (map net_id ns) ≡ has_mark (Net net) (map (λ n. Net (record { 0 = n })) ns)
net_among net [] = refl
net_among net (n ∷ ns) = ap (λ b. net.0 == n || b) (net_among net ns)

or_false : (a b : Bool) → b ≡ false → (a || b) ≡ a
or_false true b e = refl
or_false false b e = e

pub block_among : (a b : BlockId) (ns : List ℕ) → (a.0 == b.0) ≡ has_mark (Block a) (Block b ∷ map (λ n. Net (record { 0 = n })) ns)
block_among a b ns = sym (or_false (a.0 == b.0) (has_mark (Block a) (map (λ n. Net (record { 0 = n })) ns)) (no_block a ns))

pub place_among : (s : Site) (b : BlockId) (ns : List ℕ) → false ≡ has_mark (Place s) (Block b ∷ map (λ n. Net (record { 0 = n })) ns)
place_among s b ns = sym (no_place s ns)

-- a mark is in one of two lists
pub has_mark-append : (m : Mark) (xs ys : List Mark) → has_mark m (xs ++ ys) ≡ (has_mark m xs || has_mark m ys)
has_mark-append m [] ys = refl
has_mark-append m (x ∷ xs) ys = ap (λ b. same_mark m x || b) (has_mark-append m xs ys) ∙ sym (or_assoc (same_mark m x) (has_mark m xs) (has_mark m ys))
  where
    or_assoc : (a b c : Bool) → ((a || b) || c) ≡ (a || (b || c))
    or_assoc true b c = refl
    or_assoc false b c = refl
