-- The change of cost that a swap makes, after another that touches none of its nets.
use Rattle.std.proofs.Common.{◌≡◌, ℕ, ◌+◌, pos, ◌-ℤ◌, true, false, List, [], ◌∷◌, ◌==◌, length, ◌*◌, refl, sym, ap, ◌∙◌, ◌⊎◌, inl, inr, arith}
use Rattle.std.specs.List.{sum_by}
use Rattle.std.proofs.lemmas.List.Sums.{sum_by-cons}
use Rattle.std.proofs.lemmas.Bool.{or_left, or_right, eq-eqb}
use Rattle.std.proofs.lemmas.Int.{ints}
use Rattle.fab_arch.specs.declared.array.Site.{Site}
use Rattle.fab_site.specs.declared.placement_types.Swap.{Swap}
use Rattle.fab_net.specs.Netlist.{Netlist, counted, net_at, has_number}
use Rattle.fab_arch.specs.Grid.{GridShape}
use Rattle.fab_site.specs.Placement.{swapped}
use Rattle.fab_cost.specs.Cost.{box_on, cost_of, cross_of, half_perimeter, net_box, net_cost}
use Rattle.fab_cost.specs.Swapping.{change}
use Rattle.fab_commit.proofs.ModelLemmas.Sitings.{bears, map-swapped, swapped_comm, Apart}

sums_alike : (f g h k : ℕ → ℕ) (ns : List ℕ) → ((n : ℕ) → has_number n ns ≡ true → f n + g n ≡ h n + k n) → sum_by f ns + sum_by g ns ≡ sum_by h ns + sum_by k ns
sums_alike f g h k [] each = refl
sums_alike f g h k (n ∷ ns) each =
    let here : f n + g n ≡ h n + k n = each n (or_left (n == n) (has_number n ns) (eq-eqb n n refl)) in
    let rest : sum_by f ns + sum_by g ns ≡ sum_by h ns + sum_by k ns = sums_alike f g h k ns (λ m e. each m (or_right (m == n) (has_number m ns) e)) in
    rw (sum_by-cons f n ns, sum_by-cons g n ns, sum_by-cons h n ns, sum_by-cons k n ns) (omega arith)

-- no net that counts has blocks of both
abbrev pub NetsApart : Netlist → Swap → Swap → Type 0
NetsApart d s m = (n : ℕ) → has_number n (counted d) ≡ true → (bears s (net_at d n).blocks ≡ false) ⊎ (bears m (net_at d n).blocks ≡ false)

net_kept : (d : Netlist) (g : GridShape) (sites : List Site) (s : Swap) (n : ℕ) → bears s (net_at d n).blocks ≡ false → net_cost d g (swapped sites s) n ≡ net_cost d g sites n
unfolding net_cost net_box
net_kept d g sites s n h = ap (λ l. cross_of (length (net_at d n).blocks) * half_perimeter (box_on g l)) (map-swapped sites s (net_at d n).blocks h)

net_alike : (d : Netlist) (g : GridShape) (sites : List Site) (s m : Swap) (n : ℕ) → Apart s m → (bears s (net_at d n).blocks ≡ false) ⊎ (bears m (net_at d n).blocks ≡ false)
    → net_cost d g (swapped (swapped sites s) m) n + net_cost d g sites n ≡ net_cost d g (swapped sites m) n + net_cost d g (swapped sites s) n
net_alike d g sites s m n apart (inl h) =
    let e = ap (λ v. net_cost d g v n) (swapped_comm sites s m apart) ∙ net_kept d g (swapped sites m) s n h in
    let f = net_kept d g sites s n h in
    λ i. e i + sym f i
net_alike d g sites s m n apart (inr h) =
    let e = net_kept d g (swapped sites s) m n h in
    let f = net_kept d g sites m n h in
    omega (arith, e, f)

difference : (a b c d : ℕ) → a + d ≡ c + b → pos a -ℤ pos b ≡ pos c -ℤ pos d
difference a b c d h = omega (arith, ints)

pub change-swapped : (d : Netlist) (g : GridShape) (sites : List Site) (s m : Swap) → Apart s m → NetsApart d s m → change d g (swapped sites s) m ≡ change d g sites m
unfolding change cost_of
change-swapped d g sites s m apart nets =
    difference (cost_of d g (swapped (swapped sites s) m)) (cost_of d g (swapped sites s)) (cost_of d g (swapped sites m)) (cost_of d g sites)
    (sums_alike (net_cost d g (swapped (swapped sites s) m)) (net_cost d g sites) (net_cost d g (swapped sites m)) (net_cost d g (swapped sites s)) (counted d)
    (λ n e. net_alike d g sites s m n apart (nets n e)))
