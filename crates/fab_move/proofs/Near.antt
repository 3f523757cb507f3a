-- What is kept of what is near a block: how it is raised, and what it tells of stamps.
use Rattle.std.proofs.Common.{◌≡◌, ℕ, ◌<◌, ◌≤◌, Bool, true, false, cond, not, ◌||◌, ◌==◌, List, [], ◌∷◌, ◌++◌, length, set, map, Option, Some, None, refl, sym, ap, ◌∙◌, inl, inr, arith}
use Rattle.std.specs.Prelude.{nat_lt, slice_index}
use Rattle.std.specs.List.{filter, list_any}
use Rattle.std.proofs.lemmas.Bool.{cases_Bool, le-ltb}
use Rattle.std.proofs.lemmas.List.Folds.{list_any-append}
use Rattle.fab_arch.specs.Grid.{GridShape}
use Rattle.fab_net.specs.declared.netlist_types.BlockId.{BlockId}
use Rattle.fab_net.specs.declared.netlist_types.NetId.{NetId}
use Rattle.fab_net.specs.BlockNets.{net_id}
use Rattle.fab_net.specs.Netlist.{Netlist, counted, has_number, nets_of}
use Rattle.fab_site.specs.declared.placement_types.Swap.{Swap}
use Rattle.fab_cost.specs.Near.{AreLifted, are_neighbours}
use Rattle.fab_cost.proofs.Lifting.{lifted_kept, lifted_up, neighbour}
use Rattle.fab_cost.specs.Runs.{few_of, is_large}
use Rattle.fab_cost.specs.Swapping.{blocks_of}
use Rattle.fab_cost.proofs.Few.{nets_few}
use Rattle.fab_move.specs.declared.marks.Mark.{Mark}
use Rattle.fab_move.specs.declared.marks.Mark.TheVariants.{Place, Net}
use Rattle.fab_move.specs.declared.proposals.Proposal.TheVariants.{Move}
use Rattle.fab_move.specs.Judge.{block_marks, footprint, other_marks}
use Rattle.fab_move.specs.declared.stamps.Stamps.{Stamps}
use Rattle.fab_move.specs.KeptNets.{large_among, nets_on}
use Rattle.fab_move.specs.StampTables.{IsNear, IsQuiet, IsTable, kept_stamp, near_of}
use Rattle.fab_move.proofs.Stamping.{any_append, block_alone, nets_touched}

-- a number among the names of nets
among_names : (n : ℕ) (cs : List ℕ) → list_any (λ (m : NetId). n == m.0) (map net_id cs) ≡ has_number n cs
among_names n [] = refl
among_names n (c ∷ cs) = ap (λ b. (n == c) || b) (among_names n cs)

-- a block is stamped with its nets, and what is near it and near the blocks on its nets with few terminals is raised
pub near_raised : (d : Netlist) (blocks nets later near mid new : List ℕ) (floor b x : ℕ) (ns : List NetId)
    → IsNear d blocks nets near floor → b < length blocks → ns ≡ map net_id (nets_of d b)
    → ((k : ℕ) → slice_index later k ≡ cond (list_any (λ (n : NetId). k == n.0) ns) x (slice_index nets k))
    → AreLifted (λ k. k == b) x near mid → AreLifted (are_neighbours d b) x mid new
    → IsNear d (set blocks b x) later new floor
near_raised d blocks nets later near mid new floor b x ns is low names each one all = record {
  long = all.long ∙ one.long ∙ is.long;
  own = λ k base at h f.
      let was = kept_one k at in
      let more = kept_all k at in
      elim (cases_Bool (k == b)) [
        | inl e ↦
            let up = own_raised k e at in
            rw (block_alone (record { 0 = b }) blocks x k low, e) (omega (arith, up, h))
        | inr n ↦
            let old = is.own k base at (omega (arith, was, more, h)) f in
            rw (block_alone (record { 0 = b }) blocks x k low, n) old
      ];
  few = λ k n base at on small h f.
      let was = kept_one k at in
      let more = kept_all k at in
      elim (cases_Bool (list_any (λ (m : NetId). n == m.0) ns)) [
        | inl e ↦
            let up = on_its_net k n at on small (sym (ap (list_any (λ (m : NetId). n == m.0)) names ∙ among_names n (nets_of d b)) ∙ e) in
            rw (each n, e) (omega (arith, up, h))
        | inr e ↦
            let old = is.few k n base at on small (omega (arith, was, more, h)) f in
            rw (each n, e) old
      ];
}
  where
    kept_one : (k : ℕ) → k < length d.kinds → slice_index near k ≤ slice_index mid k
    kept_one k at = (let long = is.long in lifted_kept (λ v. v == b) x near mid one k (omega (arith, at, long)))

    kept_all : (k : ℕ) → k < length d.kinds → slice_index mid k ≤ slice_index new k
    kept_all k at = (let long = is.long in (let same = one.long in lifted_kept (are_neighbours d b) x mid new all k (omega (arith, at, long, same))))

    own_raised : (k : ℕ) → (k == b) ≡ true → k < length d.kinds → x ≤ slice_index new k
    own_raised k e at =
        let long = is.long in
        let up = lifted_up (λ v. v == b) x near mid one k (omega (arith, at, long)) e in
        let more = kept_all k at in
        omega (arith, up, more)

    on_its_net : (k n : ℕ) → k < length d.kinds → has_number k (blocks_of d n) ≡ true → is_large d n ≡ false → has_number n (nets_of d b) ≡ true → x ≤ slice_index new k
    on_its_net k n at on small among =
        elim (cases_Bool (k == b)) [
          | inl e ↦ own_raised k e at
          | inr e ↦
              let long = is.long in
              let same = one.long in
              lifted_up (are_neighbours d b) x mid new all k (omega (arith, at, long, same)) (neighbour d b k n e among small on)
        ]

-- or the floor is raised
pub floor_raised : (d : Netlist) (blocks nets later near : List ℕ) (floor up b x : ℕ) (ns : List NetId)
    → IsNear d blocks nets near floor → b < length blocks
    → ((k : ℕ) → slice_index later k ≡ cond (list_any (λ (n : NetId). k == n.0) ns) x (slice_index nets k))
    → floor ≤ up → x ≤ up
    → IsNear d (set blocks b x) later near up
floor_raised d blocks nets later near floor up b x ns is low each more high = record {
  long = is.long;
  own = λ k base at h f.
      elim (cases_Bool (k == b)) [
        | inl e ↦ rw (block_alone (record { 0 = b }) blocks x k low, e) (omega (arith, high, f))
        | inr n ↦
            let old = is.own k base at h (omega (arith, more, f)) in
            rw (block_alone (record { 0 = b }) blocks x k low, n) old
      ];
  few = λ k n base at on small h f.
      elim (cases_Bool (list_any (λ (m : NetId). n == m.0) ns)) [
        | inl e ↦ rw (each n, e) (omega (arith, high, f))
        | inr e ↦
            let old = is.few k n base at on small h (omega (arith, more, f)) in
            rw (each n, e) old
      ];
}

-- nothing is near a block before the first stamp
pub near_at_first : (d : Netlist) (blocks nets near : List ℕ) → length near ≡ length d.kinds → ((k : ℕ) → slice_index blocks k ≡ 0) → ((k : ℕ) → slice_index nets k ≡ 0) → IsNear d blocks nets near 0
near_at_first d blocks nets near long none none_of = record {
  long = long;
  own = λ b base at h f. (let e = none b in omega (arith, e));
  few = λ b n base at on small h f. (let e = none_of n in omega (arith, e));
}

-- marks of the nets that pass a test, of which those that fail another are not touched

only_large : (f : Mark → Bool) (p q : ℕ → Bool) (cs : List ℕ) → ((n : ℕ) → p n ≡ true → q n ≡ false → f (Net (record { 0 = n })) ≡ false)
    → list_any f (map (λ n. Net (record { 0 = n })) (filter p cs)) ≡ list_any f (map (λ n. Net (record { 0 = n })) (filter q (filter p cs)))
only_large f p q [] each = refl
only_large f p q (c ∷ cs) each =
    elim (cases_Bool (p c)) [
      | inr off ↦ rw off (only_large f p q cs each)
      | inl on ↦
          elim (cases_Bool (q c)) [
            | inl many ↦ rw (on, many) (ap (λ b. f (Net (record { 0 = c })) || b) (only_large f p q cs each))
            | inr few ↦ rw (on, few, each c on few) (only_large f p q cs each)
          ]
    ]

none_few : (f : Mark → Bool) (p q : ℕ → Bool) (cs : List ℕ) → ((n : ℕ) → p n ≡ true → q n ≡ false → f (Net (record { 0 = n })) ≡ false)
    → list_any f (map (λ n. Net (record { 0 = n })) (filter (λ n. not (q n)) (filter p cs))) ≡ false
none_few f p q [] each = refl
none_few f p q (c ∷ cs) each =
    elim (cases_Bool (p c)) [
      | inr off ↦ rw off (none_few f p q cs each)
      | inl on ↦
          elim (cases_Bool (q c)) [
            | inl many ↦ rw (on, many) (none_few f p q cs each)
            | inr few ↦ rw (on, few, each c on few) (none_few f p q cs each)
          ]
    ]

-- a block whose near is quiet: of its marks only the nets with many terminals may be touched

quiet_net : (d : Netlist) (g : GridShape) (s : Stamps) (base b : ℕ) → IsNear d s.blocks.items s.nets.items s.near.items s.floor → b < length d.kinds → slice_index s.near.items b ≤ base → s.floor ≤ base
    → (n : ℕ) → has_number b (blocks_of d n) ≡ true → is_large d n ≡ false → nat_lt base (kept_stamp g s (Net (record { 0 = n }))) ≡ false
quiet_net d g s base b is at h f n on small = le-ltb base (slice_index s.nets.items n) (is.few b n base at on small h f)

large_names : (d : Netlist) (ns : List ℕ) → map net_id (filter (is_large d) ns) ≡ large_among d (map net_id ns)
large_names d [] = refl
large_names d (n ∷ ns) = elim (is_large d n) as (λ v. map net_id (cond v (n ∷ filter (is_large d) ns) (filter (is_large d) ns)) ≡ cond v (net_id n ∷ large_among d (map net_id ns)) (large_among d (map net_id ns))) [
  | true ↦ ap (λ l. net_id n ∷ l) (large_names d ns)
  | false ↦ large_names d ns
]

pub quiet_block : (d : Netlist) (g : GridShape) (s : Stamps) (base : ℕ) (b : BlockId) → IsNear d s.blocks.items s.nets.items s.near.items s.floor → b.0 < length d.kinds → slice_index s.near.items b.0 ≤ base → s.floor ≤ base
    → list_any (λ m. nat_lt base (kept_stamp g s m)) (block_marks d b) ≡ list_any (λ (n : NetId). nat_lt base (slice_index s.nets.items n.0)) (large_among d (nets_on d (Some b)))
quiet_block d g s base b is at h f =
    rw (le-ltb base (slice_index s.blocks.items b.0) (is.own b.0 base at h f))
    (only_large (λ m. nat_lt base (kept_stamp g s m)) (λ n. has_number b.0 (blocks_of d n)) (is_large d) (counted d) (λ n on small. quiet_net d g s base b.0 is at h f n on small)
    ∙ sym (nets_touched g base s.blocks.items s.places.items s.nets.items (filter (is_large d) (nets_of d b.0)))
    ∙ ap (list_any (λ (n : NetId). nat_lt base (slice_index s.nets.items n.0))) (large_names d (nets_of d b.0)))

quiet_block_in_few : (d : Netlist) (g : GridShape) (s : Stamps) (base : ℕ) (b : BlockId) → IsNear d s.blocks.items s.nets.items s.near.items s.floor → b.0 < length d.kinds → slice_index s.near.items b.0 ≤ base → s.floor ≤ base
    → list_any (λ m. nat_lt base (kept_stamp g s m)) (block_marks (few_of d) b) ≡ false
quiet_block_in_few d g s base b is at h f =
    rw (le-ltb base (slice_index s.blocks.items b.0) (is.own b.0 base at h f), nets_few d b.0)
    (none_few (λ m. nat_lt base (kept_stamp g s m)) (λ n. has_number b.0 (blocks_of d n)) (is_large d) (counted d) (λ n on small. quiet_net d g s base b.0 is at h f n on small))

quiet_other : (d : Netlist) (g : GridShape) (s : Stamps) (base : ℕ) (o : Option BlockId) → IsNear d s.blocks.items s.nets.items s.near.items s.floor → ((b : BlockId) → o ≡ Some b → b.0 < length d.kinds) → near_of s.near.items o ≤ base → s.floor ≤ base
    → list_any (λ m. nat_lt base (kept_stamp g s m)) (other_marks d o) ≡ list_any (λ (n : NetId). nat_lt base (slice_index s.nets.items n.0)) (large_among d (nets_on d o))
quiet_other d g s base None is at h f = refl
quiet_other d g s base (Some b) is at h f = quiet_block d g s base b is (at b refl) h f

quiet_other_in_few : (d : Netlist) (g : GridShape) (s : Stamps) (base : ℕ) (o : Option BlockId) → IsNear d s.blocks.items s.nets.items s.near.items s.floor → ((b : BlockId) → o ≡ Some b → b.0 < length d.kinds) → near_of s.near.items o ≤ base → s.floor ≤ base
    → list_any (λ m. nat_lt base (kept_stamp g s m)) (other_marks (few_of d) o) ≡ false
quiet_other_in_few d g s base None is at h f = refl
quiet_other_in_few d g s base (Some b) is at h f = quiet_block_in_few d g s base b is (at b refl) h f

-- of a quiet swap only the nets with many terminals may be touched
pub quiet_swap : (d : Netlist) (g : GridShape) (s : Stamps) (base : ℕ) (swap : Swap) → IsTable d g s → swap.block.0 < length d.kinds → ((b : BlockId) → swap.other ≡ Some b → b.0 < length d.kinds) → IsQuiet g s base swap
    → list_any (λ (n : NetId). nat_lt base (slice_index s.nets.items n.0)) (large_among d (nets_on d (Some swap.block)) ++ large_among d (nets_on d swap.other))
    ≡ list_any (λ m. nat_lt base (kept_stamp g s m)) (footprint d (Move swap))
quiet_swap d g s base swap table block other quiet =
    sym (rw (le-ltb base (kept_stamp g s (Place swap.to)) quiet.target)
    (any_append (λ m. nat_lt base (kept_stamp g s m)) (block_marks d swap.block) (other_marks d swap.other)
    ∙ (λ i. quiet_block d g s base swap.block table.near block quiet.block quiet.floor i || quiet_other d g s base swap.other table.near other quiet.other quiet.floor i)
    ∙ sym (list_any-append (λ (n : NetId). nat_lt base (slice_index s.nets.items n.0)) (large_among d (nets_on d (Some swap.block))) (large_among d (nets_on d swap.other)))))

pub quiet_swap_in_few : (d : Netlist) (g : GridShape) (s : Stamps) (base : ℕ) (swap : Swap) → IsTable d g s → swap.block.0 < length d.kinds → ((b : BlockId) → swap.other ≡ Some b → b.0 < length d.kinds) → IsQuiet g s base swap
    → false ≡ list_any (λ m. nat_lt base (kept_stamp g s m)) (footprint (few_of d) (Move swap))
quiet_swap_in_few d g s base swap table block other quiet =
    sym (rw (le-ltb base (kept_stamp g s (Place swap.to)) quiet.target)
    (any_append (λ m. nat_lt base (kept_stamp g s m)) (block_marks (few_of d) swap.block) (other_marks (few_of d) swap.other)
    ∙ (λ i. quiet_block_in_few d g s base swap.block table.near block quiet.block quiet.floor i || quiet_other_in_few d g s base swap.other table.near other quiet.other quiet.floor i)))
