-- The flat tables of stamps: what a swap touches, and what each mark's stamp is then.
use Rattle.std.proofs.Common.{◌≡◌, ℕ, ◌<◌, Bool, true, false, cond, eqb, ◌&&◌, ◌||◌, ◌==◌, not, List, [], ◌∷◌, ◌++◌, length, set, map, Option, Some, None, refl, sym, ap, ◌∙◌, get_or, arith, inl, inr}
use Rattle.std.specs.Prelude.{nat_lt, slice_index}
use Rattle.std.specs.List.{All, filter, list_any}
use Rattle.std.proofs.lemmas.Bool.{cases_Bool, cases_eq, eq-eqb, ne_eqb, false≢true}
use Rattle.std.proofs.lemmas.List.{get_or-set_same, get_or-set_other, length-map}
use Rattle.fab_arch.specs.declared.array.Site.{Site}
use Rattle.fab_arch.specs.Grid.{GridShape}
use Rattle.fab_net.specs.declared.netlist_types.BlockId.{BlockId}
use Rattle.fab_net.specs.declared.netlist_types.NetId.{NetId}
use Rattle.fab_net.specs.BlockNets.{net_id}
use Rattle.fab_net.specs.Netlist.{Netlist, nets_of}
use Rattle.fab_site.specs.Placement.{same_site}
use Rattle.fab_site.specs.Index.{index_of}
use Rattle.fab_site.specs.declared.placement_types.Swap.{Swap}
use Rattle.fab_cost.specs.Runs.{is_large}
use Rattle.fab_cost.proofs.Nets.{net_counts}
use Rattle.fab_site.proofs.Tables.{index_apart, same_is, itself}
use Rattle.fab_move.specs.declared.marks.Mark.{Mark}
use Rattle.fab_move.specs.declared.marks.Mark.TheVariants.{Block, Place, Net}
use Rattle.fab_move.specs.Judge.{block_marks, has_mark, other_marks, touched}
use Rattle.fab_move.specs.StampTables.{at_place, stamp_in}
use Rattle.fab_move.proofs.Marked.{block_among, net_among, place_among, has_mark-append}

over : (a b : Bool) (x y : ℕ) → cond a x (cond b x y) ≡ cond (a || b) x y
over true b x y = refl
over false b x y = refl

-- stamps of one list of marks, and then of another
pub touched_both : (m : Mark) (xs ys : List Mark) (x old mid new : ℕ) → mid ≡ cond (has_mark m xs) x old → new ≡ cond (has_mark m ys) x mid → new ≡ cond (has_mark m (ys ++ xs)) x old
touched_both m xs ys x old mid new first second =
    second
    ∙ ap (cond (has_mark m ys) x) first
    ∙ over (has_mark m ys) (has_mark m xs) x old
    ∙ ap (λ b. cond b x old) (sym (has_mark-append m ys xs))

-- the stamp of a site only
pub place_touched : (g : GridShape) (blocks places nets : List ℕ) (site : Site) (i x : ℕ) → index_of g site ≡ Some i → i < length places
    → (m : Mark) → stamp_in g blocks (set places i x) nets m ≡ cond (has_mark m (Place site ∷ [])) x (stamp_in g blocks places nets m)
place_touched g blocks places nets site i x at_i low (Block b) = refl
place_touched g blocks places nets site i x at_i low (Net n) = refl
place_touched g blocks places nets site i x at_i low (Place q) =
    elim (cases_Bool (same_site q site)) [
      | inl y ↦
          let is : index_of g q ≡ Some i = ap (index_of g) (same_is q site y) ∙ at_i in
          rw (is, y) (get_or-set_same places i x 0 low)
      | inr n ↦
          let away : index_of g q ≡ Some i → q ≡ site = λ e. index_apart g q site i e at_i in
          rw n (elsewhere (index_of g q) (λ e. false≢true (sym n ∙ ap (λ v. same_site v site) (away e) ∙ itself site)))
    ]
  where
    elsewhere : (o : Option ℕ) → (o ≡ Some i → ⊥) → at_place (set places i x) o ≡ at_place places o
    elsewhere None h = refl
    elsewhere (Some j) h = get_or-set_other places i j x 0 (λ e. h (ap Some e))

pub block_alone : (b : BlockId) (xs : List ℕ) (x k : ℕ) → b.0 < length xs → slice_index (set xs b.0 x) k ≡ cond (k == b.0) x (slice_index xs k)
block_alone b xs x k low = elim (cases_eq k b.0) [
  | inl e ↦ (let f : eqb k b.0 ≡ true = eq-eqb k b.0 e in ap (λ j. slice_index (set xs b.0 x) j) e ∙ get_or-set_same xs b.0 x 0 low ∙ ap (λ v. cond v x (slice_index xs k)) (sym f))
  | inr n ↦ (let f : eqb k b.0 ≡ false = ne_eqb k b.0 n in get_or-set_other xs b.0 k x 0 (λ e. n e) ∙ ap (λ v. cond v x (slice_index xs k)) (sym f))
]

-- a block and its nets
pub block_touched : (d : Netlist) (g : GridShape) (blocks places old new : List ℕ) (b : BlockId) (x : ℕ) → b.0 < length blocks
    → ((k : ℕ) → slice_index new k ≡ cond (list_any (λ (n : NetId). k == n.0) (map net_id (nets_of d b.0))) x (slice_index old k))
    → (m : Mark) → stamp_in g (set blocks b.0 x) places new m ≡ cond (has_mark m (block_marks d b)) x (stamp_in g blocks places old m)
block_touched d g blocks places old new b x low nets (Block c) =
    block_alone b blocks x c.0 low
    ∙ ap (λ v. cond v x (slice_index blocks c.0)) (block_among c b (nets_of d b.0))
block_touched d g blocks places old new b x low nets (Place q) =
    ap (λ v. cond v x (at_place places (index_of g q))) (place_among q b (nets_of d b.0))
block_touched d g blocks places old new b x low nets (Net n) =
    nets n.0 ∙ ap (λ v. cond v x (slice_index old n.0)) (net_among n (nets_of d b.0))

-- one more net
pub net_more : (nets : List NetId) (n : NetId) (xs ys zs : List ℕ) (x k : ℕ) → n.0 < length ys
    → slice_index ys k ≡ cond (list_any (λ (m : NetId). k == m.0) nets) x (slice_index xs k) → zs ≡ set ys n.0 x
    → slice_index zs k ≡ cond (list_any (λ (m : NetId). k == m.0) (nets ++ n ∷ [])) x (slice_index xs k)
net_more nets n xs ys zs x k low before now =
    ap (λ l. slice_index l k) now
    ∙ block_alone (record { 0 = n.0 }) ys x k low
    ∙ ap (cond (k == n.0) x) before
    ∙ over (k == n.0) (list_any (λ (m : NetId). k == m.0) nets) x (slice_index xs k)
    ∙ ap (λ b. cond b x (slice_index xs k)) (last nets)
  where
    swap_or : (a b c : Bool) → (a || (b || c)) ≡ (b || (a || c))
    swap_or true true c = refl
    swap_or true false c = refl
    swap_or false b c = refl

    last : (ms : List NetId) → ((k == n.0) || list_any (λ (m : NetId). k == m.0) ms) ≡ list_any (λ (m : NetId). k == m.0) (ms ++ n ∷ [])
    last [] = refl
    last (m ∷ ms) = swap_or (k == n.0) (k == m.0) (list_any (λ (m : NetId). k == m.0) ms) ∙ ap (λ b. (k == m.0) || b) (last ms)

-- the nets of a block are the design's
pub nets_below : (d : Netlist) (b : ℕ) (ns : List NetId) (m : ℕ) → ns ≡ map net_id (nets_of d b) → m ≡ length d.terminals → All (λ (n : NetId). n.0 < m) ns
nets_below d b ns m e len k z lt =
    let low : k < length (nets_of d b) = omega (arith, lt, ap length e, length-map (nets_of d b) net_id) in
    let below = (net_counts d b k ns (get_or ns k z) z e low refl).within in
    omega (arith, below, len)

-- all marks of a swap, one after another
pub swap_touched : (d : Netlist) (g : GridShape) (s : Swap) (x : ℕ) (m : Mark) (old other block to from : ℕ)
    → other ≡ cond (has_mark m (other_marks d s.other)) x old
    → block ≡ cond (has_mark m (block_marks d s.block)) x other
    → to ≡ cond (has_mark m (Place s.to ∷ [])) x block
    → from ≡ cond (has_mark m (Place s.from ∷ [])) x to
    → from ≡ cond (has_mark m (touched d s)) x old
swap_touched d g s x m old other block to from a b c e =
    let both = touched_both m (other_marks d s.other) (block_marks d s.block) x old other block a b in
    let three = touched_both m (block_marks d s.block ++ other_marks d s.other) (Place s.to ∷ []) x old block to both c in
    touched_both m (Place s.to ∷ (block_marks d s.block ++ other_marks d s.other)) (Place s.from ∷ []) x old to from three e

-- whether marks were touched, one list after another

pub any_append : (f : Mark → Bool) (xs ys : List Mark) → list_any f (xs ++ ys) ≡ (list_any f xs || list_any f ys)
any_append f [] ys = refl
any_append f (x ∷ xs) ys = elim (f x) as (λ b. (b || list_any f (xs ++ ys)) ≡ ((b || list_any f xs) || list_any f ys)) [
  | true ↦ refl
  | false ↦ any_append f xs ys
]

-- nets by their stamps, and as marks
pub nets_touched : (g : GridShape) (base : ℕ) (blocks places nets : List ℕ) (ns : List ℕ) → list_any (λ (n : NetId). nat_lt base (slice_index nets n.0)) (map net_id ns) ≡ list_any (λ m. nat_lt base (stamp_in g blocks places nets m)) (map (λ n. Net (record { 0 = n })) ns)
nets_touched g base blocks places nets [] = refl
nets_touched g base blocks places nets (n ∷ ns) = ap (λ b. nat_lt base (slice_index nets n) || b) (nets_touched g base blocks places nets ns)

-- the first of these marks is touched
pub first_touched : (f : Mark → Bool) (m : Mark) (xs ys : List Mark) (b : Bool) → f m ≡ false → b ≡ list_any f xs → b ≡ true → b ≡ list_any f (m ∷ (xs ++ ys))
first_touched f m xs ys b low is took =
    took ∙ sym (rw low (any_append f xs ys ∙ ap (λ c. c || list_any f ys) (sym is ∙ took)))

-- or only the later ones may be
pub later_touched : (f : Mark → Bool) (m : Mark) (xs ys : List Mark) (b c : Bool) → f m ≡ false → b ≡ list_any f xs → b ≡ false → c ≡ list_any f ys → c ≡ list_any f (m ∷ (xs ++ ys))
later_touched f m xs ys b c low is none there =
    sym (rw low (any_append f xs ys ∙ ap (λ d. d || list_any f ys) (sym is ∙ none) ∙ sym there))

-- the same without nets of many terminals

and_true : (a : Bool) → (a && true) ≡ a
and_true true = refl
and_true false = refl

and_false : (a : Bool) → (a && false) ≡ false
and_false true = refl
and_false false = refl

by_size : (f : Mark → Bool) (n : ℕ) (few : List ℕ) (a b c : Bool) → f (Net (record { 0 = n })) ≡ a → c ≡ list_any f (map (λ n. Net (record { 0 = n })) few)
    → ((a && b) || c) ≡ list_any f (map (λ n. Net (record { 0 = n })) (cond b (n ∷ few) few))
by_size f n few a true c e rest = (λ i. and_true a i || rest i) ∙ ap (λ v. v || list_any f (map (λ n. Net (record { 0 = n })) few)) (sym e)
by_size f n few a false c e rest = (λ i. and_false a i || rest i)

pub nets_touched_in_few : (d : Netlist) (g : GridShape) (base : ℕ) (blocks places nets : List ℕ) (ns : List ℕ)
    → list_any (λ (n : NetId). nat_lt base (slice_index nets n.0) && not (is_large d n.0)) (map net_id ns)
    ≡ list_any (λ m. nat_lt base (stamp_in g blocks places nets m)) (map (λ n. Net (record { 0 = n })) (filter (λ n. not (is_large d n)) ns))
nets_touched_in_few d g base blocks places nets [] = refl
nets_touched_in_few d g base blocks places nets (n ∷ ns) =
    by_size (λ m. nat_lt base (stamp_in g blocks places nets m)) n (filter (λ n. not (is_large d n)) ns) (nat_lt base (slice_index nets n)) (not (is_large d n)) _ refl
    (nets_touched_in_few d g base blocks places nets ns)
