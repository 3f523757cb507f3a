-- Placements before and after a swap.
use Rattle.std.proofs.Common.{◌≡◌, ◌≢◌, ℕ, zero, suc, ◌+◌, Bool, true, false, cond, ◌||◌, ◌==◌, List, [], ◌∷◌, map, Option, Some, None, slice_set, refl, sym, ap, ◌∙◌, ◌⊎◌, inl, inr, get_or-set_other}
use Rattle.std.proofs.lemmas.Bool.{or_left, or_right, or_parts, eq-eqb, false≢true}
use Rattle.std.proofs.lemmas.List.{set_comm}
use Rattle.fab_arch.specs.declared.array.Site.{Site}
use Rattle.fab_net.specs.declared.netlist_types.BlockId.{BlockId}
use Rattle.fab_site.specs.declared.placement_types.Swap.{Swap}
use Rattle.fab_net.specs.Netlist.{has_number}
use Rattle.fab_site.specs.Placement.{same_site, nowhere, site_of, at, at_from, with_other, swapped}

abbrev pub OtherAt : List Site → Site → Option BlockId → Type 0
OtherAt sites to None = Unit {0}
OtherAt sites to (Some b) = site_of sites b.0 ≡ to

-- the swap says where its blocks are
pub record StandsSo (sites : List Site) (s : Swap) : Type 0 where
  pub stands : site_of sites s.block.0 ≡ s.from
  pub holds : OtherAt sites s.to s.other

-- the other is not this block
abbrev pub AwayFrom : Option BlockId → ℕ → Type 0
AwayFrom None c = Unit {0}
AwayFrom (Some b) c = b.0 ≢ c

site_of-set_either : (sites : List Site) (b c : ℕ) (x : Site) → (site_of (slice_set sites b x) c ≡ x) ⊎ (site_of (slice_set sites b x) c ≡ site_of sites c)
site_of-set_either [] b c x = inr refl
site_of-set_either (y ∷ ys) zero zero x = inl refl
site_of-set_either (y ∷ ys) zero (suc c) x = inr refl
site_of-set_either (y ∷ ys) (suc b) zero x = inr refl
site_of-set_either (y ∷ ys) (suc b) (suc c) x = site_of-set_either ys b c x

-- a write that neither takes from the site nor puts on it
at_from-set : (n : ℕ) (sites : List Site) (b : ℕ) (x site : Site) → same_site (site_of sites b) site ≡ false → same_site x site ≡ false → at_from n (slice_set sites b x) site ≡ at_from n sites site
at_from-set n [] b x site h k = refl
at_from-set n (y ∷ ys) zero x site h k = ap (λ v. cond v (Some (record { 0 = n })) (at_from (n + 1) ys site)) (k ∙ sym h)
at_from-set n (y ∷ ys) (suc b) x site h k = ap (cond (same_site y site) (Some (record { 0 = n }))) (at_from-set (n + 1) ys b x site h k)

at-with_other : (sites : List Site) (b : ℕ) (to from site : Site) (other : Option BlockId) → OtherAt sites to other → same_site from site ≡ false → same_site to site ≡ false → at (with_other (slice_set sites b to) other from) site ≡ at (slice_set sites b to) site
at-with_other sites b to from site None holds f t = refl
at-with_other sites b to from site (Some c) holds f t =
    let apart : same_site (site_of (slice_set sites b to) c.0) site ≡ false =
    elim (site_of-set_either sites b c.0 to) [
      | inl e ↦ ap (λ v. same_site v site) e ∙ t
      | inr e ↦ ap (λ v. same_site v site) (e ∙ holds) ∙ t
    ] in
    at_from-set 0 (slice_set sites b to) c.0 from site apart f

-- the block on a site that the swap leaves alone
pub at-swapped : (sites : List Site) (s : Swap) (site : Site) → StandsSo sites s → same_site s.from site ≡ false → same_site s.to site ≡ false → at (swapped sites s) site ≡ at sites site
at-swapped sites s site is f t =
    at-with_other sites s.block.0 s.to s.from site s.other is.holds f t
    ∙ at_from-set 0 sites s.block.0 s.to site (ap (λ v. same_site v site) is.stands ∙ f) t

site_of-with_other : (sites : List Site) (other : Option BlockId) (x : Site) (c : ℕ) → AwayFrom other c → site_of (with_other sites other x) c ≡ site_of sites c
site_of-with_other sites None x c away = refl
site_of-with_other sites (Some b) x c away = get_or-set_other sites b.0 c x nowhere (λ e. away (sym e))

-- the site of a block that the swap leaves alone
pub site_of-swapped : (sites : List Site) (s : Swap) (c : ℕ) → s.block.0 ≢ c → AwayFrom s.other c → site_of (swapped sites s) c ≡ site_of sites c
site_of-swapped sites s c one two =
    site_of-with_other (slice_set sites s.block.0 s.to) s.other s.from c two
    ∙ get_or-set_other sites s.block.0 c s.to nowhere (λ e. one (sym e))

-- the swap moves one of these blocks
abbrev pub bears_other : Option BlockId → List ℕ → Bool
bears_other None blocks = false
bears_other (Some b) blocks = has_number b.0 blocks

abbrev pub bears : Swap → List ℕ → Bool
bears s blocks = has_number s.block.0 blocks || bears_other s.other blocks

apart_from : (b c : ℕ) (blocks : List ℕ) → has_number b blocks ≡ false → has_number c blocks ≡ true → b ≢ c
apart_from b c blocks h k e = false≢true (sym h ∙ ap (λ v. has_number v blocks) e ∙ k)

away_from : (other : Option BlockId) (c : ℕ) (blocks : List ℕ) → bears_other other blocks ≡ false → has_number c blocks ≡ true → AwayFrom other c
away_from None c blocks h k = tt
away_from (Some b) c blocks h k = apart_from b.0 c blocks h k

map_same : (f g : ℕ → Site) (blocks : List ℕ) → ((c : ℕ) → has_number c blocks ≡ true → f c ≡ g c) → map f blocks ≡ map g blocks
map_same f g [] h = refl
map_same f g (b ∷ blocks) h =
    let e = h b (or_left (b == b) (has_number b blocks) (eq-eqb b b refl)) in
    let rest = map_same f g blocks (λ c k. h c (or_right (c == b) (has_number c blocks) k)) in
    λ i. e i ∷ rest i

-- the sites of blocks, none of which the swap moves
pub map-swapped : (sites : List Site) (s : Swap) (blocks : List ℕ) → bears s blocks ≡ false → map (site_of (swapped sites s)) blocks ≡ map (site_of sites) blocks
map-swapped sites s blocks h =
    let p = or_parts (has_number s.block.0 blocks) (bears_other s.other blocks) h in
    map_same (site_of (swapped sites s)) (site_of sites) blocks
    (λ c k. site_of-swapped sites s c (apart_from s.block.0 c blocks p.0 k) (away_from s.other c blocks p.1 k))

-- the two move different blocks
abbrev pub OthersApart : Option BlockId → Option BlockId → Type 0
OthersApart None q = Unit {0}
OthersApart (Some b) q = AwayFrom q b.0

pub record Apart (s m : Swap) : Type 0 where
  pub blocks : s.block.0 ≢ m.block.0
  pub other_block : AwayFrom s.other m.block.0
  pub block_other : AwayFrom m.other s.block.0
  pub others : OthersApart s.other m.other

set-with_other : (sites : List Site) (b : ℕ) (x y : Site) (other : Option BlockId) → AwayFrom other b → slice_set (with_other sites other x) b y ≡ with_other (slice_set sites b y) other x
set-with_other sites b x y None away = refl
set-with_other sites b x y (Some c) away = set_comm sites c.0 b x y away

with_other_comm : (sites : List Site) (x y : Site) (o q : Option BlockId) → OthersApart o q → with_other (with_other sites o x) q y ≡ with_other (with_other sites q y) o x
with_other_comm sites x y None q apart = refl
with_other_comm sites x y (Some c) q apart = sym (set-with_other sites c.0 y x q apart)

-- two swaps of different blocks, in either order
pub swapped_comm : (sites : List Site) (s m : Swap) → Apart s m → swapped (swapped sites s) m ≡ swapped (swapped sites m) s
swapped_comm sites s m apart =
    let a = s.block.0 in let b = m.block.0 in
    ap (λ v. with_other v m.other m.from) (set-with_other (slice_set sites a s.to) b s.from m.to s.other apart.other_block)
    ∙ with_other_comm (slice_set (slice_set sites a s.to) b m.to) s.from m.from s.other m.other apart.others
    ∙ ap (λ v. with_other (with_other v m.other m.from) s.other s.from) (set_comm sites a b s.to m.to apart.blocks)
    ∙ ap (λ v. with_other v s.other s.from) (sym (set-with_other (slice_set sites b m.to) a m.from s.to m.other apart.block_other))
