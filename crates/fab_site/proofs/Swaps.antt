-- Which block is where after a swap.
use Rattle.std.proofs.Common.{◌≡◌, ◌≢◌, ◌↔◌, ℕ, zero, suc, ◌+◌, ◌<◌, true, false, cond, List, [], ◌∷◌, Option, Some, None, length, refl, sym, ap, ◌∙◌, ◌⊎◌, inl, inr, arith}
use Rattle.std.specs.Prelude.{slice_get, slice_set}
use Rattle.std.proofs.lemmas.Bool.{cases_Bool, cases_eq}
use Rattle.std.proofs.lemmas.List.{get_or-set_same, get_or-set_other, length-set}
use Rattle.std.proofs.lemmas.Option.{slice_get-get_or, slice_get_within}
use Rattle.fab_arch.specs.declared.array.Site.{Site}
use Rattle.fab_net.specs.declared.netlist_types.BlockId.{BlockId}
use Rattle.fab_site.specs.Placement.{site_of, same_site, nowhere, at, at_from, with_other, swapped, AreApart}
use Rattle.fab_site.specs.declared.placement_types.Swap.{Swap}
use Rattle.fab_site.proofs.Tables.{same_is, itself, none_there, false_of}

some_none : {X : Type 0} (x : X) → Some x ≡ None → ⊥
some_none x h = cc

none_some : {X : Type 0} (x : X) → None ≡ Some x → ⊥
none_some x h = cc

some_same : {X : Type 0} (x y : X) → Some x ≡ Some y → x ≡ y
some_same x y h = cc

-- which block is on a site

-- a site on which nobody is found has no block
pub nobody_on : (n : ℕ) (xs : List Site) (s : Site) (c : ℕ) → at_from n xs s ≡ None → c < length xs → site_of xs c ≡ s → ⊥
nobody_on n [] s c h lt e = omega arith
nobody_on n (x ∷ xs) s zero h lt e =
    let y : same_site x s ≡ true = ap (λ (v : Site). same_site v s) e ∙ itself s in
    let k : Some (record { 0 = n }) ≡ None = rw y at h in
    some_none (record { 0 = n }) k
nobody_on n (x ∷ xs) s (suc c) h lt e = elim (cases_Bool (same_site x s)) [
  | inl y ↦ let k : Some (record { 0 = n }) ≡ None = rw y at h in some_none (record { 0 = n }) k
  | inr ne ↦ nobody_on (n + 1) xs s c (rw ne at h) (omega arith) e
]

-- a block that is found on a site, by its distance from the first
pub record IsFound (n : ℕ) (xs : List Site) (s : Site) (b : BlockId) : Type 0 where
  pub behind : ℕ
  pub number : b.0 ≡ n + behind
  pub within : behind < length xs
  pub stands : site_of xs behind ≡ s

number_is : (n : ℕ) (b : BlockId) → Some (record { 0 = n }) ≡ Some b → b.0 ≡ n
number_is n b h = ap (λ (v : BlockId). v.0) (sym (some_same (record { 0 = n }) b h))

found : (n : ℕ) (xs : List Site) (s : Site) (b : BlockId) → at_from n xs s ≡ Some b → IsFound n xs s b
found n [] s b h = absurd (none_some b h)
found n (x ∷ xs) s b h = elim (cases_Bool (same_site x s)) [
  | inl y ↦
      let k : Some (record { 0 = n }) ≡ Some b = rw y at h in
      let e = number_is n b k in
      record { behind = 0; number = omega (arith, e); within = omega arith; stands = same_is x s y }
  | inr ne ↦
      let r = found (n + 1) xs s b (rw ne at h) in
      record { behind = suc r.behind; number = omega (arith, r.number); within = omega (arith, r.within); stands = r.stands }
]

pub at_stands : (xs : List Site) (s : Site) (b : BlockId) → at xs s ≡ Some b → (b.0 < length xs) × (site_of xs b.0 ≡ s)
at_stands xs s b h =
    let f = found 0 xs s b h in
    let e : b.0 ≡ f.behind = omega (arith, f.number) in
    (omega (arith, e, f.within), ap (site_of xs) e ∙ f.stands)

here_from : (n : ℕ) (xs : List Site) (b : ℕ) (s : Site) → b < length xs → site_of xs b ≡ s → ((a : ℕ) → a < length xs → site_of xs a ≡ s → a ≡ b) → at_from n xs s ≡ Some (record { 0 = n + b })
here_from n [] b s lt e one = absurd (omega arith)
here_from n (x ∷ xs) zero s lt e one =
    let y : same_site x s ≡ true = ap (λ (v : Site). same_site v s) e ∙ itself s in
    let z : n + 0 ≡ n = omega arith in
    rw (y, z) refl
here_from n (x ∷ xs) (suc b) s lt e one =
    let no : same_site x s ≡ false = false_of (same_site x s) (λ y. let z : 0 ≡ suc b = one 0 (omega arith) (same_is x s y) in omega (arith, z)) in
    let z : n + 1 + b ≡ n + suc b = omega arith in
    rw (no, ← z) (here_from (n + 1) xs b s (omega arith) e (λ a l k. let m : suc a ≡ suc b = one (suc a) (omega (arith, l)) k in omega (arith, m)))

-- a block on a site is found there, if no two are on one site
pub at_here : (xs : List Site) (b : ℕ) (s : Site) → AreApart xs → b < length xs → site_of xs b ≡ s → at xs s ≡ Some (record { 0 = b })
at_here xs b s apart lt e =
    let z : 0 + b ≡ b = omega arith in
    here_from 0 xs b s lt e (λ a l k. apart a b l lt (k ∙ sym e)) ∙ ap (λ (n : ℕ). Some (record { 0 = n })) z

-- the block found on a site is the one there
pub at_is : (xs : List Site) (s : Site) (b : BlockId) → AreApart xs → (at xs s ≡ Some b) ↔ (slice_get xs b.0 ≡ Some s)
at_is xs s b apart = (
  λ h. let p = at_stands xs s b h in slice_get-get_or xs b.0 nowhere p.0 ∙ ap (λ x. Some x) p.1,
  λ h.
      let lt = slice_get_within xs b.0 s h in
      at_here xs b.0 s apart lt (some_same (site_of xs b.0) s (sym (slice_get-get_or xs b.0 nowhere lt) ∙ h)),
)

pub at_none : (xs : List Site) (s : Site) → ((c : ℕ) → c < length xs → site_of xs c ≢ s) → at xs s ≡ None
at_none xs s h = none_there 0 xs s (λ a lt. false_of (same_site (site_of xs a) s) (λ y. h a lt (same_is (site_of xs a) s y)))

-- who holds the target of a swap: one block, or none
abbrev pub IsHeldBy : List Site → Site → Option BlockId → Type 0
IsHeldBy sites to None = (c : ℕ) → c < length sites → site_of sites c ≢ to
IsHeldBy sites to (Some b) = (b.0 < length sites) × (site_of sites b.0 ≡ to)

pub held_by : (sites : List Site) (to : Site) (o : Option BlockId) → at sites to ≡ o → IsHeldBy sites to o
held_by sites to None h = λ c lt e. nobody_on 0 sites to c h lt e
held_by sites to (Some b) h = at_stands sites to b h

-- the block is at `from`, which is not `to`, and the other holds `to`
pub record IsReady (sites : List Site) (s : Swap) : Type 0 where
  pub within : s.block.0 < length sites
  pub stands : site_of sites s.block.0 ≡ s.from
  pub away : s.from ≢ s.to
  pub held : IsHeldBy sites s.to s.other

-- where a block is after the swap

length-with_other : (sites : List Site) (o : Option BlockId) (x : Site) → length (with_other sites o x) ≡ length sites
length-with_other sites None x = refl
length-with_other sites (Some b) x = length-set sites b.0 x

pub length-swapped : (sites : List Site) (s : Swap) → length (swapped sites s) ≡ length sites
length-swapped sites s = length-with_other (slice_set sites s.block.0 s.to) s.other s.from ∙ length-set sites s.block.0 s.to

abbrev pub Placed : List Site → ℕ → Site → Site → Option BlockId → List Site → ℕ → Type 0
Placed sites block from to None after b = ((b ≡ block) × (site_of after b ≡ to)) ⊎ ((b ≢ block) × (site_of after b ≡ site_of sites b))
Placed sites block from to (Some c) after b =
    ((b ≡ block) × (site_of after b ≡ to)) ⊎ (((b ≡ c.0) × (site_of after b ≡ from)) ⊎ ((b ≢ block) × (b ≢ c.0) × (site_of after b ≡ site_of sites b)))

placed_by : (sites : List Site) (block : ℕ) (from to : Site) (o : Option BlockId) (b : ℕ) → block < length sites → site_of sites block ≡ from → from ≢ to → IsHeldBy sites to o
    → Placed sites block from to o (with_other (slice_set sites block to) o from) b
placed_by sites block from to None b range stands away held =
    elim (cases_eq b block) [
      | inl e ↦ inl (e, ap (site_of (slice_set sites block to)) e ∙ get_or-set_same sites block to nowhere range)
      | inr ne ↦ inr (ne, get_or-set_other sites block b to nowhere ne)
    ]
placed_by sites block from to (Some c) b range stands away (c_range, c_at) =
    let mid = slice_set sites block to in
    let mid_range : c.0 < length mid = (let l = length-set sites block to in omega (arith, l)) in
    elim (cases_eq b c.0) [
      | inl e ↦ inr (inl (e, ap (site_of (slice_set mid c.0 from)) e ∙ get_or-set_same mid c.0 from nowhere mid_range))
      | inr ne ↦ elim (cases_eq b block) [
        | inl e ↦ inl (e, get_or-set_other mid c.0 b from nowhere ne ∙ ap (site_of mid) e ∙ get_or-set_same sites block to nowhere range)
        | inr nb ↦ inr (inr (nb, ne, get_or-set_other mid c.0 b from nowhere ne ∙ get_or-set_other sites block b to nowhere nb))
      ]
    ]

pub placed : (sites : List Site) (s : Swap) (b : ℕ) → IsReady sites s → Placed sites s.block.0 s.from s.to s.other (swapped sites s) b
placed sites s b r = placed_by sites s.block.0 s.from s.to s.other b r.within r.stands r.away r.held

apart_after : (sites after : List Site) (block : ℕ) (from to : Site) (o : Option BlockId) (b c : ℕ)
    → AreApart sites → block < length sites → site_of sites block ≡ from → from ≢ to → IsHeldBy sites to o
    → b < length sites → c < length sites → Placed sites block from to o after b → Placed sites block from to o after c → site_of after b ≡ site_of after c → b ≡ c
apart_after sites after block from to None b c apart range stands away held lb lc pb pc e =
    elim pb [
      | inl (b_is, b_at) ↦ elim pc [
        | inl (c_is, c_at) ↦ b_is ∙ sym c_is
        | inr (c_not, c_at) ↦ absurd (held c lc (sym c_at ∙ sym e ∙ b_at))
      ]
      | inr (b_not, b_at) ↦ elim pc [
        | inl (c_is, c_at) ↦ absurd (held b lb (sym b_at ∙ e ∙ c_at))
        | inr (c_not, c_at) ↦ apart b c lb lc (sym b_at ∙ e ∙ c_at)
      ]
    ]
apart_after sites after block from to (Some d) b c apart range stands away (d_range, d_at) lb lc pb pc e =
    elim pb [
      | inl (b_is, b_at) ↦ elim pc [
        | inl (c_is, c_at) ↦ b_is ∙ sym c_is
        | inr q ↦ elim q [
          | inl (c_is, c_at) ↦ absurd (away (sym c_at ∙ sym e ∙ b_at))
          | inr (c_not, c_other, c_at) ↦ absurd (c_other (apart c d.0 lc d_range (sym c_at ∙ sym e ∙ b_at ∙ sym d_at)))
        ]
      ]
      | inr p ↦ elim p [
        | inl (b_is, b_at) ↦ elim pc [
          | inl (c_is, c_at) ↦ absurd (away (sym b_at ∙ e ∙ c_at))
          | inr q ↦ elim q [
            | inl (c_is, c_at) ↦ b_is ∙ sym c_is
            | inr (c_not, c_other, c_at) ↦ absurd (c_not (apart c block lc range (sym c_at ∙ sym e ∙ b_at ∙ sym stands)))
          ]
        ]
        | inr (b_not, b_other, b_at) ↦ elim pc [
          | inl (c_is, c_at) ↦ absurd (b_other (apart b d.0 lb d_range (sym b_at ∙ e ∙ c_at ∙ sym d_at)))
          | inr q ↦ elim q [
            | inl (c_is, c_at) ↦ absurd (b_not (apart b block lb range (sym b_at ∙ e ∙ c_at ∙ sym stands)))
            | inr (c_not, c_other, c_at) ↦ apart b c lb lc (sym b_at ∙ e ∙ c_at)
          ]
        ]
      ]
    ]

-- no two blocks are on one site after the swap
pub apart-swapped : (sites : List Site) (s : Swap) → AreApart sites → IsReady sites s → AreApart (swapped sites s)
apart-swapped sites s apart r b c lb lc e =
    let same : length (swapped sites s) ≡ length sites = length-swapped sites s in
    apart_after sites (swapped sites s) s.block.0 s.from s.to s.other b c apart r.within r.stands r.away r.held (omega (arith, same)) (omega (arith, same)) (placed sites s b r) (placed sites s c r) e

-- which block is where after the swap

block_moved : (sites after : List Site) (block : ℕ) (from to : Site) (o : Option BlockId) → from ≢ to → site_of sites block ≡ from → IsHeldBy sites to o → Placed sites block from to o after block → site_of after block ≡ to
block_moved sites after block from to None away stands held p = elim p [ inl (is, at) ↦ at | inr (isnt, at) ↦ absurd (isnt refl) ]
block_moved sites after block from to (Some d) away stands (d_range, d_at) p = elim p [
  | inl (is, at) ↦ at
  | inr q ↦ elim q [
    | inl (is, at) ↦ absurd (away (sym stands ∙ ap (site_of sites) is ∙ d_at))
    | inr (isnt, not_other, at) ↦ absurd (isnt refl)
  ]
]

-- the block is found on `to`
pub at-to : (sites : List Site) (s : Swap) → AreApart sites → IsReady sites s → at (swapped sites s) s.to ≡ Some s.block
at-to sites s apart r =
    let same : length (swapped sites s) ≡ length sites = length-swapped sites s in
    let there = block_moved sites (swapped sites s) s.block.0 s.from s.to s.other r.away r.stands r.held (placed sites s s.block.0 r) in
    at_here (swapped sites s) s.block.0 s.to (apart-swapped sites s apart r) (omega (arith, same, r.within)) there

at-from_by : (sites after : List Site) (block : ℕ) (from to : Site) (o : Option BlockId) → AreApart sites → AreApart after → length after ≡ length sites → block < length sites → site_of sites block ≡ from → from ≢ to → IsHeldBy sites to o
    → ((b : ℕ) → Placed sites block from to o after b) → at after from ≡ o
at-from_by sites after block from to None apart apart2 same range stands away held p =
    at_none after from (λ c lt e. elim (p c) [
      | inl (is, at) ↦ away (sym e ∙ at)
      | inr (isnt, at) ↦ isnt (apart c block (omega (arith, same, lt)) range (sym at ∙ e ∙ sym stands))
    ])
at-from_by sites after block from to (Some d) apart apart2 same range stands away (d_range, d_at) p =
    let there : site_of after d.0 ≡ from = elim (p d.0) [
      | inl (is, at) ↦ absurd (away (sym stands ∙ ap (site_of sites) (sym is) ∙ d_at))
      | inr q ↦ elim q [ inl (is, at) ↦ at | inr (isnt, not_other, at) ↦ absurd (not_other refl) ]
    ] in
    at_here after d.0 from apart2 (omega (arith, same, d_range)) there

-- the other, if any, is found on `from`
pub at-from : (sites : List Site) (s : Swap) → AreApart sites → IsReady sites s → at (swapped sites s) s.from ≡ s.other
at-from sites s apart r =
    at-from_by sites (swapped sites s) s.block.0 s.from s.to s.other apart (apart-swapped sites s apart r) (length-swapped sites s) r.within r.stands r.away r.held (λ b. placed sites s b r)

site_of-set_either : (sites : List Site) (b c : ℕ) (x : Site) → (site_of (slice_set sites b x) c ≡ x) ⊎ (site_of (slice_set sites b x) c ≡ site_of sites c)
site_of-set_either [] b c x = inr refl
site_of-set_either (y ∷ ys) zero zero x = inl refl
site_of-set_either (y ∷ ys) zero (suc c) x = inr refl
site_of-set_either (y ∷ ys) (suc b) zero x = inr refl
site_of-set_either (y ∷ ys) (suc b) (suc c) x = site_of-set_either ys b c x

-- a write that neither takes from the site nor puts on it
at_from-set : (n : ℕ) (sites : List Site) (b : ℕ) (x site : Site) → same_site (site_of sites b) site ≡ false → same_site x site ≡ false → at_from n (slice_set sites b x) site ≡ at_from n sites site
at_from-set n [] b x site h k = refl
at_from-set n (y ∷ ys) zero x site h k = ap (λ v. cond v (Some (record { 0 = n })) (at_from (n + 1) ys site)) (k ∙ sym h)
at_from-set n (y ∷ ys) (suc b) x site h k = ap (cond (same_site y site) (Some (record { 0 = n }))) (at_from-set (n + 1) ys b x site h k)

at-with_other : (sites : List Site) (b : ℕ) (to from site : Site) (other : Option BlockId) → IsHeldBy sites to other → same_site from site ≡ false → same_site to site ≡ false → at (with_other (slice_set sites b to) other from) site ≡ at (slice_set sites b to) site
at-with_other sites b to from site None held f t = refl
at-with_other sites b to from site (Some c) (c_range, c_at) f t =
    let away : same_site (site_of (slice_set sites b to) c.0) site ≡ false =
    elim (site_of-set_either sites b c.0 to) [
      | inl e ↦ ap (λ (v : Site). same_site v site) e ∙ t
      | inr e ↦ ap (λ (v : Site). same_site v site) (e ∙ c_at) ∙ t
    ] in
    at_from-set 0 (slice_set sites b to) c.0 from site away f

-- the swap leaves all other sites alone
pub at-elsewhere : (sites : List Site) (s : Swap) (site : Site) → IsReady sites s → same_site s.from site ≡ false → same_site s.to site ≡ false → at (swapped sites s) site ≡ at sites site
at-elsewhere sites s site r f t =
    at-with_other sites s.block.0 s.to s.from site s.other r.held f t
    ∙ at_from-set 0 sites s.block.0 s.to site (ap (λ (v : Site). same_site v site) r.stands ∙ f) t
