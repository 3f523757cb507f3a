-- One more block gets its site.
use Rattle.std.proofs.Common.{◌≡◌, ◌≢◌, ◌↔◌, ℕ, ◌+◌, ◌-◌, ◌<◌, ◌≤◌, true, false, cond, List, [], ◌∷◌, Option, Some, None, length, map, get_or, set, replicate, zero, suc, refl, sym, ap, ◌∙◌, inl, inr, arith}
use Rattle.std.specs.Prelude.{slice_get, slice_index, is_some, position}
use Rattle.std.specs.List.{list_all, list_any, position_or_len}
use Rattle.std.proofs.lemmas.Bool.{cases_Bool, cases_eq, false≢true}
use Rattle.std.proofs.lemmas.List.{length-set, length-map, length-replicate}
use Rattle.fab_arch.specs.declared.array.Site.{Site}
use Rattle.fab_arch.specs.Grid.{GridShape}
use Rattle.fab_net.specs.declared.netlist_types.BlockId.{BlockId}
use Rattle.fab_net.proofs.Naming.{any_position}
use Rattle.fab_site.specs.Placement.{same_site, site_of, at_from}
use Rattle.fab_site.specs.Index.{index_of, site_count, held, IsIndexed}
use Rattle.fab_site.specs.Draft.{is_missing, is_site, holder_from, holder_of, NoneShared, IsTabled}
use Rattle.fab_site.proofs.Tables.{index_below, index_apart, itself, same_is, held_zero, held_other, held_here}

-- reads of a list after a write

pub get_set_same : {X : Type 0} (xs : List X) (b : ℕ) (y v : X) → slice_get xs b ≡ Some y → slice_get (set xs b v) b ≡ Some v
get_set_same [] b y v h = absurd (none_some y h)
  where
    none_some : {X : Type 0} (y : X) → None ≡ Some y → ⊥
    none_some y h = cc
get_set_same (x ∷ xs) zero y v h = refl
get_set_same (x ∷ xs) (suc b) y v h = get_set_same xs b y v h

pub get_set_other : {X : Type 0} (xs : List X) (b a : ℕ) (v : X) → a ≢ b → slice_get (set xs b v) a ≡ slice_get xs a
get_set_other [] b a v h = refl
get_set_other (x ∷ xs) zero zero v h = absurd (h refl)
get_set_other (x ∷ xs) zero (suc a) v h = refl
get_set_other (x ∷ xs) (suc b) zero v h = refl
get_set_other (x ∷ xs) (suc b) (suc a) v h = get_set_other xs b a v (λ e. h (ap suc e))

none_some : {X : Type 0} (y : X) → None ≡ Some y → ⊥
none_some y h = cc

some_none : {X : Type 0} (y : X) → Some y ≡ None → ⊥
some_none y h = cc

-- a draft without a site

nobody : (n k : ℕ) (s : Site) → holder_from k (replicate n None) s ≡ None
nobody zero k s = refl
nobody (suc n) k s = nobody n (k + 1) s

no_site : (n a : ℕ) (s : Site) → slice_get (replicate n None) a ≡ Some (Some s) → ⊥
no_site zero a s h = none_some (Some s) h
no_site (suc n) zero s h = none_some s (inner None (Some s) h)
  where
    inner : (x y : Option Site) → Some x ≡ Some y → x ≡ y
    inner x y h = cc
no_site (suc n) (suc a) s h = no_site n a s h

pub tabled_none : (g : GridShape) (n : ℕ) (holders : List ℕ) → length holders ≡ site_count g → ((i : ℕ) → slice_index holders i ≡ 0) → n ≤ 65535 → IsTabled g (replicate n None) holders
tabled_none g n holders size zeros few =
    record {
      size = size;
      few = omega (arith, length-replicate {A = Option Site} n None, few);
      each = λ s. held_zero holders (index_of g s) zeros ∙ sym (nobody n 0 s);
      apart = λ a b s h k. absurd (no_site n a s h);
    }

-- one more site

tail_none : (n : ℕ) (o : Option Site) (os : List (Option Site)) (s : Site) → holder_from n (o ∷ os) s ≡ None → (is_site o s ≡ false) × (holder_from (n + 1) os s ≡ None)
tail_none n o os s h = elim (cases_Bool (is_site o s)) [
  | inl y ↦ let e : Some (record { 0 = n }) ≡ None = rw y at h in absurd (no_block (record { 0 = n }) e)
  | inr other ↦ (other, rw other at h)
]
  where
    no_block : (b : BlockId) → Some b ≡ None → ⊥
    no_block b h = cc

holder_here : (n : ℕ) (os : List (Option Site)) (b : ℕ) (x : Site) → slice_get os b ≡ Some None → holder_from n os x ≡ None → holder_from n (set os b (Some x)) x ≡ Some (record { 0 = n + b })
holder_here n [] b x h k = absurd (none_some None h)
holder_here n (o ∷ os) zero x h k = let e : n + 0 ≡ n = omega arith in rw (itself x, e) refl
holder_here n (o ∷ os) (suc b) x h k =
    let t = tail_none n o os x k in
    let e : n + 1 + b ≡ n + suc b = omega arith in
    rw (t.0, ← e) (holder_here (n + 1) os b x h t.1)

holder_other : (n : ℕ) (os : List (Option Site)) (b : ℕ) (x s : Site) → slice_get os b ≡ Some None → same_site x s ≡ false → holder_from n (set os b (Some x)) s ≡ holder_from n os s
holder_other n [] b x s h k = refl
holder_other n (None ∷ os) zero x s h k = rw k refl
holder_other n (Some y ∷ os) zero x s h k = absurd (none_some y (sym (inner (Some y) None h)))
  where
    inner : (u v : Option Site) → Some u ≡ Some v → u ≡ v
    inner u v h = cc
holder_other n (o ∷ os) (suc b) x s h k = ap (cond (is_site o s) (Some (record { 0 = n }))) (holder_other (n + 1) os b x s h k)

pub held_by : (n : ℕ) (os : List (Option Site)) (a : ℕ) (s : Site) → slice_get os a ≡ Some (Some s) → holder_from n os s ≡ None → ⊥
held_by n [] a s h k = none_some (Some s) h
held_by n (o ∷ os) zero s h k =
    let is : is_site o s ≡ true = ap (λ x. is_site x s) (inner o (Some s) h) ∙ itself s in
    false≢true (sym (tail_none n o os s k).0 ∙ is)
  where
    inner : (u v : Option Site) → Some u ≡ Some v → u ≡ v
    inner u v h = cc
held_by n (o ∷ os) (suc a) s h k = held_by (n + 1) os a s h (tail_none n o os s k).1

-- a block that is found on a site, by its number in a list whose first block has this one
found : (n : ℕ) (os : List (Option Site)) (s : Site) (c : BlockId) → holder_from n os s ≡ Some c → (n ≤ c.0) × (slice_get os (c.0 - n) ≡ Some (Some s))
found n [] s c h = absurd (none_some c h)
found n (o ∷ os) s c h = elim (cases_Bool (is_site o s)) [
  | inl y ↦
      let e : Some (record { 0 = n }) ≡ Some c = rw y at h in
      let same : c.0 ≡ n = number_is n c e in
      let z : c.0 - n ≡ 0 = omega (arith, same) in
      (omega (arith, same), ap (slice_get (o ∷ os)) z ∙ ap (λ x. Some x) (is_here o s y))
  | inr k ↦
      let r = found (n + 1) os s c (rw k at h) in
      let z : c.0 - n ≡ suc (c.0 - (n + 1)) = omega (arith, r.0) in
      (omega (arith, r.0), ap (slice_get (o ∷ os)) z ∙ r.1)
]
  where
    number_is : (n : ℕ) (c : BlockId) → Some (record { 0 = n }) ≡ Some c → c.0 ≡ n
    number_is n c h = cc

    is_here : (o : Option Site) (s : Site) → is_site o s ≡ true → o ≡ Some s
    is_here None s h = absurd (false≢true h)
    is_here (Some x) s h = ap (λ v. Some v) (same_is x s h)

holder_stands : (os : List (Option Site)) (s : Site) (b : BlockId) → holder_of os s ≡ Some b → slice_get os b.0 ≡ Some (Some s)
holder_stands os s b h = let z : b.0 ≡ b.0 - 0 = omega arith in ap (slice_get os) z ∙ (found 0 os s b h).1

-- the block on a site is the one that got it
pub holder_is : (os : List (Option Site)) (s : Site) (b : BlockId) → NoneShared os → (holder_of os s ≡ Some b) ↔ (slice_get os b.0 ≡ Some (Some s))
holder_is os s b apart = (holder_stands os s b, λ h. by_holder (holder_of os s) refl h)
  where
    by_holder : (o : Option BlockId) → holder_of os s ≡ o → slice_get os b.0 ≡ Some (Some s) → holder_of os s ≡ Some b
    by_holder None e h = absurd (held_by 0 os b.0 s h e)
    by_holder (Some c) e h =
        let same : c.0 ≡ b.0 = apart c.0 b.0 s (holder_stands os s c e) h in
        e ∙ ap (λ (n : ℕ). Some (record { 0 = n })) same

put_site : (os : List (Option Site)) (b : ℕ) (x s : Site) → slice_get os b ≡ Some None → slice_get (set os b (Some x)) b ≡ Some (Some s) → x ≡ s
put_site os b x s h k = inner x s (sym (get_set_same os b None (Some x) h) ∙ k)
  where
    inner : (u v : Site) → Some (Some u) ≡ Some (Some v) → u ≡ v
    inner u v h = cc

pub apart_put : (os : List (Option Site)) (b : ℕ) (x : Site) → NoneShared os → slice_get os b ≡ Some None → holder_of os x ≡ None → NoneShared (set os b (Some x))
apart_put os b x apart missing free a c s h k =
    elim (cases_eq a b) [
      | inl ab ↦ elim (cases_eq c b) [
        | inl cb ↦ ab ∙ sym cb
        | inr nc ↦
            let xs : x ≡ s = put_site os b x s missing (rw ab at h) in
            let there : slice_get os c ≡ Some (Some s) = sym (get_set_other os b c (Some x) nc) ∙ k in
            absurd (held_by 0 os c s there (ap (holder_of os) (sym xs) ∙ free))
      ]
      | inr na ↦
          let here : slice_get os a ≡ Some (Some s) = sym (get_set_other os b a (Some x) na) ∙ h in
          elim (cases_eq c b) [
            | inl cb ↦
                let xs : x ≡ s = put_site os b x s missing (rw cb at k) in
                absurd (held_by 0 os a s here (ap (holder_of os) (sym xs) ∙ free))
            | inr nc ↦ apart a c s here (sym (get_set_other os b c (Some x) nc) ∙ k)
          ]
    ]

pub tabled_put : (g : GridShape) (os : List (Option Site)) (holders : List ℕ) (b : ℕ) (x : Site) (i : ℕ) → IsTabled g os holders → slice_get os b ≡ Some None → holder_of os x ≡ None → index_of g x ≡ Some i → IsTabled g (set os b (Some x)) (set holders i (b + 1))
tabled_put g os holders b x i t missing free at_i =
    record {
      size = length-set holders i (b + 1) ∙ t.size;
      few = omega (arith, length-set os b (Some x), t.few);
      each = each;
      apart = apart_put os b x t.apart missing free;
    }
  where
    each : (s : Site) → held (set holders i (b + 1)) (index_of g s) ≡ holder_of (set os b (Some x)) s
    each s =
        let below = index_below g x i at_i in
        elim (cases_Bool (same_site x s)) [
          | inl y ↦
              let same : x ≡ s = same_is x s y in
              let there : index_of g s ≡ Some i = ap (index_of g) (sym same) ∙ at_i in
              let z : 0 + b ≡ b = omega arith in
              rw there (held_here holders i b (omega (arith, below, t.size)) ∙ ap (λ n. Some (record { 0 = n })) (sym z) ∙ sym (holder_here 0 os b x missing free) ∙ ap (holder_of (set os b (Some x))) same)
          | inr n ↦
              let away : index_of g s ≡ Some i → ⊥ = λ e. false≢true (sym n ∙ ap (same_site x) (index_apart g s x i e at_i) ∙ itself x) in
              held_other holders i (b + 1) (index_of g s) away ∙ t.each s ∙ sym (holder_other 0 os b x s missing n)
        ]

-- a draft in which each block has its site

all_held : (n : ℕ) (xs : List Site) (s : Site) → holder_from n (map Some xs) s ≡ at_from n xs s
all_held n [] s = refl
all_held n (x ∷ xs) s = ap (cond (same_site x s) (Some (record { 0 = n }))) (all_held (n + 1) xs s)

got : (xs : List Site) (a : ℕ) → a < length xs → slice_get (map Some xs) a ≡ Some (Some (site_of xs a))
got [] a lt = absurd (omega arith)
got (x ∷ xs) zero lt = refl
got (x ∷ xs) (suc a) lt = got xs a (omega arith)

pub tabled_all : (g : GridShape) (xs : List Site) (os : List (Option Site)) (holders : List ℕ) → map Some xs ≡ os → IsTabled g os holders → IsIndexed g xs holders
tabled_all g xs os holders e t' =
    let t : IsTabled g (map Some xs) holders = rw e t' in
    record {
      size = t.size;
      few = omega (arith, t.few, length-map xs (λ (s : Site). Some s));
      each = λ s. t.each s ∙ all_held 0 xs s;
      apart = λ a b la lb same. t.apart a b (site_of xs a) (got xs a la) (got xs b lb ∙ ap (λ s. Some (Some s)) (sym same));
    }

all_parts : (o : Option Site) (os : List (Option Site)) → list_all is_some (o ∷ os) ≡ true → (is_some o ≡ true) × (list_all is_some os ≡ true)
all_parts o os h = elim (cases_Bool (is_some o)) [
  | inl y ↦ (y, rw y at h)
  | inr n ↦ let e : false ≡ true = rw n at h in absurd (false≢true e)
]

-- each of some sites is there
pub some_at : (os : List (Option Site)) (i : ℕ) (d : Option Site) → list_all is_some os ≡ true → i < length os → is_some (get_or os i d) ≡ true
some_at [] i d h lt = absurd (omega arith)
some_at (o ∷ os) zero d h lt = (all_parts o os h).0
some_at (o ∷ os) (suc i) d h lt = some_at os i d (all_parts o os h).1 (omega arith)

-- a block's site goes into the table where the site lies
pub tabled_enter : (g : GridShape) (os : List (Option Site)) (old new : List ℕ) (b : ℕ) (x : Site) → IsTabled g os old → slice_get os b ≡ Some None → holder_of os x ≡ None → is_some (index_of g x) ≡ true
    → ((i : ℕ) → index_of g x ≡ Some i → new ≡ set old i (b + 1)) → IsTabled g (set os b (Some x)) new
tabled_enter g os old new b x t missing free there h = by_index (index_of g x) refl there
  where
    by_index : (o : Option ℕ) → index_of g x ≡ o → is_some o ≡ true → IsTabled g (set os b (Some x)) new
    by_index None e k = absurd (false≢true k)
    by_index (Some i) e k = rw (h i e) (tabled_put g os old b x i t missing free e)

all_there : (os : List (Option Site)) → list_any is_missing os ≡ false → list_all is_some os ≡ true
all_there [] h = refl
all_there (o ∷ os) h = elim (cases_Bool (is_some o)) [
  | inl y ↦ let rest : list_any is_missing os ≡ false = rw y at h in rw (y, all_there os rest) refl
  | inr n ↦ let e : true ≡ false = rw n at h in absurd (false≢true (sym e))
]

-- where no site is missing, each is there
pub none_missing : (os : List (Option Site)) → position is_missing os ≡ None → list_all is_some os ≡ true
none_missing os h = elim (cases_Bool (list_any is_missing os)) [
  | inl y ↦ let e : Some (position_or_len is_missing os) ≡ None = rw (any_position is_missing os ∙ y) at h in absurd (some_none (position_or_len is_missing os) e)
  | inr n ↦ all_there os n
]
