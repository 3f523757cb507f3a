-- What the loops over claims, verdicts and marks find.
use Rattle.std.proofs.Common.{◌≡◌, ℕ, suc, ◌+◌, ◌-◌, ◌<◌, Bool, true, false, not, cond, ◌&&◌, ◌||◌, ◌==◌, List, [], ◌∷◌, ◌++◌, map, Option, Some, None, refl, sym, ap, ◌∙◌, inl, inr, arith}
use Rattle.std.specs.Prelude.{nat_lt}
use Rattle.std.specs.List.{filter, list_any, range_with_len}
use Rattle.std.proofs.lemmas.Bool.{and_parts, or_left, or_right, or_cases, eq-eqb, ne_eqb, eqb-true, false≢true, lt-ltb, cases_eq, cases_lt}
use Rattle.fab_net.specs.declared.netlist_types.BlockId.{BlockId}
use Rattle.fab_net.specs.declared.netlist_types.NetId.{NetId}
use Rattle.fab_net.specs.BlockNets.{net_id}
use Rattle.fab_move.specs.declared.marks.Mark.{Mark}
use Rattle.fab_move.specs.declared.marks.Mark.TheVariants.{Block, Place, Net}
use Rattle.fab_move.specs.Judge.{has_mark, same_mark}
use Rattle.fab_arch.specs.declared.array.Site.{Site}
use Rattle.fab_commit.specs.declared.model.judged.Claimed.{Claimed}
use Rattle.fab_commit.specs.declared.model.judged.JudgedMove.{JudgedMove}
use Rattle.fab_commit.specs.Model.World.{first_free, is_claimed, is_judged, is_last}
use Rattle.fab_commit.specs.Model.Worlds.{is_number, last_among, without_last, without_verdict}

pub first_free-skip : (claims : List Claimed) (verdicts : List JudgedMove) (k to : ℕ) → k < to → (is_claimed k claims || is_judged k verdicts) ≡ true
    → first_free claims verdicts (range_with_len (k + 1) (to - (k + 1))) ≡ first_free claims verdicts (range_with_len k (to - k))
first_free-skip claims verdicts k to h used =
    let e : to - k ≡ suc (to - (k + 1)) = omega arith in
    sym (ap (λ n. first_free claims verdicts (range_with_len k n)) e
    ∙ ap (λ b. cond b (first_free claims verdicts (range_with_len (k + 1) (to - (k + 1)))) (Some k)) used)

-- the verdict of the greatest number

both : (a b : Bool) → a ≡ true → b ≡ true → (a && b) ≡ true
both a b e f = rw e f

-- a verdict of this worker and number is among these
abbrev is_among : ℕ → ℕ → List JudgedMove → Bool
is_among worker k vs = list_any (λ (v : JudgedMove). v.worker == worker && v.number == k) vs

filter_alike : (p q : JudgedMove → Bool) (vs : List JudgedMove) → ((v : JudgedMove) → is_among v.worker v.number vs ≡ true → p v ≡ q v) → filter p vs ≡ filter q vs
filter_alike p q [] each = refl
filter_alike p q (v ∷ vs) each =
    let here : p v ≡ q v = each v (or_left (v.worker == v.worker && v.number == v.number) (is_among v.worker v.number vs) (both (v.worker == v.worker) (v.number == v.number) (eq-eqb v.worker v.worker refl) (eq-eqb v.number v.number refl))) in
    let rest : filter p vs ≡ filter q vs = filter_alike p q vs (λ u h. each u (or_right (v.worker == u.worker && v.number == u.number) (is_among u.worker u.number vs) h)) in
    (λ i. cond (here i) (v ∷ rest i) (rest i))

any_implied : (p q : JudgedMove → Bool) (vs : List JudgedMove) → ((v : JudgedMove) → p v ≡ true → q v ≡ true) → list_any p vs ≡ true → list_any q vs ≡ true
any_implied p q [] each h = h
any_implied p q (v ∷ vs) each h =
    elim (or_cases (p v) (list_any p vs) h) [
      | inl e ↦ or_left (q v) (list_any q vs) (each v e)
      | inr e ↦ or_right (q v) (list_any q vs) (any_implied p q vs each e)
    ]

-- there is a verdict with a greater number
greater_stands : (worker k m : ℕ) (vs : List JudgedMove) → k < m → is_among worker m vs ≡ true → is_last worker vs k ≡ false
greater_stands worker k m vs less h =
    ap not (any_implied (λ (v : JudgedMove). v.worker == worker && v.number == m) (λ (v : JudgedMove). v.worker == worker && nat_lt k v.number) vs
    (λ v e. let parts = and_parts (v.worker == worker) (v.number == m) e in
    let same : v.number ≡ m = eqb-true v.number m parts.1 in
    both (v.worker == worker) (nat_lt k v.number) parts.0 (lt-ltb k v.number (omega (arith, same, less))))
    h)

abbrev Found : ℕ → List JudgedMove → List JudgedMove → Option ℕ → Type 0
Found worker all vs None = (k : ℕ) → is_among worker k vs ≡ true → is_last worker all k ≡ false
Found worker all vs (Some m) = (is_last worker all m ≡ true) × (is_among worker m vs ≡ true)

found_later : (worker : ℕ) (all : List JudgedMove) (v : JudgedMove) (vs : List JudgedMove) (o : Option ℕ) → (v.worker == worker && is_last worker all v.number) ≡ false → Found worker all vs o → Found worker all (v ∷ vs) o
found_later worker all v vs None not_here h = λ k e.
    elim (or_cases (v.worker == worker && v.number == k) (is_among worker k vs) e) [
      | inl here ↦
          (let parts = and_parts (v.worker == worker) (v.number == k) here in
          ap (is_last worker all) (sym (eqb-true v.number k parts.1)) ∙ sym (ap (λ b. b && is_last worker all v.number) parts.0) ∙ not_here)
      | inr there ↦ h k there
    ]
found_later worker all v vs (Some m) not_here h = (h.0, or_right (v.worker == worker && v.number == m) (is_among worker m vs) h.1)

found : (worker : ℕ) (all vs : List JudgedMove) → Found worker all vs (last_among worker all vs)
found worker all [] = λ k e. absurd (false≢true e)
found worker all (v ∷ vs) = here (found worker all vs) (v.worker == worker && is_last worker all v.number) refl
  where
    here : Found worker all vs (last_among worker all vs) → (b : Bool) → (v.worker == worker && is_last worker all v.number) ≡ b → Found worker all (v ∷ vs) (cond b (Some v.number) (last_among worker all vs))
    here rest true e =
        let parts = and_parts (v.worker == worker) (is_last worker all v.number) e in (
          parts.1,
          or_left (v.worker == worker && v.number == v.number) (is_among worker v.number vs) (both (v.worker == worker) (v.number == v.number) parts.0 (eq-eqb v.number v.number refl)),
        )
    here rest false e = found_later worker all v vs (last_among worker all vs) e rest

number_is : (worker k : ℕ) (all : List JudgedMove) (o : Option ℕ) → Found worker all all o → is_among worker k all ≡ true → is_number o k ≡ is_last worker all k
number_is worker k all None h among = sym (h k among)
number_is worker k all (Some m) h among =
    elim (cases_eq k m) [
      | inl e ↦ eq-eqb k m e ∙ sym (ap (is_last worker all) e ∙ h.0)
      | inr ne ↦ elim (cases_lt k m) [
        | inl l ↦ ne_eqb k m ne ∙ sym (greater_stands worker k m all l h.1)
        | inr l ↦ absurd (false≢true (sym (greater_stands worker m k all (omega arith) among) ∙ h.0))
      ]
    ]

pub last_dropped : (worker : ℕ) (all : List JudgedMove) → without_verdict worker (last_among worker all all) all ≡ without_last worker all
last_dropped worker all =
    filter_alike (λ (v : JudgedMove). not (v.worker == worker && is_number (last_among worker all all) v.number)) (λ (v : JudgedMove). not (v.worker == worker && is_last worker all v.number)) all
    (λ v among. same v.worker v.number among (v.worker == worker) refl)
  where
    same : (u k : ℕ) → is_among u k all ≡ true → (b : Bool) → (u == worker) ≡ b → not (b && is_number (last_among worker all all) k) ≡ not (b && is_last worker all k)
    same u k among false e = refl
    same u k among true e = ap not (number_is worker k all (last_among worker all all) (found worker all all) (sym (ap (λ w. is_among w k all) (eqb-true u worker e)) ∙ among))
