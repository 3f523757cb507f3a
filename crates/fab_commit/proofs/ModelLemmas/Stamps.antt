-- The stamps tell what the list of accepted swaps tells.
use Rattle.std.proofs.Common.{◌≡◌, ℕ, ◌+◌, ◌<◌, ◌≤◌, max, Bool, true, false, cond, ◌&&◌, ◌||◌, List, [], ◌∷◌, ◌++◌, refl, sym, ap, ◌∙◌, inl, inr, arith}
use Rattle.std.specs.Prelude.{nat_lt, nat_le}
use Rattle.std.specs.List.{list_any, filter}
use Rattle.std.proofs.lemmas.Bool.Decides.{nat_tests}
use Rattle.std.proofs.lemmas.Bool.{le-ltb, leb-false, lt-leb, cases_Bool}
use Rattle.fab_move.specs.declared.marks.Mark.{Mark}
use Rattle.fab_net.specs.Netlist.{Netlist}
use Rattle.fab_move.specs.Judge.{has_mark, meet, touched}
use Rattle.fab_commit.specs.declared.run.swaps.Accepted.{Accepted}
use Rattle.fab_commit.specs.Model.World.{clash}
use Rattle.fab_commit.specs.Model.Stamps.{AreBefore, stamp, is_stamped}

later : (base n s : ℕ) (b : Bool) → ((nat_le base n && b) || nat_lt base s) ≡ nat_lt base (max (cond b (n + 1) 0) s)
later base n s true = grind (arith, nat_tests)
later base n s false = grind (arith, nat_tests)

shuffle : (c x y z w : Bool) → ((c && (x || y)) || (z || w)) ≡ (((c && x) || z) || ((c && y) || w))
shuffle false x y z w = refl
shuffle true true y z w = refl
shuffle true false false z w = grind arith
shuffle true false true false w = refl
shuffle true false true true w = refl

none_stamped : (base : ℕ) (marks : List Mark) → false ≡ list_any (λ (m : Mark). nat_lt base 0) marks
none_stamped base [] = refl
none_stamped base (m ∷ marks) =
    let e : nat_lt base 0 ≡ false = le-ltb base 0 (omega arith) in
    none_stamped base marks ∙ ap (λ b. b || list_any (λ (m : Mark). nat_lt base 0) marks) (sym e)

one_more : (base n : ℕ) (touch : Mark → Bool) (s : Mark → ℕ) (marks : List Mark) → ((nat_le base n && list_any touch marks) || list_any (λ m. nat_lt base (s m)) marks) ≡ list_any (λ m. nat_lt base (max (cond (touch m) (n + 1) 0) (s m))) marks
one_more base n touch s [] = grind arith
one_more base n touch s (m ∷ marks) =
    shuffle (nat_le base n) (touch m) (list_any touch marks) (nat_lt base (s m)) (list_any (λ m. nat_lt base (s m)) marks)
    ∙ (λ i. later base n (s m) (touch m) i || one_more base n touch s marks i)

pub clash-stamps : (d : Netlist) (log : List Accepted) (base : ℕ) (marks : List Mark) → clash d log base marks ≡ is_stamped d log base marks
clash-stamps d [] base marks = none_stamped base marks
clash-stamps d (a ∷ log) base marks =
    ap (λ b. (nat_le base a.number && meet (touched d a.swap) marks) || b) (clash-stamps d log base marks)
    ∙ one_more base a.number (λ m. has_mark m (touched d a.swap)) (stamp d log) marks

stamp_below : (d : Netlist) (n : ℕ) (log : List Accepted) (m : Mark) → AreBefore n log → stamp d log m ≤ n
stamp_below d n [] m h = omega arith
stamp_below d n (a ∷ log) m h =
    let rest = stamp_below d n log m h.1 in
    let first = h.0 in
    elim (has_mark m (touched d a.swap)) as (λ b. max (cond b (a.number + 1) 0) (stamp d log m) ≤ n) [
      | true ↦ omega (arith, rest, first)
      | false ↦ omega (arith, rest)
    ]

-- how one accepted move changes the stamps
pub stamp-push : (d : Netlist) (log : List Accepted) (a : Accepted) (m : Mark) → AreBefore a.number log
    → stamp d (log ++ a ∷ []) m ≡ cond (has_mark m (touched d a.swap)) (a.number + 1) (stamp d log m)
stamp-push d [] a m h = elim (has_mark m (touched d a.swap)) as (λ b. max (cond b (a.number + 1) 0) 0 ≡ cond b (a.number + 1) 0) [ true ↦ omega arith | false ↦ omega arith ]
stamp-push d (b ∷ log) a m h =
    let rest = stamp-push d log a m h.1 in
    let low = stamp_below d a.number log m h.1 in
    let first = h.0 in
    let mine = cond (has_mark m (touched d b.swap)) (b.number + 1) 0 in
    let small : mine ≤ a.number = elim (has_mark m (touched d b.swap)) as (λ v. cond v (b.number + 1) 0 ≤ a.number) [ true ↦ omega arith | false ↦ omega arith ] in
    ap (λ v. max mine v) rest
    ∙ elim (has_mark m (touched d a.swap)) as (λ v. max mine (cond v (a.number + 1) (stamp d log m)) ≡ cond v (a.number + 1) (max mine (stamp d log m))) [
      | true ↦ omega (arith, small)
      | false ↦ refl
    ]

-- swaps before every base may be forgotten
pub clash-forget : (d : Netlist) (log : List Accepted) (from base : ℕ) (marks : List Mark) → from ≤ base → clash d (filter (λ (a : Accepted). nat_le from a.number) log) base marks ≡ clash d log base marks
clash-forget d [] from base marks h = refl
clash-forget d (a ∷ log) from base marks h =
    let touch = meet (touched d a.swap) marks in
    let rest = clash-forget d log from base marks h in
    elim (cases_Bool (nat_le from a.number)) [
      | inl e ↦ ap (λ b. clash d (cond b (a ∷ filter (λ (a : Accepted). nat_le from a.number) log) (filter (λ (a : Accepted). nat_le from a.number) log)) base marks) e
          ∙ ap (λ b. (nat_le base a.number && touch) || b) rest
      | inr e ↦
          (let low : a.number < from = leb-false from a.number e in
          let old : nat_le base a.number ≡ false = lt-leb base a.number (omega arith) in
          ap (λ b. clash d (cond b (a ∷ filter (λ (a : Accepted). nat_le from a.number) log) (filter (λ (a : Accepted). nat_le from a.number) log)) base marks) e
          ∙ rest
          ∙ ap (λ b. (b && touch) || clash d log base marks) (sym old))
    ]
