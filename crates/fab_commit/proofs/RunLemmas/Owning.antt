-- What the owner of the live placement commits is the next move of its run, whether it was judged ahead or again.
use Rattle.std.proofs.Common.{◌≡◌, ℕ, zero, suc, ◌+◌, ◌-◌, ◌<◌, ◌≤◌, Bool, true, false, cond, ◌||◌, List, [], ◌∷◌, ◌++◌, length, get_or, Option, Some, None, is_some, refl, sym, ap, subst, ◌∙◌, arith, append_assoc, append-nil}
use Rattle.std.specs.Prelude.{nat_lt}
use Rattle.std.specs.List.{count_by, filter, list_any, range_with_len}
use Rattle.std.proofs.lemmas.Bool.{lt-leb}
use Rattle.std.proofs.lemmas.List.Elements.{filter-append}
use Rattle.std.proofs.lemmas.List.Sums.{sum_by-append, sum_by-cons}
use Rattle.fab_arch.specs.declared.array.Site.{Site}
use Rattle.fab_arch.specs.Grid.{GridShape, kind_at}
use Rattle.fab_net.specs.Netlist.{Netlist}
use Rattle.fab_site.specs.declared.placement_types.Swap.{Swap}
use Rattle.fab_site.specs.Placement.{IsLegal, IsSwapOf, swapped}
use Rattle.fab_site.proofs.Sites.{index_there}
use Rattle.fab_site.proofs.Swapping.{ready}
use Rattle.fab_move.specs.declared.marks.Mark.{Mark}
use Rattle.fab_move.specs.declared.verdicts.Verdict.{Verdict as Answer}
use Rattle.fab_move.specs.Judge.{Judged, has_mark, moved, says, touched}
use Rattle.fab_commit.specs.declared.run.owner.Owner.{Owner}
use Rattle.fab_commit.specs.declared.run.swaps.Accepted.{Accepted}
use Rattle.fab_commit.specs.Serial.{Run, Standing, after_move, from, judged_here, moves_left, numbers_if, one_if, step}
use Rattle.fab_commit.specs.Run.Commits.{standing_of}
use Rattle.fab_commit.specs.Model.History.{accepted_at, accepted_from}
use Rattle.fab_commit.specs.Run.Noted.{noted, noted_more}
use Rattle.fab_commit.specs.Run.Owners.{AreOpen, HasMade, IsLed, IsOwned, Leads, since}
use Rattle.fab_commit.specs.Model.Stamps.{AreStamps}
use Rattle.fab_move.specs.StampTables.{IsWithin}
use Rattle.fab_commit.specs.Model.Stamps.{AreBefore, stamp}
use Rattle.fab_commit.specs.Model.TurnEvents.{LastTurn, IsOfAStage, stands, verdict_on, world_behind}
use Rattle.fab_commit.specs.Model.World.{accepted_as, accepted_now, clash, usable, verdict_here}
use Rattle.fab_commit.proofs.RunLemmas.Folding.{from_add, hot_at}
use Rattle.fab_commit.proofs.RunLemmas.Going.{further_more, further_none, further_one}
use Rattle.fab_commit.proofs.ModelLemmas.Happening.{blocks_of_swap}
use Rattle.fab_commit.proofs.ModelLemmas.History.{accepted_from-add}
use Rattle.fab_commit.proofs.ModelLemmas.Schedules.{takes_the_move}
use Rattle.fab_commit.proofs.ModelLemmas.Stamps.{clash-forget, clash-stamps, stamp-push}
use Rattle.fab_commit.proofs.ModelLemmas.TurnLaws.{behind_inv, kept_since, reach, step_bounds}
use Rattle.fab_commit.proofs.ModelLemmas.TurnSteps.{found_first, range-append}

-- a swap of a legal placement is one of the design's blocks and the array's sites
pub within_of : (d : Netlist) (g : GridShape) (fixed : List (Option Site)) (sites : List Site) (s : Swap) → IsLegal d g fixed sites → IsSwapOf g sites s → IsWithin d g s
within_of d g fixed sites s legal is =
    let r = ready g sites s is in
    let blocks = blocks_of_swap d g sites 0 s legal.all is in
    let fits : kind_at g s.from ≡ Some _ = ap (kind_at g) (sym r.stands) ∙ legal.fit s.block.0 r.within in
    record {
      block = blocks.0;
      other = blocks.1;
      from = index_there g s.from (ap is_some fits);
      to = index_there g s.to (ap is_some (is.kind ∙ fits));
    }

-- stamps

-- an accepted swap sets the stamps of what it touches
pub stamped_now : (d : Netlist) (log : List Accepted) (n : ℕ) (j : Judged) (s : Swap) (old new : Mark → ℕ) → AreBefore n log → j.accepted ≡ true → j.swap ≡ Some s
    → ((m : Mark) → new m ≡ cond (has_mark m (touched d s)) (n + 1) (old m))
    → ((m : Mark) → old m ≡ stamp d log m) → (m : Mark) → new m ≡ stamp d (log ++ accepted_now n j) m
stamped_now d log n j s old new before took there is was m =
    is m
    ∙ ap (cond (has_mark m (touched d s)) (n + 1)) (was m)
    ∙ sym (stamp-push d log (record { number = n; swap = s }) m before)
    ∙ ap (λ l. stamp d (log ++ l) m) (sym (λ i. cond (took i) (accepted_as n (there i)) []))

-- numbers of accepted moves

pub before_weaker : (n m : ℕ) (log : List Accepted) → n ≤ m → AreBefore n log → AreBefore m log
before_weaker n m [] l h = tt
before_weaker n m (a ∷ log) l h = (let low = h.0 in omega (arith, low, l), before_weaker n m log l h.1)

before_append : (n : ℕ) (xs ys : List Accepted) → AreBefore n xs → AreBefore n ys → AreBefore n (xs ++ ys)
before_append n [] ys h k = k
before_append n (x ∷ xs) ys h k = (h.0, before_append n xs ys h.1 k)

before_now : (n k : ℕ) (o : Option Swap) (b c : Bool) → k < n → AreBefore n (cond b (cond c (accepted_as k o) []) [])
before_now n k o false c l = tt
before_now n k o true false l = tt
before_now n k None true true l = tt
before_now n k (Some s) true true l = (l, tt)

before_from : (r : Run) (x : Standing) (n m : ℕ) → x.done + n ≤ m → AreBefore m (accepted_from r x n)
before_from r x zero m l = tt
before_from r x (suc n) m l =
    let j = judged_here r x x.done in
    let high = (step_bounds r x).1 in
    before_append m (accepted_at r x) (accepted_from r (step r x) n) (before_now m x.done j.swap (is_some x.heat) j.accepted (omega (arith, l))) (before_from r (step r x) n m (omega (arith, l, high)))

pub before_on : (r : Run) (x : Standing) (log : List Accepted) (n : ℕ) → AreBefore x.done log → AreBefore (x.done + n) (log ++ accepted_from r x n)
before_on r x log n h = before_append (x.done + n) log (accepted_from r x n) (before_weaker x.done (x.done + n) log (omega arith) h) (before_from r x n (x.done + n) (omega arith))

pub none_since : (n : ℕ) (log : List Accepted) → AreBefore n log → filter (since n) log ≡ []
none_since n [] h = refl
none_since n (a ∷ log) h = (let e = lt-leb n a.number h.0 in rw e (none_since n log h.1))

-- of the moves accepted before and those that n moves accept, only the later ones
pub recent_after : (r : Run) (y : Standing) (log : List Accepted) (n : ℕ) → AreBefore y.done log → filter (since y.done) (log ++ accepted_from r y n) ≡ accepted_from r y n
recent_after r y log n h =
    filter-append (since y.done) log (accepted_from r y n)
    ∙ (λ i. none_since y.done log h i ++ kept_since r y n y.done (omega arith) i)

-- moves after one another

pub none_made : (r : Run) (o : Owner) → IsOwned r o → HasMade r o 0 o
none_made r o owned = record {
  owned = owned;
  further = further_none r o.state owned.sound;
  swaps = sym (append-nil o.swaps.items);
  stamps = λ log before are. subst (AreStamps r.problem.design r.problem.grid o.stamps) (sym (append-nil log)) are;
  leads = λ sites h. h;
}

pub made_more : (r : Run) (o a b : Owner) (n m : ℕ) → HasMade r o n a → HasMade r a m b → HasMade r o (n + m) b
made_more r o a b n m first second =
    let x = standing_of o.state in
    let there = first.further.stands in
    let done_a = first.further.done in
    record {
      owned = second.owned;
      further = further_more r o.state a.state b.state n m first.further second.further;
      swaps =
          second.swaps
          ∙ (λ i. first.swaps i ++ accepted_from r (there i) m)
          ∙ append_assoc o.swaps.items (accepted_from r x n) (accepted_from r (from r x n) m)
          ∙ ap (λ l. o.swaps.items ++ l) (accepted_from-add r x n m);
      stamps = λ log before are.
          let mid = log ++ accepted_from r x n in
          let later : AreBefore a.state.done mid = subst (λ k. AreBefore k mid) (sym done_a) (before_on r x log n before) in
          subst (AreStamps r.problem.design r.problem.grid b.stamps)
          ((λ i. mid ++ accepted_from r (there i) m)
          ∙ append_assoc log (accepted_from r x n) (accepted_from r (from r x n) m)
          ∙ ap (λ l. log ++ l) (accepted_from-add r x n m))
          (second.stamps mid later (first.stamps log before are));
      leads = λ sites h. second.leads sites (first.leads sites h);
    }

-- where moves lead an owner

-- more moves of those that are open
pub led_on : (r : Run) (start : Standing) (made : ℕ) (o now : Owner) (base n i m : ℕ) → IsLed r start made o base n → HasMade r o i now → i + m ≤ n → IsLed r start (made + i) now base m
led_on r start made o now base n i m led more fits =
    let y = standing_of o.state in
    let done_o = led.done_is in
    let done_now = more.further.done in
    let stage = led.stage in
    let base_is = led.base_is in
    let low : base ≤ y.done = omega (arith, base_is, done_o) in
    record {
      log = led.log ++ accepted_from r y i;
      here = more.further.stands ∙ ap (λ s. from r s i) led.here ∙ sym (from_add r start made i);
      base_is = base_is;
      done_is = omega (arith, done_o, done_now);
      stage = omega (arith, stage, fits);
      stamps = more.stamps led.log led.before led.stamps;
      before = subst (λ k. AreBefore k (led.log ++ accepted_from r y i)) (sym done_now) (before_on r y led.log i led.before);
      recent =
          filter-append (since base) led.log (accepted_from r y i)
          ∙ (λ j. led.recent j ++ (kept_since r y i base low ∙ ap (λ s. accepted_from r s i) led.here) j)
          ∙ accepted_from-add r start made i;
    }

-- moves from where the owner stood
pub led_here : (r : Run) (start : Standing) (made : ℕ) (o now : Owner) (base n i m : ℕ) → IsLed r start made o base n → HasMade r o i now → i + m ≤ moves_left r (standing_of o.state)
    → IsLed r (standing_of o.state) i now o.state.done m
led_here r start made o now base n i m led more left =
    let y = standing_of o.state in
    let done = more.further.done in
    record {
      log = led.log ++ accepted_from r y i;
      here = more.further.stands;
      base_is = refl;
      done_is = done;
      stage = left;
      stamps = more.stamps led.log led.before led.stamps;
      before = subst (λ k. AreBefore k (led.log ++ accepted_from r y i)) (sym done) (before_on r y led.log i led.before);
      recent = recent_after r y led.log i led.before;
    }

-- an owner that stands at the same place, with the same stamps
pub led_same : (r : Run) (start : Standing) (made : ℕ) (s o : Owner) (base n m : ℕ) → IsLed r start made s base n → standing_of o.state ≡ standing_of s.state → o.stamps ≡ s.stamps → m ≤ n → IsLed r start made o base m
led_same r start made s o base n m led same stamps fits =
    let done : o.state.done ≡ s.state.done = ap (λ (x : Standing). x.done) same in
    let was = led.done_is in
    let stage = led.stage in
    record {
      log = led.log;
      here = same ∙ led.here;
      base_is = led.base_is;
      done_is = omega (arith, done, was);
      stage = omega (arith, stage, fits);
      stamps = subst (λ v. AreStamps r.problem.design r.problem.grid v led.log) (sym stamps) led.stamps;
      before = subst (λ k. AreBefore k led.log) (sym done) led.before;
      recent = led.recent;
    }

-- the same place and base, by other names
pub led_as : (r : Run) (x y : Standing) (made : ℕ) (o : Owner) (base b n : ℕ) → IsLed r x made o base n → x ≡ y → base ≡ b → IsLed r y made o b n
led_as r x y made o base b n led same is = subst (λ v. IsLed r v made o b n) same (subst (λ v. IsLed r x made o v n) is led)

-- the moves after these are open too, from a placement that is known
pub record IsOpenNext (r : Run) (now : Owner) (base m : ℕ) (start : Standing) : Type 0 where
  pub due : AreOpen r now base m
  pub is : due.start ≡ start

-- swaps that lead from one placement to another

pub leads_on : (g : GridShape) (sites there : List Site) (xs : List Accepted) (a : Accepted) → Leads g sites xs there → IsSwapOf g there a.swap → Leads g sites (xs ++ a ∷ []) (swapped there a.swap)
leads_on g sites there [] a h is = (subst (λ s. IsSwapOf g s a.swap) (sym h) is, ap (λ s. swapped s a.swap) h)
leads_on g sites there (x ∷ xs) a h is = (h.0, leads_on g (swapped sites x.swap) there xs a h.1 is)

leads_now : (g : GridShape) (sites there : List Site) (xs : List Accepted) (n : ℕ) (j : Judged) (b : Bool) (o : Option Swap) → j.accepted ≡ b → j.swap ≡ o → ((s : Swap) → j.swap ≡ Some s → IsSwapOf g there s) → Leads g sites xs there → Leads g sites (xs ++ accepted_now n j) (moved there j)
leads_now g sites there xs n j false o eb eo lawful h =
    subst (λ l. Leads g sites (xs ++ l) (moved there j)) (sym (ap (λ b. cond b (accepted_as n j.swap) []) eb))
    (subst (λ l. Leads g sites l (moved there j)) (sym (append-nil xs)) (subst (Leads g sites xs) (sym (kept there j eb)) h))
  where
    kept : (sites : List Site) (j : Judged) → j.accepted ≡ false → moved sites j ≡ sites
    kept sites j e = rw e refl
leads_now g sites there xs n j true None eb eo lawful h =
    subst (λ l. Leads g sites (xs ++ l) (moved there j)) (sym (λ i. cond (eb i) (accepted_as n (eo i)) []))
    (subst (λ l. Leads g sites l (moved there j)) (sym (append-nil xs)) (subst (Leads g sites xs) (sym (kept there j eb eo)) h))
  where
    kept : (sites : List Site) (j : Judged) → j.accepted ≡ true → j.swap ≡ None → moved sites j ≡ sites
    kept sites j e f = rw (e, f) refl
leads_now g sites there xs n j true (Some s) eb eo lawful h =
    subst (λ l. Leads g sites (xs ++ l) (moved there j)) (sym (λ i. cond (eb i) (accepted_as n (eo i)) []))
    (subst (Leads g sites (xs ++ record { number = n; swap = s } ∷ [])) (sym (made there j eb eo)) (leads_on g sites there xs (record { number = n; swap = s }) h (lawful s eo)))
  where
    made : (sites : List Site) (j : Judged) → j.accepted ≡ true → j.swap ≡ Some s → moved sites j ≡ swapped sites s
    made sites j e f = rw (e, f) refl

-- one move

-- what a committed move made of what the owner keeps, part by part
pub record IsNext (r : Run) (o : Owner) (j : Judged) (now : Owner) : Type 0 where
  pub owned : IsOwned r now
  pub stands : standing_of now.state ≡ after_move r (standing_of o.state) j
  pub accepted : noted now.state.accepted ≡ noted_more (noted o.state.accepted) (numbers_if o.state.done j.accepted)
  pub swaps : now.swaps.items ≡ o.swaps.items ++ accepted_now o.state.done j
  pub stamps : (log : List Accepted) → AreBefore o.state.done log → AreStamps r.problem.design r.problem.grid o.stamps log → AreStamps r.problem.design r.problem.grid now.stamps (log ++ accepted_now o.state.done j)

pub one_made : (r : Run) (o now : Owner) (j : Judged) → IsOwned r o → o.state.ended ≡ false → j ≡ judged_here r (standing_of o.state) o.state.done
    → ((s : Swap) → j.swap ≡ Some s → IsSwapOf r.problem.grid o.state.placement.sites s) → IsNext r o j now → HasMade r o 1 now
one_made r o now j owned going says lawful next =
    let x = standing_of o.state in
    let hot = hot_at o.state.ended o.state.stage.t going in
    let j_here = judged_here r x x.done in
    let swap_is : accepted_now o.state.done j ++ [] ≡ accepted_from r x 1 =
    ap (λ q. accepted_now x.done q ++ []) says ∙ ap (λ b. cond b (accepted_now x.done j_here) [] ++ []) (sym hot) in
    record {
      owned = next.owned;
      further = further_one r o.state now.state going (record {
        sound = next.owned.sound;
        stands = next.stands ∙ ap (after_move r x) says;
        accepted = next.accepted ∙ ap (λ (q : Judged). noted_more (noted o.state.accepted) (numbers_if o.state.done q.accepted)) says;
      });
      swaps = next.swaps ∙ ap (λ l. o.swaps.items ++ l) (sym (append-nil (accepted_now o.state.done j)) ∙ swap_is);
      stamps = λ log before are. subst (AreStamps r.problem.design r.problem.grid now.stamps) (ap (λ l. log ++ l) (sym (append-nil (accepted_now o.state.done j)) ∙ swap_is)) (next.stamps log before are);
      leads = λ sites h.
          let on = leads_now r.problem.grid sites o.state.placement.sites o.swaps.items o.state.done j j.accepted j.swap refl refl lawful h in
          subst (λ l. Leads r.problem.grid sites l now.state.placement.sites) (sym next.swaps) (subst (Leads r.problem.grid sites (o.swaps.items ++ accepted_now o.state.done j)) (sym (ap (λ (y : Standing). y.sites) next.stands)) on);
    }

-- moves that were judged before

-- a verdict that no accepted move touched since is the move on the placement that those moves led to
pub unspoiled : (r : Run) (x : Standing) (n : ℕ) → 0 < r.plan.moves → n < moves_left r x → clash r.problem.design (accepted_from r x n) x.done (judged_here r x (x.done + n)).footprint ≡ false
    → judged_here r x (x.done + n) ≡ judged_here r (from r x n) (x.done + n)
unspoiled r x n pos left free =
    let t : LastTurn = record { start = x; made = n; ahead = 1 } in
    let stage : IsOfAStage r t = omega (arith, left) in
    let w = world_behind r t in
    let there : (stands r t).done ≡ x.done + n = (reach r t pos stage).1 in
    let v = verdict_on r x (stands r t).done in
    let found : verdict_here w ≡ Some v = found_first (stands r t).done v [] refl in
    let clear : clash r.problem.design w.accepted v.base v.judged.footprint ≡ false = ap (λ k. clash r.problem.design (accepted_from r x n) x.done (judged_here r x k).footprint) there ∙ free in
    let taken : usable r w (verdict_here w) ≡ Some v = ap (usable r w) found ∙ ap (λ b. cond b None (Some v)) clear in
    ap (judged_here r x) (sym there) ∙ takes_the_move r w (behind_inv r t pos stage) v taken ∙ ap (judged_here r (from r x n)) there

-- a mark stamped above a base is one that a swap from the base on touched
any_same : (f g : Mark → Bool) (marks : List Mark) → ((m : Mark) → f m ≡ g m) → list_any f marks ≡ list_any g marks
any_same f g [] h = refl
any_same f g (m ∷ marks) h = (λ i. h m i || any_same f g marks h i)

pub touched_is : (d : Netlist) (stamps : Mark → ℕ) (log : List Accepted) (base : ℕ) (marks : List Mark) → ((m : Mark) → stamps m ≡ stamp d log m) → list_any (λ m. nat_lt base (stamps m)) marks ≡ clash d (filter (since base) log) base marks
touched_is d stamps log base marks are =
    any_same (λ m. nat_lt base (stamps m)) (λ m. nat_lt base (stamp d log m)) marks (λ m. ap (nat_lt base) (are m))
    ∙ sym (clash-stamps d log base marks)
    ∙ sym (clash-forget d log base base marks (omega arith))

pub get_range : (k n i : ℕ) → i < n → get_or (range_with_len k n) i 0 ≡ k + i
get_range k zero i l = absurd (omega (arith, l))
get_range k (suc n) zero l = omega arith
get_range k (suc n) (suc i) l = get_range (k + 1) n i (omega (arith, l)) ∙ omega arith

pub length_range : (k n : ℕ) → length (range_with_len k n) ≡ n
length_range k zero = refl
length_range k (suc n) = ap (λ m. suc m) (length_range (k + 1) n)

pub count_more : (p : ℕ → Bool) (k n : ℕ) → count_by p (range_with_len k (n + 1)) ≡ count_by p (range_with_len k n) + one_if (p (k + n))
count_more p k n =
    let f = λ (j : ℕ). cond (p j) 1 0 in
    let last : count_by p ((k + n) ∷ []) ≡ one_if (p (k + n)) = (let e = sum_by-cons f (k + n) [] in omega (arith, e)) in
    ap (count_by p) (sym (range-append k n 1)) ∙ sum_by-append f (range_with_len k n) ((k + n) ∷ []) ∙ ap (λ m. count_by p (range_with_len k n) + m) last
