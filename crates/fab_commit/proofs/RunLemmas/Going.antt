-- A run that is some moves further.
use Rattle.std.proofs.Common.{◌≡◌, ℕ, zero, suc, ◌+◌, ◌++◌, [], false, cond, refl, sym, ap, subst, ◌∙◌, arith, append_assoc, append-nil}
use Rattle.fab_commit.specs.declared.run.state.State.{State}
use Rattle.fab_commit.specs.Serial.{Run, Standing, accepted_among, accepted_here, after_move, from, judged_here, numbers_if, step}
use Rattle.fab_commit.specs.Run.Commits.{IsSound, standing_of}
use Rattle.fab_commit.specs.Run.Further.{IsFurther}
use Rattle.fab_commit.specs.Run.Noted.{noted, noted_more}
use Rattle.fab_commit.proofs.RunLemmas.Folding.{from_add, hot_at, step_is}
use Rattle.fab_commit.proofs.RunLemmas.Noting.{noted_more-more, noted_more-nil}

-- moves after one another
pub accepted_add : (r : Run) (x : Standing) (n m : ℕ) → accepted_among r x n ++ accepted_among r (from r x n) m ≡ accepted_among r x (n + m)
accepted_add r x zero m = (let e : m ≡ 0 + m = omega arith in ap (accepted_among r x) e)
accepted_add r x (suc n) m =
    let e : suc (n + m) ≡ suc n + m = omega arith in
    append_assoc (accepted_here r x) (accepted_among r (step r x) n) (accepted_among r (from r (step r x) n) m)
    ∙ ap (λ l. accepted_here r x ++ l) (accepted_add r (step r x) n m)
    ∙ ap (accepted_among r x) e

pub further_none : (r : Run) (s : State) → IsSound r s → IsFurther r s 0 s
further_none r s sound = record {
  sound = sound;
  done = omega arith;
  stands = refl;
  accepted = sym (noted_more-nil (noted s.accepted));
}

pub further_more : (r : Run) (s mid now : State) (n m : ℕ) → IsFurther r s n mid → IsFurther r mid m now → IsFurther r s (n + m) now
further_more r s mid now n m first second =
    let x = standing_of s in
    let one = first.done in
    let two = second.done in
    record {
      sound = second.sound;
      done = omega (arith, one, two);
      stands = second.stands ∙ ap (λ y. from r y m) first.stands ∙ sym (from_add r x n m);
      accepted =
          second.accepted
          ∙ (λ i. noted_more (first.accepted i) (accepted_among r (first.stands i) m))
          ∙ noted_more-more (noted s.accepted) (accepted_among r x n) (accepted_among r (from r x n) m)
          ∙ ap (noted_more (noted s.accepted)) (accepted_add r x n m);
    }

-- the same, where both together are known to be so many
pub further_both : (r : Run) (s mid now : State) (n m all : ℕ) → IsFurther r s n mid → IsFurther r mid m now → n + m ≡ all → IsFurther r s all now
further_both r s mid now n m all first second sum = subst (λ k. IsFurther r s k now) sum (further_more r s mid now n m first second)

-- from a state that stands at the same place
pub further_from : (r : Run) (s o now : State) (n : ℕ) → standing_of o ≡ standing_of s → noted o.accepted ≡ noted s.accepted → IsFurther r o n now → IsFurther r s n now
further_from r s o now n same noted_same f =
    let done : o.done ≡ s.done = ap (λ (x : Standing). x.done) same in
    let on = f.done in
    record {
      sound = f.sound;
      done = omega (arith, done, on);
      stands = f.stands ∙ ap (λ x. from r x n) same;
      accepted = f.accepted ∙ (λ i. noted_more (noted_same i) (accepted_among r (same i) n));
    }

-- one move, as it is committed
pub record IsCommitted (r : Run) (s now : State) : Type 0 where
  pub sound : IsSound r now
  pub stands : standing_of now ≡ after_move r (standing_of s) (judged_here r (standing_of s) s.done)
  pub accepted : noted now.accepted ≡ noted_more (noted s.accepted) (numbers_if s.done (judged_here r (standing_of s) s.done).accepted)

pub further_one : (r : Run) (s now : State) → s.ended ≡ false → IsCommitted r s now → IsFurther r s 1 now
further_one r s now going is =
    let x = standing_of s in
    let hot = hot_at s.ended s.stage.t going in
    let numbers = numbers_if s.done (judged_here r x s.done).accepted in
    let number_is : numbers ++ [] ≡ accepted_among r x 1 = ap (λ b. cond b numbers [] ++ []) (sym hot) in
    record {
      sound = is.sound;
      done = ap (λ (y : Standing). y.done) is.stands;
      stands = is.stands ∙ sym (step_is r x hot);
      accepted = is.accepted ∙ ap (noted_more (noted s.accepted)) (sym (append-nil numbers) ∙ number_is);
    }
