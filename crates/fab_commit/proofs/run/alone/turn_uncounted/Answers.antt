use Rattle.std.proofs.Common.{◌≡◌, min, refl, ◌∙◌, subst, arith}
use Rattle.std.proofs.lemmas.Bool.{false≢true}
use Rattle.std.proofs.lemmas.Result.{err_from_is_err_and}
use Rattle.fab_commit.specs.declared.run.owner.Owner.{Owner}
use Rattle.fab_commit.specs.Serial.{moves_left}
use Rattle.fab_commit.specs.Run.Commits.{run_for, standing_of}
use Rattle.fab_commit.specs.Run.Further.{IsFurther}
use Rattle.fab_commit.proofs.RunLemmas.Further.{further_kept, sound_kept}
use Rattle.fab_commit.proofs.RunLemmas.Going.{further_none}
use Rattle.fab_commit.proofs.RunLemmas.Making.{forgotten}
use Rattle.fab_commit.proofs.run.alone.turn_uncounted.Goals as goal

pub commit_alone-requires-clause-may : goal.commit_alone-requires-clause-may
commit_alone-requires-clause-may g c κs within =
    let moves = c.min-moves.ensures in
    let left = c.moves_left.ensures in
    let owned = c.requires.at_turn.2.owned in
    record {
      plan = c.requires.at_turn.2.plan;
      owned = record { sound = sound_kept (run_for g.W.Words.moves c.args.given.now) c.args.owner.now.state c.reserve_numbers.new.numbers owned.sound; table = owned.table; counted = owned.counted };
      room = (c.in_ok-reserve_numbers.ensures.room, (λ e. absurd (false≢true e)));
      left = omega (arith, moves, left);
      due = λ e. absurd (false≢true e);
    }

pub returns-in_err-reserve_numbers : goal.returns-in_err-reserve_numbers
returns-in_err-reserve_numbers g c =
    let r = run_for g.W.Words.moves c.args.given.now in
    let o = c.args.owner.now in
    let l = c.reserve_numbers.new.numbers in
    let alone = c.requires.at_turn.2 in
    let sound = sound_kept r o.state l alone.owned.sound in
    let now : Owner = record { state = record o.state { accepted = l }; swaps = c.clear.new.self; stamps = o.stamps; redone = o.redone } in
    let p = err_from_is_err_and c.from_residual.result c.from_residual.ensures.1 in
    rw (p.1) (record {
      made = record {
        at_turn = forgotten r c.requires.at_turn.0 o now c.requires.at_turn.1 alone (record { sound = sound; table = alone.owned.table; counted = alone.owned.counted }) (omega arith) c.clear.ensures.items refl;
        further = further_kept r o.state now.state l 0 c.reserve_numbers.ensures.same (further_none r now.state sound);
        redone = refl;
      };
    })

pub returns : goal.returns
returns g c =
    let r = run_for g.W.Words.moves c.args.given.now in
    let o = c.args.owner.now in
    let l = c.reserve_numbers.new.numbers in
    let alone = c.requires.at_turn.2 in
    let made = c.commit_alone.ensures.made in
    let done = made.further.done in
    let moves = c.min-moves.ensures in
    let left = c.moves_left.ensures in
    let size : c.min-moves.result ≡ min c.args.batch (moves_left r (standing_of o.state)) = omega (arith, moves, left) in
    record {
      made = record {
        at_turn = forgotten r c.requires.at_turn.0 o c.commit_alone.new.owner c.requires.at_turn.1 alone made.owned (omega (arith, done)) (made.swaps refl ∙ c.clear.ensures.items) (made.stamps refl);
        further = subst (λ k. IsFurther r o.state k c.commit_alone.new.owner.state) size (further_kept r o.state c.commit_alone.new.owner.state l c.min-moves.result c.reserve_numbers.ensures.same made.further);
        redone = made.redone refl;
      };
    }
