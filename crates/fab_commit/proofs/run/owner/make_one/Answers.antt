use Rattle.std.proofs.Common.{◌≡◌, ◌+◌, ◌≤◌, Bool, true, false, eqb, not, refl, sym, ap, subst, ◌∙◌, arith}
use Rattle.fab_cost.specs.Swapping.{IsMadeFor}
use Rattle.std.proofs.lemmas.Bool.{false≢true}
use mir.Val.{bool_byte}
use Rattle.fab_commit.specs.declared.run.owner.Owner.{Owner}
use Rattle.fab_commit.specs.Serial.{Standing, judged_here, one_if}
use Rattle.fab_commit.specs.Run.Commits.{run_for, standing_of}
use Rattle.fab_commit.proofs.RunLemmas.Committing.{decided_lawful, numbers_fit}
use Rattle.fab_commit.proofs.RunLemmas.Followed.{if_some}
use Rattle.fab_commit.proofs.RunLemmas.Going.{further_one}
use Rattle.fab_commit.proofs.RunLemmas.Making.{is_off, is_on, makes_kept}
use Rattle.fab_commit.proofs.RunLemmas.Owning.{one_made, within_of}
use Rattle.fab_commit.proofs.run.owner.make_one.Goals as goal

pub enter-requires : goal.enter-requires
enter-requires g c = (let room = c.requires.room.1 (is_on g.row.COUNTED c.if-not-this.false) in record { room = omega (arith, room) })

pub stamp-requires-clause-within : goal.stamp-requires-clause-within
stamp-requires-clause-within g c s e = within_of c.args.given.now.design.now c.args.given.now.grid.now c.args.given.now.fixed c.args.owner.now.state.placement.sites s c.requires.owned.sound.legal (c.requires.lawful s e)

pub stamp-requires-clause-near : goal.stamp-requires-clause-near
stamp-requires-clause-near g c =
    let d = c.args.given.now.design.now in
    if_some _ (λ b. IsMadeFor b.now d) c.cost_if-cost.result c.cost_if-cost.ensures (λ b is. subst (λ v. IsMadeFor v d) (sym is) c.requires.owned.sound.cost.made)

pub stamp-requires-clause-number : goal.stamp-requires-clause-number
stamp-requires-clause-number g c = numbers_fit (run_for g.W.Words.moves c.args.given.now) c.args.owner.now.state c.requires.plan c.requires.owned.sound c.requires.going

pub commit-requires-clause-room : goal.commit-requires-clause-room
commit-requires-clause-room g c = c.requires.room.0

pub commit-requires-2-clause-room : goal.commit-requires-2-clause-room
commit-requires-2-clause-room g c = c.requires.room.0

pub returns-then-not-this-clause-made : goal.returns-then-not-this-clause-made
returns-then-not-this-clause-made g c =
    let r = run_for g.W.Words.moves c.args.given.now in
    let o = c.args.owner.now in
    let one = further_one r o.state c.commit.new.state c.requires.going (record { sound = c.commit.ensures.sound; stands = c.commit.ensures.stands; accepted = c.commit.ensures.accepted }) in
    let done = one.done in
    let counted = c.requires.owned.counted in
    record {
      owned = record { sound = one.sound; table = c.requires.owned.table; counted = omega (arith, counted, done) };
      further = one;
      kept = λ e. absurd (false≢true (sym (is_off g.row.COUNTED c.if-not-this.true) ∙ e));
      swaps = λ e. refl;
      stamps = λ e. refl;
      redone = λ e. refl;
    }

pub returns-then-not-this-clause-redone : goal.returns-then-not-this-clause-redone
returns-then-not-this-clause-redone g c e = absurd (false≢true (sym (is_off g.row.COUNTED c.if-not-this.true) ∙ e))

pub returns-then-not-this-clause-room : goal.returns-then-not-this-clause-room
returns-then-not-this-clause-room g c n h = (c.commit.ensures.room n h.0, (λ e. absurd (false≢true (sym (is_off g.row.COUNTED c.if-not-this.true) ∙ e))))

pub overflow_add-owner : goal.overflow_add-owner
overflow_add-owner g c =
    let few = numbers_fit (run_for g.W.Words.moves c.args.given.now) c.args.owner.now.state c.requires.plan c.requires.owned.sound c.requires.going in
    let counted = c.requires.owned.counted in
    grind (arith, few, counted)

byte_le : (b : Bool) → bool_byte b ≤ 1
byte_le true = omega arith
byte_le false = omega arith

byte_is : (b : Bool) → bool_byte b ≡ one_if b
byte_is true = refl
byte_is false = refl

pub returns-clause-made : goal.returns-clause-made
returns-clause-made g c =
    let r = run_for g.W.Words.moves c.args.given.now in
    let o = c.args.owner.now in
    let j = judged_here r (standing_of o.state) o.state.done in
    let is = c.requires.decides in
    let counted = c.requires.owned.counted in
    let done = ap (λ (y : Standing). y.done) c.commit-2.ensures.stands in
    let most = byte_le c.args.again in
    let told = c.from.ensures in
    let now : Owner = record { state = c.commit-2.new.state; swaps = c.enter.new.accepted; stamps = c.stamp.new.stamps; redone = o.redone + c.from.result } in
    makes_kept (not (eqb g.row.COUNTED 0)) r o now 1 (is_on g.row.COUNTED c.if-not-this.false) (one_made r o now j c.requires.owned c.requires.going refl (decided_lawful c.args.given.now.grid.now o.state.placement.sites c.args.decision.now j is c.requires.lawful) (record {
      owned = record { sound = c.commit-2.ensures.sound; table = c.stamp.ensures.table; counted = omega (arith, counted, done, most, told) };
      stands = c.commit-2.ensures.stands;
      accepted = c.commit-2.ensures.accepted;
      swaps = c.enter.ensures.items j is;
      stamps = c.stamp.ensures.stamped j is;
    }))

pub returns-clause-redone : goal.returns-clause-redone
returns-clause-redone g c e = ap (λ n. c.args.owner.now.redone + n) (c.from.ensures ∙ byte_is c.args.again)

pub returns-clause-room : goal.returns-clause-room
returns-clause-room g c n h =
    let swaps = c.enter.ensures.room in
    (c.commit-2.ensures.room n h.0, (λ e. (let had = h.1 e in omega (arith, had, swaps))))
