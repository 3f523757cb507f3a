use Rattle.std.proofs.Common.{◌≡◌, refl, sym, ◌∙◌, arith}
use Rattle.fab_site.specs.Pins.{given_at}
use Rattle.fab_site.proofs.Drawing.{one_given, not_given, still_free, all_given}
use Rattle.fab_site.proofs.start_placement.given.Goals as goal
use Rattle.fab_site.proofs.start_placement.given.Goals.{in-Some, in_default}

pub put-requires-clause-there : goal.put-requires-clause-there
put-requires-clause-there c =
    let fit = c.requires.fit c.loop-number.number c.in-Some.site (sym c.in-Some.ensures) in
    rw (c.loop-number.invariant.0, fit) refl

pub put-requires-clause-free : goal.put-requires-clause-free
put-requires-clause-free c =
    still_free (given_at c.args.pins.now.fixed c.args.pins.now.begun) c.blocks-blocks.result c.loop-number.number c.loop-number.draft.sites c.in-Some.site c.loop-number-test.true (sym c.in-Some.ensures) (λ a b h k. c.requires.apart a b c.in-Some.site h k) c.loop-number.invariant.1

pub loop-number-preserved : goal.loop-number-preserved
loop-number-preserved c =
    let f = given_at c.args.pins.now.fixed c.args.pins.now.begun in
    elim c.match-given_site.branch [
      | in-Some w ↦ rw (w.draft-is, w.put.ensures) (c.loop-number.invariant.0, one_given f c.blocks-blocks.result c.loop-number.number c.loop-number.draft.sites w.in-Some.site c.loop-number-test.true (sym w.in-Some.ensures) c.loop-number.invariant.1)
      | in_default w ↦ rw w.draft-is (c.loop-number.invariant.0, not_given f c.blocks-blocks.result c.loop-number.number c.loop-number.draft.sites c.loop-number-test.true (sym c.given_site.ensures ∙ w.in_default.is) c.loop-number.invariant.1)
    ]

pub returns-clause-sites : goal.returns-clause-sites
returns-clause-sites c =
    let end : c.loop-number.number ≡ c.blocks-blocks.result = omega (arith, c.loop-number-test.false, c.loop-number.auto.number-end) in
    let all = rw end at c.loop-number.invariant.1 in
    all_given c.args.design.now c.args.pins.now.fixed c.args.pins.now.begun c.blocks-blocks.result c.loop-number.draft.sites c.blocks-blocks.ensures.count all
