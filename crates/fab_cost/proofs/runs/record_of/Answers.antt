use Rattle.std.proofs.Common.{◌-◌, length-set, refl, ◌∙◌, arith}
use Rattle.std.proofs.lemmas.Simd.{length-replicate}
use Rattle.fab_cost.proofs.Packs.{filled_none, filled_own, filled_other, place_within}
use Rattle.fab_cost.proofs.runs.record_of.Goals as goal
use Rattle.fab_cost.proofs.runs.record_of.Goals.{then-other-block, else-other-block}

pub terminals-init : goal.terminals-init
terminals-init g c = record {
  filled = filled_none c.args.none c.args.block.0 c.args.terminals.now g.row.W;
  width = length-replicate g.row.W c.args.none;
}

pub terminals-preserved : goal.terminals-preserved
terminals-preserved g c = elim c.if-other-block.branch [
  | then-other-block w ↦ rw (w.others-is, w.skip-is) (record {
    filled = filled_own c.args.none c.args.block.0 c.args.terminals.now _ c.terminals.i c.terminals.skip 1 _ c.terminals.others c.terminals-test.true refl w.if-other-block.true refl c.terminals.invariant.filled;
    width = c.terminals.invariant.width;
  })
  | else-other-block w ↦
      let width = c.terminals.invariant.width in
      let p = place_within c.args.none c.args.block.0 g.row.W c.args.terminals.now _ c.terminals.i c.terminals.skip _ c.terminals.others c.terminals-test.true c.requires.few c.requires.on refl w.if-other-block.false c.terminals.invariant.filled in
      rw (w.others-is, w.skip-is) (record {
        filled = filled_other c.args.none c.args.block.0 c.args.terminals.now _ c.terminals.i c.terminals.skip _ c.terminals.others _ c.terminals-test.true refl w.if-other-block.false (c.requires.blocks c.terminals.i _ c.terminals-test.true) (omega (arith, p, width)) refl c.terminals.invariant.filled;
        width = length-set c.terminals.others (c.terminals.i - c.terminals.skip) _ ∙ c.terminals.invariant.width;
      })
]
