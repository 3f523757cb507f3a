use Rattle.std.proofs.Common.{◌≡◌, ap, ◌∙◌, arith}
use Rattle.std.proofs.lemmas.Result.{IfOk-weaker}
use Rattle.fab_net.specs.Rows.{rows_of}
use Rattle.fab_cost.specs.Runs.{HasLarge}
use Rattle.fab_cost.proofs.Packs.{larger_all}
use Rattle.fab_cost.proofs.runs.large_nets.Goals as goal

pub returns : goal.returns
returns c =
    let d = c.args.design.now in
    let k = c.blocks-blocks.result in
    let e = c.blocks-blocks.ensures.count in
    let f = c.blocks-2-test.false in
    IfOk-weaker c.gather.result (λ rows. rows ≡ rows_of k c.deref.result.now) (λ rows. HasLarge d rows)
    (λ rows er. larger_all d c.blocks-2.number k c.blocks-2.entries.items rows (omega (arith, e, f)) e (er ∙ ap (rows_of k) c.deref.ensures.value) c.blocks-2.invariant) c.gather.ensures
