use Rattle.std.proofs.Common.{◌≡◌, ap, ◌∙◌, arith}
use Rattle.std.proofs.lemmas.Result.{IfOk-weaker}
use Rattle.fab_net.specs.Rows.{rows_of}
use Rattle.fab_cost.specs.Runs.{HasRows}
use Rattle.fab_cost.proofs.Packs.{packed_all}
use Rattle.fab_cost.proofs.runs.records_between.Goals as goal

pub push_records-requires : goal.push_records-requires
push_records-requires g c =
    let narrow = c.requires.narrow in
    let t = c.blocks-2-test.true in
    let e = c.blocks-blocks.ensures.count in
    (omega (arith, narrow), (omega (arith, t, e), (c.requires.narrow, (c.requires.width, (c.requires.small, c.blocks-2.invariant)))))

pub returns : goal.returns
returns g c =
    let d = c.args.design.now in
    let k = c.blocks-blocks.result in
    let e = c.blocks-blocks.ensures.count in
    let f = c.blocks-2-test.false in
    IfOk-weaker c.gather.result (λ rows. rows ≡ rows_of k c.deref.result.now) (λ rows. HasRows {W = g.row.W} d c.args.above c.args.most rows)
    (λ rows er. packed_all {W = g.row.W} d c.args.above c.args.most c.blocks-2.number k c.blocks-2.entries.items rows (omega (arith, e, f)) e (er ∙ ap (rows_of k) c.deref.ensures.value) c.blocks-2.invariant) c.gather.ensures
