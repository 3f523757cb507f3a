use Rattle.std.proofs.Common.{arith}
use Rattle.fab_site.proofs.Drawing.{draws_as_many, draws_more}
use Rattle.fab_site.proofs.start_placement.count_of_draws.Goals as goal
use Rattle.fab_site.proofs.start_placement.count_of_draws.Goals.{in-Some, in-None}

pub blocks-2-preserved : goal.blocks-2-preserved
blocks-2-preserved c =
    let given = c.args.given.now.sites in
    let kinds = c.args.design.now.kinds in
    let b = c.blocks-2.number in
    let few = c.blocks-2.invariant.few in
    elim c.match-site_of.branch [
      | in-Some w ↦
          let m = draws_as_many given kinds b c.blocks-2.count _ c.requires w.in-Some.ensures c.blocks-2.invariant.count in
          rw w.count-is (record { few = omega (arith, few); count = m })
      | in-None w ↦
          let m = draws_more given kinds b c.blocks-2.count c.requires w.in-None.ensures c.blocks-2.invariant.count in
          rw w.count-is (record { few = omega (arith, few); count = m })
    ]
