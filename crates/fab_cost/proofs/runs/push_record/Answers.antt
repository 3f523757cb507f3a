use Rattle.std.proofs.Common.{ap, ◌∙◌, arith, map}
use Rattle.fab_net.specs.Netlist.{block_on, has_number}
use Rattle.fab_cost.proofs.Making.{terminals_some}
use Rattle.fab_cost.proofs.Nets.{entry_counts}
use Rattle.fab_cost.proofs.Packs.{blocks_low, packed_passed, packed_pushed, record_is, sized_by, unsized_by}
use Rattle.fab_cost.proofs.runs.push_record.Goals as goal
use Rattle.fab_cost.proofs.runs.push_record.Goals.{else-above-terminals-via-then-above-terminals+else-terminals-most, else-above-terminals-via-else-above-terminals}

pub record_of-requires : goal.record_of-requires
record_of-requires g c =
    let d = c.args.design.now in
    let n = c.net_of-net.result.0 in
    let ts = c.terminals-terminals.result.now in
    let within = c.net_of-net.ensures.counts.within in
    let most = c.if-terminals-most.true in
    let narrow = c.requires.narrow in
    let width = c.requires.width in
    let small = c.requires.small in (
      omega (arith, narrow),
      (
        terminals_some d n ts c.blocks-none.ensures.lawful within c.terminals-terminals.ensures,
        (
          omega (arith, most, width),
          (
            omega (arith, most, small),
            (
              ap (λ v. has_number c.args.block.0 (map block_on v)) c.terminals-terminals.ensures ∙ (entry_counts d c.args.block.0 c.args.i n c.requires.within c.net_of-net.ensures.number).1,
              blocks_low d n c.blocks-none.result ts c.blocks-none.ensures.lawful within c.terminals-terminals.ensures c.blocks-none.ensures.count,
            ),
          ),
        ),
      ),
    )

pub returns-in_ok-push : goal.returns-in_ok-push
returns-in_ok-push g c =
    let d = c.args.design.now in
    let n = c.net_of-net.result.0 in
    let ts = c.terminals-terminals.result.now in
    let r = c.record_of.result in
    packed_pushed {W = g.row.W} d c.args.above c.args.most c.args.block.0 c.args.i n c.args.entries.now.items _ r c.requires.block c.requires.within c.net_of-net.ensures.number
    (sized_by d n c.args.above c.args.most ts c.terminals-terminals.ensures c.if-above-terminals.true c.if-terminals-most.true)
    (record_is d c.args.block.0 n c.blocks-none.result ts r.others r.factor c.net_of-net.ensures.counts (entry_counts d c.args.block.0 c.args.i n c.requires.within c.net_of-net.ensures.number).1 c.blocks-none.ensures.count c.terminals-terminals.ensures
    c.record_of.ensures.each c.record_of.ensures.within c.record_of.ensures.factor)
    c.in_ok-push.ensures.items c.requires.packed

pub returns-else-above-terminals : goal.returns-else-above-terminals
returns-else-above-terminals g c =
    let d = c.args.design.now in
    let n = c.net_of-net.result.0 in
    let ts = c.terminals-terminals.result.now in
    packed_passed {W = g.row.W} d c.args.above c.args.most c.args.block.0 c.args.i n c.args.entries.now.items c.requires.within c.net_of-net.ensures.number
    (elim c.else-above-terminals.branch [
      | else-above-terminals-via-then-above-terminals+else-terminals-most w ↦ (let f = w.if-terminals-most.false in unsized_by d n c.args.above c.args.most ts c.terminals-terminals.ensures (λ a b. omega (arith, f, b)))
      | else-above-terminals-via-else-above-terminals w ↦ (let f = w.if-above-terminals.false in unsized_by d n c.args.above c.args.most ts c.terminals-terminals.ensures (λ a b. omega (arith, f, a)))
    ])
    c.requires.packed
