use Rattle.std.proofs.Common.{◌≡◌, length}
use Rattle.fab_cost.proofs.Packs.{IsFilled}
use Rattle.fab_cost.proofs.runs.record_of.Given as goal

abbrev pub invariant-terminals : goal.invariant-terminals
invariant-terminals g l = record {
  filled : IsFilled l.none l.block.0 l.terminals l.i l.skip l.others;
  width : length l.others ≡ g.row.W;
}
