use Rattle.std.proofs.Common.{◌∙◌, sym, ap}
use Rattle.std.specs.Prelude.{nat_lt}
use Rattle.std.specs.List.{list_any}
use Rattle.fab_move.specs.Judge.{other_marks}
use Rattle.fab_move.specs.StampTables.{kept_stamp}
use Rattle.fab_move.proofs.stamps.Stamps.is_other_touched.Goals as goal

pub is_block_touched-requires : goal.is_block_touched-requires
is_block_touched-requires c = c.requires c.in-Some.block c.in-Some.is

pub returns-in-Some : goal.returns-in-Some
returns-in-Some c g =
    c.is_block_touched.ensures g
    ∙ ap (λ o. list_any (λ m. nat_lt c.args.base (kept_stamp g c.args.self.now m)) (other_marks c.args.design.now o)) (sym c.in-Some.is)
