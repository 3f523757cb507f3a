use Rattle.fab_move.specs.StampTables.{kept_stamp}
use Rattle.fab_move.proofs.Stamping.{swap_touched}
use Rattle.fab_move.proofs.stamps.Stamps.touch.Goals as goal

pub returns-clause-touched : goal.returns-clause-touched
returns-clause-touched c m =
    let g = c.args.grid.now in
    swap_touched c.args.design.now g c.args.swap.now c.args.stamp m (kept_stamp g c.args.self.now m) (kept_stamp g c.touch_other.new.self m) (kept_stamp g c.touch_block.new.self m) (kept_stamp g c.touch_site.new.self m) (kept_stamp g c.touch_site-2.new.self m) (c.touch_other.ensures.touched m) (c.touch_block.ensures.touched m) (c.touch_site.ensures.touched m) (c.touch_site-2.ensures.touched m)
