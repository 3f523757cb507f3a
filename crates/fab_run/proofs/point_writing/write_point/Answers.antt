use Rattle.fab_run.proofs.PointBack.{reads_back}
use Rattle.fab_run.proofs.point_writing.write_point.Goals as goal

pub returns-clause-whole : goal.returns-clause-whole
returns-clause-whole g c = rw (← c.in_ok-text.ensures.text, ← c.deref.ensures.value) c.in_ok-write_whole.ensures.whole

pub returns-clause-back : goal.returns-clause-back
returns-clause-back g c =
    let law = c.in_ok-text.ensures in
    reads_back c.args.seed c.args.design.now c.args.grid.now c.args.point.now c.ranges.seed.fits law.design law.limits law.schedule c.requires
