use Rattle.std.proofs.Common.{◌≡◌, ◌++◌}
use Rattle.fab_file.specs.Written.{ended, block_line}
use Rattle.fab_file.proofs.Pushed.{one_more}
use Rattle.fab_file.proofs.writing.push_blocks.Goals as goal

pub loop-b-preserved : goal.loop-b-preserved
loop-b-preserved c =
    let d = c.args.design.now in
    let sites = c.args.placement.now.sites in
    let line : c.push_block.new.text.items ≡ c.loop-b.text.items ++ ended (block_line d sites c.loop-b.b) = rw (← c.name.ensures, ← c.site_of.ensures) c.in_ok-push_block.ensures in
    one_more (block_line d sites) c.args.text.now.items c.loop-b.text.items c.push_block.new.text.items c.loop-b.b c.loop-b.invariant line
