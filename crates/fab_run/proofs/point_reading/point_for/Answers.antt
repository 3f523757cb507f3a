use Rattle.fab_text.specs.Lines.{lines}
use Rattle.fab_run.proofs.PointOne.{only_by}
use Rattle.fab_run.proofs.point_reading.point_for.Goals as goal

pub returns-clause-only : goal.returns-clause-only
returns-clause-only c seed g p one = only_by c.args.io_rat c.args.design.now (lines c.args.bytes.now) seed g p c.read_parts.result c.blocks-blocks.ensures.lawful c.read_parts.ensures.found c.read_parts.ensures.fault one
