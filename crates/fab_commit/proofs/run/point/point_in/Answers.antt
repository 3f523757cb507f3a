use Rattle.std.proofs.Common.{sym, ◌∙◌}
use Rattle.fab_commit.proofs.run.point.point_in.Goals as goal

pub copy_from-requires-clause-array : goal.copy_from-requires-clause-array
copy_from-requires-clause-array g c = c.requires.lawful.array ∙ sym c.requires.sound.array

pub copy_from-requires-clause-blocks : goal.copy_from-requires-clause-blocks
copy_from-requires-clause-blocks g c = c.requires.lawful.legal.all ∙ sym c.requires.sound.legal.all
