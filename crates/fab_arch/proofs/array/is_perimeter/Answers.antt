use Rattle.std.proofs.Common.{refl}
use Rattle.fab_arch.proofs.Perimeter.{round_is}
use Rattle.fab_arch.proofs.array.is_perimeter.Goals as goal

pub returns-then-is_beside : goal.returns-then-is_beside
returns-then-is_beside c = λ io_rat. rw (round_is c.args.nx c.args.ny io_rat c.args.site, ← c.is_beside.ensures, c.if-is_beside.true) refl

pub returns-else-is_beside : goal.returns-else-is_beside
returns-else-is_beside c = λ io_rat. rw (round_is c.args.nx c.args.ny io_rat c.args.site, ← c.is_beside.ensures, c.if-is_beside.false, ← c.is_beside-else-is_beside.ensures) refl
