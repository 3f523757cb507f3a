use Rattle.std.proofs.Common.{List, subst}
use Rattle.fab_dial.specs.declared.readings.Reading.{Reading}
use Rattle.fab_dial.specs.Shown.{EndsWith}
use Rattle.fab_dial.proofs.Lists.{last_is}
use Rattle.fab_dial.proofs.tests.shown_last.Goals as goal

pub returns : goal.returns
returns g c = last_is _ _ _ (subst (λ (l : List Reading). EndsWith l c.gather.result) c.show.ensures.shown c.gather.ensures.last)
