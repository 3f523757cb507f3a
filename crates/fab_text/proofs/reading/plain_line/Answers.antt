use Rattle.fab_text.proofs.Physical.{first_found, first_none}
use Rattle.fab_text.proofs.reading.plain_line.Goals as goal

pub returns-in-Some-clause-rest : goal.returns-in-Some-clause-rest
returns-in-Some-clause-rest c = first_found c.args.rest.now c.in-Some.i c.requires c.in-Some.ensures

pub returns-in-None-clause-rest : goal.returns-in-None-clause-rest
returns-in-None-clause-rest c = first_none c.args.rest.now c.requires c.in-None.ensures
