use Rattle.fab_file.proofs.Legal.{legal}
use Rattle.fab_file.proofs.block_lines.PlaceLines.finish.Goals as goal

pub returns-in_ok-finish-in-None-clause-legal : goal.returns-in_ok-finish-in-None-clause-legal
returns-in_ok-finish-in-None-clause-legal c =
    let d = c.self.inside.design.now in
    let g = c.self.inside.grid.now in
    let final = c.in_ok-finish-in-None.field-0.sites in
    let whole = c.in_ok-finish-in-None.ensures.sites in
    rw (← c.self.view_is) (legal d g final (rw whole c.self.invariant.1) (rw whole c.self.invariant.3))
