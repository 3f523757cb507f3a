use Rattle.std.proofs.Common.{◌+◌, ◌&&◌, ◌∙◌}
use Rattle.std.specs.List.{filter, range_with_len}
use Rattle.fab_move.specs.Propose.{within}
use Rattle.fab_move.specs.Sides.{numbers, side_by_side}
use Rattle.fab_move.proofs.Nearby.{window_is}
use Rattle.fab_move.proofs.pad_runs.Window.around.Goals as goal

pub returns : goal.returns
returns c =
    let from = c.args.from in
    let reach = c.args.reach in
    let x = c.nx-nx.ensures.value in
    let y = c.ny-ny.ensures.value in
    let left = numbers c.run_of_side.result in
    let top = numbers c.run_of_side-2.result in
    let right = numbers c.run_of_side-3.result in
    let bottom = numbers c.run_of_side-4.result in
    (λ j. side_by_side (x j) (y j) left top right bottom)
    ∙ window_is c.args.grid.now from reach left top right bottom
    (c.run_of_side.ensures ∙ (λ j. filter (λ i. within reach from.x 0 && within reach from.y i) (range_with_len 1 (y j))))
    (c.run_of_side-2.ensures ∙ (λ j. filter (λ i. within reach from.y (y j + 1) && within reach from.x i) (range_with_len 1 (x j))))
    (c.run_of_side-3.ensures ∙ (λ j. filter (λ i. within reach from.x (x j + 1) && within reach from.y i) (range_with_len 1 (y j))))
    (c.run_of_side-4.ensures ∙ (λ j. filter (λ i. within reach from.y 0 && within reach from.x i) (range_with_len 1 (x j))))
