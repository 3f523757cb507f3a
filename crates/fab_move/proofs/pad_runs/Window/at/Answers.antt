use Rattle.std.proofs.Common.{◌≡◌, ◌+◌, ◌-◌, arith, sym, ◌∙◌}
use Rattle.fab_move.proofs.Nearby.{length_all, at_left, at_top, at_right, at_bottom}
use Rattle.fab_move.proofs.pad_runs.Window.at.Goals as goal

pub overflow_sub-result-else-i-right-2 : goal.overflow_sub-result-else-i-right-2
overflow_sub-result-else-i-right-2 c =
    let w = c.args.self.now in
    let long = length_all w.nx w.ny w.left.first w.left.count w.top.first w.top.count w.right.first w.right.count w.bottom.first w.bottom.count in
    let within = c.requires in
    grind (arith, long)

pub returns-then-i-left : goal.returns-then-i-left
returns-then-i-left c =
    let w = c.args.self.now in
    let there = at_left w.nx w.ny w.left.first w.left.count w.top.first w.top.count w.right.first w.right.count w.bottom.first w.bottom.count c.args.i (grind arith) in
    sym there

pub returns-then-i-top : goal.returns-then-i-top
returns-then-i-top c =
    let w = c.args.self.now in
    let there = at_top w.nx w.ny w.left.first w.left.count w.top.first w.top.count w.right.first w.right.count w.bottom.first w.bottom.count c.args.i (grind arith) (grind arith) in
    let x : w.top.first + (c.args.i - c.from-left.result) ≡ w.top.first + (c.args.i - w.left.count) = grind arith in
    (λ i. (x i, w.ny + 1)) ∙ sym there

pub returns-then-i-right : goal.returns-then-i-right
returns-then-i-right c =
    let w = c.args.self.now in
    let there = at_right w.nx w.ny w.left.first w.left.count w.top.first w.top.count w.right.first w.right.count w.bottom.first w.bottom.count c.args.i (grind arith) (grind arith) in
    let y : w.right.first + (c.from-left.result + c.from.result + c.from-2.result - 1 - c.args.i) ≡ w.right.first + (w.left.count + w.top.count + w.right.count - 1 - c.args.i) = grind arith in
    (λ i. (w.nx + 1, y i)) ∙ sym there

pub returns-else-i-right : goal.returns-else-i-right
returns-else-i-right c =
    let w = c.args.self.now in
    let long = length_all w.nx w.ny w.left.first w.left.count w.top.first w.top.count w.right.first w.right.count w.bottom.first w.bottom.count in
    let within = c.requires in
    let there = at_bottom w.nx w.ny w.left.first w.left.count w.top.first w.top.count w.right.first w.right.count w.bottom.first w.bottom.count c.args.i (grind arith) (grind (arith, long)) in
    let x : w.bottom.first + (c.from-left.result + c.from.result + c.from-2.result + c.from-3.result - 1 - c.args.i) ≡ w.bottom.first + (w.left.count + w.top.count + w.right.count + w.bottom.count - 1 - c.args.i) = grind arith in
    (λ i. (x i, 0)) ∙ sym there
