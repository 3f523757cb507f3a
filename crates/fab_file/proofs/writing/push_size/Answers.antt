use Rattle.std.proofs.Common.{ap, ◌∙◌, ◌++◌, codes}
use Rattle.std.specs.Prelude.{decimal}
use Rattle.fab_file.proofs.Pushed.{six_pieces}
use Rattle.fab_file.proofs.writing.push_size.Goals as goal

pub returns-clause-text : goal.returns-clause-text
returns-clause-text c =
    let nx = c.from.ensures ∙ c.nx.ensures.value in
    let ny = c.from-2.ensures ∙ c.ny.ensures.value in
    let x = c.in_ok-push_number.ensures.ok ∙ ap (λ n. c.extend_from_slice.new.self.items ++ decimal n) nx in
    let y = c.in_ok-push_number-2.ensures.ok ∙ ap (λ n. c.extend_from_slice-2.new.self.items ++ decimal n) ny in
    six_pieces c.args.text.now.items (codes "Array size: ") (decimal c.args.grid.now.nx) (codes " x ") (decimal c.args.grid.now.ny) (codes " logic blocks") (codes "\n") _ _ _ _ _ _
    c.in_ok-extend_from_slice.ensures.items x c.in_ok-extend_from_slice-2.ensures.items y c.in_ok-extend_from_slice-3.ensures.items c.in_ok-extend_from_slice-4.ensures.items
