use Rattle.std.proofs.Common.{◌≡◌, false, sym, ap, ◌∙◌, Bool}
use Rattle.std.specs.Prelude.{nat_lt}
use Rattle.std.proofs.lemmas.Bool.{le-ltb}
use Rattle.fab_cost.specs.Runs.{few_of}
use Rattle.fab_move.specs.declared.marks.Mark.{Mark}
use Rattle.fab_move.specs.declared.marks.Mark.TheVariants.{Place}
use Rattle.fab_move.specs.Judge.{block_marks, other_marks}
use Rattle.fab_move.specs.StampTables.{kept_stamp}
use Rattle.fab_move.proofs.Stamping.{first_touched, later_touched}
use Rattle.fab_move.proofs.Near.{quiet_swap_in_few}
use Rattle.fab_move.proofs.stamps.Stamps.is_swap_touched_in_few.Goals as goal

pub returns-then-is_quiet : goal.returns-then-is_quiet
returns-then-is_quiet c =
    quiet_swap_in_few c.args.design.now c.args.grid.now c.args.self.now c.args.base c.args.swap c.requires.table c.requires.block c.requires.other (c.is_quiet.ensures.quiet c.if-is_quiet.true)

pub returns-then-is_block_touched_in_few : goal.returns-then-is_block_touched_in_few
returns-then-is_block_touched_in_few c =
    let d = few_of c.args.design.now in
    let g = c.args.grid.now in
    let s = c.args.swap in
    let f : Mark → Bool = λ m. nat_lt c.args.base (kept_stamp g c.args.self.now m) in
    let low : f (Place s.to) ≡ false = ap (nat_lt c.args.base) (sym c.of_site-place.ensures) ∙ le-ltb c.args.base c.of_site-place.result c.if-base-place.false in
    first_touched f (Place s.to) (block_marks d s.block) (other_marks d s.other) c.is_block_touched_in_few.result low (c.is_block_touched_in_few.ensures g) c.if-is_block_touched_in_few.true

pub returns-else-is_block_touched_in_few : goal.returns-else-is_block_touched_in_few
returns-else-is_block_touched_in_few c =
    let d = few_of c.args.design.now in
    let g = c.args.grid.now in
    let s = c.args.swap in
    let f : Mark → Bool = λ m. nat_lt c.args.base (kept_stamp g c.args.self.now m) in
    let low : f (Place s.to) ≡ false = ap (nat_lt c.args.base) (sym c.of_site-place.ensures) ∙ le-ltb c.args.base c.of_site-place.result c.if-base-place.false in
    later_touched f (Place s.to) (block_marks d s.block) (other_marks d s.other) c.is_block_touched_in_few.result c.is_other_touched_in_few.result low (c.is_block_touched_in_few.ensures g) c.if-is_block_touched_in_few.false (c.is_other_touched_in_few.ensures g)
