use Rattle.std.proofs.Common.{◌≡◌, false, sym, ap, ◌∙◌, Bool}
use Rattle.std.specs.Prelude.{nat_lt}
use Rattle.std.proofs.lemmas.Bool.{le-ltb}
use Rattle.fab_move.specs.declared.marks.Mark.{Mark}
use Rattle.fab_move.specs.declared.marks.Mark.TheVariants.{Place}
use Rattle.fab_move.specs.Judge.{block_marks, other_marks}
use Rattle.fab_move.specs.StampTables.{kept_stamp}
use Rattle.fab_move.proofs.Stamping.{first_touched, later_touched}
use Rattle.fab_move.proofs.stamps.Stamps.is_swap_touched.Goals as goal

pub returns-then-is_block_touched : goal.returns-then-is_block_touched
returns-then-is_block_touched c =
    let d = c.args.design.now in
    let g = c.args.grid.now in
    let s = c.args.swap in
    let f : Mark → Bool = λ m. nat_lt c.args.base (kept_stamp g c.args.self.now m) in
    let low : f (Place s.to) ≡ false = ap (nat_lt c.args.base) (sym c.of_site.ensures) ∙ le-ltb c.args.base c.of_site.result c.if-base-of_site.false in
    first_touched f (Place s.to) (block_marks d s.block) (other_marks d s.other) c.is_block_touched.result low (c.is_block_touched.ensures g) c.if-is_block_touched.true

pub returns-else-is_block_touched : goal.returns-else-is_block_touched
returns-else-is_block_touched c =
    let d = c.args.design.now in
    let g = c.args.grid.now in
    let s = c.args.swap in
    let f : Mark → Bool = λ m. nat_lt c.args.base (kept_stamp g c.args.self.now m) in
    let low : f (Place s.to) ≡ false = ap (nat_lt c.args.base) (sym c.of_site.ensures) ∙ le-ltb c.args.base c.of_site.result c.if-base-of_site.false in
    later_touched f (Place s.to) (block_marks d s.block) (other_marks d s.other) c.is_block_touched.result c.is_other_touched.result low (c.is_block_touched.ensures g) c.if-is_block_touched.false (c.is_other_touched.ensures g)
