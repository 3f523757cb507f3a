use Rattle.fab_net.specs.Names.{number_of}
use Rattle.fab_net.specs.Text.{is_global_in}
use Rattle.std.proofs.Common.{◌≡◌, ◌+◌, ◌++◌, ◌∷◌, [], Some, None, true, false, length, get_or, set, map, take, sym, ap, ◌∙◌, arith}
use Rattle.std.proofs.lemmas.List.{take_all, get_or-map, ext_get_or, length-map, map_more, length-set}
use Rattle.fab_net.proofs.Distinct.{marks_step, marks_skip}
use Rattle.fab_net.proofs.pins.marks_of.Goals as goal
use Rattle.fab_net.proofs.pins.marks_of.Goals.{in-Some, in_default}

pub loop-name-preserved : goal.loop-name-preserved
loop-name-preserved c =
    let names = c.args.names.now in
    let i = c.loop-name.name-index in
    let g = get_or c.args.globals.now i (record { ref_ptr = (0, 0); now = [] }) in
    let seen = map (λ w. w.now) (take i c.args.globals.now) in
    let more : map (λ w. w.now) (take (i + 1) c.args.globals.now) ≡ seen ++ g.now ∷ [] = map_more (λ w. w.now) c.args.globals.now i (record { ref_ptr = (0, 0); now = [] }) c.loop-name-test.true in
    elim c.match-number_of.branch [
      | in-Some w ↦
          let number : number_of g.now names ≡ Some w.in-Some.n = sym c.number_of.ensures ∙ w.in-Some.is in
          let marks = c.loop-name.marks.items in
          let items : c.match-number_of.marks.items ≡ set marks w.in-Some.n true = ap (λ v. v.items) w.marks-is in
          record {
            size = ap length items ∙ length-set marks w.in-Some.n true ∙ c.loop-name.invariant.size;
            marks = λ r lt. ap (λ xs. get_or xs r false) items ∙ marks_step names seen g.now w.in-Some.n marks c.requires c.loop-name.invariant.size number c.loop-name.invariant.marks r lt ∙ ap (λ xs. is_global_in xs (get_or names r [])) (sym more);
          }
      | in_default w ↦
          let number : number_of g.now names ≡ None = sym c.number_of.ensures ∙ w.in_default.is in
          let marks = c.loop-name.marks.items in
          let items : c.match-number_of.marks.items ≡ marks = ap (λ v. v.items) w.marks-is in
          record {
            size = ap length items ∙ c.loop-name.invariant.size;
            marks = λ r lt. ap (λ xs. get_or xs r false) items ∙ marks_skip names seen g.now marks number c.loop-name.invariant.marks r lt ∙ ap (λ xs. is_global_in xs (get_or names r [])) (sym more);
          }
    ]

pub returns : goal.returns
returns c =
    let names = c.args.names.now in
    let i = c.loop-name.name-index in
    let f = is_global_in (map (λ w. w.now) c.args.globals.now) in
    let all : take i c.args.globals.now ≡ c.args.globals.now = take_all i c.args.globals.now c.loop-name-test.false in
    ext_get_or false c.loop-name.marks.items (map f names) (c.loop-name.invariant.size ∙ sym (length-map names f))
    (λ r lt. rw all at (c.loop-name.invariant.marks r (omega (arith, c.loop-name.invariant.size, lt))) ∙ sym (get_or-map f names r [] false (omega (arith, c.loop-name.invariant.size, lt))))
