use Rattle.std.proofs.Common.{◌≡◌, ℕ, ◌+◌, ◌++◌, ◌∷◌, [], List, cond, not, ◌&&◌, length, map, take, get_or, sym, ap, ◌∙◌, arith}
use Rattle.std.proofs.lemmas.List.{map_more}
use Rattle.std.specs.Prelude.{is_some}
use Rattle.std.specs.Str.{bytes_eq}
use Rattle.fab_net.specs.Names.{number_of}
use Rattle.fab_net.specs.Text.{is_open}
use Rattle.fab_net.proofs.Room.{Grown, is_new, step_new, any_map}
use Rattle.fab_net.proofs.names.NetNames.count_new.Goals as goal
use Rattle.fab_net.proofs.names.NetNames.count_new.Goals.{then-is_new, else-is_new}

pub loop-i-preserved : goal.loop-i-preserved
loop-i-preserved c =
    let i = c.loop-i.i in
    let words = c.args.words.now in
    let self = c.args.self.now in
    let word = get_or words i (record { ref_ptr = (0, 0); now = [] }) in
    let x : List ℕ = word.now in
    let before = map (λ w. w.now) (take i words) in
    let more : map (λ w. w.now) (take (i + 1) words) ≡ before ++ x ∷ [] = map_more (λ w. w.now) words i (record { ref_ptr = (0, 0); now = [] }) c.loop-i-test.true in
    let e : c.is_new.result ≡ is_new self before x = c.is_new.ensures ∙ ap (λ b. (not (is_open x) && not (is_some (number_of x self))) && not b) (any_map (bytes_eq x) (λ w. w.now) (take i words)) in
    elim c.if-is_new.branch [
      | then-is_new w ↦
          record {
            few = omega (arith, w.count-is, c.loop-i.invariant.few);
            grown = λ names h.
                let sum : length self + c.if-is_new.count ≡ length self + c.loop-i.count + 1 = omega (arith, w.count-is) in
                let step : Grown names (before ++ x ∷ []) ≡ Grown names before + 1 = step_new names before self x c.is_new.result h e ∙ ap (λ b. cond b (Grown names before + 1) (Grown names before)) w.if-is_new.true in
                sum ∙ ap (λ n. n + 1) (c.loop-i.invariant.grown names h) ∙ sym step ∙ ap (Grown names) (sym more);
          }
      | else-is_new w ↦
          record {
            few = omega (arith, w.count-is, c.loop-i.invariant.few);
            grown = λ names h.
                let sum : length self + c.if-is_new.count ≡ length self + c.loop-i.count = omega (arith, w.count-is) in
                let step : Grown names (before ++ x ∷ []) ≡ Grown names before = step_new names before self x c.is_new.result h e ∙ ap (λ b. cond b (Grown names before + 1) (Grown names before)) w.if-is_new.false in
                sum ∙ c.loop-i.invariant.grown names h ∙ sym step ∙ ap (Grown names) (sym more);
          }
    ]
