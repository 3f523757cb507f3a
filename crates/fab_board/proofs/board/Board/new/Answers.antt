use Rattle.std.proofs.Common.{◌≡◌, ℕ, ◌+◌, ◌-◌, [], ◌∷◌, ◌++◌, List, length, All, false, refl, sym, ap, ◌∙◌, subst, arith, length-append}
use Rattle.std.proofs.lemmas.List.Elements.{All-push}
use Rattle.fab_board.specs.declared.board.ClaimSeat.{ClaimSeat}
use Rattle.atomic_table.specs.Table.{Me}
use Rattle.fab_board.specs.declared.rule.View.{View}
use Rattle.fab_board.specs.Views.{BoardName}
use Rattle.fab_board.specs.Dealt.{knows, kept_back, one_part}
use Rattle.fab_board.proofs.Moves.{deals}
use Rattle.fab_board.proofs.board.Board.new.Goals as goal

-- a seat that was just dealt
abbrev Fresh : BoardName → ClaimSeat → Type 0
Fresh name s = (s.board ≡ name) × (s.list ≡ []) × (s.told ≡ false)

pub loop-part-init : goal.loop-part-init
loop-part-init c = let e = c.in_ok-table.ensures in let n = ap (λ (l : List ClaimSeat). length l) c.in_ok-all.ensures.items in
    (e.2, e.4 ∙ ap (λ p. (knows c.args.count p [] 0, [])) (omega arith), omega arith, λ k d l. absurd (omega arith))

pub split_seat-part-requires : goal.split_seat-part-requires
split_seat-part-requires c = let i = c.loop-part.invariant in let e = c.in_ok-table.ensures in let w = e.0 in let a = c.loop-part.auto in let t = c.loop-part-test.true in
    let p : c.loop-part.seat.me.0.parts ≡ c.args.seats + 1 - c.loop-part._part = ap (λ m. m.0.parts) i.1 in
    (i.0, omega arith, deals _ _ _ (omega arith) (ap (λ m. m.0.list) i.1) (ap (λ m. m.0.told) i.1))

grown : (name : BoardName) (all new : List ClaimSeat) (x : ClaimSeat) (n : ℕ) → new ≡ all ++ x ∷ [] → length all + 1 ≡ n → All (Fresh name) all → Fresh name x → (length new ≡ n) × All (Fresh name) new
grown name all new x n is long old mine = (let a = ap (λ (xs : List ClaimSeat). length xs) is in omega (arith, length-append all (x ∷ [])), subst (All (Fresh name)) (sym is) (All-push (Fresh name) all x old mine))

pub loop-part-preserved : goal.loop-part-preserved
loop-part-preserved c = let i = c.loop-part.invariant in let s = c.split_seat-part.ensures in let p = c.in_ok-push.ensures in let e = c.in_ok-table.ensures in
    let me = s.2 ∙ ap (λ (m : Me (Unit {0}) View). (kept_back m.0, m.1)) i.1 in
    let mine = s.4 ∙ ap (λ (m : Me (Unit {0}) View). (one_part m.0, [])) i.1 in
    let name : BoardName = record { table = c.in_ok-table.table.shared.table_id; count = c.args.count } in
    let g = grown name c.loop-part.all.items c.push.new.self.items _ c.loop-part._part p.items i.2 i.3 ((λ k. record { table = (s.3 ∙ i.0) k; count = (mine k).0.count }), (λ k. (mine k).0.list), refl) in
    let len = g.0 in
    (s.0 ∙ i.0, me ∙ ap (λ (p : ℕ). (knows c.args.count p [] 0, [])) (omega arith), omega arith, g.1)

pub invariant_of-push-2 : goal.invariant_of-push-2
invariant_of-push-2 c = let i = c.loop-part.invariant in let a = c.loop-part.auto in let f = c.loop-part-test.false in let r = c.requires in (ap (λ m. m.1) i.1, ap (λ m. m.0.parts) i.1 ∙ omega arith, ap (λ m. m.0.told) i.1)

pub returns-clause-seats : goal.returns-clause-seats
returns-clause-seats c = let i = c.loop-part.invariant in let p = c.in_ok-push-2.ensures in let a = c.loop-part.auto in let f = c.loop-part-test.false in let r = c.requires in
    let name : BoardName = record { table = c.in_ok-table.table.shared.table_id; count = c.args.count } in
    let g = grown name c.loop-part.all.items c.push-2.new.self.items _ c.loop-part._part p.items i.2 i.3 ((λ k. record { table = i.0 k; count = (i.1 k).0.count }), (λ k. (i.1 k).0.list), refl) in
    let len = g.0 in
    (omega arith, g.1)
