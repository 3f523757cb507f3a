use Rattle.std.proofs.Common.{◌≡◌, ℕ, ◌+◌, Vec, Global, ap, sym, ◌∙◌, subst, arith}
use Rattle.std.proofs.lemmas.Result.{IfOk-weaker}
use Rattle.fab_net.specs.Rows.{rows_of}
use Rattle.fab_cost.specs.Runs.{AreListed}
use Rattle.fab_cost.specs.Swapping.{counted_blocks}
use Rattle.fab_cost.proofs.Listings.{listed_all, listed_passed}
use Rattle.fab_cost.proofs.runs.blocks_by_net.Goals as goal
use Rattle.fab_cost.proofs.runs.blocks_by_net.Goals.{then-not-is_global+in_ok-push_blocks, else-not-is_global}

pub nets-preserved : goal.nets-preserved
nets-preserved c =
    let d = c.args.design.now in
    let k = c.nets.number in
    elim c.if-not-is_global.branch [
      | then-not-is_global+in_ok-push_blocks w ↦ subst (λ (v : Vec (ℕ × ℕ) Global). AreListed d (k + 1) v.items) (sym w.entries-is) w.in_ok-push_blocks.ensures
      | else-not-is_global w ↦
          subst (λ (v : Vec (ℕ × ℕ) Global). AreListed d (k + 1) v.items) (sym w.entries-is)
          (listed_passed d k c.nets.entries.items (let t = c.nets-test.true in let e = c.nets-nets.ensures.count in omega (arith, t, e)) (sym c.is_global.ensures ∙ w.if-not-is_global.false) c.nets.invariant)
    ]

pub returns : goal.returns
returns c =
    let d = c.args.design.now in
    let k = c.nets-nets.result in
    let f = c.nets-test.false in
    IfOk-weaker c.gather.result (λ rows. rows ≡ rows_of k c.deref.result.now) (λ rows. rows ≡ counted_blocks d)
    (λ rows er. listed_all d c.nets.number k c.nets.entries.items rows c.nets-nets.ensures.count (omega arith) (er ∙ ap (rows_of k) c.deref.ensures.value) c.nets.invariant) c.gather.ensures
