use Rattle.std.proofs.Common.{◌≡◌, ℕ, true, Some, None, replicate, zero, suc, refl, sym, ap, ◌∙◌, arith}
use Rattle.std.specs.Prelude.{is_some, slice_index}
use Rattle.std.proofs.lemmas.Bool.{false≢true}
use Rattle.fab_site.specs.Index.{index_of}
use Rattle.fab_site.specs.Placement.{site_of}
use Rattle.fab_site.proofs.Sites.{index_there}
use Rattle.fab_site.proofs.Tables.{index_below, filled_none, filled_step, filled_all}
use Rattle.fab_site.proofs.places.holders_of.Goals as goal
use Rattle.fab_site.proofs.places.holders_of.Goals.{in-Some, in_default}

zero_at : (n i : ℕ) → slice_index (replicate n 0) i ≡ 0
zero_at zero i = refl
zero_at (suc n) zero = refl
zero_at (suc n) (suc i) = zero_at n i

pub loop-block-init : goal.loop-block-init
loop-block-init c =
    let items = c.in_ok-holders.ensures.items_if_clones_equal in
    filled_none c.args.grid.now c.args.sites.now c.in_ok-holders.holders.items (omega (arith, c.in_ok-holders.ensures.len, c.site_count.ensures, c.in_ok-holders.holders.ok.0)) (λ i. rw items (zero_at c.site_count.result i))

pub index_mut-requires : goal.index_mut-requires
index_mut-requires c =
    let at : index_of c.args.grid.now (site_of c.args.sites.now c.loop-block.block) ≡ Some c.in-Some.index = sym c.index_of.ensures ∙ c.in-Some.is in
    let below = index_below c.args.grid.now (site_of c.args.sites.now c.loop-block.block) c.in-Some.index at in
    omega (arith, below, c.loop-block.invariant.size)

pub loop-block-preserved : goal.loop-block-preserved
loop-block-preserved c =
    let g = c.args.grid.now in
    let sites = c.args.sites.now in
    let b = c.loop-block.block in
    elim c.match-index_of.branch [
      | in-Some w ↦
          let at : index_of g (site_of sites b) ≡ Some w.in-Some.index = sym c.index_of.ensures ∙ w.in-Some.is in
          rw (ap (λ v. v.items) w.holders-is) (filled_step g sites b c.loop-block.holders.items w.in-Some.index c.loop-block-test.true c.requires.apart at c.loop-block.invariant)
      | in_default w ↦
          let there : is_some (index_of g (site_of sites b)) ≡ true = index_there g (site_of sites b) (c.requires.there b c.loop-block-test.true) in
          let none : index_of g (site_of sites b) ≡ None = sym c.index_of.ensures ∙ w.in_default.is in
          absurd (false≢true (rw none at there))
    ]

pub returns : goal.returns
returns c = filled_all c.args.grid.now c.args.sites.now c.loop-block.block c.loop-block.holders.items c.loop-block-test.false c.requires.few c.requires.apart c.loop-block.invariant
