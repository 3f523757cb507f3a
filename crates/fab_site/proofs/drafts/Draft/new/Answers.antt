use Rattle.std.proofs.Common.{ℕ, ◌≡◌, length, replicate, zero, suc, refl, arith}
use Rattle.std.specs.Prelude.{slice_index}
use Rattle.fab_site.specs.Index.{site_count}
use Rattle.fab_site.proofs.Drafting.{tabled_none}
use Rattle.fab_site.proofs.drafts.Draft.new.Goals as goal

zero_at : (n i : ℕ) → slice_index (replicate n 0) i ≡ 0
zero_at zero i = refl
zero_at (suc n) zero = refl
zero_at (suc n) (suc i) = zero_at n i

pub invariant_of-result : goal.invariant_of-result
invariant_of-result c =
    let holders = c.in_ok-holders.ensures.items_if_clones_equal in
    let size : length c.in_ok-holders.holders.items ≡ site_count c.args.grid.now = omega (arith, c.in_ok-holders.ensures.len, c.site_count.ensures, c.in_ok-holders.holders.ok.0) in
    rw c.in_ok-sites.ensures (tabled_none c.args.grid.now c.args.blocks c.in_ok-holders.holders.items size (λ i. rw holders (zero_at c.site_count.result i)) c.requires)
