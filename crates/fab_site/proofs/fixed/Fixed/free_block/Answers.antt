use Rattle.std.proofs.Common.{rules, ◌≡◌, length, subst, arith}
use Rattle.fab_site.specs.Free.{free_below}
use Rattle.fab_site.proofs.Freed.{rank_kept, rank_fits, rank_after}
use Rattle.fab_site.proofs.fixed.Fixed.free_block.Goals as goal

pub overflow_cast-result : goal.overflow_cast-result
overflow_cast-result c =
    let tied = subst (λ f. c.self.inside.free.items ≡ free_below f (length f)) c.self.view_is c.self.invariant in
    let k = rank_fits c.args.self.now c.self.inside.free.items c.args.blocks c.args.rank tied c.requires in
    let lens = c.len-kept.ensures in
    grind (arith, k)

pub returns-then-rank-kept : goal.returns-then-rank-kept
returns-then-rank-kept c =
    let tied = subst (λ f. c.self.inside.free.items ≡ free_below f (length f)) c.self.view_is c.self.invariant in
    let k = rank_kept c.args.self.now c.self.inside.free.items c.args.blocks c.args.rank c.index.result.now tied c.requires in
    search (rules, k)

pub returns-else-rank-kept : goal.returns-else-rank-kept
returns-else-rank-kept c =
    let tied = subst (λ f. c.self.inside.free.items ≡ free_below f (length f)) c.self.view_is c.self.invariant in
    let k = rank_after c.args.self.now c.self.inside.free.items c.args.blocks c.args.rank tied c.requires in
    search (rules, k)
