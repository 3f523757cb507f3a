use Rattle.std.proofs.Common.{◌==◌, length, not, filter, Some, sym, ap, ◌∙◌, subst}
use Rattle.fab_site.specs.Free.{free_below}
use Rattle.std.proofs.Common.{length-set, slice_set}
use Rattle.fab_site.proofs.Freed.{Rises, free_rises, free_without, fixed_set}
use Rattle.fab_site.proofs.fixed.put.Goals as goal

pub take_out-requires : goal.take_out-requires
take_out-requires c = subst Rises (sym c.requires.tied) (free_rises c.args.sites.now.items (length c.args.sites.now.items))

pub returns-clause-tied : goal.returns-clause-tied
returns-clause-tied c =
    let w = free_without c.args.sites.now.items c.args.block.0 (length c.args.sites.now.items) c.args.site c.requires.within in
    let l = length-set c.args.sites.now.items c.args.block.0 (Some c.args.site) in
    c.take_out.ensures ∙ ap (filter (λ n. not (n == c.args.block.0))) c.requires.tied ∙ w ∙ ap (free_below (slice_set c.args.sites.now.items c.args.block.0 (Some c.args.site))) (sym l)

pub returns-clause-fixed : goal.returns-clause-fixed
returns-clause-fixed c = λ b. fixed_set c.args.sites.now.items c.args.block.0 b c.args.site c.requires.within
