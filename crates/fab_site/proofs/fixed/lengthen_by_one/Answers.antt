use Rattle.std.proofs.Common.{rules}
use Rattle.fab_site.proofs.Freed.{free_more, none_added}
use Rattle.fab_site.proofs.fixed.lengthen_by_one.Goals as goal

pub returns-clause-tied : goal.returns-clause-tied
returns-clause-tied c =
    let more = free_more c.args.sites.now.items in
    search (rules, more)

pub returns-clause-same : goal.returns-clause-same
returns-clause-same c =
    let same = none_added c.args.sites.now.items in
    search (rules, same)
