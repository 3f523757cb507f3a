use Rattle.std.proofs.Common.{◌≡◌, true, Some, None, ◌++◌, ◌∷◌, [], ap, ◌∙◌}
use Rattle.std.specs.Prelude.{is_some}
use Rattle.std.proofs.lemmas.Bool.{false≢true}
use Rattle.std.proofs.lemmas.List.{map_push, take_more, take_all}
use Rattle.fab_arch.specs.declared.array.Site.{Site}
use Rattle.fab_site.proofs.Drafting.{some_at, none_missing}
use Rattle.fab_site.proofs.drafts.all_sites.Goals as goal
use Rattle.fab_site.proofs.drafts.all_sites.Goals.{in-Some+in_ok-push, in_default}

pub loop-site-preserved : goal.loop-site-preserved
loop-site-preserved c =
    let more = take_more c.args.sites.now c.loop-site.site-index None c.loop-site-test.true in
    elim c.match-site.branch [
      | in-Some+in_ok-push w ↦
          rw (ap (λ v. v.items) w.own-is, w.in_ok-push.ensures.items, more, w.in-Some.is, map_push (λ (s : Site). Some s) c.loop-site.own.items w.in-Some.site)
          (ap (λ xs. xs ++ Some w.in-Some.site ∷ []) c.loop-site.invariant)
      | in_default w ↦
          let there = some_at c.args.sites.now c.loop-site.site-index None (none_missing c.args.sites.now c.requires) c.loop-site-test.true in
          let none : is_some {T = Site} None ≡ true = rw w.in_default.is at there in
          absurd (false≢true none)
    ]

pub returns : goal.returns
returns c = c.loop-site.invariant ∙ take_all c.loop-site.site-index c.args.sites.now c.loop-site-test.false
