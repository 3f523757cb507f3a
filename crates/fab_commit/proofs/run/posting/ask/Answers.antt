use Rattle.std.proofs.Common.{◌-◌, [], refl, ap, ◌∙◌, arith}
use Rattle.fab_commit.specs.Serial.{Standing}
use Rattle.fab_commit.specs.Run.Commits.{run_for, standing_of}
use Rattle.fab_commit.proofs.ModelLemmas.Happening.{done_fits}
use Rattle.fab_commit.proofs.RunLemmas.Followed.{IsPostOf, if_some, may_follow, posted, posted_first, posted_second}
use Rattle.fab_commit.proofs.run.posting.ask.Goals as goal

pub overflow_add-next : goal.overflow_add-next
overflow_add-next g c =
    let s = c.args.state.now in
    let few = done_fits (run_for g.W.Words.moves c.args.given.now) s s.ended c.requires.plan c.requires.sound refl in
    let limits = c.requires.limits in
    grind (arith, few, limits)

pub overflow_add-others : goal.overflow_add-others
overflow_add-others g c =
    let s = c.args.state.now in
    let few = done_fits (run_for g.W.Words.moves c.args.given.now) s s.ended c.requires.plan c.requires.sound refl in
    let limits = c.requires.limits in
    grind (arith, few, limits)

pub post_or_let_go-requires : goal.post_or_let_go-requires
post_or_let_go-requires g c =
    let r = run_for g.W.Words.moves c.args.given.now in
    let s = c.args.state.now in
    let x = c.requires.yet.0 in
    let is : IsPostOf s c.args.swaps.items c.post_of.result = record { swaps_are = c.post_of.ensures.swaps; stage = c.post_of.ensures.stage; rest = c.post_of.ensures.rest; cost = c.post_of.ensures.cost } in
    record { may = if_some _ _ c.args.followers.now c.requires.yet.1 (λ f h. (r, x, h.0, may_follow r x s c.args.swaps.items c.post_of.result c.requires.sound h.1 is)) }

pub returns-then-begun : goal.returns-then-begun
returns-then-begun g c x yet =
    let r = run_for g.W.Words.moves c.args.given.now in
    let s = c.args.state.now in
    let is : IsPostOf s c.args.swaps.items c.post_of.result = record { swaps_are = c.post_of.ensures.swaps; stage = c.post_of.ensures.stage; rest = c.post_of.ensures.rest; cost = c.post_of.ensures.cost } in
    posted g.S.Pursue.run g.S.Pursue.standing g.S.Follow.after g.J.Origin.start r x s c.args.swaps.items c.post_of.result c.args.followers.now c.post_or_let_go.new.followers is
    (if_some _ _ c.args.followers.now yet (λ f h. (h.0, h.1))) (record { base = c.post_or_let_go.ensures.base r x; tied = c.post_or_let_go.ensures.tied r x; nobody = c.post_or_let_go.ensures.nobody })

pub post_or_let_go-requires-2 : goal.post_or_let_go-requires-2
post_or_let_go-requires-2 g c =
    let r = run_for g.W.Words.moves c.args.given.now in
    let s = c.args.state.now in
    let x = c.requires.yet.0 in
    let is : IsPostOf s [] c.post_of-2.result = record { swaps_are = c.post_of-2.ensures.swaps ∙ c.new-none.ensures.items; stage = c.post_of-2.ensures.stage; rest = c.post_of-2.ensures.rest; cost = c.post_of-2.ensures.cost } in
    record { may = if_some _ _ c.args.followers.now c.requires.yet.1 (λ f h. (r, x, h.0, may_follow r x s [] c.post_of-2.result c.requires.sound (ap (λ (y : Standing). y.sites) (h.2 c.if-begun.false)) is)) }

pub post_or_let_go-requires-3 : goal.post_or_let_go-requires-3
post_or_let_go-requires-3 g c =
    let r = run_for g.W.Words.moves c.args.given.now in
    let s = c.args.state.now in
    let x = c.requires.yet.0 in
    let none : IsPostOf s [] c.post_of-2.result = record { swaps_are = c.post_of-2.ensures.swaps ∙ c.new-none.ensures.items; stage = c.post_of-2.ensures.stage; rest = c.post_of-2.ensures.rest; cost = c.post_of-2.ensures.cost } in
    let is : IsPostOf s c.args.swaps.items c.post_of-3.result = record { swaps_are = c.post_of-3.ensures.swaps; stage = c.post_of-3.ensures.stage; rest = c.post_of-3.ensures.rest; cost = c.post_of-3.ensures.cost } in
    let first = posted_first g.S.Pursue.run g.S.Pursue.standing g.S.Follow.after g.J.Origin.start r x s c.args.swaps.items c.post_of-2.result c.args.begun c.args.followers.now c.post_or_let_go-2.new.followers none c.if-begun.false c.requires.yet.1
    (record { base = c.post_or_let_go-2.ensures.base r x; tied = c.post_or_let_go-2.ensures.tied r x; nobody = c.post_or_let_go-2.ensures.nobody }) in
    record { may = if_some _ _ c.post_or_let_go-2.new.followers first (λ f h. (r, standing_of s, h.0, may_follow r (standing_of s) s c.args.swaps.items c.post_of-3.result c.requires.sound h.1 is)) }

pub returns : goal.returns
returns g c x yet =
    let r = run_for g.W.Words.moves c.args.given.now in
    let s = c.args.state.now in
    let none : IsPostOf s [] c.post_of-2.result = record { swaps_are = c.post_of-2.ensures.swaps ∙ c.new-none.ensures.items; stage = c.post_of-2.ensures.stage; rest = c.post_of-2.ensures.rest; cost = c.post_of-2.ensures.cost } in
    let is : IsPostOf s c.args.swaps.items c.post_of-3.result = record { swaps_are = c.post_of-3.ensures.swaps; stage = c.post_of-3.ensures.stage; rest = c.post_of-3.ensures.rest; cost = c.post_of-3.ensures.cost } in
    let first = posted_first g.S.Pursue.run g.S.Pursue.standing g.S.Follow.after g.J.Origin.start r x s c.args.swaps.items c.post_of-2.result c.args.begun c.args.followers.now c.post_or_let_go-2.new.followers none c.if-begun.false yet
    (record { base = c.post_or_let_go-2.ensures.base r x; tied = c.post_or_let_go-2.ensures.tied r x; nobody = c.post_or_let_go-2.ensures.nobody }) in
    posted_second g.S.Pursue.run g.S.Pursue.standing g.S.Follow.after g.J.Origin.start r x s c.args.swaps.items c.post_of-3.result c.args.begun c.args.followers.now c.post_or_let_go-2.new.followers c.post_or_let_go-3.new.followers is c.if-begun.false yet c.post_or_let_go-2.ensures.nobody first
    (record { base = c.post_or_let_go-3.ensures.base r (standing_of s); tied = c.post_or_let_go-3.ensures.tied r (standing_of s); nobody = c.post_or_let_go-3.ensures.nobody })
