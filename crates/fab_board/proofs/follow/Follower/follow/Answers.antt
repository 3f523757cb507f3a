use Rattle.std.proofs.Common.{rules, ◌≡◌, ◌+◌, List, ◌++◌, ◌∷◌, [], length, ap, ◌∙◌, length-append}
use Rattle.fab_board.proofs.Steps.{may_step, follows_step}
use Rattle.fab_board.proofs.follow.Follower.follow.Goals as goal

pub follow-requires : goal.follow-requires
follow-requires g c =
    let is : c.posted.inside.front ≡ c.self.inside.front ++ c.posted.inside.post ∷ [] = c.is_next.ensures (search rules) c.posted.inside.post c.posted.invariant.0 in
    may_step g.S.Follow.may g.S.Follow.after g.J.Origin.start c.self.inside.front c.posted.inside.front c.posted.inside.post c.self.inside.state is c.self.invariant c.posted.invariant.1

pub invariant_of-self : goal.invariant_of-self
invariant_of-self g c =
    let is : c.posted.inside.front ≡ c.self.inside.front ++ c.posted.inside.post ∷ [] = c.is_next.ensures (search rules) c.posted.inside.post c.posted.invariant.0 in
    follows_step g.S.Follow.after g.J.Origin.start c.self.inside.front c.again.result c.posted.inside.post c.self.inside.state c.follow.new.self (c.again.ensures ∙ is) c.follow.ensures c.self.invariant

pub returns : goal.returns
returns g c =
    let is : c.posted.inside.front ≡ c.self.inside.front ++ c.posted.inside.post ∷ [] = c.is_next.ensures (search rules) c.posted.inside.post c.posted.invariant.0 in
    λ _. ap length (c.again.ensures ∙ is) ∙ (length-append c.self.inside.front (c.posted.inside.post ∷ []) ∙ ap (λ (l : List g.row.E.Denot). length l + 1) c.self.view_is)
