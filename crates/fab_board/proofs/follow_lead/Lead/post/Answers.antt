use Rattle.std.proofs.Common.{rules, ◌≡◌, List, ◌++◌, ◌∷◌, [], ap, sym, subst, ◌∙◌}
use Rattle.fab_board.specs.Follows.{MayFollow}
use Rattle.fab_board.proofs.Steps.{may_push}
use Rattle.fab_board.proofs.follow_lead.Lead.post.Goals as goal

pub new-requires-clause-may : goal.new-requires-clause-may
new-requires-clause-may g c =
    let old : List g.row.E.Denot = c.args.self.now.0 in
    let front : c.again-front.result ≡ old = c.again-front.ensures ∙ ap (λ w. w.0) c.self.view_is in
    let is : c.again.result ≡ old ++ c.args.post ∷ [] = c.again.ensures ∙ (c.enter.ensures.added (search rules) ∙ ap (λ (l : List g.row.E.Denot). l ++ c.args.post ∷ []) front) in
    subst (λ (l : List g.row.E.Denot). MayFollow g.S.Follow.may g.S.Follow.after g.J.Origin.start l c.args.post) (sym is) (may_push g.S.Follow.may g.S.Follow.after g.J.Origin.start old c.args.post c.requires.may)
