-- What a judgement comes to, by what is proposed.
use Rattle.std.proofs.Common.{◌≡◌, ℕ, List, [], ◌∷◌, ◌++◌, map, refl, ap, subst, ◌∙◌}
use Rattle.std.specs.Prelude.{slice_index}
use Rattle.fab_arch.specs.declared.array.Site.{Site}
use Rattle.fab_net.specs.declared.netlist_types.BlockId.{BlockId}
use Rattle.fab_net.specs.declared.netlist_types.NetId.{NetId}
use Rattle.fab_net.specs.BlockNets.{net_id}
use Rattle.fab_net.specs.Netlist.{Netlist, nets_of}
use Rattle.fab_move.specs.declared.marks.Mark.{Mark}
use Rattle.fab_move.specs.declared.marks.Mark.TheVariants.{Block, Net}
use Rattle.fab_move.specs.declared.proposals.Proposal.{Proposal}
use Rattle.fab_move.specs.declared.proposals.Proposal.TheVariants.{Nothing, Void, Move}
use Rattle.fab_move.specs.declared.verdicts.Decision.{Decision}
use Rattle.fab_move.specs.Judge.{IsDecision, Problem, judged_as, judged, footprint, block_marks}
use Rattle.fab_move.specs.Propose.{proposal}

append_one : (xs : List Mark) (x : Mark) (ys : List Mark) → (xs ++ x ∷ []) ++ ys ≡ xs ++ x ∷ ys
append_one [] x ys = refl
append_one (y ∷ xs) x ys = ap (λ r. y ∷ r) (append_one xs x ys)

as_marks : (ns : List ℕ) → map (λ (n : NetId). Net n) (map net_id ns) ≡ map (λ n. Net (record { 0 = n })) ns
as_marks [] = refl
as_marks (n ∷ ns) = ap (λ r. Net (record { 0 = n }) ∷ r) (as_marks ns)

-- a block and then its nets
pub block_pushed : (d : Netlist) (b : BlockId) (old one all : List Mark) (nets : List NetId) → one ≡ old ++ Block b ∷ [] → nets ≡ map net_id (nets_of d b.0) → all ≡ one ++ map (λ (n : NetId). Net n) nets → all ≡ old ++ block_marks d b
block_pushed d b old one all nets first told rest =
    rest
    ∙ (λ i. first i ++ map (λ (n : NetId). Net n) (told i))
    ∙ append_one old (Block b) (map (λ (n : NetId). Net n) (map net_id (nets_of d b.0)))
    ∙ ap (λ r. old ++ Block b ∷ r) (as_marks (nets_of d b.0))

-- what is decided of a proposal, with what it rests on
pub decided_says : (p : Problem) (sites : List Site) (t w : ℕ) (proposed : Proposal) (d : Decision) (marks : List Mark) → IsDecision d (judged_as p sites t w proposed) → marks ≡ footprint p.design proposed → record { swap = d.swap; change = d.delta; accepted = d.accepted; footprint = marks } ≡ judged_as p sites t w proposed
decided_says p sites t w Nothing d marks is m = (λ i. record { swap = is.swap i; change = is.change i; accepted = is.accepted i; footprint = m i })
decided_says p sites t w (Void b to) d marks is m = (λ i. record { swap = is.swap i; change = is.change i; accepted = is.accepted i; footprint = m i })
decided_says p sites t w (Move s) d marks is m = (λ i. record { swap = is.swap i; change = is.change i; accepted = is.accepted i; footprint = m i })

-- a proposal and a word that are the move's
pub judged_on : (p : Problem) (sites : List Site) (k t range w : ℕ) (proposed : Proposal) → w ≡ slice_index (p.words k) 3 → proposed ≡ proposal p.design p.grid p.fixed sites range (p.words k) → judged_as p sites t w proposed ≡ judged p sites k t range
unfolding judged
judged_on p sites k t range w proposed e is = (λ i. judged_as p sites t (e i) (is i))

-- what is decided of a proposal and a word by the words of a move
pub decided_on : (p : Problem) (sites : List Site) (k t range : ℕ) (ws : List ℕ) (w : ℕ) (proposed : Proposal) (d : Decision) → ws ≡ p.words k → w ≡ slice_index ws 3 → proposed ≡ proposal p.design p.grid p.fixed sites range ws → IsDecision d (judged_as p sites t w proposed) → IsDecision d (judged p sites k t range)
decided_on p sites k t range ws w proposed d same word is decided =
    subst (IsDecision d)
    (judged_on p sites k t range w proposed (word ∙ (λ i. slice_index (same i) 3)) (is ∙ (λ i. proposal p.design p.grid p.fixed sites range (same i))))
    decided
