use Rattle.std.proofs.Common.{◌≡◌, ◌<◌, ◌≤◌, true, length, ◌+ℤ◌, to_z, of_z, w64, FitsSigned, rules, sym, ap, subst, ◌∙◌, refl}
use Rattle.std.specs.Prelude.{slice_index}
use Rattle.fab_arch.specs.Grid.{kind_at}
use Rattle.fab_net.specs.Netlist.{Netlist}
use Rattle.fab_site.specs.declared.placement_types.Swap.{Swap}
use Rattle.fab_cost.specs.Runs.{few_of}
use Rattle.fab_cost.specs.Swapping.{IsMadeFor, change}
use Rattle.fab_cost.proofs.Few.{change_fits}
use Rattle.fab_move.specs.Accept.{is_accepted}
use Rattle.fab_move.specs.declared.proposals.Proposal.TheVariants.{Move}
use Rattle.fab_move.specs.Propose.{proposal}
use Rattle.fab_commit.specs.Serial.{or_zero}
use Rattle.fab_move.specs.StampTables.{IsBlock}
use Rattle.fab_commit.specs.Run.Commits.{heat_of, run_for, standing_of}
use Rattle.fab_move.specs.KeptNets.{AreKept, large_nets}
use Rattle.fab_commit.specs.Run.Foreseen.{swap_in}
use Rattle.fab_move.specs.StampTables.{IsWithin}
use Rattle.fab_commit.proofs.RunLemmas.Foreseeing.{foreseen_by, foreseen_none, move_is}
use Rattle.fab_commit.proofs.RunLemmas.Owning.{within_of}
use Rattle.fab_commit.proofs.run.foreseen.foresee.Goals as goal

pub returns-in-Nothing : goal.returns-in-Nothing
returns-in-Nothing g c =
    let given = c.args.given.now in
    let v = c.view_of-view.ensures in
    let r = run_for g.W.Words.moves given in
    let is = c.propose-proposal.ensures.value ∙ (λ i. proposal (v.design i) (v.grid i) (v.fixed i) (v.placement i).sites (v.range i) (c.requires.words i)) in
    let e = c.without_swap.ensures in
    foreseen_none r (standing_of c.args.state.now) c.args.number c.propose-proposal.result c.args.words c.without_swap.result
    (record { proposal = e.0; delta = e.2; words = e.3; accepted = e.4 }) is c.requires.words (ap swap_in c.in-Nothing.is)

pub returns-in-Void : goal.returns-in-Void
returns-in-Void g c =
    let given = c.args.given.now in
    let v = c.view_of-view.ensures in
    let r = run_for g.W.Words.moves given in
    let is = c.propose-proposal.ensures.value ∙ (λ i. proposal (v.design i) (v.grid i) (v.fixed i) (v.placement i).sites (v.range i) (c.requires.words i)) in
    let e = c.without_swap-in-Void.ensures in
    foreseen_none r (standing_of c.args.state.now) c.args.number c.propose-proposal.result c.args.words c.without_swap-in-Void.result
    (record { proposal = e.0; delta = e.2; words = e.3; accepted = e.4 }) is c.requires.words (ap swap_in c.in-Void.is)

pub of-requires-clause-made : goal.of-requires-clause-made
of-requires-clause-made g c =
    let v = c.view_of-view.ensures in
    subst (λ b. IsMadeFor b c.view_of-view.result.design.now) (sym v.cost) (subst (IsMadeFor c.args.state.now.cost) (sym v.design) c.requires.sound.cost.made)

pub of-requires-clause-block : goal.of-requires-clause-block
of-requires-clause-block g c =
    let given = c.args.given.now in
    let v = c.view_of-view.ensures in
    let s = c.in-Move.swap in
    let lawful = rw (v.grid, v.placement) at (c.propose-proposal.ensures.lawful s c.in-Move.is) in
    let within = within_of given.design.now given.grid.now given.fixed c.args.state.now.placement.sites s c.requires.sound.legal lawful in
    subst (λ (k : Netlist). s.block.0 < length k.kinds) (sym v.design) within.block

pub of-requires-clause-other : goal.of-requires-clause-other
of-requires-clause-other g c b e =
    let given = c.args.given.now in
    let v = c.view_of-view.ensures in
    let s = c.in-Move.swap in
    let lawful = rw (v.grid, v.placement) at (c.propose-proposal.ensures.lawful s c.in-Move.is) in
    let within = within_of given.design.now given.grid.now given.fixed c.args.state.now.placement.sites s c.requires.sound.legal lawful in
    subst (λ (k : Netlist). b.0 < length k.kinds) (sym v.design) (subst (IsBlock given.design.now) e within.other)

pub delta_parts-few-requires-clause-lawful : goal.delta_parts-few-requires-clause-lawful
delta_parts-few-requires-clause-lawful g c = c.propose-proposal.ensures.lawful c.in-Move.swap c.in-Move.is

pub overflow_add-delta : goal.overflow_add-delta
overflow_add-delta g c =
    let few : to_z w64 (of_z w64 c.delta_parts-few.result.0) ≡ c.delta_parts-few.result.0 = search rules in
    let large : to_z w64 (of_z w64 c.delta_parts-few.result.1) ≡ c.delta_parts-few.result.1 = search rules in
    subst (FitsSigned w64) (sym ((λ i. few i +ℤ large i) ∙ c.delta_parts-few.ensures.whole))
    (change_fits c.view_of-view.result.design.now c.view_of-view.result.grid.now c.view_of-view.result.placement.now.sites c.in-Move.swap c.delta_parts-few.ensures.below)

pub returns-in-Move : goal.returns-in-Move
returns-in-Move g c =
    let given = c.args.given.now in
    let state = c.args.state.now in
    let d = given.design.now in
    let grid = given.grid.now in
    let sites = state.placement.sites in
    let s = c.in-Move.swap in
    let v = c.view_of-view.ensures in
    let is = c.propose-proposal.ensures.value ∙ (λ i. proposal (v.design i) (v.grid i) (v.fixed i) (v.placement i).sites (v.range i) (c.requires.words i)) in
    let lawful = rw (v.grid, v.placement) at (c.propose-proposal.ensures.lawful s c.in-Move.is) in
    let hot : or_zero (heat_of state.ended state.stage.t) ≡ state.stage.t = ap (λ b. or_zero (heat_of b state.stage.t)) c.requires.going in
    let read_few : to_z w64 (of_z w64 c.delta_parts-few.result.0) ≡ c.delta_parts-few.result.0 = search rules in
    let read_large : to_z w64 (of_z w64 c.delta_parts-few.result.1) ≡ c.delta_parts-few.result.1 = search rules in
    let sum = (λ i. read_few i +ℤ read_large i) ∙ c.delta_parts-few.ensures.whole in
    let fits = change_fits c.view_of-view.result.design.now c.view_of-view.result.grid.now c.view_of-view.result.placement.now.sites s c.delta_parts-few.ensures.below in
    let read : to_z w64 (of_z w64 (to_z w64 (of_z w64 c.delta_parts-few.result.0) +ℤ to_z w64 (of_z w64 c.delta_parts-few.result.1))) ≡ change c.view_of-view.result.design.now c.view_of-view.result.grid.now c.view_of-view.result.placement.now.sites s =
    (let k = sum in search rules) in
    let delta : to_z w64 (of_z w64 (to_z w64 (of_z w64 c.delta_parts-few.result.0) +ℤ to_z w64 (of_z w64 c.delta_parts-few.result.1))) ≡ change d grid sites s = read ∙ (λ i. change (v.design i) (v.grid i) (v.placement i).sites s) in
    let few : to_z w64 (of_z w64 c.delta_parts-few.result.0) ≡ change (few_of d) grid sites s = read_few ∙ c.delta_parts-few.ensures.few ∙ (λ i. change (few_of (v.design i)) (v.grid i) (v.placement i).sites s) in
    let within = within_of d grid given.fixed sites s c.requires.sound.legal lawful in
    foreseen_by (run_for g.W.Words.moves given) (standing_of state) c.args.number (Move s) state.stage.t (slice_index c.args.words 3) _
    (record {
      proposal_is = sym c.in-Move.is ∙ is;
      heat = sym hot;
      word = (λ i. slice_index (c.requires.words i) 3);
      proposes = refl;
      words = c.requires.words;
      decides = record { swap = refl; change = delta; accepted = c.accepts.ensures ∙ (λ i. is_accepted (delta i) (v.t i) (slice_index c.args.words 3)) };
      few = λ z e. few ∙ ap (change (few_of d) grid sites) (move_is s z e);
      within = λ z e. subst (λ (u : Swap). IsWithin d grid u) (move_is s z e) within;
      kind = λ z e. subst (λ (u : Swap). kind_at grid u.to ≡ kind_at grid u.from) (move_is s z e) lawful.kind;
      nets = λ z e. subst (λ (u : Swap). AreKept d u c.of.result) (move_is s z e) (subst (λ k. AreKept k s c.of.result) v.design c.of.ensures.list);
      kept = λ z e. subst (λ (u : Swap). length (large_nets d u) ≤ 5 → c.of.result.is_kept ≡ true) (move_is s z e) (subst (λ k. length (large_nets k s) ≤ 5 → c.of.result.is_kept ≡ true) v.design c.of.ensures.kept);
    })
