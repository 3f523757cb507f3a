-- Words below 2^32 propose sites of the block's kind.
use Rattle.std.proofs.Common.{◌≡◌, ℕ, zero, suc, ◌+◌, ◌-◌, ◌/◌, ◌^◌, ◌<◌, ◌≤◌, min, max, Bool, true, false, cond, List, length, Option, Some, None, slice_get, refl, sym, ap, ◌∙◌, arith}
use Rattle.std.specs.Prelude.{nat_lt, slice_index}
use Rattle.std.specs.List.{list_any}
use Rattle.std.proofs.lemmas.Bool.{and_parts, false≢true, ltb-true}
use Rattle.fab_arch.specs.declared.array.Site.{Site}
use Rattle.fab_arch.specs.declared.array.SiteKind.TheVariants.{Logic, Pad}
use Rattle.fab_arch.specs.Grid.{GridShape, perimeter, is_position, is_logic_site, is_pad_site, kind_at}
use Rattle.fab_net.specs.Netlist.{Netlist, is_logic_at}
use Rattle.fab_site.specs.Placement.{Fits, site_of}
use Rattle.fab_site.specs.Words.{pick_of}
use Rattle.fab_site.proofs.Sites.{logic_bounds}
use Rattle.fab_site.proofs.Stock.{pick_below}
use Rattle.fab_move.specs.declared.proposals.Proposal.{Proposal}
use Rattle.fab_move.specs.declared.proposals.Proposal.TheVariants.{Nothing, Void, Move}
use Rattle.fab_move.specs.Propose.{movable, near, near_positions, propose_for, proposal, target, logic_target, pad_target}
use Rattle.fab_move.specs.Judge.{Problem}
use Rattle.fab_move.proofs.Choices.{chosen_below}
use Rattle.fab_move.proofs.Streams.{stream_small}
use Rattle.fab_move.proofs.Targets.{fits_logic, fits_pad, logic_near, pad_near, some_near, target_logic, target_pad}
use Rattle.fab_commit.specs.Laws.Moves.{AreWords, ProposesKinds, SeedsGiveWords}
use Rattle.fab_commit.proofs.ModelLemmas.Happening.{goes_to}

-- a coordinate from 1 to n picks one from 1 to n
near_within : (here reach n w : ℕ) → 1 ≤ here → here ≤ n → w < 2 ^ 32 → (1 ≤ near here reach n w) × (near here reach n w ≤ n)
near_within here reach n w low high small =
    let first = max 1 (here - reach) in
    let some : 0 < min n (here + reach) - first + 1 = omega arith in
    let below = pick_below w (min n (here + reach) - first + 1) small some in
    (omega arith, omega (arith, below, low, high))

of_logic : (g : GridShape) (s : Site) → kind_at g s ≡ Some Logic → is_logic_site g s ≡ true
of_logic g s e = by_tests (is_logic_site g s) (is_pad_site g s) e
  where
    by_tests : (a b : Bool) → cond a (Some Logic) (cond b (Some Pad) None) ≡ Some Logic → a ≡ true
    by_tests true b q = refl
    by_tests false true q = absurd cc
    by_tests false false q = absurd cc

of_pad : (g : GridShape) (s : Site) → kind_at g s ≡ Some Pad → is_pad_site g s ≡ true
of_pad g s e = by_tests (is_logic_site g s) (is_pad_site g s) e
  where
    by_tests : (a b : Bool) → cond a (Some Logic) (cond b (Some Pad) None) ≡ Some Pad → b ≡ true
    by_tests true b q = absurd cc
    by_tests false true q = refl
    by_tests false false q = absurd cc

wanted : (d : Netlist) (g : GridShape) (b : ℕ) (s : Site) (c : Bool) → is_logic_at d b ≡ c → Fits d g b s → kind_at g s ≡ Some (cond c Logic Pad)
wanted d g b s c e fits = fits ∙ ap (λ (k : Bool). Some (cond k Logic Pad)) e

logic_target_fits : (g : GridShape) (from : Site) (reach : ℕ) (ws : List ℕ) → ((i : ℕ) → slice_index ws i < 2 ^ 32) → kind_at g from ≡ Some Logic → kind_at g (logic_target g from reach ws) ≡ Some Logic
logic_target_fits g from reach ws small is =
    let b = logic_bounds g from (of_logic g from is) in
    let x = near_within from.x reach g.nx (slice_index ws 1) b.x_low b.x_high (small 1) in
    let y = near_within from.y reach g.ny (slice_index ws 2) b.y_low b.y_high (small 2) in
    logic_near g (near from.x reach g.nx (slice_index ws 1)) (near from.y reach g.ny (slice_index ws 2)) x.0 x.1 y.0 y.1

pad_target_fits : (g : GridShape) (from : Site) (reach : ℕ) (ws : List ℕ) → ((i : ℕ) → slice_index ws i < 2 ^ 32) → kind_at g from ≡ Some Pad → kind_at g (pad_target g from reach ws) ≡ Some Pad
pad_target_fits g from reach ws small is =
    let pad = of_pad g from is in
    let parts = and_parts (list_any (is_position from) (perimeter g)) (nat_lt from.sub g.io_rat) pad in
    let sub = ltb-true from.sub g.io_rat parts.1 in
    let at = pick_below (slice_index ws 1) (length (near_positions g from reach)) (small 1) (some_near g from reach pad) in
    let pads = pick_below (slice_index ws 2) g.io_rat (small 2) (omega (arith, sub)) in
    pad_near g from reach (pick_of (slice_index ws 1) (length (near_positions g from reach))) (pick_of (slice_index ws 2) g.io_rat) at pads

-- a block's target is a site of the block's kind
target_fits : (d : Netlist) (g : GridShape) (b : ℕ) (from : Site) (range : ℕ) (ws : List ℕ) → ((i : ℕ) → slice_index ws i < 2 ^ 32) → Fits d g b from → Fits d g b (target d g b from range ws)
target_fits d g b from range ws small fits = by_kind (is_logic_at d b) refl
  where
    by_kind : (c : Bool) → is_logic_at d b ≡ c → Fits d g b (target d g b from range ws)
    by_kind true e =
        fits_logic d g b _ e
        (ap (kind_at g) (target_logic d g b from range ws e) ∙ logic_target_fits g from (range / 1000) ws small (wanted d g b from true e fits))
    by_kind false e =
        fits_pad d g b _ e
        (ap (kind_at g) (target_pad d g b from range ws e) ∙ pad_target_fits g from (range / 1000) ws small (wanted d g b from false e fits))

is_move : Proposal → Bool
is_move Nothing = false
is_move (Void b to) = false
is_move (Move t) = true

pub proposes_kinds : (p : Problem) → AreWords p.words → ProposesKinds p
unfolding proposal is_move
proposes_kinds p small sites range k s legal e =
    by_choice (slice_get (movable d fixed) (pick_of (slice_index ws 0) (length (movable d fixed)))) refl e
  where
    d : Netlist
    d = p.design

    g : GridShape
    g = p.grid

    fixed : List (Option Site)
    fixed = p.fixed

    ws : List ℕ
    ws = p.words k

    by_choice : (o : Option ℕ) → slice_get (movable d fixed) (pick_of (slice_index ws 0) (length (movable d fixed))) ≡ o → propose_for d g fixed sites range ws o ≡ Move s → kind_at g s.to ≡ kind_at g s.from
    by_choice None q h = absurd (false≢true (ap is_move h))
    by_choice (Some b) q h =
        let from = site_of sites b in
        let there = target d g b from range ws in
        let goes = goes_to fixed sites (record { 0 = b }) from there s h in
        let all = legal.all in
        let low = chosen_below d fixed (pick_of (slice_index ws 0) (length (movable d fixed))) b q in
        let fits = legal.fit b (omega (arith, all, low)) in
        ap (kind_at g) goes.1 ∙ target_fits d g b from range ws (small k) fits ∙ sym fits ∙ ap (kind_at g) (sym goes.0)

-- the words of each seed are below 2^32
pub seeds_give_words : SeedsGiveWords
seeds_give_words seed k zero = stream_small _ _ _
seeds_give_words seed k (suc zero) = stream_small _ _ _
seeds_give_words seed k (suc (suc zero)) = stream_small _ _ _
seeds_give_words seed k (suc (suc (suc zero))) = stream_small _ _ _
seeds_give_words seed k (suc (suc (suc (suc i)))) = omega arith
