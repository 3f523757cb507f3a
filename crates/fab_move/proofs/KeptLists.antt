-- The nets with many terminals that are kept of a swap.
use Rattle.std.proofs.Common.{◌≡◌, ℕ, zero, suc, ◌+◌, ◌<◌, ◌≤◌, Bool, true, false, List, [], ◌∷◌, ◌++◌, length, get_or, take, cond, Some, None, refl, sym, ap, subst, ◌∙◌, arith}
use Rattle.std.specs.Prelude.{filter, map}
use Rattle.std.proofs.lemmas.Bool.{false≢true}
use Rattle.std.proofs.lemmas.List.{append-nil, append_assoc, length-append, length-map, take_more}
use mathlib.Core.List.{map-append}
use Rattle.fab_net.specs.declared.netlist_types.BlockId.{BlockId}
use Rattle.fab_net.specs.declared.netlist_types.NetId.{NetId}
use Rattle.fab_net.specs.Netlist.{Netlist, nets_of}
use Rattle.fab_site.specs.declared.placement_types.Swap.{Swap}
use Rattle.fab_cost.specs.Runs.{AreLarge, is_large}
use Rattle.fab_move.specs.declared.kept_nets.LargeNets.{LargeNets}
use Rattle.fab_move.specs.KeptNets.{AreAppended, AreKept, large_among, large_nets, nets_at, nets_on}

-- if none are kept, nothing is said
pub none_kept : (d : Netlist) (s : Swap) (n : LargeNets) → n.is_kept ≡ false → AreKept d s n
none_kept d s n e = record {
  most = λ k. absurd (false≢true (sym e ∙ k));
  nets = λ k. absurd (false≢true (sym e ∙ k));
}

-- nothing more
pub none_added : (n : LargeNets) → n.all ≤ 5 → AreAppended n n []
none_added n most = record {
  most = most;
  were = λ k. k;
  nets = λ k. sym (append-nil (take n.all n.nets));
  all = λ k. omega arith;
  still = λ k few. k;
}

-- some nets, and then others
pub added_both : (a b c : LargeNets) (xs ys : List NetId) → AreAppended a b xs → AreAppended b c ys → AreAppended a c (xs ++ ys)
added_both a b c xs ys first then = record {
  most = then.most;
  were = λ k. first.were (then.were k);
  nets = λ k. then.nets k ∙ ap (λ l. l ++ ys) (first.nets (then.were k)) ∙ append_assoc (take a.all a.nets) xs ys;
  all = λ k. (let both = length-append xs ys in let one = first.all (then.were k) in let other = then.all k in omega arith);
  still = λ k few.
      let both = length-append xs ys in
      let kept = first.still k (omega arith) in
      let one = first.all kept in then.still kept (omega arith);
}

-- the net at a place of a list
abbrev net_at : List NetId → ℕ → NetId
net_at ns i = get_or ns i (record { 0 = 0 })

-- one net more was added
pub added_at : (a b c : LargeNets) (ns : List NetId) (places : List ℕ) (i z : ℕ) → i < length places → AreAppended a b (nets_at ns (take i places)) → AreAppended b c (net_at ns (get_or places i z) ∷ []) → AreAppended a c (nets_at ns (take (i + 1) places))
added_at a b c ns places i z low before now =
    subst (AreAppended a c) (sym (ap (map (net_at ns)) (take_more places i z low) ∙ map-append (net_at ns) (take i places) (get_or places i z ∷ []))) (added_both a b c (nets_at ns (take i places)) (net_at ns (get_or places i z) ∷ []) before now)

-- a net by its number
abbrev net : ℕ → NetId
net n = record { 0 = n }

at_net : (ns : List ℕ) (i : ℕ) → get_or (map net ns) i (net 0) ≡ net (get_or ns i 0)
at_net [] i = refl
at_net (n ∷ ns) zero = refl
at_net (n ∷ ns) (suc i) = at_net ns i

at_nets : (ns is : List ℕ) → nets_at (map net ns) is ≡ map net (map (λ i. get_or ns i 0) is)
at_nets ns [] = refl
at_nets ns (i ∷ is) = λ j. at_net ns i j ∷ at_nets ns is j

map_cond : (b : Bool) (n : ℕ) (ns : List ℕ) → map net (cond b (n ∷ ns) ns) ≡ cond b (net n ∷ map net ns) (map net ns)
map_cond true n ns = refl
map_cond false n ns = refl

filter_net : (p : ℕ → Bool) (ns : List ℕ) → map net (filter p ns) ≡ filter (λ (n : NetId). p n.0) (map net ns)
filter_net p [] = refl
filter_net p (n ∷ ns) = map_cond (p n) n (filter p ns) ∙ ap (λ r. cond (p n) (net n ∷ r) r) (filter_net p ns)

pub nets_long : (d : Netlist) (b : BlockId) → length (nets_on d (Some b)) ≡ length (nets_of d b.0)
nets_long d b = length-map (nets_of d b.0) net

-- the nets at the places of those with many terminals
pub at_large : (d : Netlist) (b : BlockId) (places : List ℕ) → AreLarge d b.0 places → nets_at (nets_on d (Some b)) places ≡ large_among d (nets_on d (Some b))
at_large d b places are = at_nets (nets_of d b.0) places ∙ ap (map net) are.nets ∙ filter_net (is_large d) (nets_of d b.0)

-- the nets of both blocks, behind nothing
pub kept_both : (d : Netlist) (s : Swap) (a b c : LargeNets) (o : BlockId) → a.all ≡ 0 → s.other ≡ Some o → AreAppended a b (large_among d (nets_on d (Some s.block))) → AreAppended b c (large_among d (nets_on d (Some o))) → AreKept d s c
kept_both d s a b c o none is first then = record {
  most = λ k. then.most;
  nets = λ k.
      then.nets k
      ∙ ap (λ l. l ++ large_among d (nets_on d (Some o))) (first.nets (then.were k) ∙ ap (λ n. take n a.nets ++ large_among d (nets_on d (Some s.block))) none)
      ∙ ap (λ p. large_among d (nets_on d (Some s.block)) ++ large_among d (nets_on d p)) (sym is);
}

pub kept_own : (d : Netlist) (s : Swap) (a b : LargeNets) → a.all ≡ 0 → s.other ≡ None → AreAppended a b (large_among d (nets_on d (Some s.block))) → AreKept d s b
kept_own d s a b none is first = record {
  most = λ k. first.most;
  nets = λ k.
      first.nets k
      ∙ ap (λ n. take n a.nets ++ large_among d (nets_on d (Some s.block))) none
      ∙ sym (append-nil (large_among d (nets_on d (Some s.block))))
      ∙ ap (λ p. large_among d (nets_on d (Some s.block)) ++ large_among d (nets_on d p)) (sym is);
}

-- they are kept if they are few
pub few_of_both : (d : Netlist) (s : Swap) (a b c : LargeNets) (o : BlockId) → a.all ≡ 0 → a.is_kept ≡ true → s.other ≡ Some o → AreAppended a b (large_among d (nets_on d (Some s.block))) → AreAppended b c (large_among d (nets_on d (Some o)))
    → length (large_nets d s) ≤ 5 → c.is_kept ≡ true
few_of_both d s a b c o none here is first then few =
    let both = added_both a b c (large_among d (nets_on d (Some s.block))) (large_among d (nets_on d (Some o))) first then in
    let same : length (large_nets d s) ≡ length (large_among d (nets_on d (Some s.block)) ++ large_among d (nets_on d (Some o))) = ap (λ p. length (large_among d (nets_on d (Some s.block)) ++ large_among d (nets_on d p))) is in
    both.still here (omega arith)

pub few_of_own : (d : Netlist) (s : Swap) (a b : LargeNets) → a.all ≡ 0 → a.is_kept ≡ true → s.other ≡ None → AreAppended a b (large_among d (nets_on d (Some s.block))) → length (large_nets d s) ≤ 5 → b.is_kept ≡ true
few_of_own d s a b none here is first few =
    let own = large_among d (nets_on d (Some s.block)) in
    let same : length (large_nets d s) ≡ length (own ++ []) = ap (λ p. length (own ++ large_among d (nets_on d p))) is in
    let long : length (own ++ []) ≡ length own = ap length (append-nil own) in first.still here (omega arith)
