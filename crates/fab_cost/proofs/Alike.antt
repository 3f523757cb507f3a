-- Two designs whose counting nets have the same blocks have the same runs.
use Rattle.std.proofs.Common.{◌≡◌, ℕ, cond, ltb, leb, eqb, not, ◌&&◌, Bool, true, false, List, [], map, length, get_or, refl, sym, ap, ◌∙◌, subst, arith, inl, inr}
use Rattle.std.specs.List.{filter, range_with_len}
use Rattle.std.proofs.lemmas.Bool.{cases_lt, false≢true}
use Rattle.std.proofs.lemmas.List.{get_or_past}
use Rattle.std.proofs.lemmas.List.Elements.{filter_agree}
use Rattle.std.proofs.lemmas.List.FromFn.{length-map-range_with_len}
use Rattle.fab_net.specs.declared.netlist_types.Terminal.{Terminal}
use Rattle.fab_net.specs.Netlist.{Netlist, net_at, nets_of, block_on, has_number}
use Rattle.fab_cost.specs.declared.records.Record.{Record}
use Rattle.fab_cost.specs.declared.runs.Runs.{Runs}
use Rattle.fab_cost.specs.Boxes.{Counts}
use Rattle.fab_cost.specs.Cost.{cross_of}
use Rattle.fab_cost.specs.Swapping.{blocks_of, counted_blocks}
use Rattle.fab_cost.specs.Runs.{AreLarge, AreRecords, HasRecords, HasRows, IsRecord, nets_between}
use Rattle.fab_cost.proofs.Large.{filter_both}
use Rattle.fab_cost.proofs.Listings.{listed_row}

abbrev pub row : Netlist → ℕ → List ℕ
row d n = get_or (counted_blocks d) n []

blocks_long : (d : Netlist) → length (counted_blocks d) ≡ length d.terminals
blocks_long d = length-map-range_with_len (λ n. cond (net_at d n).global [] (blocks_of d n)) 0 (length d.terminals)

pub row_is : (d : Netlist) (n : ℕ) → row d n ≡ cond (net_at d n).global [] (blocks_of d n)
row_is d n = elim (cases_lt n (length d.terminals)) [
  | inl l ↦ listed_row d n l
  | inr h ↦
      (let e = blocks_long d in
      get_or_past (counted_blocks d) n [] (omega (arith, h, e))
      ∙ sym (ap (λ (ts : List Terminal). cond (net_at d n).global [] (map block_on ts)) (get_or_past d.terminals n [] h) ∙ none_either (net_at d n).global))
]
  where
    none_either : (b : Bool) → cond b [] (map block_on []) ≡ []
    none_either true = refl
    none_either false = refl

on_row : (g : Bool) (b : ℕ) (bs : List ℕ) (size : List ℕ → Bool) → ((not g && has_number b bs) && size bs) ≡ (has_number b (cond g [] bs) && size (cond g [] bs))
on_row true b bs size = refl
on_row false b bs size = refl

on_row_only : (g : Bool) (b : ℕ) (bs : List ℕ) → (not g && has_number b bs) ≡ has_number b (cond g [] bs)
on_row_only true b bs = refl
on_row_only false b bs = refl

-- the nets of a block, by the rows
nets_by_row : (d : Netlist) (b : ℕ) → nets_of d b ≡ filter (λ n. has_number b (row d n)) (range_with_len 0 (length d.terminals))
nets_by_row d b =
    filter_both (λ n. has_number b (blocks_of d n)) (λ n. not (net_at d n).global) (range_with_len 0 (length d.terminals))
    ∙ filter_agree (λ n. not (net_at d n).global && has_number b (blocks_of d n)) (λ n. has_number b (row d n)) (λ n. on_row_only (net_at d n).global b (blocks_of d n) ∙ ap (has_number b) (sym (row_is d n))) (range_with_len 0 (length d.terminals))

sized_by_row : (d : Netlist) (b : ℕ) (size : List ℕ → Bool) → filter (λ n. size (blocks_of d n)) (nets_of d b) ≡ filter (λ n. has_number b (row d n) && size (row d n)) (range_with_len 0 (length d.terminals))
sized_by_row d b size =
    ap (filter (λ n. size (blocks_of d n))) (filter_both (λ n. has_number b (blocks_of d n)) (λ n. not (net_at d n).global) (range_with_len 0 (length d.terminals)))
    ∙ filter_both (λ n. size (blocks_of d n)) (λ n. not (net_at d n).global && has_number b (blocks_of d n)) (range_with_len 0 (length d.terminals))
    ∙ filter_agree (λ n. (not (net_at d n).global && has_number b (blocks_of d n)) && size (blocks_of d n)) (λ n. has_number b (row d n) && size (row d n))
    (λ n. on_row (net_at d n).global b (blocks_of d n) size ∙ ap (λ v. has_number b v && size v) (sym (row_is d n))) (range_with_len 0 (length d.terminals))

terminals_alike : (d e : Netlist) → counted_blocks d ≡ counted_blocks e → length d.terminals ≡ length e.terminals
terminals_alike d e same = sym (blocks_long d) ∙ ap length same ∙ blocks_long e

nets_alike : (d e : Netlist) (b : ℕ) → counted_blocks d ≡ counted_blocks e → nets_of d b ≡ nets_of e b
nets_alike d e b same =
    nets_by_row d b ∙ (λ i. filter (λ n. has_number b (get_or (same i) n [])) (range_with_len 0 (terminals_alike d e same i))) ∙ sym (nets_by_row e b)

sized_alike : (d e : Netlist) (b : ℕ) (size : List ℕ → Bool) → counted_blocks d ≡ counted_blocks e → filter (λ n. size (blocks_of d n)) (nets_of d b) ≡ filter (λ n. size (blocks_of e n)) (nets_of e b)
sized_alike d e b size same =
    sized_by_row d b size ∙ (λ i. filter (λ n. has_number b (get_or (same i) n []) && size (get_or (same i) n [])) (range_with_len 0 (terminals_alike d e same i))) ∙ sym (sized_by_row e b size)

-- a net of a block counts in the other design too
not_global : (g : Bool) (b : ℕ) (bs cs : List ℕ) → cond g [] cs ≡ bs → has_number b bs ≡ true → (g ≡ false) × (cs ≡ bs)
not_global true b bs cs e on = absurd (false≢true (ap (has_number b) e ∙ on))
not_global false b bs cs e on = (refl, e)

net_alike : (d e : Netlist) (b n : ℕ) → counted_blocks d ≡ counted_blocks e → Counts d n → has_number b (blocks_of d n) ≡ true → Counts e n × (blocks_of e n ≡ blocks_of d n)
net_alike d e b n same c on =
    let here : row d n ≡ blocks_of d n = row_is d n ∙ (λ i. cond (c.counted i) [] (blocks_of d n)) in
    let p = not_global (net_at e n).global b (blocks_of d n) (blocks_of e n) (sym (row_is e n) ∙ ap (λ v. get_or v n []) (sym same) ∙ here) on in
    let l = terminals_alike d e same in
    let w = c.within in
    (record { within = omega (arith, l, w); counted = p.0 }, p.1)

record_alike : (d e : Netlist) (b n : ℕ) (others : List ℕ) (q : ℕ) → counted_blocks d ≡ counted_blocks e → length d.kinds ≡ length e.kinds → IsRecord d b n others q → IsRecord e b n others q
record_alike d e b n others q same kinds is =
    let p = net_alike d e b n same is.counts is.on in
    record {
      counts = p.0;
      on = ap (has_number b) p.1 ∙ is.on;
      factor = is.factor ∙ ap (λ v. cross_of (length v)) (sym p.1);
      each = λ k h. is.each k (omega (arith, h, kinds)) ∙ ap (λ v. has_number k v && not (eqb k b)) (sym p.1);
      within = λ i h. let w = is.within i h in omega (arith, w, kinds);
    }

records_alike : {W : ℕ} (d e : Netlist) (b : ℕ) (ns ms : List ℕ) (rs : List (Record W)) → counted_blocks d ≡ counted_blocks e → length d.kinds ≡ length e.kinds → ns ≡ ms → AreRecords d b ns rs → AreRecords e b ms rs
records_alike {W = W} d e b ns ms rs same kinds en are = subst (λ v. AreRecords {W = W} e b v rs) en (record {
  long = are.long;
  each = λ i z h. record_alike d e b (get_or ns i 0) (get_or rs i z).others (get_or rs i z).factor same kinds (are.each i z h);
})

rows_alike : {W : ℕ} (d e : Netlist) (above most : ℕ) (rows : List (List (Record W))) → counted_blocks d ≡ counted_blocks e → length d.kinds ≡ length e.kinds → HasRows d above most rows → HasRows e above most rows
rows_alike {W = W} d e above most rows same kinds has = record {
  long = has.long ∙ kinds;
  each = λ b h. records_alike {W = W} d e b (nets_between d above most b) (nets_between e above most b) (get_or rows b []) same kinds (sized_alike d e b (λ bs. ltb above (length bs) && leb (length bs) most) same) (has.each b (omega (arith, h, kinds)));
}

large_alike : (d e : Netlist) (b : ℕ) (is : List ℕ) → counted_blocks d ≡ counted_blocks e → AreLarge d b is → AreLarge e b is
large_alike d e b is same are =
    let n = nets_alike d e b same in
    record {
      within = λ k h. let w = are.within k h in let l = ap length n in omega (arith, w, l);
      nets = ap (λ v. map (λ i. get_or v i 0) is) (sym n) ∙ are.nets ∙ sized_alike d e b (λ bs. ltb 16 (length bs)) same;
    }

pub alike : (d e : Netlist) (r : Runs) → counted_blocks d ≡ counted_blocks e → length d.kinds ≡ length e.kinds → HasRecords r d → HasRecords r e
alike d e r same kinds has = record {
  small = rows_alike {W = 3} d e 1 4 r.rows.small same kinds has.small;
  middle = rows_alike {W = 7} d e 4 8 r.rows.middle same kinds has.middle;
  wide = rows_alike {W = 15} d e 8 16 r.rows.wide same kinds has.wide;
  large = record { long = has.large.long ∙ kinds; each = λ b h. large_alike d e b (get_or r.rows.large b []) same (has.large.each b (omega (arith, h, kinds))) };
}
