-- A net on its blocks, one terminal on.
use Rattle.std.proofs.Common.{◌≡◌, ◌≢◌, ℕ, ◌+◌, ◌<◌, ◌≤◌, Bool, true, false, cond, eqb, ◌||◌, List, [], ◌∷◌, ◌++◌, length, map, get_or, set, take, replicate, refl, sym, ap, ◌∙◌, arith, inl, inr}
use Rattle.std.proofs.lemmas.List.{append-nil, map-id, length-replicate, length-set, length_push, get_or-set_same, get_or-set_other, map-append, take_more}
use Rattle.std.proofs.lemmas.List.Elements.{filter-append, All-push, All-get_or, All-weaker, All-replicate, All-nil}
use Rattle.std.proofs.lemmas.List.FromFn.{map-range_with_len_more, fill_by_all, length-map-range_with_len, get_or-map-range_with_len}
use Rattle.std.proofs.lemmas.List.Sums.{sum_by_more}
use Rattle.std.proofs.lemmas.Bool.{cases_Bool, eqb-true, eqb-false, eq-eqb, ne_eqb}
use Rattle.std.specs.Prelude.{filter}
use Rattle.std.specs.List.{All, list_any, range_with_len, sum_by}
use Rattle.fab_net.specs.declared.netlist_types.NetId.{NetId}
use Rattle.fab_net.specs.declared.netlist_types.Terminal.{Terminal}
use Rattle.fab_net.specs.Rows.{of_row, item_of, row_of, rows_of}
use Rattle.fab_net.specs.BlockNets.{is_at, net_id, net_where, touches, nets_on, block_nets}
use Rattle.fab_net.proofs.Pushing.{any_push}

-- what holds after the first `j` terminals
pub record Stamping (blocks net : ℕ) (row : List Terminal) (j : ℕ) (before entries : List (ℕ × NetId)) (stamps : List ℕ) : Type 0 where
  pub size : length stamps ≡ blocks
  pub upto : (b : ℕ) → b < blocks → get_or stamps b 0 ≤ net + 1
  pub seen : (b : ℕ) → b < blocks → eqb (get_or stamps b 0) (net + 1) ≡ list_any (is_at b) (take j row)
  pub within : All (λ e. e.0 < blocks) entries
  pub few : length entries ≤ length before + j
  pub rows : (b : ℕ) → b < blocks → row_of entries b ≡ row_of before b ++ net_where net (take j row) b

pub one_more : (row : List Terminal) (j b : ℕ) (t : Terminal) → j < length row → t ≡ get_or row j t → list_any (is_at b) (take (j + 1) row) ≡ (list_any (is_at b) (take j row) || eqb t.block.0 b)
one_more row j b t lt is = ap (list_any (is_at b)) (take_more row j t lt ∙ ap (λ x. take j row ++ x ∷ []) (sym is)) ∙ any_push (is_at b) (take j row) t

pub started : (blocks net : ℕ) (on_net : List Terminal) (before : List (ℕ × NetId)) (stamps : List ℕ) → length stamps ≡ blocks → All (λ s. s ≤ net) stamps → All (λ e. e.0 < blocks) before → Stamping blocks net on_net 0 before before stamps
started blocks net on_net before stamps size old within =
    record {
      size = size;
      upto = λ b lt. let h = All-get_or (λ s. s ≤ net) stamps b 0 (omega (arith, size)) old in omega (arith, h);
      seen = λ b lt. let h = All-get_or (λ s. s ≤ net) stamps b 0 (omega (arith, size)) old in ne_eqb (get_or stamps b 0) (net + 1) (λ e. omega (arith, h, e));
      within = within;
      few = omega arith;
      rows = λ b lt. sym (append-nil (row_of before b));
    }

pub true_or : (a c : Bool) → a ≡ true → (a || c) ≡ true
true_or a c h = rw h refl

pub or_false : (a c : Bool) → c ≡ false → (a || c) ≡ a
or_false true c h = refl
or_false false c h = h

-- a terminal on a block that was met
pub passed : (blocks net : ℕ) (row : List Terminal) (j : ℕ) (before entries : List (ℕ × NetId)) (stamps : List ℕ) (t : Terminal) → j < length row → t ≡ get_or row j t → t.block.0 < blocks
    → get_or stamps t.block.0 0 ≡ net + 1 → Stamping blocks net row j before entries stamps → Stamping blocks net row (j + 1) before entries stamps
passed blocks net row j before entries stamps t lt is k met s =
    record {
      size = s.size;
      upto = s.upto;
      seen = λ b bl. s.seen b bl ∙ sym (same b bl);
      within = s.within;
      few = omega (arith, s.few);
      rows = λ b bl. s.rows b bl ∙ ap (λ x. row_of before b ++ cond x (net_id net ∷ []) []) (sym (same b bl));
    }
  where
    same : (b : ℕ) → b < blocks → list_any (is_at b) (take (j + 1) row) ≡ list_any (is_at b) (take j row)
    same b bl = elim (cases_Bool (eqb t.block.0 b)) [
      | inl h ↦
          let e : t.block.0 ≡ b = eqb-true t.block.0 b h in
          let m : list_any (is_at b) (take j row) ≡ true = sym (s.seen b bl) ∙ eq-eqb (get_or stamps b 0) (net + 1) (ap (λ x. get_or stamps x 0) (sym e) ∙ met) in
          one_more row j b t lt is ∙ true_or (list_any (is_at b) (take j row)) (eqb t.block.0 b) m ∙ sym m
      | inr h ↦ one_more row j b t lt is ∙ or_false (list_any (is_at b) (take j row)) (eqb t.block.0 b) h
    ]

pub row_push : {T : Type 0} (entries : List (ℕ × T)) (k b : ℕ) (x : T) → row_of (entries ++ (k, x) ∷ []) b ≡ row_of entries b ++ cond (eqb k b) (x ∷ []) []
row_push entries k b x = ap (map item_of) (filter-append (of_row b) entries ((k, x) ∷ [])) ∙ map-append item_of (filter (of_row b) entries) (filter (of_row b) ((k, x) ∷ [])) ∙ ap (λ xs. row_of entries b ++ xs) (if_item (eqb k b))
  where
    if_item : (c : Bool) → map item_of (cond c ((k, x) ∷ []) []) ≡ cond c (x ∷ []) []
    if_item true = refl
    if_item false = refl

-- a terminal on a block that was not
pub stamped : (blocks net : ℕ) (row : List Terminal) (j : ℕ) (before entries : List (ℕ × NetId)) (stamps : List ℕ) (t : Terminal) → j < length row → t ≡ get_or row j t → t.block.0 < blocks
    → get_or stamps t.block.0 0 ≢ net + 1 → Stamping blocks net row j before entries stamps → Stamping blocks net row (j + 1) before (entries ++ (t.block.0, net_id net) ∷ []) (set stamps t.block.0 (net + 1))
stamped blocks net row j before entries stamps t lt is k new s =
    record {
      size = length-set stamps t.block.0 (net + 1) ∙ s.size;
      upto = λ b bl. (at b bl).0;
      seen = λ b bl. (at b bl).1;
      within = All-push (λ (e : ℕ × NetId). e.0 < blocks) entries (t.block.0, net_id net) s.within k;
      few = omega (arith, s.few, length_push entries (t.block.0, net_id net));
      rows = λ b bl. (at b bl).2;
    }
  where
    at : (b : ℕ) → b < blocks
        → (get_or (set stamps t.block.0 (net + 1)) b 0 ≤ net + 1)
        × (eqb (get_or (set stamps t.block.0 (net + 1)) b 0) (net + 1) ≡ list_any (is_at b) (take (j + 1) row))
        × (row_of (entries ++ (t.block.0, net_id net) ∷ []) b ≡ row_of before b ++ net_where net (take (j + 1) row) b)
    at b bl = elim (cases_Bool (eqb t.block.0 b)) [
      | inl h ↦
          let e : t.block.0 ≡ b = eqb-true t.block.0 b h in
          let v : get_or (set stamps t.block.0 (net + 1)) b 0 ≡ net + 1 = ap (λ x. get_or (set stamps x (net + 1)) b 0) e ∙ get_or-set_same stamps b (net + 1) 0 (omega (arith, s.size)) in
          let none : list_any (is_at b) (take j row) ≡ false = sym (s.seen b bl) ∙ ne_eqb (get_or stamps b 0) (net + 1) (λ m. new (ap (λ x. get_or stamps x 0) e ∙ m)) in
          let any : list_any (is_at b) (take (j + 1) row) ≡ true = one_more row j b t lt is ∙ rw (none, h) refl in
          let r : row_of entries b ≡ row_of before b = s.rows b bl ∙ ap (λ x. row_of before b ++ cond x (net_id net ∷ []) []) none ∙ append-nil (row_of before b) in
          (omega (arith, v), eq-eqb _ _ v ∙ sym any, row_push entries t.block.0 b (net_id net) ∙ ap (λ x. row_of entries b ++ cond x (net_id net ∷ []) []) h ∙ ap (λ xs. xs ++ net_id net ∷ []) r ∙ ap (λ x. row_of before b ++ cond x (net_id net ∷ []) []) (sym any))
      | inr h ↦
          let ne = eqb-false t.block.0 b h in
          let v : get_or (set stamps t.block.0 (net + 1)) b 0 ≡ get_or stamps b 0 = get_or-set_other stamps t.block.0 b (net + 1) 0 (λ e. ne (sym e)) in
          let any : list_any (is_at b) (take (j + 1) row) ≡ list_any (is_at b) (take j row) = one_more row j b t lt is ∙ or_false (list_any (is_at b) (take j row)) (eqb t.block.0 b) h in
          (omega (arith, v, s.upto b bl), ap (λ x. eqb x (net + 1)) v ∙ s.seen b bl ∙ sym any, row_push entries t.block.0 b (net_id net) ∙ ap (λ x. row_of entries b ++ cond x (net_id net ∷ []) []) h ∙ append-nil (row_of entries b) ∙ s.rows b bl ∙ ap (λ x. row_of before b ++ cond x (net_id net ∷ []) []) (sym any))
    ]

-- nets up to one, each on its blocks
pub record Filled (blocks : ℕ) (terminals : List (List Terminal)) (globals : List Bool) (n : ℕ) (entries : List (ℕ × NetId)) (stamps : List ℕ) : Type 0 where
  pub size : length stamps ≡ blocks
  pub upto : All (λ s. s ≤ n) stamps
  pub within : All (λ e. e.0 < blocks) entries
  pub few : length entries ≤ sum_by length (take n terminals)
  pub rows : (b : ℕ) → b < blocks → row_of entries b ≡ map net_id (filter (touches terminals globals b) (range_with_len 0 n))

pub upto_more : (n : ℕ) (stamps : List ℕ) → All (λ s. s ≤ n) stamps → All (λ s. s ≤ n + 1) stamps
upto_more n stamps h = All-weaker (λ s. s ≤ n) (λ s. s ≤ n + 1) (λ s k. omega arith) stamps h

pub range_more : {T : Type 0} (f : ℕ → T) (p : ℕ → Bool) (n : ℕ) → map f (filter p (range_with_len 0 (n + 1))) ≡ map f (filter p (range_with_len 0 n)) ++ cond (p n) (f n ∷ []) []
range_more f p n = ap (λ xs. map f (filter p xs)) (sym (map-id (range_with_len 0 (n + 1))) ∙ map-range_with_len_more (λ x. x) 0 n n (omega arith) ∙ ap (λ xs. xs ++ n ∷ []) (map-id (range_with_len 0 n)))
    ∙ ap (map f) (filter-append p (range_with_len 0 n) (n ∷ [])) ∙ map-append f (filter p (range_with_len 0 n)) (filter p (n ∷ [])) ∙ ap (λ xs. map f (filter p (range_with_len 0 n)) ++ xs) (if_one (p n))
  where
    if_one : (c : Bool) → map f (cond c (n ∷ []) []) ≡ cond c (f n ∷ []) []
    if_one true = refl
    if_one false = refl

-- a global net
pub skipped : (blocks : ℕ) (terminals : List (List Terminal)) (globals : List Bool) (n : ℕ) (entries : List (ℕ × NetId)) (stamps : List ℕ) → n < length terminals → get_or globals n false ≡ true
    → Filled blocks terminals globals n entries stamps → Filled blocks terminals globals (n + 1) entries stamps
skipped blocks terminals globals n entries stamps lt g f =
    record {
      size = f.size;
      upto = upto_more n stamps f.upto;
      within = f.within;
      few = omega (arith, f.few, sum_by_more length terminals n [] lt);
      rows = λ b bl. let no_touch : touches terminals globals b n ≡ false = rw g refl in
          f.rows b bl ∙ sym (range_more net_id (touches terminals globals b) n ∙ ap (λ c. map net_id (filter (touches terminals globals b) (range_with_len 0 n)) ++ cond c (net_id n ∷ []) []) no_touch ∙ append-nil _);
    }

-- another net
pub filled : (blocks : ℕ) (terminals : List (List Terminal)) (globals : List Bool) (n : ℕ) (entries new : List (ℕ × NetId)) (stamps after : List ℕ) → n < length terminals → get_or globals n false ≡ false
    → length after ≡ length stamps → All (λ s. s ≤ n + 1) after → All (λ e. e.0 < blocks) new → length new ≤ length entries + length (get_or terminals n [])
    → ((b : ℕ) → b < blocks → row_of new b ≡ row_of entries b ++ net_where n (get_or terminals n []) b)
    → Filled blocks terminals globals n entries stamps → Filled blocks terminals globals (n + 1) new after
filled blocks terminals globals n entries new stamps after lt g size upto within few rows f =
    record {
      size = size ∙ f.size;
      upto = upto;
      within = within;
      few = omega (arith, f.few, few, sum_by_more length terminals n [] lt);
      rows = λ b bl. let touch : touches terminals globals b n ≡ list_any (is_at b) (get_or terminals n []) = rw g refl in
          rows b bl ∙ ap (λ xs. xs ++ net_where n (get_or terminals n []) b) (f.rows b bl)
          ∙ sym (range_more net_id (touches terminals globals b) n ∙ ap (λ c. map net_id (filter (touches terminals globals b) (range_with_len 0 n)) ++ cond c (net_id n ∷ []) []) touch);
    }

-- once all nets are on their blocks
pub all_filled : (blocks : ℕ) (terminals : List (List Terminal)) (globals : List Bool) (n : ℕ) (entries : List (ℕ × NetId)) (stamps : List ℕ) → n ≡ length terminals → Filled blocks terminals globals n entries stamps
    → rows_of blocks entries ≡ block_nets blocks terminals globals
all_filled blocks terminals globals n entries stamps e f =
    fill_by_all (nets_on terminals globals) (rows_of blocks entries) blocks [] (length-map-range_with_len (row_of entries) 0 blocks)
    (λ b bl. get_or-map-range_with_len (row_of entries) 0 blocks b b [] bl (omega arith) ∙ f.rows b bl ∙ ap (λ k. map net_id (filter (touches terminals globals b) (range_with_len 0 k))) e)

-- before the first net
pub none_filled : (blocks : ℕ) (terminals : List (List Terminal)) (globals : List Bool) (entries : List (ℕ × NetId)) (stamps : List ℕ) → entries ≡ [] → stamps ≡ replicate blocks 0 → Filled blocks terminals globals 0 entries stamps
none_filled blocks terminals globals entries stamps h k =
    rw (h, k) (record {
      size = length-replicate blocks 0;
      upto = All-replicate (λ s. s ≤ 0) blocks 0 (omega arith);
      within = All-nil (λ (e : ℕ × NetId). e.0 < blocks);
      few = omega arith;
      rows = λ b bl. refl;
    })
