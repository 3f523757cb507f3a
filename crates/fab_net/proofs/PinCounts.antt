-- How many pins of a block are on a net, one terminal on.
use Rattle.std.proofs.Common.{◌≡◌, ◌≢◌, ℕ, ◌+◌, ◌<◌, ◌≤◌, Bool, true, false, cond, eqb, List, [], ◌∷◌, ◌++◌, length, map, get_or, set, take, replicate, refl, sym, ap, ◌∙◌, arith, inl, inr}
use Rattle.std.proofs.lemmas.List.{append-nil, length-replicate, length-set, length_push, get_or-set_same, get_or-set_other, take_all, get_or-replicate}
use Rattle.std.proofs.lemmas.List.Elements.{All-push, All-nil}
use Rattle.std.proofs.lemmas.List.FromFn.{fill_by_all, length-map-range_with_len, get_or-map-range_with_len}
use Rattle.std.proofs.lemmas.List.Sums.{sum_by-cons, sum_by_more, sum_by_more_le, count_by-le-length}
use Rattle.std.proofs.lemmas.Bool.{cases_Bool, or_parts, eqb-true, eqb-false, eq-eqb}
use Rattle.std.specs.Prelude.{filter}
use Rattle.std.specs.List.{All, list_any, range_with_len, sum_by}
use Rattle.fab_net.specs.declared.netlist_types.Terminal.{Terminal}
use Rattle.fab_net.specs.Rows.{row_of, rows_of}
use Rattle.fab_net.specs.BlockNets.{is_at, touches, pins_at, pins_of, pins_on, pins_where, block_pins}
use Rattle.fab_net.proofs.Stamps.{one_more, true_or, or_false, row_push, range_more}

pins_more : (row : List Terminal) (j b : ℕ) (t : Terminal) → j < length row → t ≡ get_or row j t → pins_at b (take (j + 1) row) ≡ pins_at b (take j row) + cond (eqb t.block.0 b) 1 0
pins_more row j b t lt is =
    sum_by_more (λ (x : Terminal). cond (is_at b x) 1 0) row j t lt
    ∙ ap (λ (x : Terminal). pins_at b (take j row) + cond (is_at b x) 1 0) (sym is)

pub pins_few : (b : ℕ) (row : List Terminal) → pins_at b row ≤ length row
pins_few b row = count_by-le-length (is_at b) row

-- the counts after the first `j` terminals
pub record Counting (blocks : ℕ) (row : List Terminal) (j : ℕ) (counts : List ℕ) : Type 0 where
  pub size : length counts ≡ blocks
  pub each : (b : ℕ) → b < blocks → get_or counts b 0 ≡ pins_at b (take j row)

pub one_counted : (blocks : ℕ) (row : List Terminal) (j : ℕ) (counts : List ℕ) (t : Terminal) → j < length row → t ≡ get_or row j t → t.block.0 < blocks → Counting blocks row j counts
    → Counting blocks row (j + 1) (set counts t.block.0 (get_or counts t.block.0 0 + 1))
one_counted blocks row j counts t lt is k c =
    record {
      size = length-set counts t.block.0 (get_or counts t.block.0 0 + 1) ∙ c.size;
      each = λ b bl. at b bl;
    }
  where
    at : (b : ℕ) → b < blocks → get_or (set counts t.block.0 (get_or counts t.block.0 0 + 1)) b 0 ≡ pins_at b (take (j + 1) row)
    at b bl = elim (cases_Bool (eqb t.block.0 b)) [
      | inl h ↦
          let e : t.block.0 ≡ b = eqb-true t.block.0 b h in
          let v : get_or (set counts t.block.0 (get_or counts t.block.0 0 + 1)) b 0 ≡ get_or counts b 0 + 1 =
          ap (λ x. get_or (set counts x (get_or counts x 0 + 1)) b 0) e ∙ get_or-set_same counts b (get_or counts b 0 + 1) 0 (omega (arith, c.size)) in
          let m : pins_at b (take (j + 1) row) ≡ pins_at b (take j row) + 1 = pins_more row j b t lt is ∙ (λ i. pins_at b (take j row) + cond (h i) 1 0) in
          omega (arith, v, m, c.each b bl)
      | inr h ↦
          let ne = eqb-false t.block.0 b h in
          let v : get_or (set counts t.block.0 (get_or counts t.block.0 0 + 1)) b 0 ≡ get_or counts b 0 = get_or-set_other counts t.block.0 b (get_or counts t.block.0 0 + 1) 0 (λ e. ne (sym e)) in
          let m : pins_at b (take (j + 1) row) ≡ pins_at b (take j row) + 0 = pins_more row j b t lt is ∙ (λ i. pins_at b (take j row) + cond (h i) 1 0) in
          omega (arith, v, m, c.each b bl)
    ]

-- what holds after the counts of the first `j` terminals' blocks were taken
pub record Taking (blocks : ℕ) (row : List Terminal) (j : ℕ) (before entries : List (ℕ × ℕ)) (counts : List ℕ) : Type 0 where
  pub size : length counts ≡ blocks
  pub left : (b : ℕ) → b < blocks → get_or counts b 0 ≡ cond (list_any (is_at b) (take j row)) 0 (pins_at b row)
  pub within : All (λ e. e.0 < blocks) entries
  pub few : length entries ≤ length before + j
  pub rows : (b : ℕ) → b < blocks → row_of entries b ≡ row_of before b ++ cond (list_any (is_at b) (take j row)) (pins_at b row ∷ []) []

pub none_taken : (blocks : ℕ) (terminals : List Terminal) (before : List (ℕ × ℕ)) (counts : List ℕ) → length counts ≡ blocks → ((b : ℕ) → b < blocks → get_or counts b 0 ≡ pins_at b terminals) → All (λ e. e.0 < blocks) before → Taking blocks terminals 0 before before counts
none_taken blocks terminals before counts size counted within =
    record { size = size; left = counted; within = within; few = omega arith; rows = λ b bl. sym (append-nil (row_of before b)) }

here : (row : List Terminal) (j : ℕ) (t : Terminal) → j < length row → t ≡ get_or row j t → 0 < pins_at t.block.0 row
here row j t lt is =
    let le = sum_by_more_le (λ (x : Terminal). cond (is_at t.block.0 x) 1 0) row j t lt in
    let one : ◌≡◌ {A = ℕ} (cond (is_at t.block.0 (get_or row j t)) 1 0) 1 = (λ i. cond (is_at t.block.0 (sym is i)) 1 0) ∙ (λ i. cond (eq-eqb t.block.0 t.block.0 refl i) 1 0) in
    omega (arith, le, one)

pub absent : (b : ℕ) (row : List Terminal) → list_any (is_at b) row ≡ false → pins_at b row ≡ 0
absent b [] h = refl
absent b (t ∷ ts) h =
    let p = or_parts (is_at b t) (list_any (is_at b) ts) h in
    let c = sum_by-cons (λ (x : Terminal). cond (is_at b x) 1 0) t ts in
    let z : ◌≡◌ {A = ℕ} (cond (is_at b t) 1 0) 0 = λ i. cond (p.0 i) 1 0 in
    omega (arith, c, z, absent b ts p.1)

-- a terminal on a block whose count was taken
pub passed : (blocks : ℕ) (row : List Terminal) (j : ℕ) (before entries : List (ℕ × ℕ)) (counts : List ℕ) (t : Terminal) → j < length row → t ≡ get_or row j t → t.block.0 < blocks
    → get_or counts t.block.0 0 ≡ 0 → Taking blocks row j before entries counts → Taking blocks row (j + 1) before entries counts
passed blocks row j before entries counts t lt is k zero s =
    record {
      size = s.size;
      left = λ b bl. s.left b bl ∙ ap (λ x. cond x 0 (pins_at b row)) (sym (same b bl));
      within = s.within;
      few = omega (arith, s.few);
      rows = λ b bl. s.rows b bl ∙ ap (λ x. row_of before b ++ cond x (pins_at b row ∷ []) []) (sym (same b bl));
    }
  where
    met : list_any (is_at t.block.0) (take j row) ≡ true
    met = elim (cases_Bool (list_any (is_at t.block.0) (take j row))) [
      | inl y ↦ y
      | inr n ↦
          let v : get_or counts t.block.0 0 ≡ pins_at t.block.0 row = s.left t.block.0 k ∙ (λ i. cond (n i) 0 (pins_at t.block.0 row)) in
          absurd (omega (arith, v, zero, here row j t lt is))
    ]

    same : (b : ℕ) → b < blocks → list_any (is_at b) (take (j + 1) row) ≡ list_any (is_at b) (take j row)
    same b bl = elim (cases_Bool (eqb t.block.0 b)) [
      | inl h ↦
          let e : t.block.0 ≡ b = eqb-true t.block.0 b h in
          let m : list_any (is_at b) (take j row) ≡ true = ap (λ x. list_any (is_at x) (take j row)) (sym e) ∙ met in
          one_more row j b t lt is ∙ true_or (list_any (is_at b) (take j row)) (eqb t.block.0 b) m ∙ sym m
      | inr h ↦ one_more row j b t lt is ∙ or_false (list_any (is_at b) (take j row)) (eqb t.block.0 b) h
    ]

-- a terminal on a block whose count was not
pub taken : (blocks : ℕ) (row : List Terminal) (j : ℕ) (before entries : List (ℕ × ℕ)) (counts : List ℕ) (t : Terminal) → j < length row → t ≡ get_or row j t → t.block.0 < blocks
    → get_or counts t.block.0 0 ≢ 0 → Taking blocks row j before entries counts → Taking blocks row (j + 1) before (entries ++ (t.block.0, get_or counts t.block.0 0) ∷ []) (set counts t.block.0 0)
taken blocks row j before entries counts t lt is k some s =
    record {
      size = length-set counts t.block.0 0 ∙ s.size;
      left = λ b bl. (at b bl).0;
      within = All-push (λ (e : ℕ × ℕ). e.0 < blocks) entries (t.block.0, get_or counts t.block.0 0) s.within k;
      few = omega (arith, s.few, length_push entries (t.block.0, get_or counts t.block.0 0));
      rows = λ b bl. (at b bl).1;
    }
  where
    none : list_any (is_at t.block.0) (take j row) ≡ false
    none = elim (cases_Bool (list_any (is_at t.block.0) (take j row))) [
      | inl y ↦ absurd (some (s.left t.block.0 k ∙ (λ i. cond (y i) 0 (pins_at t.block.0 row))))
      | inr n ↦ n
    ]

    at : (b : ℕ) → b < blocks
        → (get_or (set counts t.block.0 0) b 0 ≡ cond (list_any (is_at b) (take (j + 1) row)) 0 (pins_at b row))
        × (row_of (entries ++ (t.block.0, get_or counts t.block.0 0) ∷ []) b ≡ row_of before b ++ cond (list_any (is_at b) (take (j + 1) row)) (pins_at b row ∷ []) [])
    at b bl = elim (cases_Bool (eqb t.block.0 b)) [
      | inl h ↦
          let e : t.block.0 ≡ b = eqb-true t.block.0 b h in
          let v : get_or (set counts t.block.0 0) b 0 ≡ 0 = ap (λ x. get_or (set counts x 0) b 0) e ∙ get_or-set_same counts b 0 0 (omega (arith, s.size)) in
          let no : list_any (is_at b) (take j row) ≡ false = ap (λ x. list_any (is_at x) (take j row)) (sym e) ∙ none in
          let any : list_any (is_at b) (take (j + 1) row) ≡ true = one_more row j b t lt is ∙ rw (no, h) refl in
          let r : row_of entries b ≡ row_of before b = s.rows b bl ∙ ap (λ x. row_of before b ++ cond x (pins_at b row ∷ []) []) no ∙ append-nil (row_of before b) in
          let count : get_or counts t.block.0 0 ≡ pins_at b row = ap (λ x. get_or counts x 0) e ∙ s.left b bl ∙ (λ i. cond (no i) 0 (pins_at b row)) in (
            v ∙ (λ i. cond (sym any i) 0 (pins_at b row)),
            row_push entries t.block.0 b (get_or counts t.block.0 0) ∙ ap (λ x. row_of entries b ++ cond x (get_or counts t.block.0 0 ∷ []) []) h ∙ (λ i. r i ++ count i ∷ []) ∙ ap (λ x. row_of before b ++ cond x (pins_at b row ∷ []) []) (sym any),
          )
      | inr h ↦
          let ne = eqb-false t.block.0 b h in
          let v : get_or (set counts t.block.0 0) b 0 ≡ get_or counts b 0 = get_or-set_other counts t.block.0 b 0 0 (λ e. ne (sym e)) in
          let any : list_any (is_at b) (take (j + 1) row) ≡ list_any (is_at b) (take j row) = one_more row j b t lt is ∙ or_false (list_any (is_at b) (take j row)) (eqb t.block.0 b) h in (
            v ∙ s.left b bl ∙ (λ i. cond (sym any i) 0 (pins_at b row)),
            row_push entries t.block.0 b (get_or counts t.block.0 0) ∙ ap (λ x. row_of entries b ++ cond x (get_or counts t.block.0 0 ∷ []) []) h ∙ append-nil (row_of entries b) ∙ s.rows b bl ∙ ap (λ x. row_of before b ++ cond x (pins_at b row ∷ []) []) (sym any),
          )
    ]

-- once all terminals were passed, nothing is counted
pub all_taken : (blocks : ℕ) (row : List Terminal) (j : ℕ) (before entries : List (ℕ × ℕ)) (counts : List ℕ) → length row ≤ j → Taking blocks row j before entries counts → (b : ℕ) → b < blocks → get_or counts b 0 ≡ 0
all_taken blocks row j before entries counts le s b bl =
    let all : take j row ≡ row = take_all j row le in
    let v : get_or counts b 0 ≡ cond (list_any (is_at b) row) 0 (pins_at b row) = s.left b bl ∙ ap (λ x. cond (list_any (is_at b) x) 0 (pins_at b row)) all in
    elim (cases_Bool (list_any (is_at b) row)) [
      | inl y ↦ v ∙ (λ i. cond (y i) 0 (pins_at b row))
      | inr n ↦ v ∙ (λ i. cond (n i) 0 (pins_at b row)) ∙ absent b row n
    ]

pub all_rows : (blocks : ℕ) (row : List Terminal) (j : ℕ) (before entries : List (ℕ × ℕ)) (counts : List ℕ) → length row ≤ j → Taking blocks row j before entries counts → (b : ℕ) → b < blocks → row_of entries b ≡ row_of before b ++ pins_where row b
all_rows blocks row j before entries counts le s b bl = s.rows b bl ∙ ap (λ x. row_of before b ++ cond (list_any (is_at b) x) (pins_at b row ∷ []) []) (take_all j row le)

-- the counts of the nets up to one
pub record Gathered (blocks : ℕ) (terminals : List (List Terminal)) (globals : List Bool) (n : ℕ) (entries : List (ℕ × ℕ)) (counts : List ℕ) : Type 0 where
  pub size : length counts ≡ blocks
  pub none : (b : ℕ) → b < blocks → get_or counts b 0 ≡ 0
  pub within : All (λ e. e.0 < blocks) entries
  pub few : length entries ≤ sum_by length (take n terminals)
  pub rows : (b : ℕ) → b < blocks → row_of entries b ≡ map (pins_of terminals b) (filter (touches terminals globals b) (range_with_len 0 n))

-- a global net
pub skipped : (blocks : ℕ) (terminals : List (List Terminal)) (globals : List Bool) (n : ℕ) (entries : List (ℕ × ℕ)) (counts : List ℕ) → n < length terminals → get_or globals n false ≡ true
    → Gathered blocks terminals globals n entries counts → Gathered blocks terminals globals (n + 1) entries counts
skipped blocks terminals globals n entries counts lt g f =
    record {
      size = f.size;
      none = f.none;
      within = f.within;
      few = omega (arith, f.few, sum_by_more length terminals n [] lt);
      rows = λ b bl. let no_touch : touches terminals globals b n ≡ false = rw g refl in
          f.rows b bl ∙ sym (range_more (pins_of terminals b) (touches terminals globals b) n ∙ ap (λ c. map (pins_of terminals b) (filter (touches terminals globals b) (range_with_len 0 n)) ++ cond c (pins_of terminals b n ∷ []) []) no_touch ∙ append-nil _);
    }

-- another net
pub gathered : (blocks : ℕ) (terminals : List (List Terminal)) (globals : List Bool) (n : ℕ) (entries new : List (ℕ × ℕ)) (counts after : List ℕ) → n < length terminals → get_or globals n false ≡ false
    → length after ≡ length counts → ((b : ℕ) → b < blocks → get_or after b 0 ≡ 0) → All (λ e. e.0 < blocks) new → length new ≤ length entries + length (get_or terminals n [])
    → ((b : ℕ) → b < blocks → row_of new b ≡ row_of entries b ++ pins_where (get_or terminals n []) b)
    → Gathered blocks terminals globals n entries counts → Gathered blocks terminals globals (n + 1) new after
gathered blocks terminals globals n entries new counts after lt g size none within few rows f =
    record {
      size = size ∙ f.size;
      none = none;
      within = within;
      few = omega (arith, f.few, few, sum_by_more length terminals n [] lt);
      rows = λ b bl. let touch : touches terminals globals b n ≡ list_any (is_at b) (get_or terminals n []) = rw g refl in
          rows b bl ∙ ap (λ xs. xs ++ pins_where (get_or terminals n []) b) (f.rows b bl)
          ∙ sym (range_more (pins_of terminals b) (touches terminals globals b) n ∙ ap (λ c. map (pins_of terminals b) (filter (touches terminals globals b) (range_with_len 0 n)) ++ cond c (pins_of terminals b n ∷ []) []) touch);
    }

-- once all nets were counted
pub all_gathered : (blocks : ℕ) (terminals : List (List Terminal)) (globals : List Bool) (n : ℕ) (entries : List (ℕ × ℕ)) (counts : List ℕ) → n ≡ length terminals → Gathered blocks terminals globals n entries counts
    → rows_of blocks entries ≡ block_pins blocks terminals globals
all_gathered blocks terminals globals n entries counts e f =
    fill_by_all (pins_on terminals globals) (rows_of blocks entries) blocks [] (length-map-range_with_len (row_of entries) 0 blocks)
    (λ b bl. get_or-map-range_with_len (row_of entries) 0 blocks b b [] bl (omega arith) ∙ f.rows b bl ∙ ap (λ k. map (pins_of terminals b) (filter (touches terminals globals b) (range_with_len 0 k))) e)

-- before the first net
pub none_gathered : (blocks : ℕ) (terminals : List (List Terminal)) (globals : List Bool) (entries : List (ℕ × ℕ)) (counts : List ℕ) → entries ≡ [] → counts ≡ replicate blocks 0 → Gathered blocks terminals globals 0 entries counts
none_gathered blocks terminals globals entries counts h k =
    rw (h, k) (record {
      size = length-replicate blocks 0;
      none = λ b bl. get_or-replicate blocks b 0 0 bl;
      within = All-nil (λ (e : ℕ × ℕ). e.0 < blocks);
      few = omega arith;
      rows = λ b bl. refl;
    })
