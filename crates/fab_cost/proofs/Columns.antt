-- Starts by kind, out of one table.
use Rattle.std.proofs.Common.{◌≡◌, ℕ, ◌+◌, ◌-◌, ◌<◌, List, [], length, get_or, sym, subst, ap, ◌∙◌, arith}
use Rattle.std.proofs.lemmas.List.{get_or-map, length-map}
use Rattle.std.proofs.lemmas.List.FromFn.{length-map-range_with_len}
use Rattle.fab_net.specs.Rows.{cut_at, cuts}
use Rattle.fab_cost.specs.SizedRows.{AreStarts, column}

-- the start of a row of one kind
pub column_at : (kind : ℕ) (starts : List (List ℕ)) (r : ℕ) → r < length starts → get_or (column kind starts) r 0 ≡ get_or (get_or starts r []) kind 0
column_at kind starts r lt = get_or-map (λ four. get_or four kind 0) starts r [] 0 lt

-- rows have one start more
pub starts_long : {T : Type 0} (rows : List (List T)) (starts : List ℕ) (items : List T) → rows ≡ cuts starts items → 0 < length starts → length starts ≡ length rows + 1
starts_long rows starts items is some =
    let n : length rows ≡ length starts - 1 = ap length is ∙ length-map-range_with_len (cut_at starts items) 0 (length starts - 1) in
    omega (arith, n, some)

-- as many rows have as many starts
pub as_long : {S T : Type 0} (rows : List (List T)) (own : List (List S)) (starts firsts shown first : List ℕ) (items : List T) (others : List S) → rows ≡ cuts starts items → own ≡ cuts firsts others → 0 < length starts → 0 < length firsts → length rows ≡ length own → shown ≡ starts → first ≡ firsts → length shown ≡ length first
as_long {S = S} {T = T} rows own starts firsts shown first items others is are some any same seen told =
    let a = starts_long {T = T} rows starts items is some in
    let b = starts_long {T = S} own firsts others are any in
    omega (arith, a, b, same, ap length seen, ap length told)

-- a column that is the starts of some items
pub fits : {T : Type 0} (kind : ℕ) (table : List (List ℕ)) (shown own : List ℕ) (items : List T) → column kind table ≡ shown → shown ≡ own → AreStarts own items → AreStarts (column kind table) items
fits kind table shown own items is seen h = subst (λ s. AreStarts s items) (sym (is ∙ seen)) h

-- a column is as long as its table
pub some_starts : (kind : ℕ) (table : List (List ℕ)) (shown own : List ℕ) → column kind table ≡ shown → shown ≡ own → 0 < length own → 0 < length table
some_starts kind table shown own is seen some =
    let a = length-map table (λ four. get_or four kind 0) in
    let b = ap length (is ∙ seen) in
    omega (arith, a, b, some)
