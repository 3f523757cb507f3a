-- The blocks that may move, in ascending order (our own). A random word picks a rank among them.
use Rattle.std.specs.Prelude.{ℕ, ◌≡◌, Bool, not, filter, List, [], ◌∷◌, is_some, Option, Some, None, refl}
use Rattle.std.specs.List.{range_with_len}
use Rattle.fab_arch.specs.declared.array.Site.{Site}
use Rattle.fab_site.specs.Placement.{fixed_at, site}

-- the block is not fixed
abbrev pub is_free : List (Option Site) → ℕ → Bool
is_free fixed b = not (is_some (fixed_at fixed b))

-- the blocks below `n` that are not fixed
abbrev pub free_below : List (Option Site) → ℕ → List ℕ
free_below fixed n = filter (is_free fixed) (range_with_len 0 n)

pub all_but_the_second : free_below (None ∷ Some (site 1 1 0) ∷ []) 4 ≡ 0 ∷ 2 ∷ 3 ∷ []
all_but_the_second = refl
