-- The positions near a pad: one run on each side of the array (our own).
use Rattle.std.specs.Prelude.{ℕ, ◌≡◌, ◌+◌, List, [], ◌∷◌, ◌++◌, map, reverse, refl}
use Rattle.std.specs.List.{range_with_len}
use Rattle.fab_move.specs.declared.pad_runs.Run.{Run}
use Rattle.fab_move.specs.declared.pad_runs.Window.{Window}

-- the numbers of a run
abbrev pub numbers : Run → List ℕ
numbers r = range_with_len r.first r.count

-- the positions with these coordinates: up the left side, along the top, down the right side and back along the bottom
abbrev pub side_by_side : ℕ → ℕ → List ℕ → List ℕ → List ℕ → List ℕ → List (ℕ × ℕ)
side_by_side nx ny left top right bottom =
    map (λ i. (0, i)) left
    ++ map (λ i. (i, ny + 1)) top
    ++ reverse (map (λ i. (nx + 1, i)) right)
    ++ reverse (map (λ i. (i, 0)) bottom)

-- the pad positions of a window, in perimeter order
abbrev pub positions : Window → List (ℕ × ℕ)
positions w = side_by_side w.nx w.ny (numbers w.left) (numbers w.top) (numbers w.right) (numbers w.bottom)

pub round_a_corner : side_by_side 2 2 (1 ∷ 2 ∷ []) [] [] (1 ∷ 2 ∷ []) ≡ (0, 1) ∷ (0, 2) ∷ (2, 0) ∷ (1, 0) ∷ []
round_a_corner = refl
