-- Examples of the definitions, on small lists.
use Rattle.std.specs.Prelude.{◌≡◌, ℕ, ◌+◌, List, [], ◌∷◌, true, false, Some, None, refl}
use Rattle.fab_board.specs.Counts.{times, once_below}
use Rattle.fab_board.specs.Views.{BoardName, all_numbers}
use Rattle.logbook.specs.Pages.{Book}
use Rattle.fab_board.specs.Follows.{followed}
use Rattle.fab_board.specs.Posts.{IsKept, head_of, latest}

pub twice_in_three : times 2 (2 ∷ 3 ∷ 2 ∷ []) ≡ 2
twice_in_three = refl

pub below_three : once_below 2 3 ≡ 1
below_three = refl

pub not_below_three : once_below 3 3 ≡ 0
not_below_three = refl

-- one seat was given 0 and 2 and then found none left, the other was given 1: together 0, 2, 1
pub two_seats : (b : BoardName) → all_numbers (record { board = b; list = 0 ∷ 2 ∷ []; told = true } ∷ record { board = b; list = 1 ∷ []; told = false } ∷ []) ≡ 0 ∷ 2 ∷ 1 ∷ []
two_seats b = refl

-- the last of two that were posted
pub last_of_two : latest {E = ℕ} (3 ∷ 8 ∷ []) ≡ Some 8
last_of_two = refl

pub last_of_none : latest {E = ℕ} [] ≡ None
last_of_none = refl

-- threads share a book's first word
pub first_word : (b : Book) → (head_of b).key ≡ 0
first_word b = refl

-- two posts were entered, so the word is 2
pub two_posted : IsKept {E = ℕ} ((2, true) ∷ (0, true) ∷ []) (3 ∷ 8 ∷ [])
two_posted = refl

-- a state that adds up what is posted, from 1 on
pub a_sum_that_follows : followed {S = ℕ} {E = ℕ} (λ s e. s + e) 1 (3 ∷ 8 ∷ []) ≡ 12
a_sum_that_follows = refl

-- a state that keeps the posts, the last one first: they are followed in their order
pub followed_in_order : followed {S = List ℕ} {E = ℕ} (λ s e. e ∷ s) [] (3 ∷ 8 ∷ []) ≡ 8 ∷ 3 ∷ []
followed_in_order = refl
