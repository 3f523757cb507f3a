-- The memory of the point at which a piece may end.
use Rattle.std.proofs.Common.{◌≡◌, ℕ, ◌+◌, true, Option, Some, None, is_some, refl, sym, ap, subst, ◌∙◌, ◌⊎◌, inl, inr}
use Rattle.fab_site.specs.Placement.{fixed_at}
use Rattle.fab_commit.specs.declared.run.point.Point.{Point}
use Rattle.fab_commit.specs.Serial.{Run, Standing, from}
use Rattle.fab_commit.specs.Run.Commits.{AnnealOf, IsSameRun}
use Rattle.fab_commit.specs.Run.Points.{IsPoint}
use Rattle.fab_run.specs.Ends.{IsPiece, IsRoomFor}
use Rattle.fab_run.proofs.Pieces.{from_still}

-- the memory serves the same run later, too
pub room_later : {W : Type 0} (a b : AnnealOf W) (room : Option Point) → IsSameRun a b → IsRoomFor a room → IsRoomFor b room
room_later a b None same h = tt
room_later a b (Some q) same h = (
  subst (λ d. IsPoint d b.grid q) (sym same.design) (subst (λ g. IsPoint a.design g q) (sym same.grid) h.0),
  λ k. h.1 k ∙ ap (λ f. fixed_at f k) (sym same.fixed),
)

-- a piece without a stop ends with the run
no_stop : (r : Run) (x : Standing) (stop : Option ℕ) (n : ℕ) → stop ≡ None → IsPiece r x stop n → (from r x n).heat ≡ None
no_stop r x stop n none (inl s) = absurd (let k : None ≡ Some (x.done + n) = sym none ∙ s.here in cc)
no_stop r x stop n none (inr e) = e.over

-- where there is no such memory the run is over at the end of the piece
pub over_without : (r : Run) (x y : Standing) (stop : Option ℕ) (n : ℕ) → IsPiece r x stop n → y ≡ from r x n → (stop ≡ None) ⊎ (x.heat ≡ None) → y.heat ≡ None
over_without r x y stop n piece there (inl none) = ap (λ (z : Standing). z.heat) there ∙ no_stop r x stop n none piece
over_without r x y stop n piece there (inr over) = ap (λ (z : Standing). z.heat) (there ∙ from_still r x n over) ∙ over
