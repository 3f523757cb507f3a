-- When a mark was last touched (our own).
use Rattle.std.specs.Prelude.{ℕ, ◌≡◌, ◌+◌, ◌<◌, max, Bool, if◌then◌else◌, nat_lt, List, [], ◌∷◌}
use Rattle.std.specs.List.{list_any}
use Rattle.fab_arch.specs.Grid.{GridShape}
use Rattle.fab_move.specs.declared.marks.Mark.{Mark}
use Rattle.fab_move.specs.declared.stamps.Stamps.{Stamps}
use Rattle.fab_move.specs.StampTables.{kept_stamp}
use Rattle.fab_net.specs.Netlist.{Netlist}
use Rattle.fab_move.specs.Judge.{has_mark, touched}
use Rattle.fab_commit.specs.declared.run.swaps.Accepted.{Accepted}

-- one more than the number of the last accepted move that touched the mark, or 0
abbrev pub stamp : Netlist → List Accepted → Mark → ℕ
stamp d [] m = 0
stamp d (a ∷ rest) m = max (if has_mark m (touched d a.swap) then a.number + 1 else 0) (stamp d rest m)

-- whether move `base` or a later one touched one of the marks
abbrev pub is_stamped : Netlist → List Accepted → ℕ → List Mark → Bool
is_stamped d log base marks = list_any (λ m. nat_lt base (stamp d log m)) marks

-- the accepted moves have smaller numbers
abbrev pub AreBefore : ℕ → List Accepted → Type 0
AreBefore n [] = Unit {0}
AreBefore n (a ∷ rest) = (a.number < n) × AreBefore n rest

-- each mark has the stamp of these accepted swaps
abbrev pub AreStamps : Netlist → GridShape → Stamps → List Accepted → Type 0
AreStamps d g s log = (m : Mark) → kept_stamp g s m ≡ stamp d log m
