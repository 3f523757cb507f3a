-- What a check reports (our own): the size of the design and its array, and the cost of the placement.
use Rattle.std.specs.Prelude.{ℕ, ◌≡◌, List, ◌++◌, decimal, codes, refl}
use Rattle.std.specs.Fmt.{digits}
use Rattle.fab_text.specs.Fixed.{fixed4}
use Rattle.fab_arch.specs.Grid.{GridShape, shape}

-- `legal B blocks on a NX x NY array` and `cost C`, the cost in ten-thousandths
abbrev pub check_report : ℕ → GridShape → ℕ → List ℕ
check_report blocks g cost =
    codes "legal " ++ decimal blocks ++ codes " blocks on a " ++ decimal g.nx ++ codes " x " ++ decimal g.ny ++ codes " array\n"
    ++ (codes "cost " ++ fixed4 cost ++ codes "\n")

pub report_of_four_blocks : check_report 4 (shape 3 3 2) 64968 ≡ codes "legal 4 blocks on a 3 x 3 array\ncost 6.4968\n"
unfolding digits
report_of_four_blocks = refl
