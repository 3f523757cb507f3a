-- What a run reports (our own): the design and its array, the cost at the start, a line for each stage as it ends, and the
-- cost and the accepted moves in all. Costs and temperatures are in ten-thousandths, ranges in thousandths.
use Rattle.std.specs.Prelude.{ℕ, ◌≡◌, if◌then◌else◌, ◌==◌, List, [], ◌∷◌, ◌++◌, length, decimal, codes, refl}
use Rattle.std.specs.Fmt.{digits}
use Rattle.fab_text.specs.Fixed.{fixed3, fixed4}
use Rattle.fab_arch.specs.Grid.{GridShape, shape}
use Rattle.fab_net.specs.declared.netlist_types.BlockKind.TheVariants.{InputPad, OutputPad, Logic}
use Rattle.fab_net.specs.Netlist.{Netlist, logic_count, pad_count}

-- `blocks B logic L pads P nets N`
abbrev pub design_text : Netlist → List ℕ
design_text d =
    codes "blocks " ++ decimal (length d.kinds) ++ codes " logic " ++ decimal (logic_count d) ++ codes " pads " ++ decimal (pad_count d)
    ++ codes " nets " ++ decimal (length d.terminals)

-- ` array NX x NY`, which ends the report's first line
abbrev pub array_text : GridShape → List ℕ
array_text g = codes " array " ++ decimal g.nx ++ codes " x " ++ decimal g.ny ++ codes "\n"

-- `blocks B logic L pads P nets N array NX x NY`; global nets count too
abbrev pub blocks_line : Netlist → GridShape → List ℕ
blocks_line d g = design_text d ++ array_text g

-- `start cost C`
abbrev pub start_line : ℕ → List ℕ
start_line cost = codes "start cost " ++ fixed4 cost ++ codes "\n"

-- `stage I t T`, or `frozen` for the stage at temperature 0
abbrev pub stage_name : ℕ → ℕ → List ℕ
stage_name index t = if t == 0 then codes "frozen" else (codes "stage " ++ decimal index ++ codes " t " ++ fixed4 t)

-- the line of a stage that ended: its name, then ` range R moves M accepted S cost C`, with the range that the stage used
abbrev pub stage_line : ℕ → ℕ → ℕ → ℕ → ℕ → ℕ → List ℕ
stage_line index t range moves accepted cost =
    stage_name index t ++ codes " range " ++ fixed3 range ++ codes " moves " ++ decimal moves ++ codes " accepted " ++ decimal accepted
    ++ codes " cost " ++ fixed4 cost ++ codes "\n"

-- `final cost C accepted A of K`
abbrev pub final_line : ℕ → ℕ → ℕ → List ℕ
final_line cost accepted moves = codes "final cost " ++ fixed4 cost ++ codes " accepted " ++ decimal accepted ++ codes " of " ++ decimal moves ++ codes "\n"

abbrev three_blocks : Netlist
three_blocks = record {
  kinds = InputPad ∷ OutputPad ∷ Logic ∷ [];
  names = codes "a" ∷ codes "z" ∷ codes "b" ∷ [];
  terminals = [] ∷ [] ∷ [];
  globals = [];
}

pub blocks_of_an_example : blocks_line three_blocks (shape 1 1 1) ≡ codes "blocks 3 logic 1 pads 2 nets 2 array 1 x 1\n"
unfolding digits
blocks_of_an_example = refl

pub a_hot_stage : stage_line 1 50000 1000 3 0 40000 ≡ codes "stage 1 t 5.0000 range 1.000 moves 3 accepted 0 cost 4.0000\n"
unfolding digits
a_hot_stage = refl

pub a_frozen_stage : stage_line 4 0 1000 3 0 40000 ≡ codes "frozen range 1.000 moves 3 accepted 0 cost 4.0000\n"
unfolding digits
a_frozen_stage = refl

pub the_end_of_an_example : final_line 40000 0 15 ≡ codes "final cost 4.0000 accepted 0 of 15\n"
unfolding digits
the_end_of_an_example = refl
