-- A netlist, as contracts see a design (VPR manual): blocks by number, and nets by number with a terminal for each pin on them. The limits
-- are our own.
use Rattle.std.specs.Prelude.{ℕ, ◌≡◌, ◌≤◌, ◌<◌, Bool, true, false, not, ◌==◌, List, [], ◌∷◌, map, filter, count_by, length, slice_index_or, codes, refl}
use Rattle.std.proofs.Common.{zero, suc, arith, lit<, lit≤}
use Rattle.std.specs.List.{range_with_len, list_any, sum_by}
use Rattle.fab_text.specs.LineWords.{AreWords}
use Rattle.fab_net.specs.declared.netlist_types.BlockKind.{BlockKind}
use Rattle.fab_net.specs.declared.netlist_types.BlockKind.TheVariants.{InputPad, OutputPad, Logic}
use Rattle.fab_net.specs.declared.netlist_types.Terminal.{Terminal}
use Rattle.fab_net.specs.Names.{AllDistinct}

-- each block's kind and name, and each net's terminals and whether it is global
pub record Netlist : Type 0 where
  pub kinds : List BlockKind
  pub names : List (List ℕ)
  pub terminals : List (List Terminal)
  pub globals : List Bool

-- a net, as placement sees it: the block of each terminal. A block may occur more than once
pub record Net : Type 0 where
  pub global : Bool
  pub blocks : List ℕ

-- the block of a terminal
abbrev pub block_on : Terminal → ℕ
block_on t = t.block.0

-- the net with number `n`; if there is none, a global net without terminals
abbrev pub net_at : Netlist → ℕ → Net
net_at d n = record { global = slice_index_or d.globals n true; blocks = map block_on (slice_index_or d.terminals n []) }

-- the numbers of the nets that count for placement: all that are not global
abbrev pub counted : Netlist → List ℕ
counted d = filter (λ n. not (net_at d n).global) (range_with_len 0 (length d.terminals))

-- whether the number `n` is among `xs`
abbrev pub has_number : ℕ → List ℕ → Bool
has_number n xs = list_any (λ x. n == x) xs

-- the nets that count and have a terminal on the block, ascending
abbrev pub nets_of : Netlist → ℕ → List ℕ
nets_of d b = filter (λ n. has_number b (net_at d n).blocks) (counted d)

-- how many pins of a block are on a net
abbrev pub pin_count : Netlist → ℕ → ℕ → ℕ
pin_count d b n = count_by (λ c. c == b) (net_at d n).blocks

-- a logic block, not a pad
abbrev pub is_logic : BlockKind → Bool
is_logic InputPad = false
is_logic OutputPad = false
is_logic Logic = true

-- whether block `b` is a logic block and not a pad (if there is no block `b`, true)
abbrev pub is_logic_at : Netlist → ℕ → Bool
is_logic_at d b = is_logic (slice_index_or d.kinds b Logic)

-- how many logic blocks there are
abbrev pub logic_count : Netlist → ℕ
logic_count d = count_by is_logic d.kinds

-- how many pads there are
abbrev pub pad_count : Netlist → ℕ
pad_count d = count_by (λ k. not (is_logic k)) d.kinds

-- how many terminals all nets have together
abbrev pub terminal_count : Netlist → ℕ
terminal_count d = sum_by length d.terminals

-- a design is within the limits, each block has a name, and `globals` has an entry for each net; names of blocks are distinct and can be
-- words of a line; each net has terminals, only on blocks of the design
pub record IsLawful (d : Netlist) : Type 0 where
  pub few_blocks : length d.kinds ≤ 65535
  pub few_nets : length d.terminals ≤ 65535
  pub few_terminals : terminal_count d ≤ 1048576
  pub named : length d.names ≡ length d.kinds
  pub distinct : AllDistinct d.names
  pub words : AreWords d.names
  pub told : length d.globals ≡ length d.terminals
  pub some_terminal : (n : ℕ) → n < length d.terminals → 0 < length (net_at d n).blocks
  pub within : (n i : ℕ) → i < length (net_at d n).blocks → slice_index_or (net_at d n).blocks i 0 < length d.kinds

-- pin p of block b
abbrev pub terminal : ℕ → ℕ → Terminal
terminal b p = record { block = record { 0 = b }; pin = p }

-- three blocks: the logic block has two pins on net 1, and net 0 is global
abbrev three_blocks : Netlist
three_blocks = record {
  kinds = InputPad ∷ Logic ∷ OutputPad ∷ [];
  names = codes "a" ∷ codes "b" ∷ codes "z" ∷ [];
  terminals = (terminal 0 0 ∷ terminal 1 0 ∷ []) ∷ (terminal 1 1 ∷ terminal 1 2 ∷ terminal 2 0 ∷ []) ∷ [];
  globals = true ∷ false ∷ [];
}

pub global_nets_do_not_count : counted three_blocks ≡ 1 ∷ []
global_nets_do_not_count = refl

pub a_net_stands_once_for_a_block : nets_of three_blocks 1 ≡ 1 ∷ []
a_net_stands_once_for_a_block = refl

pub a_block_of_a_global_net_alone : nets_of three_blocks 0 ≡ []
a_block_of_a_global_net_alone = refl

pub a_repeated_block_is_two_terminals : (net_at three_blocks 1).blocks ≡ 1 ∷ 1 ∷ 2 ∷ []
a_repeated_block_is_two_terminals = refl

pub both_pins_of_a_block_count : pin_count three_blocks 1 1 ≡ 2
both_pins_of_a_block_count = refl

each_has_terminals : (n : ℕ) → n < 2 → 0 < length (net_at three_blocks n).blocks
each_has_terminals zero lt = lit< tt
each_has_terminals (suc zero) lt = lit< tt
each_has_terminals (suc (suc n)) lt = absurd (omega (arith, lt))

all_on_blocks : (n i : ℕ) → i < length (net_at three_blocks n).blocks → slice_index_or (net_at three_blocks n).blocks i 0 < 3
all_on_blocks zero zero lt = lit< tt
all_on_blocks zero (suc zero) lt = lit< tt
all_on_blocks zero (suc (suc i)) lt = absurd (omega (arith, lt))
all_on_blocks (suc zero) zero lt = lit< tt
all_on_blocks (suc zero) (suc zero) lt = lit< tt
all_on_blocks (suc zero) (suc (suc zero)) lt = lit< tt
all_on_blocks (suc zero) (suc (suc (suc i))) lt = absurd (omega (arith, lt))
all_on_blocks (suc (suc n)) i lt = absurd (omega (arith, lt))

pub three_blocks_are_lawful : IsLawful three_blocks
three_blocks_are_lawful = record {
  few_blocks = lit≤ tt;
  few_nets = lit≤ tt;
  few_terminals = lit≤ tt;
  named = refl;
  distinct = (refl, (refl, (refl, tt)));
  words = (refl, (refl, (refl, tt)));
  told = refl;
  some_terminal = each_has_terminals;
  within = all_on_blocks;
}

-- two pads with these names on one net, and a second net with the terminals `more`
abbrev two_pads : List (List ℕ) → List Terminal → Netlist
two_pads names more = record {
  kinds = InputPad ∷ OutputPad ∷ [];
  names = names;
  terminals = (terminal 0 0 ∷ terminal 1 0 ∷ []) ∷ more ∷ [];
  globals = false ∷ false ∷ [];
}

pub one_name_for_two_blocks_is_not_lawful : ¬ IsLawful (two_pads (codes "a" ∷ codes "a" ∷ []) (terminal 0 0 ∷ []))
one_name_for_two_blocks_is_not_lawful h = let same : true ≡ false = h.distinct.0 in cc

pub a_name_with_a_space_is_not_lawful : ¬ IsLawful (two_pads (codes "a" ∷ codes "b c" ∷ []) (terminal 0 0 ∷ []))
a_name_with_a_space_is_not_lawful h = let word : false ≡ true = h.words.1.0 in cc

pub a_net_without_terminals_is_not_lawful : ¬ IsLawful (two_pads (codes "a" ∷ codes "b" ∷ []) [])
a_net_without_terminals_is_not_lawful h = omega (arith, h.some_terminal 1 (lit< tt))

pub a_terminal_on_no_block_is_not_lawful : ¬ IsLawful (two_pads (codes "a" ∷ codes "b" ∷ []) (terminal 2 0 ∷ []))
a_terminal_on_no_block_is_not_lawful h = omega (arith, h.within 1 0 (lit< tt))
