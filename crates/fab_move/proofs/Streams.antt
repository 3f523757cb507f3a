-- The words of a seed are of 32 bits.
use Rattle.std.proofs.Common.{ℕ, ◌+◌, ◌%◌, ◌^◌, ◌<◌, List, arith}
use Rattle.rand_chacha.specs.Block.{add32, block_word}
use Rattle.fab_move.specs.Stream.{stream_word}

sum_small : (x y : ℕ) → add32 x y < 2 ^ 32
sum_small x y = omega arith

word_small : (n : ℕ) (key : List ℕ) (counter nonce k : ℕ) → block_word n key counter nonce k < 2 ^ 32
unfolding block_word
word_small n key counter nonce k = sum_small _ _

pub stream_small : (seed stream place : ℕ) → stream_word seed stream place < 2 ^ 32
stream_small seed stream place = word_small _ _ _ _ _
