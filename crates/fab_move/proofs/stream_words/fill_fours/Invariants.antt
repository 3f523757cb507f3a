use Rattle.std.proofs.Common.{◌≡◌, ℕ, ◌+◌, ◌*◌, ◌<◌, []}
use Rattle.std.specs.Prelude.{slice_index_or}
use Rattle.rand_chacha.specs.ChaCha.{key_of}
use Rattle.fab_move.specs.Stream.{block_words}
use Rattle.fab_move.proofs.stream_words.fill_fours.Given as goal

abbrev pub invariant-fours : goal.invariant-fours
invariant-fours l = (k : ℕ) → k < 4 * l.i → slice_index_or l.out k [] ≡ block_words (key_of l.cipher_seed) (l.first + k)
