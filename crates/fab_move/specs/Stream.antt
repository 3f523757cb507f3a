-- The random words of a seed: two streams of the ChaCha cipher with eight rounds (which words a move and a start use is our own).
use Rattle.std.specs.Prelude.{ℕ, ◌+◌, ◌*◌, List, [], ◌∷◌, ◌++◌, replicate}
use Rattle.std.specs.Int.{w64, to_le_bytes}
use Rattle.rand_chacha.specs.ChaCha.{ChaCha, word_at, key_of}

-- the seed of the cipher: the eight bytes of a number, the lowest first, and 24 zeros
abbrev pub cipher_seed : ℕ → List ℕ
cipher_seed seed = to_le_bytes w64 seed ++ replicate 24 0

-- the word at place `place` of a stream; 4 is the number of double rounds
abbrev pub stream_word : ℕ → ℕ → ℕ → ℕ
stream_word seed stream place = word_at 4 (key_of (cipher_seed seed)) stream place

-- the four words of move k: the first four of block k of stream 0
abbrev pub stream_moves : ℕ → ℕ → List ℕ
stream_moves seed k =
    stream_word seed 0 (16 * k) ∷ stream_word seed 0 (16 * k + 1) ∷ stream_word seed 0 (16 * k + 2) ∷ stream_word seed 0 (16 * k + 3) ∷ []

-- the start words: those of stream 1
abbrev pub stream_starts : ℕ → ℕ → ℕ
stream_starts seed i = stream_word seed 1 i

-- the first four words of a block of stream 0
abbrev pub block_words : List ℕ → ℕ → List ℕ
block_words key k =
    word_at 4 key 0 (16 * k) ∷ word_at 4 key 0 (16 * k + 1) ∷ word_at 4 key 0 (16 * k + 2) ∷ word_at 4 key 0 (16 * k + 3) ∷ []

-- four words of a stream, from place `place` on
abbrev pub words_from : ChaCha → ℕ → List ℕ
words_from g place =
    word_at 4 g.key g.stream place ∷ word_at 4 g.key g.stream (place + 1) ∷ word_at 4 g.key g.stream (place + 2) ∷ word_at 4 g.key g.stream (place + 3) ∷ []
