use Rattle.std.proofs.Common.{◌≡◌, ℕ, ◌+◌, ◌<◌}
use Rattle.std.specs.Prelude.{slice_index_or}
use Rattle.rand_chacha.specs.ChaCha.{word_at}
use Rattle.fab_move.proofs.stream_words.fill_in_row.Given as goal

abbrev pub invariant-entries : goal.invariant-entries
invariant-entries l =
    record {
      place : l.stream ≡ record l.initial.stream { word_pos = l.initial.stream.word_pos + l.i };
      written : (k : ℕ) → k < l.i → slice_index_or l.out k 0 ≡ word_at 4 l.initial.stream.key l.initial.stream.stream (l.initial.stream.word_pos + k);
    }
