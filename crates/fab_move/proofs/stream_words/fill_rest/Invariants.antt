use Rattle.std.proofs.Common.{◌≡◌, ℕ, ◌+◌, ◌-◌, ◌*◌, ◌<◌, ◌≤◌, []}
use Rattle.std.specs.Prelude.{slice_index_or}
use Rattle.fab_move.specs.Stream.{words_from}
use Rattle.fab_move.proofs.stream_words.fill_rest.Given as goal

abbrev pub invariant-entries : goal.invariant-entries
invariant-entries l =
    record {
      low : l.done ≤ l.i;
      place : l.stream ≡ record l.initial.stream { word_pos = l.initial.stream.word_pos + 16 * (l.i - l.done) };
      written : (k : ℕ) → l.done + k < l.i → slice_index_or l.out (l.done + k) [] ≡ words_from l.initial.stream (l.initial.stream.word_pos + 16 * k);
      before : (k : ℕ) → k < l.done → slice_index_or l.out k [] ≡ slice_index_or l.initial.out k [];
    }
