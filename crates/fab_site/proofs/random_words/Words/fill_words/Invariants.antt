use Rattle.std.proofs.Common.{◌≡◌, ℕ, ◌+◌, ◌<◌, []}
use Rattle.std.specs.Prelude.{slice_index_or}
use Rattle.fab_site.proofs.random_words.Words.fill_words.Given as goal

abbrev pub invariant-loop-i : goal.invariant-loop-i
invariant-loop-i g l = (k : ℕ) → k < l.i → slice_index_or l.out k [] ≡ g.Self.Words.moves l.self (l.first + k)
