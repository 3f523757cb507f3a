use Rattle.std.proofs.Common.{◌≡◌, ℕ, ◌+◌, ◌*◌, List, ap, ◌∙◌, arith}
use Rattle.rand_chacha.specs.ChaCha.{ChaCha, key_of}
use Rattle.fab_move.specs.Stream.{block_words, cipher_seed, stream_moves, words_from}
use Rattle.fab_move.proofs.Parts.{both_parts}
use Rattle.fab_move.proofs.stream_words.StreamWordsWords.fill_words.Goals as goal

pub fill_rest-requires-clause-places : goal.fill_rest-requires-clause-places
fill_rest-requires-clause-places c =
    let at = ap (λ (g : ChaCha). g.word_pos) c.moves_from-stream.ensures in
    let within = c.fill_fours-done.ensures.within in
    let most = c.requires in
    omega (arith, at, within, most)

pub returns-then-done-out : goal.returns-then-done-out
returns-then-done-out c =
    let k = c.args.first in
    let done = c.fill_fours-done.result in
    let key = key_of c.self.inside.cipher_seed in
    let at : ChaCha = record { key = key; stream = 0; word_pos = 16 * (k + done) } in
    let own : block_words key ≡ stream_moves c.args.self.now = ap (λ (s : List ℕ). block_words (key_of s)) (c.self.invariant ∙ ap cipher_seed c.self.view_is) in
    both_parts (λ i. stream_moves c.args.self.now (k + i)) done c.fill_fours-done.new.out c.fill_rest.new.out
    (λ i h. c.fill_fours-done.ensures.each i h ∙ ap (λ (f : ℕ → List ℕ). f (k + i)) own)
    c.fill_rest.ensures.before
    (λ i h.
    let place : 16 * (k + done) + 16 * i ≡ 16 * (k + (done + i)) = omega arith in
    c.fill_rest.ensures.each i h ∙ ap (λ (g : ChaCha). words_from g (g.word_pos + 16 * i)) c.moves_from-stream.ensures ∙ ap (words_from at) place ∙ ap (λ (f : ℕ → List ℕ). f (k + (done + i))) own)
