use Rattle.std.proofs.Common.{rules, ◌≡◌, ◌∙◌, ◌++◌, ◌+◌, ◌<◌, ℕ, List, [], length, get_or, drop, sym, ap, arith, append-nil, append_assoc}
use Rattle.std.specs.List.{flat_map}
use Rattle.std.specs.Str.{chars}
use Rattle.std.proofs.lemmas.Iterator.{YieldsList-from_chars}
use Rattle.std.proofs.lemmas.Iterator.Consumers.{YieldsList-turn, YieldsList-end}
use Rattle.std.proofs.lemmas.List.{at_drop_more, at_drop_all, length_push}
use Rattle.vplace.specs.CommandLine.{bytes_of}
use Rattle.vplace.proofs.arguments.as_bytes.Goals as goal

step : (cs before after : List ℕ) (n next c : ℕ) → (n < length cs) × (c ≡ get_or cs n c) → after ≡ before ++ bytes_of c → next ≡ n + 1
    → before ++ flat_map bytes_of (drop n cs) ≡ flat_map bytes_of cs → after ++ flat_map bytes_of (drop next cs) ≡ flat_map bytes_of cs
step cs before after n next c at is more so_far =
    let rest : flat_map bytes_of (drop n cs) ≡ bytes_of c ++ flat_map bytes_of (drop (n + 1) cs) =
    at_drop_more (flat_map bytes_of) cs n c at.0 ∙ ap (λ x. bytes_of x ++ flat_map bytes_of (drop (n + 1) cs)) (sym at.1) in
    rw (is, more) (append_assoc before (bytes_of c) (flat_map bytes_of (drop (n + 1) cs)) ∙ (ap (λ xs. before ++ xs) (sym rest) ∙ so_far))

pub loop-letter-preserved : goal.loop-letter-preserved
loop-letter-preserved c =
    let turn = YieldsList-turn (YieldsList-from_chars c.args.text.now c.utf8.text cc) c.loop-letter.yielded _ c.loop-letter.yielded_by _ _ c.in-Some.letter c.in-Some.is c.next.ensures.steps in
    let longer = length_push c.loop-letter.yielded c.in-Some.letter in
    step (chars c.args.text.now) c.loop-letter.bytes.items c.push_bytes.new.bytes.items (length c.loop-letter.yielded) _ c.in-Some.letter turn (search rules) (omega arith) c.loop-letter.invariant

pub returns : goal.returns
returns c =
    let end = YieldsList-end (YieldsList-from_chars c.args.text.now c.utf8.text cc) c.loop-letter.yielded _ c.loop-letter.yielded_by _ _ c.in-None.is c.next.ensures.steps in
    let none : flat_map bytes_of (drop (length c.loop-letter.yielded) (chars c.args.text.now)) ≡ [] = at_drop_all (flat_map bytes_of) (chars c.args.text.now) (length c.loop-letter.yielded) (omega (arith, end.1)) in
    sym (append-nil c.loop-letter.bytes.items) ∙ (ap (λ xs. c.loop-letter.bytes.items ++ xs) (sym none) ∙ c.loop-letter.invariant)
