-- Pieces one after another are the unbroken run.
use Rattle.std.proofs.Common.{◌≡◌, ℕ, ◌+◌, true, cond, List, [], ◌∷◌, ◌++◌, Option, is_some, refl, sym, ap, ◌∙◌, append_assoc}
use Rattle.std.proofs.lemmas.List.{append-nil}
use Rattle.fab_commit.specs.Serial.{Run, Standing, accepted_among, from}
use Rattle.fab_commit.proofs.RunLemmas.Folding.{from_add}
use Rattle.fab_run.specs.Piece.{end_line, last_line, stage_costs, stage_lines}
use Rattle.fab_run.specs.Chains.{ChainsAreRuns, IsUnbroken, chain_lines}
use Rattle.fab_run.specs.Ends.{EndsAfter, StopsAfter}
use Rattle.fab_run.proofs.Pieces.{accepted_add, costs_add, lines_add}

pub no_end_line : (r : Run) (y : Standing) → is_some y.heat ≡ true → end_line r y ≡ []
no_end_line r y h = ap (λ b. cond b [] (last_line r y)) h

last_piece : (r : Run) (x : Standing) (stop : Option ℕ) (n : ℕ) → EndsAfter r x stop n → IsUnbroken r x (n ∷ []) n
last_piece r x stop n e =
    record {
      over = e.over;
      end = refl;
      accepted = append-nil (accepted_among r x n);
      lines = append-nil (stage_lines r x n ++ end_line r (from r x n));
      costs = append-nil (stage_costs r x n);
    }

one_more : (r : Run) (x : Standing) (stop : Option ℕ) (n : ℕ) (ns : List ℕ) (m : ℕ) → StopsAfter r x stop n → IsUnbroken r (from r x n) ns m → IsUnbroken r x (n ∷ ns) (n + m)
one_more r x stop n ns m s u =
    let y = from r x n in
    let here : from r x (n + m) ≡ from r y m = from_add r x n m in
    let told : stage_lines r x n ++ end_line r y ≡ stage_lines r x n = ap (λ l. stage_lines r x n ++ l) (no_end_line r y s.going) ∙ append-nil (stage_lines r x n) in
    record {
      over = ap (λ z. z.heat) here ∙ u.over;
      end = u.end ∙ sym here;
      accepted = ap (λ l. accepted_among r x n ++ l) u.accepted ∙ sym (accepted_add r x n m);
      lines = ap (λ l. l ++ chain_lines r y ns) told ∙ ap (λ l. stage_lines r x n ++ l) u.lines
          ∙ sym (append_assoc (stage_lines r x n) (stage_lines r y m) (end_line r (from r y m)))
          ∙ ap (λ l. l ++ end_line r (from r y m)) (sym (lines_add r x n m))
          ∙ ap (λ z. stage_lines r x (n + m) ++ end_line r z) (sym here);
      costs = ap (λ l. stage_costs r x n ++ l) u.costs ∙ sym (costs_add r x n m);
    }

pub chains : ChainsAreRuns
chains r x [] ns h = absurd h
chains r x (stop ∷ stops) [] h = absurd h
chains r x (stop ∷ []) (n ∷ []) h = (n, last_piece r x stop n h)
chains r x (stop ∷ []) (n ∷ m ∷ ns) h = absurd h
chains r x (stop ∷ next ∷ stops) (n ∷ ns) h =
    let rest = chains r (from r x n) (next ∷ stops) ns h.1 in
    (n + rest.0, one_more r x stop n ns rest.0 h.0 rest.1)
