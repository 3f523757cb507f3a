use Rattle.std.proofs.Common.{◌≡◌, ◌<◌, true, false, ltb, None, length, map, sym, ap, ◌∙◌, arith}
use Rattle.std.proofs.lemmas.List.{length-map}
use Rattle.std.proofs.lemmas.Bool.{lt-ltb}
use Rattle.std.proofs.lemmas.Bool.Decides.{nat_tests}
use Rattle.std.specs.Prelude.{is_some}
use Rattle.fab_text.specs.Shown.{shown}
use Rattle.fab_net.specs.Names.{number_of}
use Rattle.fab_net.specs.Text.{name_at}
use Rattle.fab_net.proofs.Ready.{duplicate, too_many}
use Rattle.fab_net.proofs.reading.Seen.check_open.Goals as goal

pub returns-then-is_some : goal.returns-then-is_some
returns-then-is_some c =
    let ws = c.args.line.now.words.items in
    let long : 1 < length ws = omega (arith, c.if-len-lt2.false, c.len.ensures) in
    let words : ltb 1 (length (map (λ w. w.now) ws)) ≡ true = lt-ltb 1 _ (omega (arith, long, length-map ws (λ w. w.now))) in
    let waiting : c.args.self.now.awaiting ≡ None = ap (λ x. x.awaiting) (sym c.self.view_is) ∙ c.in_default.is in
    let name = c.name_at.ensures in
    let names = ap (λ x. x.names) c.self.view_is in
    let there : is_some (number_of (name_at (shown c.args.line.now)) c.args.self.now.names) ≡ true = rw (← name, ← names, ← c.number_of.ensures) (sym c.is_some.ensures ∙ c.if-is_some.true) in
    duplicate c.args.self.now (shown c.args.line.now) waiting words there

pub returns-then-len-ge65535 : goal.returns-then-len-ge65535
returns-then-len-ge65535 c =
    let ws = c.args.line.now.words.items in
    let long : 1 < length ws = omega (arith, c.if-len-lt2.false, c.len.ensures) in
    let words : ltb 1 (length (map (λ w. w.now) ws)) ≡ true = lt-ltb 1 _ (omega (arith, long, length-map ws (λ w. w.now))) in
    let waiting : c.args.self.now.awaiting ≡ None = ap (λ x. x.awaiting) (sym c.self.view_is) ∙ c.in_default.is in
    let name = c.name_at.ensures in
    let names = ap (λ x. x.names) c.self.view_is in
    let there : is_some (number_of (name_at (shown c.args.line.now)) c.args.self.now.names) ≡ false = rw (← name, ← names, ← c.number_of.ensures) (sym c.is_some.ensures ∙ c.if-is_some.false) in
    let many : ltb (length c.args.self.now.names) 65535 ≡ false = rw (← names) (grind (arith, nat_tests)) in
    too_many c.args.self.now (shown c.args.line.now) waiting words there many
