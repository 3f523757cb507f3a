use Rattle.std.proofs.Common.{◌≡◌, ℕ, ◌+◌, ◌<◌, [], None, List, length, get_or, drop, refl, sym, ap, ◌∙◌, arith, count_by}
use Rattle.std.proofs.lemmas.List.{length-map, get_or-map}
use Rattle.fab_net.specs.Faults.{driver_fault, net_fault}
use Rattle.fab_net.specs.Text.{net_names, is_driver}
use Rattle.fab_net.proofs.Naming.{nets_le}
use Rattle.fab_net.proofs.Accepted.{drivers_more, one_is_none}
use Rattle.fab_net.proofs.reading.check_drivers.Goals as goal

pub overflow_cast-net : goal.overflow_cast-net
overflow_cast-net c =
    let pins = c.args.pins.now in
    let n = ap length c.requires.counts in
    let m = length-map (net_names pins) (λ name. count_by (is_driver name) pins) in
    omega (arith, c.loop-net-test.true, n, m, nets_le pins, c.requires.few)

pub loop-net-preserved : goal.loop-net-preserved
loop-net-preserved c =
    let pins = c.args.pins.now in
    let names = net_names pins in
    let i = c.loop-net.net in
    let f : List ℕ → ℕ = λ name. count_by (is_driver name) pins in
    let n = ap length c.requires.counts in
    let m = length-map names f in
    let lt : i < length names = omega (arith, c.loop-net-test.true, n, m) in
    let one : count_by (is_driver (get_or names i [])) pins ≡ 1 = sym (ap (λ xs. get_or xs i 0) c.requires.counts ∙ get_or-map f names i [] 0 lt) ∙ c.if-counts-net-ne1.false in
    let none : net_fault pins (get_or names i []) ≡ None = one_is_none pins (get_or names i []) one in
    let more : driver_fault pins (drop i names) ≡ driver_fault pins (drop (i + 1) names) = drivers_more pins names i lt ∙ rw none refl in
    sym more ∙ c.loop-net.invariant
