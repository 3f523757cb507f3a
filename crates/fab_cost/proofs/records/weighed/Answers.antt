use Rattle.std.proofs.Common.{◌∷◌, [], ◌≤◌, refl, arith}
use Rattle.std.proofs.lemmas.Simd.{adds_fit}
use lib.Lanes.{sum_l}
use mir.Syntax.{w16}
use Rattle.fab_cost.specs.Runs.{least_of}
use Rattle.fab_cost.proofs.Mins.{fall_is, least_sum, raised_fits, weighed_fall}
use Rattle.fab_cost.proofs.records.weighed.Goals as goal

pub overflow_add-raised : goal.overflow_add-raised
overflow_add-raised c =
    let b = least_sum c.args.all c.args.base c.joined.result c.requires.base c.joined.ensures in
    adds_fit w16 c.joined.result (1001 ∷ 1001 ∷ 1001 ∷ 1001 ∷ []) (omega (arith, b))

pub overflow_sub-raised : goal.overflow_sub-raised
overflow_sub-raised c = raised_fits c.args.all c.args.target c.joined.result c.joined-2.result c.requires.target c.joined-2.ensures

pub total-fall-requires : goal.total-fall-requires
total-fall-requires c =
    let f = fall_is c.args.all c.args.base c.args.target c.joined.result c.joined-2.result _ c.fits-all.0 c.requires.base c.requires.target c.joined.ensures c.joined-2.ensures refl in
    let b = least_sum c.args.all c.args.base _ c.requires.base refl in
    omega (arith, f, b)

pub returns-clause-fall : goal.returns-clause-fall
returns-clause-fall c =
    weighed_fall c.args.factor c.total-fall.result (sum_l (least_of c.args.all c.args.target)) (sum_l (least_of c.args.all c.args.base)) c.from.result c.from-2.result c.from.ensures c.from-2.ensures
    (fall_is c.args.all c.args.base c.args.target c.joined.result c.joined-2.result c.total-fall.result c.fits-all.0 c.requires.base c.requires.target c.joined.ensures c.joined-2.ensures c.total-fall.ensures)

pub returns-clause-few : goal.returns-clause-few
returns-clause-few c =
    let f = fall_is c.args.all c.args.base c.args.target c.joined.result c.joined-2.result c.total-fall.result c.fits-all.0 c.requires.base c.requires.target c.joined.ensures c.joined-2.ensures c.total-fall.ensures in
    let b = least_sum c.args.all c.args.base _ c.requires.base refl in
    let e = c.from.ensures in
    let e2 = c.from-2.ensures in
    let q = c.ranges.factor.fits in
    let k : c.from-2.result ≤ 8008 = omega (arith, f, b, e2) in
    let l : c.from.result ≤ 65535 = omega (arith, q, e) in
    grind (arith, k, l)
