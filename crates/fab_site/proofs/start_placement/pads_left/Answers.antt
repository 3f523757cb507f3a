use Rattle.std.proofs.Common.{◌≡◌, ◌≤◌, ◌<◌, ◌++◌, length, map, take, sym, ◌∙◌, arith}
use Rattle.std.specs.List.{range_with_len}
use Rattle.std.proofs.lemmas.List.{take_all}
use Rattle.std.proofs.lemmas.Option.{slice_get-get_or}
use Rattle.fab_arch.specs.Grid.{perimeter}
use Rattle.fab_arch.proofs.Perimeter.{perimeter_len}
use Rattle.fab_site.specs.Placement.{site}
use Rattle.fab_site.specs.Start.{sites_left}
use Rattle.fab_site.proofs.Drawing.{position_step, few_pads, some_none}
use Rattle.fab_site.proofs.start_placement.pads_left.Goals as goal
use Rattle.fab_site.proofs.start_placement.pads_left.Goals.{in-Some+in_ok-push_position, in_default}

pub loop-place-preserved : goal.loop-place-preserved
loop-place-preserved c =
    let per = perimeter c.args.grid.now in
    elim c.match-pad_at.branch [
      | in-Some+in_ok-push_position w ↦
          let at = w.in-Some.at in
          let pushed : w.push_position.new.left.items ≡ c.loop-place.left.items ++ sites_left c.args.given.now.sites (map (λ sub. site at.0 at.1 sub) (range_with_len 0 c.args.grid.now.io_rat)) = rw (← c.io_rat-io_rat.ensures.value) w.in_ok-push_position.ensures in
          rw w.left-is (position_step c.args.given.now.sites (λ at. map (λ sub. site at.0 at.1 sub) (range_with_len 0 c.args.grid.now.io_rat)) per c.loop-place.place at c.loop-place.left.items w.push_position.new.left.items (sym w.in-Some.ensures) c.loop-place.invariant pushed)
      | in_default w ↦
          let lt : c.loop-place.place < length per = omega (arith, c.loop-place-test.true, c.nx.ensures.value, c.ny.ensures.value, c.from.ensures, c.from-2.ensures, perimeter_len c.args.grid.now) in
          absurd (some_none _ (sym (slice_get-get_or per c.loop-place.place (0, 0) lt) ∙ sym c.pad_at.ensures ∙ w.in_default.is))
    ]

pub returns-clause-sites : goal.returns-clause-sites
returns-clause-sites c =
    let per = perimeter c.args.grid.now in
    let le : length per ≤ c.loop-place.place = omega (arith, c.loop-place-test.false, c.nx.ensures.value, c.ny.ensures.value, c.from.ensures, c.from-2.ensures, perimeter_len c.args.grid.now) in
    let all : take c.loop-place.place per ≡ per = take_all c.loop-place.place per le in
    rw all at c.loop-place.invariant

pub returns-clause-few : goal.returns-clause-few
returns-clause-few c = few_pads c.args.grid.now c.args.given.now.sites c.loop-place.place c.loop-place.left.items c.loop-place.invariant (omega (arith, c.nx.ensures.value, c.nx.ensures.limits.1)) (omega (arith, c.ny.ensures.value, c.ny.ensures.limits.1)) (omega (arith, c.io_rat-io_rat.ensures.value, c.io_rat-io_rat.ensures.limits.1))
