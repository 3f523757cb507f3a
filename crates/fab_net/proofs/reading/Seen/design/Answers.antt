use Rattle.std.proofs.Common.{length, ap, ◌∙◌, arith}
use Rattle.std.proofs.lemmas.List.{length-map}
use Rattle.fab_net.specs.Text.{is_global_in, net_names, terminals_of}
use Rattle.fab_net.specs.Said.{netlist_said}
use Rattle.fab_net.proofs.Naming.{nets_le, terminals_blocks}
use Rattle.fab_net.proofs.Ready.{lawful_of, driven_at_end}
use Rattle.fab_net.proofs.reading.Seen.design.Goals as goal

pub gather_nets-requires-clause-same : goal.gather_nets-requires-clause-same
gather_nets-requires-clause-same c =
    let names = net_names c.self.inside.pins in
    let t = ap length c.in_ok-terminals.ensures.found ∙ length-map names (terminals_of c.self.inside.pins) in
    let m = ap length c.in_ok-marks.ensures ∙ length-map names (is_global_in _) in
    let d = ap length c.deref-2.ensures.value in
    omega (arith, t, m, d)

pub gather_nets-requires-clause-fits : goal.gather_nets-requires-clause-fits
gather_nets-requires-clause-fits c =
    let names = net_names c.self.inside.pins in
    let t = ap length c.in_ok-terminals.ensures.found ∙ length-map names (terminals_of c.self.inside.pins) in
    omega (arith, t, nets_le c.self.inside.pins, c.self.invariant.2)

pub gather_nets-requires-clause-within : goal.gather_nets-requires-clause-within
gather_nets-requires-clause-within c n lt k d kl =
    let pins = c.self.inside.pins in
    let names = net_names pins in
    let t = ap length c.in_ok-terminals.ensures.found ∙ length-map names (terminals_of pins) in
    let ready = rw (← c.self.view_is) at c.requires.ready in
    let all = terminals_blocks pins (length c.self.inside.kinds.items) names ready.within n (omega (arith, t, lt)) in
    let all' = rw (← c.in_ok-terminals.ensures.found) at all in
    omega (arith, all' k d kl, c.len.ensures, c.self.inside.kinds.ok.0)

pub gather_pins-requires-clause-within : goal.gather_pins-requires-clause-within
gather_pins-requires-clause-within c n lt k d kl =
    let pins = c.self.inside.pins in
    let names = net_names pins in
    let t = ap length c.in_ok-terminals.ensures.found ∙ length-map names (terminals_of pins) in
    let ready = rw (← c.self.view_is) at c.requires.ready in
    let all = terminals_blocks pins (length c.self.inside.kinds.items) names ready.within n (omega (arith, t, lt)) in
    let all' = rw (← c.in_ok-terminals.ensures.found) at all in
    omega (arith, all' k d kl, c.len-2.ensures, c.self.inside.kinds.ok.0)

pub new-requires-clause-lawful : goal.new-requires-clause-lawful
new-requires-clause-lawful c =
    let few = rw c.in_ok-terminals.ensures.found at c.in_ok-terminals.ensures.few in
    let ready = rw (← c.self.view_is) at c.requires.ready in
    let driven = rw (← c.self.view_is) at (driven_at_end c.args.self c.requires.lawful) in
    rw (c.in_ok-terminals.ensures.found, c.in_ok-marks.ensures, c.deref.ensures.value) (lawful_of _ ready driven few)

pub returns : goal.returns
returns c = c.new.ensures ∙ rw (c.in_ok-terminals.ensures.found, c.in_ok-marks.ensures, c.deref.ensures.value) (ap netlist_said c.self.view_is)
