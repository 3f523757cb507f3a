use Rattle.std.proofs.Common.{arith, ◌≡◌, ◌<◌, ◌^◌, ◌∙◌, ap, length, true, refl, inl, inr}
use Rattle.std.specs.Prelude.{slice_index_or}
use Rattle.std.proofs.lemmas.Bool.{cases_Bool}
use Rattle.fab_net.specs.Netlist.{is_logic}
use Rattle.fab_site.specs.Placement.{site_of}
use Rattle.fab_site.specs.Start.{entry_of, without, is_pad}
use Rattle.fab_site.proofs.Drawing.{draws_within, logic_some, pads_some, not_pad, turn_given, turn_logic, turn_pad}
use Rattle.fab_site.proofs.start_placement.deal.Goals as goal
use Rattle.fab_site.proofs.start_placement.deal.Goals.{in-Some+in_ok-push-in-Some, in-None+in_ok-push-in-None}

pub draw_for-site-requires-clause-logic : goal.draw_for-site-requires-clause-logic
draw_for-site-requires-clause-logic g c h =
    let word = g.W.Words.starts c.args.words.now in
    logic_some word _ c.args.given.now.sites c.args.design.now.kinds c.loop-number.number c.loop-number.drawn c.loop-number.logic_sites.items c.loop-number.pad_sites.items c.loop-number.sites.items c.kind-kind.result c.in-None.ensures c.kind-kind.ensures h c.loop-number.invariant

pub draw_for-site-requires-clause-pads : goal.draw_for-site-requires-clause-pads
draw_for-site-requires-clause-pads g c h =
    let word = g.W.Words.starts c.args.words.now in
    pads_some word _ c.args.given.now.sites c.args.design.now.kinds c.loop-number.number c.loop-number.drawn c.loop-number.logic_sites.items c.loop-number.pad_sites.items c.loop-number.sites.items c.kind-kind.result c.in-None.ensures c.kind-kind.ensures (not_pad (is_logic c.kind-kind.result) h) c.loop-number.invariant

pub loop-number-preserved : goal.loop-number-preserved
loop-number-preserved g c =
    let word = g.W.Words.starts c.args.words.now in
    let given = c.args.given.now.sites in
    let kinds = c.args.design.now.kinds in
    let b = c.loop-number.number in
    let drawn = c.loop-number.drawn in
    let logic = c.loop-number.logic_sites.items in
    let pads = c.loop-number.pad_sites.items in
    let sites = c.loop-number.sites.items in
    elim c.match-site_of.branch [
      | in-Some+in_ok-push-in-Some w ↦
          rw (w.drawn-is, w.logic_sites-is, w.pad_sites-is, w.sites-is, w.in_ok-push-in-Some.ensures.items)
          (turn_given word _ given kinds b drawn logic pads sites w.in-Some.site c.requires.all w.in-Some.ensures c.loop-number.invariant)
      | in-None+in_ok-push-in-None w ↦
          let lt = draws_within given kinds b drawn c.requires.all w.in-None.ensures c.loop-number.invariant.count in
          let many = c.in_ok-drawn_words.ensures.many in
          let told : w.drawn_word-word.result ≡ word drawn = w.drawn_word-word.ensures ∙ (ap (λ l. slice_index_or l drawn 0) w.deref.ensures.value ∙ c.in_ok-drawn_words.ensures.words drawn (omega (arith, lt, many))) in
          let small : word drawn < 2 ^ 32 = rw (← told) w.drawn_word-word.type_inv in
          elim (cases_Bool (is_logic w.kind-kind.result)) [
            | inl y ↦
                let e = w.draw_for-site.ensures.logic y in
                let here : w.draw_for-site.result ≡ site_of logic (entry_of (word drawn) logic) = rw (← told) e.0 in
                let less : w.draw_for-site.new.logic.items ≡ without logic (entry_of (word drawn) logic) = rw (← told) e.1 in
                rw (w.drawn-is, w.logic_sites-is, w.pad_sites-is, w.sites-is, w.in_ok-push-in-None.ensures.items, e.2)
                (turn_logic word _ given kinds b drawn logic pads sites w.kind-kind.result w.draw_for-site.result w.draw_for-site.new.logic.items w.in-None.ensures w.kind-kind.ensures y small here less c.loop-number.invariant)
            | inr n ↦
                let pad : is_pad w.kind-kind.result ≡ true = rw n refl in
                let e = w.draw_for-site.ensures.pads pad in
                let here : w.draw_for-site.result ≡ site_of pads (entry_of (word drawn) pads) = rw (← told) e.0 in
                let less : w.draw_for-site.new.pads.items ≡ without pads (entry_of (word drawn) pads) = rw (← told) e.1 in
                rw (w.drawn-is, w.logic_sites-is, w.pad_sites-is, w.sites-is, w.in_ok-push-in-None.ensures.items, e.2)
                (turn_pad word _ given kinds b drawn logic pads sites w.kind-kind.result w.draw_for-site.result w.draw_for-site.new.pads.items w.in-None.ensures w.kind-kind.ensures n small here less c.loop-number.invariant)
          ]
    ]

pub drawn_word-word-requires : goal.drawn_word-word-requires
drawn_word-word-requires g c =
    let lt = draws_within c.args.given.now.sites c.args.design.now.kinds c.loop-number.number c.loop-number.drawn c.requires.all c.in-None.ensures c.loop-number.invariant.count in
    let many = c.in_ok-drawn_words.ensures.many in
    let same = ap length c.deref.ensures.value in
    omega (arith, lt, many, same)
