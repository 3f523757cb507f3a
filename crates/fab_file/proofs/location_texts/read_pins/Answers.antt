use Rattle.std.proofs.Common.{rules, ◌≡◌, [], ◌∷◌, List, Option, None, length, replicate, sym, ap, ◌∙◌}
use Rattle.fab_arch.specs.declared.array.Site.{Site}
use Rattle.std.proofs.lemmas.List.{length-replicate}
use Rattle.std.proofs.lemmas.Result.{err_from_is_err_and}
use Rattle.fab_text.specs.Lines.{lines}
use Rattle.fab_text.specs.Shown.{shown}
use Rattle.fab_site.specs.Placement.{fixed_at}
use Rattle.fab_site.specs.Pins.{either_site}
use Rattle.fab_file.specs.Taken.{with_line, take_fault}
use Rattle.fab_file.specs.Pinned.{without_free, site_for, header_fault}
use Rattle.fab_file.proofs.Seats.{none_some}
use Rattle.fab_file.proofs.Legal.{memory_only}
use Rattle.fab_file.proofs.Underway.{fault_is}
use Rattle.fab_file.proofs.PinText.{header_refused, no_fault_in, no_header_fault}
use Rattle.fab_file.proofs.PinLines.{Pinning, none_given, begin, relisted, is_new, step, fixing, beginning, fails, all_located, one_meaning}
use Rattle.fab_file.proofs.location_texts.read_pins.Goals.{then-free, else-free}
use Rattle.fab_file.proofs.location_texts.read_pins.Goals as goal

pub returns-in_err-left-clause-only : goal.returns-in_err-left-clause-only
returns-in_err-left-clause-only c fixed begun one =
    let p = err_from_is_err_and c.from_residual-in_err-left.result c.from_residual-in_err-left.ensures.1 in
    let none = no_header_fault c.args.design.now c.args.grid.now (lines c.args.bytes.now) fixed begun one in
    let memory = memory_only _ (header_fault c.args.grid.now (lines c.args.bytes.now)) none c.in_err-left.ensures.fault in
    rw (p.1, p.2) memory

pub returns-in_err-left-clause-fault : goal.returns-in_err-left-clause-fault
returns-in_err-left-clause-fault c =
    let p = err_from_is_err_and c.from_residual-in_err-left.result c.from_residual-in_err-left.ensures.1 in
    rw (p.1, p.2) (header_refused c.args.design.now c.args.grid.now (lines c.args.bytes.now) _ c.in_err-left.ensures.fault)

pub loop-begun-init : goal.loop-begun-init
loop-begun-init c =
    let d = c.args.design.now in
    let fixed : c.in_ok-fixed.fixed.items ≡ replicate (length d.kinds) None = search rules in
    let begun : c.in_ok-begun.begun.items ≡ replicate (length d.kinds) None = search rules in
    let long : (sites : List (Option Site)) → sites ≡ replicate (length d.kinds) None → length sites ≡ length d.kinds = λ sites e. ap length e ∙ length-replicate (length d.kinds) None in
    record {
      pinning = begin d c.args.grid.now (lines c.args.bytes.now) c.in_ok-left.left c.in_ok-placed.placed c.in_ok-fixed.fixed.items c.in_ok-begun.begun.items
          c.in_ok-placed.ensures.none (none_given (length d.kinds) c.in_ok-fixed.fixed.items fixed) (none_given (length d.kinds) c.in_ok-begun.begun.items begun) c.in_ok-left.ensures.rest c.in_ok-left.ensures.ok;
      fixed_long = long c.in_ok-fixed.fixed.items fixed;
      begun_long = long c.in_ok-begun.begun.items begun;
    }

pub returns-in_err-take-clause-only : goal.returns-in_err-take-clause-only
returns-in_err-take-clause-only c fixed begun one =
    let next : c.loop-begun.left ≡ shown c.in-Some.line ∷ c.next.new.self = rw c.in-Some.is at c.in_ok-line.ensures.some in
    let here = rw next at c.loop-begun.invariant.pinning in
    let refused = ap (take_fault c.loop-begun.placed) (sym c.without_free-line.ensures) ∙ c.in_err-take.ensures.fault in
    let first = fails c.args.design.now c.args.grid.now (lines c.args.bytes.now) c.next.new.self (shown c.in-Some.line) c.loop-begun.placed c.loop-begun.fixed.items c.loop-begun.begun.items _ here refused in
    absurd (none_some _ (sym (no_fault_in c.args.design.now c.args.grid.now (lines c.args.bytes.now) fixed begun one) ∙ first))

pub returns-in_err-take-clause-fault : goal.returns-in_err-take-clause-fault
returns-in_err-take-clause-fault c =
    let p = err_from_is_err_and c.from_residual-in_err-take.result c.from_residual-in_err-take.ensures.1 in
    let next : c.loop-begun.left ≡ shown c.in-Some.line ∷ c.next.new.self = rw c.in-Some.is at c.in_ok-line.ensures.some in
    let here = rw next at c.loop-begun.invariant.pinning in
    let refused = ap (take_fault c.loop-begun.placed) (sym c.without_free-line.ensures) ∙ c.in_err-take.ensures.fault in
    let first = fails c.args.design.now c.args.grid.now (lines c.args.bytes.now) c.next.new.self (shown c.in-Some.line) c.loop-begun.placed c.loop-begun.fixed.items c.loop-begun.begun.items _ here refused in
    rw (p.1, p.2) (fault_is _ _ first)

pub keep-requires-clause-new : goal.keep-requires-clause-new
keep-requires-clause-new c b s h =
    let next : c.loop-begun.left ≡ shown c.in-Some.line ∷ c.next.new.self = rw c.in-Some.is at c.in_ok-line.ensures.some in
    let here = rw next at c.loop-begun.invariant.pinning in
    let taken = ap (take_fault c.loop-begun.placed) (sym c.without_free-line.ensures) ∙ c.in_ok-take.ensures.ok in
    let given = ap (site_for c.args.design.now b) (sym c.without_free-line.ensures) ∙ h in
    (is_new c.args.design.now c.args.grid.now (lines c.args.bytes.now) c.next.new.self (shown c.in-Some.line) c.loop-begun.placed c.loop-begun.fixed.items c.loop-begun.begun.items b s here taken given).1

pub keep-requires-else-free-clause-new : goal.keep-requires-else-free-clause-new
keep-requires-else-free-clause-new c b s h =
    let next : c.loop-begun.left ≡ shown c.in-Some.line ∷ c.next.new.self = rw c.in-Some.is at c.in_ok-line.ensures.some in
    let here = rw next at c.loop-begun.invariant.pinning in
    let taken = ap (take_fault c.loop-begun.placed) (sym c.without_free-line.ensures) ∙ c.in_ok-take.ensures.ok in
    let given = ap (site_for c.args.design.now b) (sym c.without_free-line.ensures) ∙ h in
    (is_new c.args.design.now c.args.grid.now (lines c.args.bytes.now) c.next.new.self (shown c.in-Some.line) c.loop-begun.placed c.loop-begun.fixed.items c.loop-begun.begun.items b s here taken given).0

pub loop-begun-preserved : goal.loop-begun-preserved
loop-begun-preserved c =
    let d = c.args.design.now in
    let g = c.args.grid.now in
    let l = shown c.in-Some.line in
    let fixed = c.loop-begun.fixed.items in
    let begun = c.loop-begun.begun.items in
    let next : c.loop-begun.left ≡ l ∷ c.next.new.self = rw c.in-Some.is at c.in_ok-line.ensures.some in
    let here = rw next at c.loop-begun.invariant.pinning in
    let plain = c.without_free-line.ensures in
    let clear : take_fault c.loop-begun.placed (without_free l) ≡ None = ap (take_fault c.loop-begun.placed) (sym plain) ∙ c.in_ok-take.ensures.ok in
    let taken : c.take.new.self ≡ with_line c.loop-begun.placed (without_free l) = c.in_ok-take.ensures.taken ∙ ap (with_line c.loop-begun.placed) plain in
    let law = c.in_ok-placed.ensures.lawful in
    elim c.if-free.branch [
      | then-free w ↦
          let kept = w.keep.ensures in
          let new = w.keep.new.sites.items in
          let on = beginning d l fixed begun new (sym c.is_free-free.ensures ∙ w.if-free.true) (λ b. kept.kept b ∙ ap (λ k. either_site (fixed_at begun b) (site_for d b k)) plain) in
          rw (w.fixed-is, w.begun-is) (record {
            pinning = step d g (lines c.args.bytes.now) c.next.new.self l c.loop-begun.placed c.take.new.self fixed begun fixed new law here clear taken on;
            fixed_long = c.loop-begun.invariant.fixed_long;
            begun_long = kept.long ∙ c.loop-begun.invariant.begun_long;
          })
      | else-free w ↦
          let kept = w.keep-else-free.ensures in
          let new = w.keep-else-free.new.sites.items in
          let on = fixing d l fixed begun new (sym c.is_free-free.ensures ∙ w.if-free.false) (λ b. kept.kept b ∙ ap (λ k. either_site (fixed_at fixed b) (site_for d b k)) plain) in
          rw (w.fixed-is, w.begun-is) (record {
            pinning = step d g (lines c.args.bytes.now) c.next.new.self l c.loop-begun.placed c.take.new.self fixed begun new begun law here clear taken on;
            fixed_long = kept.long ∙ c.loop-begun.invariant.fixed_long;
            begun_long = c.loop-begun.invariant.begun_long;
          })
    ]

-- all lines were taken, and gave the sites of the blocks that were fixed
all_taken : (c : goal.After-drop-placed-inside-2) → Pinning c.args.design.now c.args.grid.now (lines c.args.bytes.now) [] c.loop-begun.placed c.in_ok-fixed_there.field-0 c.in_ok-fixed_there-2.field-0
all_taken c =
    let end = rw c.in_default.is at c.in_ok-line.ensures.none in
    let here = rw end.0 at c.loop-begun.invariant.pinning in
    relisted c.args.design.now c.args.grid.now (lines c.args.bytes.now) [] c.loop-begun.placed c.loop-begun.fixed.items c.loop-begun.begun.items c.in_ok-fixed_there.field-0 c.in_ok-fixed_there-2.field-0 here
    (λ b. c.in_ok-fixed_there.ensures b ∙ ap (λ s. fixed_at s b) c.deref.ensures.value)
    (λ b. c.in_ok-fixed_there-2.ensures b ∙ ap (λ s. fixed_at s b) c.deref-2.ensures.value)

pub returns-clause-found : goal.returns-clause-found
returns-clause-found c = all_located c.args.design.now c.args.grid.now (lines c.args.bytes.now) c.loop-begun.placed c.in_ok-fixed_there.field-0 c.in_ok-fixed_there-2.field-0 (all_taken c)

pub returns-clause-only : goal.returns-clause-only
returns-clause-only c fixed begun one = one_meaning c.args.design.now c.args.grid.now (lines c.args.bytes.now) c.loop-begun.placed c.in_ok-fixed_there.field-0 c.in_ok-fixed_there-2.field-0 fixed begun (all_taken c) one

pub returns-clause-lawful : goal.returns-clause-lawful
returns-clause-lawful c = (all_located c.args.design.now c.args.grid.now (lines c.args.bytes.now) c.loop-begun.placed c.in_ok-fixed_there.field-0 c.in_ok-fixed_there-2.field-0 (all_taken c)).lawful
