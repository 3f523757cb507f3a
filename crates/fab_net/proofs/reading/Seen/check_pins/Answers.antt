use Rattle.std.proofs.Common.{◌≡◌, ◌-◌, true, not, length, map, drop, sym, ap, ◌∙◌, arith}
use Rattle.std.proofs.lemmas.List.{length-map, length-drop}
use Rattle.std.specs.Prelude.{is_some}
use Rattle.fab_text.specs.FirstFault.{unless}
use Rattle.fab_text.specs.Shown.{shown}
use Rattle.fab_net.specs.declared.fault.NetFault.TheVariants.{TooLarge}
use Rattle.fab_net.specs.Said.{Said, connected, last_kind, kind_or_pad, pins_more, pins_fault}
use Rattle.fab_net.specs.Text.{entries_in, pin_count}
use Rattle.fab_net.proofs.Entries.{entries_in_len}
use Rattle.fab_net.proofs.Room.{by_room, few_pins, pins_named}
use Rattle.fab_net.proofs.reading.Seen.check_pins.Goals as goal

pub have_room-requires-clause-words : goal.have_room-requires-clause-words
have_room-requires-clause-words c =
    let line = c.args.line.now in
    let w = ap length c.rest_words.ensures in
    let m = length-map line.words.items (λ w. w.now) in
    let n = entries_in_len (shown line) (m ∙ line.placed) in
    let k = length-map c.rest_words.result.now (λ w. w.now) in
    let most = few_pins c.args.arch.now c.kind_or_pad.result c.requires in
    omega (arith, w, n, k, length-drop 1 (shown line).words, c.entry_count.ensures, c.if-entry_count-pin_count.false, c.pin_count.ensures, most)

pub returns-then-not-have_room : goal.returns-then-not-have_room
returns-then-not-have_room c =
    let line = c.args.line.now in
    let l = shown line in
    let inside = c.self.inside in
    let s : Said = record { kinds = inside.kinds.items; names = inside.names; awaiting = inside.awaiting; pins = inside.pins; globals = map (λ w. w.now) inside.globals.items } in
    let kind = c.kind_or_pad.ensures ∙ ap kind_or_pad (c.last_kind.ensures ∙ ap last_kind c.deref.ensures.value) in
    let count : length (entries_in l) ≡ pin_count c.args.arch.now (kind_or_pad (last_kind s.kinds)) = sym c.entry_count.ensures ∙ c.if-entry_count-pin_count.false ∙ c.pin_count.ensures ∙ ap (pin_count c.args.arch.now) kind in
    let waiting : is_some s.awaiting ≡ true = c.is_none.ensures ∙ ap not c.if-is_none.false in
    let m = length-map line.words.items (λ w. w.now) in
    let named = pins_named c.args.arch.now (kind_or_pad (last_kind s.kinds)) (length s.kinds - 1) (drop 1 l.words) (drop 1 l.spans) (omega (arith, m, line.placed, length-drop 1 l.words, length-drop 1 l.spans)) in
    let room = c.have_room.ensures (pins_more c.args.arch.now s.kinds l) (named ∙ ap connected (sym c.rest_words.ensures)) in
    ap (λ x. pins_fault c.args.arch.now x l) (sym c.self.view_is) ∙ by_room c.args.arch.now s l c.have_room.result waiting count room ∙ ap (λ b. unless b (TooLarge l.number)) c.if-not-have_room.true

pub returns : goal.returns
returns c =
    let line = c.args.line.now in
    let l = shown line in
    let inside = c.self.inside in
    let s : Said = record { kinds = inside.kinds.items; names = inside.names; awaiting = inside.awaiting; pins = inside.pins; globals = map (λ w. w.now) inside.globals.items } in
    let kind = c.kind_or_pad.ensures ∙ ap kind_or_pad (c.last_kind.ensures ∙ ap last_kind c.deref.ensures.value) in
    let count : length (entries_in l) ≡ pin_count c.args.arch.now (kind_or_pad (last_kind s.kinds)) = sym c.entry_count.ensures ∙ c.if-entry_count-pin_count.false ∙ c.pin_count.ensures ∙ ap (pin_count c.args.arch.now) kind in
    let waiting : is_some s.awaiting ≡ true = c.is_none.ensures ∙ ap not c.if-is_none.false in
    let m = length-map line.words.items (λ w. w.now) in
    let named = pins_named c.args.arch.now (kind_or_pad (last_kind s.kinds)) (length s.kinds - 1) (drop 1 l.words) (drop 1 l.spans) (omega (arith, m, line.placed, length-drop 1 l.words, length-drop 1 l.spans)) in
    let room = c.have_room.ensures (pins_more c.args.arch.now s.kinds l) (named ∙ ap connected (sym c.rest_words.ensures)) in
    ap (λ x. pins_fault c.args.arch.now x l) (sym c.self.view_is) ∙ by_room c.args.arch.now s l c.have_room.result waiting count room ∙ ap (λ b. unless b (TooLarge l.number)) c.if-not-have_room.false
