use Rattle.std.proofs.Common.{◌≡◌, ◌+◌, length, map, sym, ap, ◌∙◌, arith}
use Rattle.std.proofs.lemmas.Bool.{leb-true}
use Rattle.fab_net.specs.Text.{net_of_pin, net_names}
use Rattle.fab_net.proofs.Naming.{nets_le}
use Rattle.fab_net.proofs.Room.{Grown, over, no_room, room_surely, room_counted, connected_len, added_few, most_names}
use Rattle.fab_net.specs.Said.{connected}
use Rattle.fab_net.proofs.pins.Pins.have_room.Goals as goal

pub returns-then-not-are_few_terminals : goal.returns-then-not-are_few_terminals
returns-then-not-are_few_terminals c more h =
    let words = c.args.words.now in
    let many = over (c.len.result + c.connected_count-added.result) 1048576 (sym c.are_few_terminals.ensures ∙ c.if-not-are_few_terminals.true) in
    no_room c.args.self.now more (map (λ w. w.now) words) h (omega (arith, many, c.len.ensures, c.connected_count-added.ensures.count, connected_len words))

pub overflow_add-nets : goal.overflow_add-nets
overflow_add-nets c =
    let words = c.args.words.now in
    omega (arith, c.net_count-nets.ensures, nets_le c.args.self.now, c.requires.few, c.requires.words, c.connected_count-added.ensures.count, connected_len words, added_few words)

pub overflow_add-nets-else-are_few_nets : goal.overflow_add-nets-else-are_few_nets
overflow_add-nets-else-are_few_nets c =
    let words = map (λ w. w.now) c.args.words.now in
    let names = map net_of_pin c.args.self.now in
    let nets = c.self.invariant.0 ∙ ap net_names c.self.view_is in
    let all = c.count_new.ensures names nets in
    let n = ap length nets in
    omega (arith, c.net_count-nets.ensures, n, all, most_names names (connected words), nets_le c.args.self.now, c.requires.few, c.requires.words, added_few c.args.words.now)

pub returns-then-are_few_nets : goal.returns-then-are_few_nets
returns-then-are_few_nets c more h =
    let words = c.args.words.now in
    let added = connected_len words in
    let few = leb-true (c.len.result + c.connected_count-added.result) 1048576 (sym c.are_few_terminals.ensures ∙ c.if-not-are_few_terminals.false) in
    c.are_few_nets.ensures ∙ room_surely c.args.self.now more (map (λ w. w.now) words) h
    (omega (arith, few, c.len.ensures, c.connected_count-added.ensures.count, added))
    (c.net_count-nets.result + c.connected_count-added.result)
    (omega (arith, c.net_count-nets.ensures, c.connected_count-added.ensures.count, added))
    (leb-true (c.net_count-nets.result + c.connected_count-added.result) 65535 (sym c.are_few_nets.ensures ∙ c.if-are_few_nets.true))

pub returns-else-are_few_nets : goal.returns-else-are_few_nets
returns-else-are_few_nets c more h =
    let words = c.args.words.now in
    let names = map net_of_pin c.args.self.now in
    let nets = c.self.invariant.0 ∙ ap net_names c.self.view_is in
    let all : length c.self.inside.names + c.count_new.result ≡ Grown names (map (λ w. w.now) words) = c.count_new.ensures names nets in
    let count : c.net_count-nets.result ≡ length c.self.inside.names = c.net_count-nets.ensures ∙ sym (ap length nets) in
    let few = leb-true (c.len.result + c.connected_count-added.result) 1048576 (sym c.are_few_terminals.ensures ∙ c.if-not-are_few_terminals.false) in
    c.are_few_nets-else-are_few_nets.ensures ∙ room_counted c.args.self.now more (map (λ w. w.now) words) h
    (omega (arith, few, c.len.ensures, c.connected_count-added.ensures.count, connected_len words))
    (c.net_count-nets.result + c.count_new.result)
    (ap (λ n. n + c.count_new.result) count ∙ all)
