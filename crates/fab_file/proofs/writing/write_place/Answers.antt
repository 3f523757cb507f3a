use Rattle.std.proofs.Common.{sym, ◌∙◌}
use Rattle.fab_file.proofs.Back.{reads_back}
use Rattle.fab_file.proofs.writing.write_place.Goals as goal

pub returns-clause-back : goal.returns-clause-back
returns-clause-back g c =
    let law = c.in_ok-text.ensures in
    let labels = sym c.are_labels.ensures ∙ c.if-not-are_labels.false in
    reads_back c.args.labels.now.net.now c.args.labels.now.arch.now c.args.design.now c.args.grid.now c.args.placement.now.sites labels law.lawful law.limits c.requires
