use Rattle.std.proofs.Common.{◌≡◌, true, false, refl, sym, ◌∙◌}
use Rattle.fab_arch.specs.Grid.{is_logic_site}
use Rattle.fab_site.specs.Index.{index_of}
use Rattle.fab_site.proofs.Sites.{logic_bounds}
use Rattle.fab_site.proofs.index.index_of.Goals as goal

pub logic_index-requires : goal.logic_index-requires
logic_index-requires c =
    let g = c.args.grid.now in
    let is : is_logic_site g c.args.site ≡ true = sym (rw (c.nx-nx.ensures.value, c.ny-ny.ensures.value) at (c.is_logic_site.ensures g.io_rat)) ∙ c.if-is_logic_site.true in
    let b = logic_bounds g c.args.site is in
    (b.x_low, b.y_low)

pub returns-then-is_logic_site : goal.returns-then-is_logic_site
unfolding index_of
returns-then-is_logic_site c =
    let g = c.args.grid.now in
    let is : is_logic_site g c.args.site ≡ true = sym (rw (c.nx-nx.ensures.value, c.ny-ny.ensures.value) at (c.is_logic_site.ensures g.io_rat)) ∙ c.if-is_logic_site.true in
    let at = rw c.nx-nx.ensures.value at c.logic_index.ensures in
    rw (is, at) refl

pub returns-else-is_logic_site : goal.returns-else-is_logic_site
unfolding index_of
returns-else-is_logic_site c =
    let g = c.args.grid.now in
    let isnt : is_logic_site g c.args.site ≡ false = sym (rw (c.nx-nx.ensures.value, c.ny-ny.ensures.value) at (c.is_logic_site.ensures g.io_rat)) ∙ c.if-is_logic_site.false in
    rw isnt (rw (c.nx-nx.ensures.value, c.ny-ny.ensures.value, c.io_rat.ensures.value) at c.pad_index.ensures)
