use Rattle.std.proofs.lemmas.Bool.{false≢true}
use Rattle.std.proofs.lemmas.Result.{err_from_is_err_and}
use Rattle.fab_arch.specs.Grid.{shape}
use Rattle.fab_run.proofs.Readers.{place_text, size_reads}
use Rattle.fab_run.proofs.check.read_array.Goals as goal

pub returns-in_err-nx-clause-text : goal.returns-in_err-nx-clause-text
returns-in_err-nx-clause-text c =
    let p = err_from_is_err_and c.from_residual.result c.from_residual.ensures.1 in
    rw (p.1, p.2) (place_text _ _ (size_reads _) c.in_err-nx.ensures.fault)

pub returns-in_err-grid-clause-fault : goal.returns-in_err-grid-clause-fault
returns-in_err-grid-clause-fault c arch net m =
    let p = err_from_is_err_and c.from_residual-in_err-grid.result c.from_residual-in_err-grid.ensures.1 in
    rw (p.1, p.2, c.in_err-grid.ensures.fault) (c.args.design.now, shape c.in_ok-nx.nx c.in_ok-nx.ny c.args.io_rat, record { design = m; size = c.in_ok-nx.ensures.size }, λ limits. false≢true (c.in_err-grid.ensures.limits.1 limits))
