use Rattle.std.proofs.Common.{◌≡◌, [], ◌∷◌, length, All}
use Rattle.fab_dial.proofs.ends.Dial.new.Given as goal

abbrev pub invariant-loop-watcher : goal.invariant-loop-watcher
invariant-loop-watcher g l = record {
  shower : (l.shower.dial ≡ l.dial-inside.cell.table.shared.table_id) × (l.shower.shown ≡ l.fn.first ∷ []);
  count : length l.all.items ≡ l._watcher;
  fresh : All (λ w. (w.dial ≡ l.dial-inside.cell.table.shared.table_id) × (w.seen ≡ l.fn.first ∷ [])) l.all.items;
}
