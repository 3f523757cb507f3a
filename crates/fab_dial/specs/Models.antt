-- What contracts see of the dial's ends. Our own.
use Rattle.std.specs.Prelude.{List}
use Rattle.atomic_table.specs.Seated.{TableId}
use Rattle.fab_dial.specs.declared.readings.Reading.{Reading}

-- the dial that it shows on, and all that was shown
pub record ShowerModel : Type 0 where
  pub dial : TableId
  pub shown : List Reading

-- the dial that it reads, and the readings up to the last one read
pub record WatcherModel : Type 0 where
  pub dial : TableId
  pub seen : List Reading
