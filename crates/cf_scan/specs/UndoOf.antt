-- machine: what coins that remember stand for.
use Rattle.std.specs.Prelude.{List}
use Rattle.cf_scan.specs.declared.changes.Change.{Change}
use Rattle.cf_scan.specs.declared.undo.UndoCoins.{UndoCoins}
use Rattle.cf_scan.specs.Coins.{WatchedMap}
use Rattle.cf_scan.specs.MarkedOf.{coins_in}

-- the coins that stand
abbrev pub coins_of : UndoCoins → WatchedMap
coins_of u = coins_in u.coins

-- the changes that are remembered, the newest last
abbrev pub log_of : UndoCoins → List Change
log_of u = u.log.items
