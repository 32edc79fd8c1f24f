-- machine: which blocks a history with undo stands for.
use Rattle.std.specs.Prelude.{◌≡◌, List, [], ◌∷◌, ◌++◌, take, drop, reverse}
use Rattle.std.specs.FinMap.{empty}
use Rattle.cf_scan.specs.declared.book.Book.{Book}
use Rattle.cf_scan.specs.declared.changes.Change.{Change}
use Rattle.cf_scan.specs.declared.extracts.Placed.{Placed}
use Rattle.cf_scan.specs.declared.history.Entry.{Entry}
use Rattle.cf_scan.specs.declared.page.Page.{Page}
use Rattle.cf_scan.specs.Coins.{WatchedMap}
use Rattle.cf_scan.specs.Extracts.{after_placed}
use Rattle.cf_scan.specs.Scan.{Scanned}
use Rattle.cf_scan.specs.Undo.{Goes, undo_back}
use Rattle.cf_scan.specs.UndoOf.{coins_of, log_of}

-- the blocks, the newest first, with the page of each: without the newest one's changes and entries it stands for the others,
-- and with it that one is told
abbrev pub StandsOn : List Placed → List Page → List Entry → List Change → WatchedMap → Type 0
StandsOn [] [] entries log coins = (entries ≡ []) × (log ≡ []) × (coins ≡ empty)
StandsOn [] (page ∷ pages) entries log coins = ⊥
StandsOn (block ∷ blocks) [] entries log coins = ⊥
StandsOn (block ∷ blocks) (page ∷ pages) entries log coins =
    (◌≡◌ {A = Scanned} (record { entries = entries; coins = coins })
    (after_placed (record { entries = take page.entries entries; coins = undo_back coins (reverse (drop page.changes log)) }) block))
    × StandsOn blocks pages (take page.entries entries) (take page.changes log) (undo_back coins (reverse (drop page.changes log)))

-- the entries so far, and the coins as they stand
abbrev pub scanned_by : Book → Scanned
scanned_by b = record { entries = b.entries.items; coins = coins_of b.coins }

-- it stands for these blocks, the newest of which is the first
abbrev pub Stands : Book → List Placed → Type 0
Stands b blocks = StandsOn blocks (reverse b.pages.items) b.entries.items (log_of b.coins) (coins_of b.coins)

-- the same pages; entries were added, and changes, which lead back
pub record Grows (old now : Book) : Type 0 where
  pub pages : now.pages.items ≡ old.pages.items
  pub more : List Entry
  pub entries : now.entries.items ≡ old.entries.items ++ more
  pub goes : Goes (log_of old.coins) (coins_of old.coins) (log_of now.coins) (coins_of now.coins)
