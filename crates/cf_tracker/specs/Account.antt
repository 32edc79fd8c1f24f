-- machine: the history that is written.
use Rattle.std.specs.Prelude.{List, reverse}
use Rattle.cf_scan.specs.declared.book.Book.{Book}
use Rattle.cf_scan.specs.Book.{Stands}
use Rattle.cf_tracker.specs.declared.account.Account.{Account}
use Rattle.cf_tracker.specs.declared.account.Written.{Written}
use Rattle.cf_tables.specs.Known.{ExtractTable}
use Rattle.cf_tracker.specs.Written.{KeepsExtracts, placed_written}

-- the blocks that are written, the lowest first
abbrev pub written_in : Account → List Written
written_in a = a.written.items

-- a book stands for blocks, by a table of extracts, and by each that has these and more
abbrev pub IsBookOf : ExtractTable → Book → List Written → Type 0
IsBookOf table book written =
    (later : ExtractTable) → KeepsExtracts table later → Stands book (reverse (placed_written later 1 written))

-- so its book does for those that are written
abbrev pub IsAccountOf : ExtractTable → Account → Type 0
IsAccountOf table a = IsBookOf table a.book a.written.items
