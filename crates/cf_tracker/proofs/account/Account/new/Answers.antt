use Rattle.std.proofs.Common.{List, reverse, sym, subst}
use Rattle.cf_scan.specs.Book.{Stands}
use Rattle.cf_tracker.specs.declared.account.Written.{Written}
use Rattle.cf_tracker.specs.Written.{placed_written}
use Rattle.cf_tracker.proofs.account.Account.new.Goals as goal

pub returns-clause-book : goal.returns-clause-book
returns-clause-book c = λ table later keeps.
    subst (λ (xs : List Written). Stands c.new.result (reverse (placed_written later 1 xs))) (sym c.new-2.ensures.items) c.new.ensures
