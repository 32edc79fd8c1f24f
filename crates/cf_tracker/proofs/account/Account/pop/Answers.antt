use Rattle.cf_tracker.proofs.Telling.{book_less}
use Rattle.cf_tracker.proofs.account.Account.pop.Goals as goal

pub returns-in-Some-clause-book : goal.returns-in-Some-clause-book
returns-in-Some-clause-book c = λ table is.
    book_less table c.args.self.now.book c.pop-in-Some.new.self c.args.self.now.written.items c.pop.new.self.items c.in-Some.field-0
    c.in-Some.ensures.items (λ block blocks s. (c.pop-in-Some.ensures.some block blocks s).1) is
