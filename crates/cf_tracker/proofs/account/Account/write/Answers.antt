use Rattle.cf_tables.specs.Extracts.{table_in}
use Rattle.cf_tracker.proofs.Telling.{book_more, written_is}
use Rattle.cf_tracker.proofs.account.Account.write.Goals as goal

pub returns-in-Ok-clause-ok : goal.returns-in-Ok-clause-ok
returns-in-Ok-clause-ok c =
    written_is (table_in c.args.extracts.now) c.args.hash.now c.has-has_extract.result c.args.self.now.written.items
    c.push.new.self.items c.has-has_extract.ensures c.in_ok-push.ensures.items

pub returns-in-Ok-clause-book : goal.returns-in-Ok-clause-book
returns-in-Ok-clause-book c = λ is.
    book_more (table_in c.args.extracts.now) c.args.self.now.book c.tell.new.book c.args.self.now.written.items
    c.push.new.self.items c.args.height c.args.hash.now.0 c.requires (returns-in-Ok-clause-ok c) c.in-Ok.ensures.ok is
