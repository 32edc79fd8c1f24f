use Rattle.std.proofs.Common.{◌∙◌, reverse, sym}
use Rattle.std.proofs.lemmas.List.{length-reverse}
use Rattle.cf_tracker.specs.Account.{written_in}
use Rattle.cf_tables.specs.Extracts.{table_in}
use Rattle.cf_seek.specs.Tracking.{best_chain}
use Rattle.cf_tracker.proofs.Telling.{history_along, history_opened}
use Rattle.cf_tracker.proofs.Writings.{whole_along}
use Rattle.cf_tracker.proofs.tracker.Tracker.history_of_best.Goals as goal

pub returns-then-is_written : goal.returns-then-is_written
returns-then-is_written g c =
    let now = c.args.self.now in
    let own = best_chain (g.H.HeaderStore.chain now.store) c.args.best in
    let table = table_in now.extracts in
    let whole = c.is_written.ensures c.if-is_written.true in
    history_opened table now.account c.in_ok-history.history (c.in_ok-history.ensures table) now.book
    ∙ history_along table (reverse own) (written_in now.account) (whole.long ∙ sym (length-reverse own)) (whole_along table own (written_in now.account) whole)
