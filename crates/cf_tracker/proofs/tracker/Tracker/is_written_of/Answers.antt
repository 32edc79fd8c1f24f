use Rattle.std.proofs.Common.{◌∙◌, sym}
use Rattle.std.proofs.lemmas.Bool.{eqb-true}
use Rattle.cf_tracker.specs.Account.{written_in}
use Rattle.cf_tables.specs.Extracts.{table_in}
use Rattle.cf_tracker.proofs.Writings.{whole_of}
use Rattle.cf_tracker.proofs.tracker.Tracker.is_written_of.Goals as goal

pub returns : goal.returns
returns g c = λ is.
    let now = c.args.self.now in
    let at = c.stands_at.ensures c.if-not-stands_at.false in
    whole_of (g.H.HeaderStore.chain now.store) (table_in now.extracts) (written_in now.account) now.bookmark.peer c.args.p
    now.bookmark.stands c.height-height.result c.requires at.0 at.1 c.height-height.ensures.value
    (sym c.len.ensures ∙ eqb-true c.len.result c.height-height.result is) now.stands
