use Rattle.cf_headers.specs.Store.{own_of}
use Rattle.cf_tracker.specs.Account.{written_in}
use Rattle.cf_tables.specs.Extracts.{table_in}
use Rattle.cf_tracker.proofs.Writings.{shared_to, written_top}
use Rattle.cf_tracker.proofs.write.turn_to.Goals as goal

pub shared_height-from-requires-clause-none : goal.shared_height-from-requires-clause-none
shared_height-from-requires-clause-none g c = c.requires.stands.none

pub climb_written-bookmark-requires-clause-to : goal.climb_written-bookmark-requires-clause-to
climb_written-bookmark-requires-clause-to g c =
    let was = c.args.bookmark.now in
    shared_to (table_in c.args.extracts.now) (g.H.HeaderStore.chain c.args.store.now was.peer.0) (own_of (g.H.HeaderStore.chain c.args.store.now) c.args.p) (written_in c.args.account.now) was.stands c.shared_height-from.result
    c.shared_height-from.ensures.low c.shared_height-from.ensures.shared c.requires.stands

pub returns-clause-top : goal.returns-clause-top
returns-clause-top g c =
    written_top (table_in c.args.extracts.now) (own_of (g.H.HeaderStore.chain c.args.store.now) c.args.p) (written_in c.args.account.now) c.climb_written-bookmark.result c.height-most.result c.height-most.ensures.value c.climb_written-bookmark.ensures.to c.climb_written-bookmark.ensures.next
