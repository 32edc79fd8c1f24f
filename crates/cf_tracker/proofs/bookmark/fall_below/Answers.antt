use Rattle.std.proofs.Common.{◌∙◌, ap}
use Rattle.cf_headers.specs.Chain.{Chain}
use Rattle.cf_headers.specs.Heights.{hash_at}
use Rattle.cf_tracker.proofs.Writings.{entered_if, own_there, within_if}
use Rattle.cf_tracker.proofs.bookmark.fall_below.Goals as goal

pub passed_below-bookmark-requires-clause-entered : goal.passed_below-bookmark-requires-clause-entered
passed_below-bookmark-requires-clause-entered g c =
    let was = c.args.bookmark.now in
    entered_if (g.H.HeaderStore.chain c.args.store.now was.peer.0) was.stands c.requires.none c.if-stands-eq0.false

pub passed_below-bookmark-requires-clause-within : goal.passed_below-bookmark-requires-clause-within
passed_below-bookmark-requires-clause-within g c =
    let was = c.args.bookmark.now in
    let chain = g.H.HeaderStore.chain c.args.store.now was.peer.0 in
    within_if chain was.stands c.requires.within (entered_if chain was.stands c.requires.none c.if-stands-eq0.false)

pub returns-clause-apart : goal.returns-clause-apart
returns-clause-apart g c = λ own e h up low is.
    c.passed_below-bookmark.ensures.apart h up low (ap (λ (x : Chain). hash_at x h) (own_there (g.H.HeaderStore.chain c.args.store.now c.args.bookmark.now.peer.0) own e) ∙ is)
