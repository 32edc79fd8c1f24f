use Rattle.cf_lent.specs.View.{msg_of}
use Rattle.cf_tracker.specs.Seen.{seen_of}
use Rattle.cf_hear.proofs.Exposing.{plain_exposes}
use Rattle.cf_hear.proofs.Hearing.{plain_lent, plain_hears}
use Rattle.cf_hear.proofs.hear.hear.Goals as goal

pub returns-in_default-clause-heard : goal.returns-in_default-clause-heard
returns-in_default-clause-heard g c = λ t h f.
    let d = c.in_default in
    plain_hears (seen_of c.args.tracker.now) c.args.p c.hear.new.self (msg_of c.args.message) t c.hear.result
    (plain_lent c.args.message d.not-Headers d.not-Block d.not-Cfilter d.not-Cfheaders d.not-Inv) (c.hear.ensures.heard t h) f

pub returns-in_default-clause-exposes : goal.returns-in_default-clause-exposes
returns-in_default-clause-exposes g c = λ t h f.
    plain_exposes (seen_of c.args.tracker.now) c.args.p.0 c.hear.new.self (msg_of c.args.message) t c.hear.result (c.hear.ensures.heard t h)
