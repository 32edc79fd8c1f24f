use Rattle.cf_tracker.specs.Seen.{seen_of}
use Rattle.cf_hear.proofs.Hearing.{news_hears, unknown_by}
use Rattle.cf_hear.proofs.hear.hear_inv.Goals as goal

pub returns-clause-heard : goal.returns-clause-heard
returns-clause-heard g c = λ t h f.
    let seen = seen_of c.args.tracker.now in
    news_hears seen c.args.p c.hear_news.new.self c.args.entries t
    (c.hear_news.ensures.heard t c.args.entries h (unknown_by seen c.args.p c.args.entries t c.are_news.result f c.are_news.ensures)) f
