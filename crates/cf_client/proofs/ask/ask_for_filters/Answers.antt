use Rattle.std.proofs.Common.{rules, refl, arith}
use Rattle.cf_client.proofs.Asking.{filters_sendable}
use Rattle.cf_client.proofs.Steps.{sent_is}
use Rattle.cf_client.proofs.ask.ask_for_filters.Goals as goal

pub returns-in-Here : goal.returns-in-Here
returns-in-Here c =
    sent_is c.args.places.now c.args.i c.index-places-i.result c.in-Here.peer c.requires.here c.in-Here.is c.requires.idle
    (filters_sendable c.args.span.start c.args.span.stop (omega arith) (search rules))
    (rw (c.ask_filters.ensures.asked, c.from_vec.ensures) refl) c.in_ok-push.ensures.items
