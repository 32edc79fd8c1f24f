use Rattle.std.proofs.Common.{refl, sym, subst}
use Rattle.cf_lent.specs.View.{msg_of}
use Rattle.cf_lent.specs.declared.views.View.{View}
use Rattle.cf_peer.specs.Peer.{IsVersionOf}
use Rattle.cf_peer.proofs.peer.Peer.hear.Goals as goal

pub returns-in-Version-clause-heard : goal.returns-in-Version-clause-heard
returns-in-Version-clause-heard c = λ t h.
    c.hear_version.ensures.heard t (msg_of c.args.message.now) h
    (subst (λ (v : View). IsVersionOf c.in-Version.services (msg_of v)) (sym c.in-Version.is) refl)
