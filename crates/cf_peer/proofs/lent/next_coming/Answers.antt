use Rattle.std.proofs.Common.{Option, Ok, subst}
use Rattle.cf_frame.specs.declared.frame.Frame.{Frame}
use Rattle.cf_frame.proofs.Lending.{has_frame}
use Rattle.cf_frame.specs.Lending.{Lends, after_frame}
use Rattle.cf_lent.specs.View.{msg_of}
use Rattle.cf_peer.proofs.LentLeads.{message_on, malformed_on, bad_on}
use Rattle.cf_peer.proofs.lent.next_coming.Goals as goal

pub returns-in-Ok : goal.returns-in-Ok
returns-in-Ok c =
    let bytes = c.args.framer.now in
    let front = subst (λ (o : Option Frame). Lends (Ok o) bytes) c.in-Ok-Some.field-0-is c.in-Ok-Some.ensures.exact in (
      has_frame bytes (after_frame bytes) c.in-Ok-Some.lent front,
      message_on bytes c.in-Ok-Some.lent
          (msg_of c.in-Ok.message) front c.in-Ok.ensures,
    )

pub returns-in-Err-view : goal.returns-in-Err-view
returns-in-Err-view c =
    let bytes = c.args.framer.now in
    let front = subst (λ (o : Option Frame). Lends (Ok o) bytes) c.in-Ok-Some.field-0-is c.in-Ok-Some.ensures.exact in
    malformed_on bytes c.in-Ok-Some.lent c.in-Err-view.field-0 front c.in-Err-view.ensures

pub returns-in-Err : goal.returns-in-Err
returns-in-Err c = bad_on c.args.framer.now c.in-Err.field-0 c.in-Err.ensures.exact
