use Rattle.std.proofs.Common.{List, ◌∷◌, [], ◌++◌, ◌∙◌, ap, arith}
use Rattle.cf_peer.specs.declared.act.Act.{Act}
use Rattle.cf_peer.specs.declared.act.Act.TheVariants.{Close}
use Rattle.cf_peer.specs.declared.peer.Cause.TheVariants.{SendFailed}
use Rattle.cf_client.specs.Steps.{desk}
use Rattle.cf_tracker.specs.Seen.{seen_of}
use Rattle.cf_hear.proofs.Tracking.{put_forgotten}
use Rattle.cf_client.proofs.Ordering.{told_none, told_close}
use Rattle.cf_client.proofs.Steps.{moves_self}
use Rattle.cf_client.proofs.Taking.{cut_moves}
use Rattle.cf_client.proofs.deliver.cut_off.Goals as goal

pub returns-clause-moves : goal.returns-clause-moves
returns-clause-moves g c = λ mode.
    rw c.in_ok-push.ensures.items
    (cut_moves mode (desk c.args.tracker.now c.args.places.now c.args.acts.now.items) c.args.p (seen_of c.forget.new.self) c.requires.none (omega arith) c.requires.order
    (put_forgotten (seen_of c.args.tracker.now) (seen_of c.forget.new.self) c.args.p c.forget.ensures.chains c.forget.ensures.claims c.forget.ensures.opens c.forget.ensures.stays))

pub returns-then-i-places-clause-unused : goal.returns-then-i-places-clause-unused
returns-then-i-places-clause-unused g c = λ over mode. moves_self (desk c.args.tracker.now c.args.places.now c.args.acts.now.items) c.requires.order

pub returns-clause-unused : goal.returns-clause-unused
returns-clause-unused g c = λ over mode. absurd (omega (arith, over))

pub returns-then-i-places-clause-told : goal.returns-then-i-places-clause-told
returns-then-i-places-clause-told g c = told_none c.args.acts.now.items c.requires.none

pub returns-clause-told : goal.returns-clause-told
returns-clause-told g c =
    told_close c.args.p SendFailed c.push.new.self.items
    (c.in_ok-push.ensures.items ∙ ap (λ (xs : List Act). xs ++ Close c.args.p SendFailed ∷ []) c.requires.none)
