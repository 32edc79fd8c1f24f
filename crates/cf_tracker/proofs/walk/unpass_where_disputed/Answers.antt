use Rattle.std.proofs.Common.{inr, refl}
use Rattle.cf_tracker.proofs.walk.unpass_where_disputed.Goals as goal

pub returns-then-not-may_differ : goal.returns-then-not-may_differ
returns-then-not-may_differ c = inr (refl, λ block is none. c.requires c.if-not-may_differ.true block is)
