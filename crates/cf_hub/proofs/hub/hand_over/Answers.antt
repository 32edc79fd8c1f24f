use Rattle.std.proofs.Common.{sym}
use Rattle.cf_hub.proofs.hub.hand_over.Goals as goal

pub invariant_of-ticker : goal.invariant_of-ticker
invariant_of-ticker g c = record { fresh = c.requires c.in-Some.field-0 (sym c.in-Some.ensures.value); unasked = c.in-Some.field-0.unasked }
