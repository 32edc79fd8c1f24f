use Rattle.std.proofs.Common.{ap}
use Rattle.cf_hub.proofs.Heard.{heard_step}
use Rattle.cf_hub.proofs.taking.receive.Goals as goal

pub returns-clause-heard : goal.returns-clause-heard
returns-clause-heard g c = λ h. heard_step _ _ _ _ c.next-entry.result.from c.next-entry.result.kind (ap (λ v. v.got) c.next-entry.ensures.got) c.note_last.ensures.last c.note_last.ensures.other h
