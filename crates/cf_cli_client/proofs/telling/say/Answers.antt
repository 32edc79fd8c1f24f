use Rattle.std.proofs.Common.{inl, inr, refl}
use Rattle.cf_cli_client.proofs.Stays.{counts_fine}
use Rattle.cf_cli_client.proofs.telling.say.Goals as goal

pub returns-in-Ok-clause-said : goal.returns-in-Ok-clause-said
returns-in-Ok-clause-said g c = inl (c.status_of.ensures.answer, c.in-Ok.ensures.ok)

pub returns-in-Err-clause-said : goal.returns-in-Err-clause-said
returns-in-Err-clause-said g c = inr (refl, c.in-Err.ensures.err)

pub returns-in-Ok-clause-counts : goal.returns-in-Ok-clause-counts
returns-in-Ok-clause-counts g c = counts_fine c.status_of.result _ _ c.status_of.ensures.over c.in-Ok.ensures.kept
