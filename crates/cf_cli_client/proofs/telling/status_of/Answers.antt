use Rattle.std.proofs.Common.{refl, sym, subst}
use Rattle.cf_run.specs.declared.outcome.End.{End}
use Rattle.cf_answers.specs.declared.status.Status.TheVariants.{NoPeers}
use Rattle.cf_cli_client.specs.Theorem.{AnswersTo}
use Rattle.cf_cli_client.proofs.telling.status_of.Goals as goal

pub returns-in-NoPeers-clause-answer : goal.returns-in-NoPeers-clause-answer
returns-in-NoPeers-clause-answer c = subst (λ (end : End). AnswersTo end c.args.ends.items (NoPeers c.args.ends)) (sym c.in-NoPeers.is) (c.args.ends, refl, refl)
