use Rattle.std.proofs.Common.{◌∙◌}
use Rattle.std.specs.Int.{w64}
use borrow.Author.Gap.{read_sfits}
use Rattle.cf_client.proofs.Asking.{greeting_is}
use Rattle.cf_client.proofs.client.greeting.Goals as goal

pub returns-clause-greeting : goal.returns-clause-greeting
returns-clause-greeting c = greeting_is _ c.args.nonce c.from_vec.result (read_sfits w64 _) c.ranges.nonce.fits (c.from_vec.ensures ∙ c.in_ok-agent.ensures.items)
