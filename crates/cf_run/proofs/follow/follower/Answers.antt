use Rattle.std.proofs.Common.{◌∙◌, ap, rules}
use Rattle.std.proofs.Math.Facts.{to_z-of_z}
use Rattle.std.specs.Int.{w64}
use Rattle.cf_sync.specs.Fetching.{Rule, following}
use Rattle.cf_run.proofs.Versions.{greeting_so}
use Rattle.cf_run.proofs.follow.follower.Goals as goal

pub returns-clause-rule : goal.returns-clause-rule
returns-clause-rule g c = c.following.ensures.rule ∙ ap (λ (r : Rule). following r.watch) c.in_ok-client.ensures.rule

pub returns-clause-greeting : goal.returns-clause-greeting
returns-clause-greeting g c =
    greeting_so _ _ c.args.moment c.args.nonce (c.following.ensures.greeting ∙ c.in_ok-client.ensures.greeting) (to_z-of_z {w = w64} {z = c.args.moment} (search rules))
