use Rattle.std.proofs.Common.{◌∙◌, sym}
use Rattle.std.proofs.lemmas.Result.{IfOk-weaker}
use Rattle.std.specs.Prelude.{codes}
use Rattle.clap.specs.Words.{new_app}
use Rattle.cf_input.specs.Words.{follow_app, replay_app, sync_app, with_sub}
use Rattle.cf_input.proofs.Simple.{client_is}
use Rattle.cf_input.proofs.words.client_command.Goals as goal

pub returns-clause-app : goal.returns-clause-app
returns-clause-app c =
    let one = c.add-command.ensures.app (new_app (codes "cf")) sync_app c.new.ensures.app c.peers_command.ensures.app in
    let two = c.add-command-2.ensures.app (with_sub (new_app (codes "cf")) sync_app) follow_app one c.peers_command-2.ensures.app in
    IfOk-weaker c.add.result _ _ (λ k h. h ∙ sym client_is)
    (c.add.ensures.app (with_sub (with_sub (new_app (codes "cf")) sync_app) follow_app) replay_app two c.replay_command.ensures.app)

pub returns-clause-globals : goal.returns-clause-globals
returns-clause-globals c = c.add.ensures.globals
