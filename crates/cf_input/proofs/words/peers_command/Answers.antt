use Rattle.std.specs.Prelude.{codes}
use Rattle.clap.specs.Words.{new_rule, with_rule}
use Rattle.cf_input.specs.Words.{needed, options_app, several}
use Rattle.cf_input.proofs.words.peers_command.Goals as goal

pub returns-clause-app : goal.returns-clause-app
returns-clause-app c =
    let options = options_app c.args.name.now in
    let one = c.with_arg-command.ensures.app options (needed (new_rule (codes "watch"))) c.options_of.ensures.app c.word_arg.ensures.0 in
    c.with_arg.ensures.app (with_rule options (needed (new_rule (codes "watch")))) (several (needed (new_rule (codes "peer")))) one c.peers_arg.ensures.0

pub returns-clause-globals : goal.returns-clause-globals
returns-clause-globals c = c.with_arg.ensures.globals
