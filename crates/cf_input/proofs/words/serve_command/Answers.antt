use Rattle.std.specs.Prelude.{codes}
use Rattle.clap.specs.Words.{new_rule, with_rule}
use Rattle.cf_input.specs.Words.{needed, serve_options_app}
use Rattle.cf_input.proofs.words.serve_command.Goals as goal

pub returns-clause-app : goal.returns-clause-app
returns-clause-app c =
    let file = needed (new_rule (codes "file")) in
    let named = c.with_arg-command.ensures.app serve_options_app file c.serve_options.ensures.app c.word_arg.ensures.0 in
    c.with_arg.ensures.app (with_rule serve_options_app file) (needed (new_rule (codes "address"))) named c.word_arg-2.ensures.0

pub returns-clause-globals : goal.returns-clause-globals
returns-clause-globals c = c.with_arg.ensures.globals
