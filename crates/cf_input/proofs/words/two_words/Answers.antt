use Rattle.clap.specs.Words.{new_rule}
use Rattle.cf_input.specs.Words.{needed, one_app}
use Rattle.cf_input.proofs.words.two_words.Goals as goal

pub returns-clause-app : goal.returns-clause-app
returns-clause-app c =
    c.with_arg.ensures.app (one_app c.args.name.now c.args.one.now) (needed (new_rule c.args.two.now)) c.one_word-command.ensures.app c.word_arg.ensures.0

pub returns-clause-globals : goal.returns-clause-globals
returns-clause-globals c = c.with_arg.ensures.globals
