use Rattle.clap.specs.Words.{new_app, new_rule}
use Rattle.cf_input.specs.Words.{needed}
use Rattle.cf_input.proofs.words.one_word.Goals as goal

pub returns-clause-app : goal.returns-clause-app
returns-clause-app c =
    c.with_arg.ensures.app (new_app c.args.name.now) (needed (new_rule c.args.one.now)) c.new.ensures.app c.word_arg.ensures.0

pub returns-clause-globals : goal.returns-clause-globals
returns-clause-globals c = c.with_arg.ensures.globals
