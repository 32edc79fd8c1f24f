use Rattle.std.specs.Prelude.{codes}
use Rattle.clap.specs.Words.{new_app, with_rule}
use Rattle.cf_input.specs.Words.{option_rule}
use Rattle.cf_input.proofs.words.options_of.Goals as goal

pub returns-clause-app : goal.returns-clause-app
returns-clause-app c =
    let turns = option_rule (codes "turns") in
    let workers = option_rule (codes "workers") in
    let one = c.with_arg-command.ensures.app (new_app c.args.name.now) turns c.new.ensures.app c.option_arg.ensures.0 in
    let two = c.with_arg-command-2.ensures.app (with_rule (new_app c.args.name.now) turns) workers one c.option_arg-2.ensures.0 in
    c.with_arg.ensures.app (with_rule (with_rule (new_app c.args.name.now) turns) workers) (option_rule (codes "record")) two c.option_arg-3.ensures.0

pub returns-clause-globals : goal.returns-clause-globals
returns-clause-globals c = c.with_arg.ensures.globals
