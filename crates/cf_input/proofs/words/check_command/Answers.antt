use Rattle.std.specs.Prelude.{codes}
use Rattle.clap.specs.Words.{new_app, new_rule, with_rule}
use Rattle.cf_input.specs.Words.{flag_rule, needed}
use Rattle.cf_input.proofs.words.check_command.Goals as goal

pub returns-clause-app : goal.returns-clause-app
returns-clause-app c =
    let witness = flag_rule (codes "witness") in
    let file = needed (new_rule (codes "file")) in
    let none = new_app (codes "check") in
    let one = c.with_arg-command.ensures.app none witness c.new.ensures.app c.flag_arg.ensures.0 in
    let two = c.with_arg-command-2.ensures.app (with_rule none witness) file one c.word_arg.ensures.0 in
    c.with_arg.ensures.app (with_rule (with_rule none witness) file) (new_rule (codes "blocks")) two c.further_arg.ensures.0

pub returns-clause-globals : goal.returns-clause-globals
returns-clause-globals c = c.with_arg.ensures.globals
