use Rattle.std.specs.Prelude.{codes}
use Rattle.clap.specs.Words.{new_app, new_rule, with_rule}
use Rattle.cf_input.specs.Words.{flag_rule, needed}
use Rattle.cf_input.proofs.words.make_command.Goals as goal

pub returns-clause-app : goal.returns-clause-app
returns-clause-app c =
    let witness = flag_rule (codes "witness") in
    let option = with_rule (new_app (codes "make")) witness in
    let one = c.with_arg-command.ensures.app (new_app (codes "make")) witness c.new.ensures.app c.flag_arg.ensures.0 in
    let two = c.with_arg-command-2.ensures.app option (needed (new_rule (codes "seed"))) one c.word_arg.ensures.0 in
    let three = c.with_arg-command-3.ensures.app (with_rule option (needed (new_rule (codes "seed")))) (needed (new_rule (codes "blocks"))) two c.word_arg-2.ensures.0 in
    c.with_arg.ensures.app (with_rule (with_rule option (needed (new_rule (codes "seed")))) (needed (new_rule (codes "blocks")))) (needed (new_rule (codes "file"))) three c.word_arg-3.ensures.0

pub returns-clause-globals : goal.returns-clause-globals
returns-clause-globals c = c.with_arg.ensures.globals
