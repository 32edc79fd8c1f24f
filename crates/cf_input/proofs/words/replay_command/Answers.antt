use Rattle.std.specs.Prelude.{codes}
use Rattle.clap.specs.Words.{new_app, new_rule, with_rule}
use Rattle.cf_input.specs.Words.{flag_rule, needed}
use Rattle.cf_input.proofs.words.replay_command.Goals as goal

pub returns-clause-app : goal.returns-clause-app
returns-clause-app c =
    let name = new_app (codes "replay") in
    let follow = flag_rule (codes "follow") in
    let trace = flag_rule (codes "trace") in
    let one = c.with_arg-command.ensures.app name follow c.new.ensures.app c.flag_arg.ensures.0 in
    let two = c.with_arg-command-2.ensures.app (with_rule name follow) trace one c.flag_arg-2.ensures.0 in
    let options = with_rule (with_rule name follow) trace in
    let three = c.with_arg-command-3.ensures.app options (needed (new_rule (codes "watch"))) two c.word_arg.ensures.0 in
    c.with_arg.ensures.app (with_rule options (needed (new_rule (codes "watch")))) (needed (new_rule (codes "session"))) three c.word_arg-2.ensures.0

pub returns-clause-globals : goal.returns-clause-globals
returns-clause-globals c = c.with_arg.ensures.globals
