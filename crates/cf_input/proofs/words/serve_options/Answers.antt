use Rattle.std.specs.Prelude.{codes}
use Rattle.clap.specs.Words.{new_app, with_rule}
use Rattle.cf_input.specs.Words.{flag_rule, option_rule}
use Rattle.cf_input.proofs.words.serve_options.Goals as goal

pub returns-clause-app : goal.returns-clause-app
returns-clause-app c =
    let grow = flag_rule (codes "grow") in
    let endless = flag_rule (codes "endless") in
    let connections = option_rule (codes "connections") in
    let at_once = option_rule (codes "at-once") in
    let budget = option_rule (codes "budget") in
    let bytes = option_rule (codes "grow-bytes") in
    let none = new_app (codes "serve") in
    let one = c.with_arg-command.ensures.app none grow c.new.ensures.app c.flag_arg.ensures.0 in
    let two = c.with_arg-command-2.ensures.app (with_rule none grow) endless one c.flag_arg-2.ensures.0 in
    let three = c.with_arg-command-3.ensures.app (with_rule (with_rule none grow) endless) connections two c.option_arg.ensures.0 in
    let four = c.with_arg-command-4.ensures.app (with_rule (with_rule (with_rule none grow) endless) connections) at_once three c.option_arg-2.ensures.0 in
    let five = c.with_arg-command-5.ensures.app (with_rule (with_rule (with_rule (with_rule none grow) endless) connections) at_once) budget four c.option_arg-3.ensures.0 in
    let six = c.with_arg-command-6.ensures.app (with_rule (with_rule (with_rule (with_rule (with_rule none grow) endless) connections) at_once) budget) bytes five c.option_arg-4.ensures.0 in
    c.with_arg.ensures.app (with_rule (with_rule (with_rule (with_rule (with_rule (with_rule none grow) endless) connections) at_once) budget) bytes) (flag_rule (codes "keep")) six
    c.flag_arg-3.ensures.0

pub returns-clause-globals : goal.returns-clause-globals
returns-clause-globals c = c.with_arg.ensures.globals
