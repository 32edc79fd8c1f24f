use Rattle.std.proofs.Common.{◌∙◌, sym}
use Rattle.std.proofs.lemmas.Result.{IfOk-weaker}
use Rattle.cf_input.specs.Words.{address_app, check_app, client_app, demo_app, filter_app, make_app, prove_app, scan_app, serve_app, with_sub}
use Rattle.cf_input.proofs.Simple.{cli_is}
use Rattle.cf_input.proofs.words.cli_command.Goals as goal

pub returns-clause-app : goal.returns-clause-app
returns-clause-app c =
    let one = c.add-command.ensures.app client_app scan_app c.client_command-command.ensures.app c.two_words.ensures.app in
    let two = c.add-command-2.ensures.app (with_sub client_app scan_app) filter_app one c.two_words-2.ensures.app in
    let three = c.add-command-3.ensures.app (with_sub (with_sub client_app scan_app) filter_app) address_app two c.one_word.ensures.app in
    let four = c.add-command-4.ensures.app (with_sub (with_sub (with_sub client_app scan_app) filter_app) address_app) prove_app three c.two_words-3.ensures.app in
    let five = c.add-command-5.ensures.app (with_sub (with_sub (with_sub (with_sub client_app scan_app) filter_app) address_app) prove_app) check_app four c.check_command.ensures.app in
    let six = c.add-command-6.ensures.app (with_sub (with_sub (with_sub (with_sub (with_sub client_app scan_app) filter_app) address_app) prove_app) check_app) serve_app five c.serve_command.ensures.app in
    let seven = c.add-command-7.ensures.app (with_sub (with_sub (with_sub (with_sub (with_sub (with_sub client_app scan_app) filter_app) address_app) prove_app) check_app) serve_app) make_app six c.make_command.ensures.app in
    IfOk-weaker c.add.result _ _ (λ k h. h ∙ sym cli_is) (c.add.ensures.app (with_sub (with_sub (with_sub (with_sub (with_sub (with_sub (with_sub client_app scan_app) filter_app) address_app) prove_app) check_app) serve_app) make_app) demo_app seven c.two_words-4.ensures.app)

pub returns-clause-globals : goal.returns-clause-globals
returns-clause-globals c = c.add.ensures.globals
