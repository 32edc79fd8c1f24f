use Rattle.std.proofs.Common.{ap, sym, subst, ◌≡◌, ◌∙◌, map, List}
use Rattle.std.specs.Prelude.{string_bytes}
use Rattle.clap.specs.Words.{App, Text, app_of, is_simple, is_simple_and_free, subcommand_of, fault_of, HasKind}
use Rattle.cf_input.specs.Words.{cli_app}
use Rattle.cf_input.proofs.Refusals.{refused_by}
use Rattle.cf_input.proofs.Simple.{simple_cli, free_cli}
use Rattle.cf_input.proofs.words.matches_of_words.Goals as goal

pub returns-in-Ok-clause-ok : goal.returns-in-Ok-clause-ok
returns-in-Ok-clause-ok c =
    let app_is : app_of c.in_ok-command.command ≡ cli_app = c.in_ok-command.ensures.app in
    let words : List Text = map (λ s. string_bytes s) c.args.words.now in
    (c.in-Ok.ensures.matches (ap is_simple app_is ∙ simple_cli)).1 ∙ ap (λ a. subcommand_of a words) app_is

pub returns-in-Ok-clause-passed : goal.returns-in-Ok-clause-passed
returns-in-Ok-clause-passed c =
    let app_is : app_of c.in_ok-command.command ≡ cli_app = c.in_ok-command.ensures.app in
    let words : List Text = map (λ s. string_bytes s) c.args.words.now in
    ap (λ a. fault_of a words) (sym app_is) ∙ c.in-Ok.ensures.kinds (ap is_simple_and_free app_is ∙ free_cli)

pub returns-in-Err-clause-refused : goal.returns-in-Err-clause-refused
returns-in-Err-clause-refused c =
    let app_is : app_of c.in_ok-command.command ≡ cli_app = c.in_ok-command.ensures.app in
    let words : List Text = map (λ s. string_bytes s) c.args.words.now in
    let P : App → Type 0 = λ a. HasKind (fault_of a words) c.in-Err.e in
    let kinds = subst P app_is (c.in-Err.ensures.kinds (ap is_simple_and_free app_is ∙ free_cli)) in
    rw (c.refusal.ensures, c.kind.ensures) (refused_by (fault_of cli_app words) c.in-Err.e kinds)
