use Rattle.std.proofs.Common.{◌∙◌}
use Rattle.clap.specs.Words.{first_of, subcommand_rows_of, found_of}
use Rattle.clap.proofs.WalkLemmas.{first_value-rows}
use Rattle.cf_input.proofs.Rows.{met_rows}
use Rattle.cf_input.proofs.words.text_of.Goals as goal

pub returns : goal.returns
returns c =
    let rows = rw c.in_ok-inner.was at c.subcommand.ensures.rows in
    c.get_str.ensures ∙ first_value-rows (found_of c.in_ok-inner.inner.now) c.args.id.now ∙ met_rows (first_of c.args.id.now) (subcommand_rows_of c.args.matches.now) _ rows
