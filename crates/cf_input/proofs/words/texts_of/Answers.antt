use Rattle.std.proofs.Common.{◌∙◌}
use Rattle.clap.specs.Words.{all_of, subcommand_rows_of, found_of}
use Rattle.clap.proofs.WalkLemmas.{raw_values-rows}
use Rattle.cf_input.proofs.Rows.{met_rows}
use Rattle.cf_input.proofs.words.texts_of.Goals as goal

pub returns : goal.returns
returns c =
    let rows = rw c.in_ok-inner.was at c.subcommand.ensures.rows in
    c.get_strs.ensures ∙ raw_values-rows (found_of c.in_ok-inner.inner.now) c.args.id.now ∙ met_rows (all_of c.args.id.now) (subcommand_rows_of c.args.matches.now) _ rows
