use Rattle.std.proofs.Common.{sym, ◌∙◌}
use Rattle.cf_dispute.proofs.PutIn.{same_true}
use Rattle.cf_dispute.proofs.RowLaws.{block_same}
use Rattle.cf_dispute.proofs.rows.Rows.is_alone.Goals as goal

pub returns-then-is_same : goal.returns-then-is_same
returns-then-is_same c = λ on.
    let row = c.in-Some.row.now in
    (row, (sym c.in-Some.ensures, (block_same row.block c.args.block.now (same_true row.block.0 c.args.block.now.0 (sym c.is_same.ensures ∙ c.if-is_same.true)), on)))
