use Rattle.std.proofs.Common.{◌∙◌, replicate}
use Rattle.cf_demo.proofs.HistoryLines.{lines_of_text}
use Rattle.cf_demo.proofs.counting.count_entries.Goals as goal

pub returns : goal.returns
returns c = lines_of_text c.as_bytes.result.now c.args.history.now 0 (replicate 32 0) c.count_lines.result (c.as_bytes.ensures.value ∙ c.in_ok-text.ensures) c.count_lines.ensures
