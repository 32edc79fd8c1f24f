use Rattle.cf_loading.proofs.Counting.{counts_fine}
use Rattle.cf_cli_serve.proofs.serving.serve.Goals as goal

pub returns-in-Err-clause-file_fine : goal.returns-in-Err-clause-file_fine
returns-in-Err-clause-file_fine g c = counts_fine c.in-Err.status _ _ c.in-Err.ensures.count
