use Rattle.std.proofs.Common.{◌∙◌}
use Rattle.cf_loading.proofs.Counting.{counts_fine}
use Rattle.cf_offline.proofs.proving.check_in.Goals as goal

pub returns-in-Err-clause-file_fine : goal.returns-in-Err-clause-file_fine
returns-in-Err-clause-file_fine g c = counts_fine c.in-Err.status _ _ c.in-Err.ensures.count

pub returns-in-Err-load_chain-clause-file_fine : goal.returns-in-Err-load_chain-clause-file_fine
returns-in-Err-load_chain-clause-file_fine g c =
    λ ne. counts_fine c.in-Err-load_chain.status _ _ c.in-Err-load_chain.ensures.count ne ∙ c.in-Ok.ensures.count
