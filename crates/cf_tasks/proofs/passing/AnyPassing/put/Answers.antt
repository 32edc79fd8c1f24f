use Rattle.std.proofs.Common.{sym}
use Rattle.cf_tasks.proofs.Moves.{sends}
use Rattle.cf_tasks.proofs.passing.AnyPassing.put.Goals as goal

pub send_as-requires-clause-rule : goal.send_as-requires-clause-rule
send_as-requires-clause-rule g c = (sends _ _ _ _ c.requires.sends (sym c.requires.numbered), λ items views h at. tt)
