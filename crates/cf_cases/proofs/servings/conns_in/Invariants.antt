use Rattle.std.proofs.Common.{All}
use Rattle.cf_rows.proofs.Conns.{IsNew}
use Rattle.cf_cases.proofs.servings.conns_in.Given as goal

abbrev pub invariant-loop-asked : goal.invariant-loop-asked
invariant-loop-asked l = All IsNew l.conns.items
