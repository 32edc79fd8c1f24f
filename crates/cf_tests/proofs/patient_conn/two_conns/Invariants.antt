use Rattle.std.proofs.Common.{All}
use Rattle.cf_rows.proofs.Conns.{IsNew}
use Rattle.cf_tests.proofs.patient_conn.two_conns.Given as goal

abbrev pub invariant-loop-waits : goal.invariant-loop-waits
invariant-loop-waits l = All IsNew l.conns.items
