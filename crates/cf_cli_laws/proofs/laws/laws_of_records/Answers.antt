use Rattle.cf_cli_laws.proofs.Retold.{retold}
use Rattle.cf_cli_laws.proofs.laws.laws_of_records.Goals as goal

pub returns : goal.returns
returns c = record { again = retold }
