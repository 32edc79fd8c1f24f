use Rattle.cf_proof.proofs.Again.{answered}
use Rattle.cf_proof.proofs.Passing.{proves}
use Rattle.cf_proof.proofs.laws.laws_of_proofs.Goals as goal

pub returns : goal.returns
returns c = record { proves = proves; again = answered }
