use Rattle.cf_address.proofs.AddressLemmas.{taken, one_program, again, case_alone, one_script}
use Rattle.cf_address.proofs.ScriptLemmas.{script_is}
use Rattle.cf_address.proofs.laws.laws_of_addresses.Goals as goal

pub returns : goal.returns
returns c = record { taken = taken; one = one_program; again = again; case = case_alone; found = script_is; scripts = one_script }
