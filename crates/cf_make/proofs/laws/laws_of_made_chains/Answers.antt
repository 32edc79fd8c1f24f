use Rattle.cf_make.proofs.MadeLaws.{made_is_good, chain_is_good, extended, extension_one, none_beside}
use Rattle.cf_make.proofs.laws.laws_of_made_chains.Goals as goal

pub returns : goal.returns
returns c = record { one = extension_one; stops = none_beside; extended = extended; chain = chain_is_good; good = made_is_good }
