use Rattle.cf_input.proofs.AddressLemmas.{address_read}
use Rattle.cf_input.proofs.addresses.read_address.Goals as goal

pub returns-in-Ok-script : goal.returns-in-Ok-script
returns-in-Ok-script c = address_read c.args.text.now c.in-Ok.program _ c.in-Ok.ensures c.in-Ok-script.ensures
