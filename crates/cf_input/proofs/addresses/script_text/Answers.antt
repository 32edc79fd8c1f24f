use Rattle.cf_input.proofs.AddressLemmas.{form_of_address}
use Rattle.cf_input.proofs.addresses.script_text.Goals as goal

pub returns-in_ok-encode-in-Ok : goal.returns-in_ok-encode-in-Ok
returns-in_ok-encode-in-Ok c = form_of_address c.args.text.now _ c.in-Ok.bytes.items c.requires c.in-Ok.ensures c.in_ok-encode-in-Ok.ensures
