use Rattle.std.proofs.Common.{Err, ◌∙◌, ap, sym}
use Rattle.cf_input.proofs.AddressLemmas.{no_text}
use Rattle.cf_input.proofs.addresses.read_address_bytes.Goals as goal

pub returns-in-Err : goal.returns-in-Err
returns-in-Err c = no_text c.args.line.now c.in-Err.ensures.cases.0 ∙ ap Err (sym c.fault_of_bytes.ensures)
