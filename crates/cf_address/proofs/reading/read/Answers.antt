use Rattle.std.proofs.Common.{◌≡◌, Some, None, map, sym, ◌∙◌, ap, subst}
use Rattle.std.specs.Char.{to_ascii_lowercase}
use Rattle.cf_address.specs.Faults.{text_fault, data_after}
use Rattle.cf_address.specs.Steps.{GivesProgram}
use Rattle.cf_address.proofs.AddressLemmas.{read_made}
use Rattle.cf_address.proofs.reading.read.Goals as goal

pub returns : goal.returns
returns c =
    let lower : c.deref.result.now ≡ map to_ascii_lowercase c.args.text.now = c.deref.ensures.value ∙ c.in_ok-lower.ensures.ok ∙ ap (map to_ascii_lowercase) c.as_bytes-text.ensures.value in
    let passes : text_fault c.args.text.now ≡ None = ap text_fault (sym c.as_bytes-text.ensures.value) ∙ sym c.in_default.ensures in
    let after : data_after c.args.prefix.now (map to_ascii_lowercase c.args.text.now) ≡ Some c.in-Some-data_after.letters.now = (λ i. data_after (sym c.as_bytes.ensures.value i) (sym lower i)) ∙ c.in-Some-data_after.ensures in
    let gives = subst (λ p. GivesProgram p c.in-Ok.values.items c.program_of.result) c.as_bytes-2.ensures.value (subst (λ v. GivesProgram c.as_bytes-2.result.now v c.program_of.result) c.deref-2.ensures.value c.program_of.ensures) in
    read_made c.args.prefix.now c.args.text.now c.in-Some-data_after.letters.now c.in-Ok.values.items c.program_of.result passes after c.in-Ok.ensures.0 c.in-Ok.ensures.1 gives
