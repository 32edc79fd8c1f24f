use Rattle.std.proofs.Common.{refl, sym, ◌∙◌, arith}
use Rattle.cf_address.proofs.AddressLemmas.{values_made}
use Rattle.cf_address.proofs.reading.program_of.Goals as goal

pub returns-in-Some : goal.returns-in-Some
returns-in-Some c = (
  c.in-Some.ensures.valid,
  values_made c.args.prefix.now c.args.values.now c.in-Ok.bytes.items _ c.in-Some.program (omega arith) c.requires refl c.in-Some.ensures.value c.in-Ok.ensures.2
      (sym c.checksum.ensures ∙ c.if-checksum-constant.false ∙ c.constant.ensures),
)
