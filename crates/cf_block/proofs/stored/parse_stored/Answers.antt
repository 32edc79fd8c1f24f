use Rattle.std.proofs.Common.{arith, sym, ap, ◌∙◌}
use Rattle.cf_block.specs.Stored.{stored_fields_at}
use Rattle.cf_block.proofs.StoredLaws.{fields_stored}
use Rattle.cf_block.proofs.stored.parse_stored.Goals as goal

pub returns-in-Ok-clause-found : goal.returns-in-Ok-clause-found
returns-in-Ok-clause-found c =
    fields_stored c.args.b.now c.read_stored.new.cut c.in-Ok.block (λ i. omega (arith, c.type_inv.b i)) (ap stored_fields_at (sym c.new-cut.ensures) ∙ c.in-Ok.ensures.exact)
