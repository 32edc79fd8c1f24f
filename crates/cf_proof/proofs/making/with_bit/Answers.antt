use Rattle.std.proofs.Common.{◌+◌, ◌∷◌, ◌++◌, [], sym, ap, ◌∙◌}
use Rattle.cf_proof.specs.Steps.{low_bits}
use Rattle.cf_proof.proofs.MakeLemmas.{with_one, with_none, one_shl_8}
use Rattle.cf_proof.proofs.making.with_bit.Goals as goal

pub returns-then-bit-clause-bits : goal.returns-then-bit-clause-bits
returns-then-bit-clause-bits c =
    ap (λ x. low_bits (c.args.n + 1) (c.args.byte + x)) (one_shl_8 c.args.n c.requires.few) ∙ with_one c.args.n c.args.byte c.requires.small ∙ ap (λ x. low_bits c.args.n c.args.byte ++ x ∷ []) (sym c.if-bit.true)

pub returns-else-bit-clause-bits : goal.returns-else-bit-clause-bits
returns-else-bit-clause-bits c = with_none c.args.n c.args.byte c.requires.small ∙ ap (λ x. low_bits c.args.n c.args.byte ++ x ∷ []) (sym c.if-bit.false)
