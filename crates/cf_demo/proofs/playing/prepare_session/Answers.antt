use Rattle.std.proofs.Common.{ℕ, [], subst, arith}
use Rattle.std.proofs.lemmas.Result.{err_from_is_err_and}
use Rattle.cf_make.specs.Made.{IsExtension}
use Rattle.cf_demo.proofs.Clashes.{refused_unmade}
use Rattle.cf_demo.proofs.playing.prepare_session.Goals as goal

pub returns-in_err-add-clause-err : goal.returns-in_err-add-clause-err
returns-in_err-add-clause-err g c =
    let p = err_from_is_err_and c.from_residual-in_err-add.result c.from_residual-in_err-add.ensures.1 in
    rw (p.1, p.2) (refused_unmade c.args.seed c.args.blocks c.in_ok-chain.chain c.in_err-add.field-0.0 (omega (arith, c.ranges.seed.fits)) c.requires.most
    (subst (λ (s : ℕ). IsExtension [] s c.args.blocks c.in_ok-chain.chain) c.from.ensures c.in_ok-chain.ensures.ok) c.in_err-add.ensures.err)
