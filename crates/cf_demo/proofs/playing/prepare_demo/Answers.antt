use Rattle.std.proofs.Common.{ℕ, ◌+◌, [], subst, arith}
use Rattle.std.proofs.lemmas.Result.{err_from_is_err_and}
use Rattle.cf_make.specs.Made.{IsExtension}
use Rattle.cf_demo.proofs.Clashes.{demo_unplayed}
use Rattle.cf_demo.proofs.playing.prepare_demo.Goals as goal

pub returns-in_err-add_three-clause-err : goal.returns-in_err-add_three-clause-err
returns-in_err-add_three-clause-err g c =
    let p = err_from_is_err_and c.from_residual-in_err-add_three.result c.from_residual-in_err-add_three.ensures.1 in
    rw (p.1, p.2) (demo_unplayed c.args.seed c.args.blocks c.in_ok-chain.chain c.in_ok-longer.longer c.in_err-add_three.field-0.0 (omega (arith, c.ranges.seed.fits)) c.requires.most
    (subst (λ (s : ℕ). IsExtension [] s c.args.blocks c.in_ok-chain.chain) c.from.ensures c.in_ok-chain.ensures.ok)
    (subst (λ (s : ℕ). IsExtension [] (s + 1) (c.args.blocks + 2) c.in_ok-longer.longer) c.from-2.ensures c.in_ok-longer.ensures.ok)
    c.in_err-add_three.ensures.err)
