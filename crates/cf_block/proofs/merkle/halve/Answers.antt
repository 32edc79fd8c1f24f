use Rattle.std.proofs.Common.{◌∙◌, ap, arith, refl, ◌≡◌, ◌/◌, ◌*◌, ◌-◌, ◌++◌, take, drop}
use Rattle.cf_block.specs.Merkle.{next_level}
use Rattle.cf_block.specs.Views.{bytes_of}
use Rattle.cf_block.proofs.Halving.{pair_halved, last_halved, even_halved}
use Rattle.cf_block.proofs.merkle.halve.Goals as goal

pub loop-i-preserved : goal.loop-i-preserved
loop-i-preserved c =
    c.loop-i.invariant ∙ pair_halved c.loop-i.level c.args.n c.loop-i.i _ _ _ c.join-hash.result (omega arith) (omega arith) refl refl c.join-hash.ensures

pub returns : goal.returns
returns c =
    let end : c.loop-i.i ≡ c.args.n / 2 = omega arith in
    last_halved c.args.level.now c.loop-i.level c.args.n _ _ c.join-hash-2.result c.if-n-eq0.false (omega arith) refl c.join-hash-2.ensures
    (c.loop-i.invariant ∙ ap (λ i. bytes_of (take i c.loop-i.level) ++ next_level (bytes_of (take (c.args.n - 2 * i) (drop (2 * i) c.loop-i.level)))) end)

pub returns-then-n-eq0 : goal.returns-then-n-eq0
returns-then-n-eq0 c =
    let end : c.loop-i.i ≡ c.args.n / 2 = omega arith in
    even_halved c.args.level.now c.loop-i.level c.args.n c.if-n-eq0.true
    (c.loop-i.invariant ∙ ap (λ i. bytes_of (take i c.loop-i.level) ++ next_level (bytes_of (take (c.args.n - 2 * i) (drop (2 * i) c.loop-i.level)))) end)
