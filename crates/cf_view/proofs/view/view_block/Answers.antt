use Rattle.std.proofs.Common.{ap, lt-ltb, length, Err, ℕ}
use Rattle.cf_block.specs.declared.fault.BlockFaultKind.TheVariants.{TooLong}
use Rattle.cf_block.proofs.Refusals.{place_start}
use Rattle.cf_block.specs.Reading.{short_block_at, block_at}
use Rattle.cf_view.proofs.view.view_block.Goals as goal

pub returns-then-b-gt-MAX_BLOCK-clause-exact : goal.returns-then-b-gt-MAX_BLOCK-clause-exact
unfolding block_at short_block_at
returns-then-b-gt-MAX_BLOCK-clause-exact c =
    rw (lt-ltb 1000000 (length c.args.b.now) c.if-b-gt-MAX_BLOCK.true)
    (ap (λ (n : ℕ). Err (record { kind = TooLong; place = n }, c.args.b.now)) (place_start c.args.b.now))
