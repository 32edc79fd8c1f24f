use Rattle.std.proofs.Common.{rules}
use Rattle.std.proofs.Math.Facts.{to_z-of_z}
use Rattle.std.specs.Int.{w32}
use Rattle.cf_block.proofs.Joins.{tx_taken}
use Rattle.cf_view.proofs.view.view_fields.Goals as goal

pub returns-clause-found : goal.returns-clause-found
returns-clause-found c =
    rw (to_z-of_z {w = w32} {z = c.in_ok-version.version} (search rules))
    (tx_taken _ _ _ _ c.in_ok-version.ensures.found c.in_ok-count.ensures.found.0 c.in_ok-inputs.ensures.found c.in_ok-inputs.ensures.fits.1
    c.in_ok-count-2.ensures.found.0 c.in_ok-outputs.ensures.found c.in_ok-outputs.ensures.fits.1 c.in_ok-lock_time.ensures.found)
