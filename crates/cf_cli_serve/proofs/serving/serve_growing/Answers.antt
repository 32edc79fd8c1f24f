use Rattle.std.proofs.Common.{◌∙◌, ap, w64, ℤ}
use Rattle.std.proofs.Math.Facts.{to_z-of_z}
use Rattle.cf_grow.specs.GrowingService.{Moment, IsServedWhileGrowing}
use Rattle.cf_grow.specs.Standing.{tip_of}
use Rattle.cf_cli_serve.proofs.Serves.{counts_fine, served_so}
use Rattle.cf_cli_serve.proofs.serving.serve_growing.Goals as goal

pub returns-in-Ok-clause-serves : goal.returns-in-Ok-clause-serves
returns-in-Ok-clause-serves g c =
    let at : ℤ → Moment = λ z. record { moment = z; nonce = c.args.nonce; tip = tip_of c.args.index } in
    served_so c.serve_at.result c.status_of.result IsServedWhileGrowing c.in-Ok.server (at c.args.moment) c.args.address.now c.args.connections _ _
    c.status_of.ensures (c.in-Ok.ensures ∙ ap at (to_z-of_z {w = w64} c.ranges.moment)) c.serve_at.ensures.serves c.serve_at.ensures.ok c.serve_at.ensures.count

pub returns-in-Ok-clause-fine : goal.returns-in-Ok-clause-fine
returns-in-Ok-clause-fine g c = counts_fine c.serve_at.result c.status_of.result _ _ c.status_of.ensures c.serve_at.ensures.faults
