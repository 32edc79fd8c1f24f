use Rattle.std.proofs.Common.{◌≡◌, map}
use Rattle.cf_chain.specs.Filters.{filter_at}
use Rattle.cf_chain.specs.Serve.{header_or_zeros, thousands}
use Rattle.cf_server.proofs.frames.checkpoints.Given as goal

abbrev pub invariant-loop-i : goal.invariant-loop-i
invariant-loop-i l = l.headers ≡ map (λ h. header_or_zeros (filter_at l.index h)) (thousands l.i)
