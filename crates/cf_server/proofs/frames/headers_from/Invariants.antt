use Rattle.std.proofs.Common.{◌≡◌, map, take, drop}
use Rattle.cf_chain.specs.Heights.{all_blocks}
use Rattle.cf_server.proofs.frames.headers_from.Given as goal

abbrev pub invariant-loop-i : goal.invariant-loop-i
invariant-loop-i l = l.headers ≡ take l.i (drop l.start (map (λ b. b.header) (all_blocks l.index)))
