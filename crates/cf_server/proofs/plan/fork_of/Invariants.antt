use Rattle.std.proofs.Common.{◌≡◌, drop}
use Rattle.cf_chain.specs.Serve.{fork_height}
use Rattle.cf_server.proofs.plan.fork_of.Given as goal

abbrev pub invariant-loop-hash : goal.invariant-loop-hash
invariant-loop-hash l = fork_height (drop l.hash-index l.locator) l.index ≡ fork_height l.locator l.index
