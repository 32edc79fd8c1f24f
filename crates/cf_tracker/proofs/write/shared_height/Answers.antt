use Rattle.std.proofs.Common.{◌≡◌, ap, arith}
use Rattle.cf_headers.specs.Heights.{common_of}
use Rattle.cf_headers.specs.Store.{own_of}
use Rattle.cf_tracker.proofs.Writings.{entered_if, own_there}
use Rattle.cf_tracker.proofs.write.shared_height.Goals as goal

pub common-requires-clause-second : goal.common-requires-clause-second
common-requires-clause-second g c = entered_if (g.H.HeaderStore.chain c.args.store.now c.args.q.0) c.args.height c.requires.none c.if-height-eq0.false

pub returns-clause-shared : goal.returns-clause-shared
returns-clause-shared g c = λ other e.
    let chains = g.H.HeaderStore.chain c.args.store.now in
    let is : common_of (own_of chains c.args.p) (own_of chains c.args.q) ≡ common_of (own_of chains c.args.p) other = ap (common_of (own_of chains c.args.p)) (own_there (chains c.args.q.0) other e) in
    omega (arith, c.min.ensures, c.common.ensures, is)
