use Rattle.std.proofs.Common.{◌≤◌, length, arith}
use Rattle.cf_headers.specs.Store.{own_of}
use Rattle.cf_seek.proofs.Sought.{placed_low, placed_none}
use Rattle.cf_seek.proofs.seek.passed_below.Goals as goal

pub returns-in-Some-clause-apart : goal.returns-in-Some-clause-apart
returns-in-Some-clause-apart g c = λ h up low is.
    let own = own_of (g.H.HeaderStore.chain c.args.store.now) c.args.p in
    let le : h ≤ length own = omega (arith, low, c.min.ensures, c.requires.within) in
    let at = placed_low own c.args.block.now.0 h c.in-Some.at le is (c.in-Some.ensures) in
    omega (arith, at, low, up, c.min.ensures, c.saturating_sub.ensures)

pub returns-in-None-clause-apart : goal.returns-in-None-clause-apart
returns-in-None-clause-apart g c = λ h up low is.
    let own = own_of (g.H.HeaderStore.chain c.args.store.now) c.args.p in
    let le : h ≤ length own = omega (arith, low, c.requires.within) in
    placed_none own c.args.block.now.0 h le is c.in-None.ensures
