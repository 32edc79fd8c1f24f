use Rattle.std.proofs.Common.{rules, ◌≡◌, inl, arith}
use Rattle.cf_outside.proofs.Readers.{last_sent, none_after}
use Rattle.cf_outside.proofs.reader.read_one.Goals as goal

pub returns-else-n-gt0-clause-step : goal.returns-else-n-gt0-clause-step
returns-else-n-gt0-clause-step g c =
    let s = g.S.Source in
    let z : c.in-Ok.n ≡ 0 = omega (arith, c.if-n-gt0.false) in
    let G = rw z at c.in-Ok.ensures.ok in
    let e = none_after _ _ G (c.in-Ok.ensures.end (search rules) z) in
    rw c.send_last.ensures.stop (last_sent s.left s.faults s.ended _ _ _ _ _ _ _ c.send_last.ensures.last G (inl (search rules, e)))
