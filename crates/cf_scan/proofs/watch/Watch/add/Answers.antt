use Rattle.std.proofs.Common.{sym, ◌∙◌, ◌<◌, length, ap, arith}
use Rattle.cf_scan.proofs.Scripts.{kept_more}
use Rattle.cf_scan.proofs.watch.Watch.add.Goals as goal

pub invariant_of-self-2 : goal.invariant_of-self-2
invariant_of-self-2 c =
    let kind = rw (c.as_slice.ensures, ← c.self.view_is) at (sym c.kind.ensures.kind ∙ c.in_default.is) in
    let few : length c.self.inside.scripts.items < 1000 = omega (arith, ap length c.self.view_is, c.in_default.ensures.few) in
    rw (c.push.ensures.items, c.unwrap.ensures, c.in_ok-reserve.ensures.items) (kept_more c.self.inside.scripts.items c.self.inside.sorted c.insert.new.self c.in_ok-key.key c.args.script c.in_ok-insert.ensures.keys (c.in_ok-key.ensures.items ∙ c.as_slice-2.ensures) kind few c.self.invariant)
