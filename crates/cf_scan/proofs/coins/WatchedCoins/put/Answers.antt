use Rattle.std.proofs.Common.{◌∙◌, ap, arith, ◌<◌, ◌^◌}
use Rattle.std.specs.Prelude.{unwrap_or}
use Rattle.cf_scan.proofs.CoinMaps.{inserted_coin, kept_inserted, kept_small}
use Rattle.cf_scan.proofs.coins.WatchedCoins.put.Goals as goal

pub overflow_add-self : goal.overflow_add-self
overflow_add-self c =
    let small : c.self.inside.balance < 2 ^ 127 = kept_small _ _ c.self.invariant (omega (arith, c.len-count.ensures.len, c.len-count.ensures.small)) in
    omega (arith, small, c.from.ensures, c.ranges.value.fits)

pub overflow_sub-self : goal.overflow_sub-self
overflow_sub-self c =
    let stays = kept_inserted _ c.insert.new.self.entries c.args.p c.self.inside.balance c.args.value c.unwrap_or-old.result c.self.invariant c.ranges.value.fits
    c.in_ok-insert.ensures.entries c.in_ok-insert.ensures.updates.0 (c.unwrap_or-old.ensures ∙ ap (λ o. unwrap_or o 0) c.in_ok-insert.ensures.old) in
    rw (c.from.ensures, c.from-2.ensures) stays.0

pub invariant_of-self-2 : goal.invariant_of-self-2
invariant_of-self-2 c =
    let stays = kept_inserted _ c.insert.new.self.entries c.args.p c.self.inside.balance c.args.value c.unwrap_or-old.result c.self.invariant c.ranges.value.fits
    c.in_ok-insert.ensures.entries c.in_ok-insert.ensures.updates.0 (c.unwrap_or-old.ensures ∙ ap (λ o. unwrap_or o 0) c.in_ok-insert.ensures.old) in
    rw (c.from.ensures, c.from-2.ensures) stays.1

pub returns-clause-ok : goal.returns-clause-ok
returns-clause-ok c = rw (← c.self.view_is) (inserted_coin c.self.inside.map.entries c.insert.new.self.entries c.args.p c.args.value c.in_ok-insert.ensures.updates.0)
