use Rattle.std.proofs.lemmas.Result.{err_from_is_err_and}
use Rattle.std.proofs.Common.{[], ◌∷◌, arith, length-append}
use Rattle.cf_bytes.specs.Lists.{list_at}
use Rattle.cf_bytes.proofs.ListLoops.{goes_on, is_done, one_more, all_more, refused}
use Rattle.cf_bytes.proofs.lists.read_list.Goals as goal

pub returns-in_err-item-clause-exact : goal.returns-in_err-item-clause-exact
returns-in_err-item-clause-exact g c = λ item reads.
    let p = err_from_is_err_and c.from_residual-in_err-item.result c.from_residual-in_err-item.ensures.1 in
    rw (p.1, p.2) (refused item c.loop.items.items c.args.count c.loop.counter c.loop.cut c.read.new.arg2
    (list_at item c.args.count c.args.cut.now) c.in_err-item.field-0.0 c.loop-test.true
    (reads _ _ _ c.in_err-item.ensures) (c.loop.invariant.exact item reads))

pub loop-preserved : goal.loop-preserved
loop-preserved g c =
    let x = c.in_ok-item.item in
    rw c.in_ok-push.ensures.items (record {
      exact = λ item reads. goes_on item c.loop.items.items c.args.count c.loop.counter c.loop.cut x c.read.new.arg2
          (list_at item c.args.count c.args.cut.now) c.loop-test.true (reads _ _ _ c.in_ok-item.ensures)
          (c.loop.invariant.exact item reads);
      found = λ spell spelled. one_more spell c.loop.items.items x c.loop.cut c.read.new.arg2 c.args.cut.now
          (c.loop.invariant.found spell spelled) (spelled _ _ _ c.in_ok-item.ensures);
      each = all_more _ c.loop.items.items x c.loop.invariant.each (_, _, c.in_ok-item.ensures);
      len = omega (arith, c.loop.invariant.len, length-append c.loop.items.items (x ∷ []));
    })

pub returns-clause-exact : goal.returns-clause-exact
returns-clause-exact g c =
    λ item reads. rw c.from_vec.ensures (is_done item c.loop.items.items c.args.count c.loop.counter c.loop.cut
    (list_at item c.args.count c.args.cut.now) c.loop-test.false (c.loop.invariant.exact item reads))

pub returns-clause-fits : goal.returns-clause-fits
returns-clause-fits g c =
    rw c.from_vec.ensures (c.loop.invariant.each, omega (arith, c.loop.invariant.len, c.loop.auto.counter-end))
