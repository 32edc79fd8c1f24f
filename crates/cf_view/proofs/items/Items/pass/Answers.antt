use Rattle.std.proofs.lemmas.Result.{err_from_is_err_and}
use Rattle.std.proofs.Common.{◌≡◌, ◌++◌, ◌∷◌, [], List, ℕ, length, sym, ap, refl, ◌∙◌, arith, length-append}
use Rattle.std.specs.List.{flat_map}
use Rattle.cf_bytes.specs.Lists.{list_at}
use Rattle.cf_bytes.proofs.ListLoops.{goes_on, is_done, one_more, all_more, ends}
use Rattle.cf_view.proofs.LentLemmas.{starts, there, items_are, read_whole}
use Rattle.cf_view.proofs.items.Items.pass.Goals as goal

pub loop-init : goal.loop-init
loop-init g c = record {
  front = [];
  start = c.rest-rest.ensures;
  exact = λ item _. starts item c.args.count c.args.cut.now;
  found = λ _ _. refl;
  each = tt;
  len = refl;
}

pub loop-preserved : goal.loop-preserved
loop-preserved g c =
    let so = c.loop.invariant in
    let x = c.in_ok-read.field-0 in
    record {
      front = so.front ++ x ∷ [];
      start = so.start;
      exact = λ item reads. goes_on item so.front c.args.count c.loop.counter c.loop.cut x c.read.new.arg2
          (list_at item c.args.count c.args.cut.now) c.loop-test.true (reads _ _ _ c.in_ok-read.ensures)
          (so.exact item reads);
      found = λ spell spelled. one_more spell so.front x c.loop.cut c.read.new.arg2 c.args.cut.now
          (so.found spell spelled) (spelled _ _ _ c.in_ok-read.ensures);
      each = all_more _ so.front x so.each (_, _, c.in_ok-read.ensures);
      len = omega (arith, so.len, length-append so.front (x ∷ []));
    }

pub returns-in_err-read-clause-exact : goal.returns-in_err-read-clause-exact
returns-in_err-read-clause-exact g c = λ item reads.
    let so = c.loop.invariant in
    let p = err_from_is_err_and c.from_residual.result c.from_residual.ensures.1 in
    rw (p.1, p.2) (ends item so.front c.args.count c.loop.counter c.loop.cut
    (c.in_err-read.field-0.0, c.read.new.arg2) (list_at item c.args.count c.args.cut.now) c.loop-test.true
    (reads _ _ _ c.in_err-read.ensures) (so.exact item reads))

pub returns-clause-exact : goal.returns-clause-exact
returns-clause-exact g c = λ item reads.
    let so = c.loop.invariant in
    let read = is_done item so.front c.args.count c.loop.counter c.loop.cut
    (list_at item c.args.count c.args.cut.now) c.loop-test.false (so.exact item reads) in
    rw so.start (
      there item c.args.count c.args.cut.now c.loop.cut so.front read,
      read_whole item c.args.count c.args.cut.now c.loop.cut so.front read,
    )

pub returns-clause-found : goal.returns-clause-found
returns-clause-found g c = λ item spell reads spelled.
    let so = c.loop.invariant in
    let read = is_done item so.front c.args.count c.loop.counter c.loop.cut
    (list_at item c.args.count c.args.cut.now) c.loop-test.false (so.exact item reads) in
    rw (so.start, items_are item c.args.count c.args.cut.now c.loop.cut so.front read) (so.found spell spelled)

pub returns-clause-fits : goal.returns-clause-fits
returns-clause-fits g c = λ item reads.
    let so = c.loop.invariant in
    let read = is_done item so.front c.args.count c.loop.counter c.loop.cut
    (list_at item c.args.count c.args.cut.now) c.loop-test.false (so.exact item reads) in
    rw (so.start, items_are item c.args.count c.args.cut.now c.loop.cut so.front read)
    (omega (arith, so.len, c.loop.auto.counter-end, c.loop-test.false), so.each)
