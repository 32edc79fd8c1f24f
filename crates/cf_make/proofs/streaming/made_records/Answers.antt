use Rattle.std.proofs.Common.{ℕ, List, ◌+◌, Err, sym, ◌∙◌, ap, subst, arith}
use Rattle.std.proofs.lemmas.Result.{err_from_is_err_and}
use Rattle.cf_make.specs.Made.{IsMadeBlock}
use Rattle.cf_make.specs.Streamed.{AreRecordsTo}
use Rattle.cf_make.specs.Tipping.{MakesTipped}
use Rattle.cf_make.proofs.StreamLemmas.{record_more, stops_for}
use Rattle.cf_make.proofs.streaming.made_records.Goals as goal

pub returns-in_err-made-clause-stops : goal.returns-in_err-made-clause-stops
returns-in_err-made-clause-stops c =
    let out = err_from_is_err_and c.from_residual.result c.from_residual.ensures.1 in
    let i = c.loop.invariant in
    let e = c.in_err-made.field-0.0 in
    rw (out.1 ∙ ap Err out.2) (stops_for c.args.witness c.args.seed c.loop.counter c.args.blocks c.loop.tip c.loop.out.items i.so_far (omega (arith, c.loop-test.true)) e
    (subst (λ (k : ℕ). MakesTipped c.args.seed (k + 1) c.loop.tip (Err e)) i.height c.in_err-made.ensures))

pub loop-preserved : goal.loop-preserved
loop-preserved c =
    let i = c.loop.invariant in
    let made = c.in_ok-made.made in
    let block : IsMadeBlock c.args.seed (c.loop.counter + 1) c.loop.tip made.block =
    subst (λ (k : ℕ). IsMadeBlock c.args.seed (k + 1) c.loop.tip made.block) i.height c.in_ok-made.ensures.block in
    record {
      so_far = subst (λ (s : List ℕ). AreRecordsTo c.args.witness c.args.seed (c.loop.counter + 1) made.tip s) (sym c.in_ok-put_record_by.ensures)
          (record_more c.args.witness c.args.seed c.loop.counter c.loop.tip made.tip c.loop.out.items made.block i.so_far block c.in_ok-made.ensures.next);
      height = omega (arith, i.height);
    }
