use Rattle.std.proofs.Common.{◌∙◌, ap, drop, Result, Ok, Err, List, ℕ}
use Rattle.std.specs.Prelude.{OnErr}
use Rattle.cf_filter.specs.Filter.{filter_hash_of}
use Rattle.cf_tables.specs.Judged.{verdicts_in}
use Rattle.cf_tables.proofs.Judgings.{one_more, put_more, same_all}
use Rattle.cf_tables.proofs.judged.Judged.put_all.Goals as goal

pub loop-i-preserved : goal.loop-i-preserved
loop-i-preserved c = record {
  ok = λ watch is block hash. one_more watch c.args.jobs.now c.args.verdicts.now c.loop-i.i c.index-jobs-i.result c.filter_hash.result.0 _ (verdicts_in c.loop-i.self) (verdicts_in c.put.new.self) is c.loop-i-test.true c.index-jobs-i.is (c.filter_hash.ensures ∙ ap (λ (b : List ℕ). filter_hash_of b) c.as_slice.ensures) c.in_ok-put.ensures.ok block hash ∙ c.loop-i.invariant.ok watch is block hash;
  more = λ block filter v e. put_more c.index-jobs-i.result.block.0 c.filter_hash.result.0 _ (verdicts_in c.loop-i.self) (verdicts_in c.put.new.self) c.in_ok-put.ensures.ok block filter v (c.loop-i.invariant.more block filter v e);
}

on_any : {T E : Type 0} (r : Result T E) (P : Type 0) → P → OnErr r P
on_any (Ok x) P h = tt
on_any (Err e) P h = h

pub returns-in_err-put-clause-err : goal.returns-in_err-put-clause-err
returns-in_err-put-clause-err c = on_any c.from_residual.result _ (λ watch is.
    (drop c.loop-i.i c.args.jobs.now, λ block hash. same_all watch (drop c.loop-i.i c.args.jobs.now) (verdicts_in c.put.new.self) (verdicts_in c.loop-i.self) c.in_err-put.ensures.err block hash ∙ c.loop-i.invariant.ok watch is block hash))
