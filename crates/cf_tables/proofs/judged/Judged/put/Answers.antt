use Rattle.std.proofs.Common.{◌≡◌, None, sym, ◌∙◌}
use Rattle.cf_tables.specs.Judged.{verdicts_in}
use Rattle.cf_tables.proofs.Judgings.{put_fresh, kept_there}
use Rattle.cf_tables.proofs.judged.Judged.put.Goals as goal

pub returns-in-Some-clause-ok : goal.returns-in-Some-clause-ok
returns-in-Some-clause-ok c = λ block filter.
    kept_there (verdicts_in c.args.self.now) c.args.block.now.0 c.args.filter.now.0 c.args.verdict c.in-Some.field-0 (sym c.get.ensures ∙ c.in-Some.is) block filter

pub returns-in_ok-insert-in-None-clause-ok : goal.returns-in_ok-insert-in-None-clause-ok
returns-in_ok-insert-in-None-clause-ok c = λ block filter.
    let free : verdicts_in c.args.self.now c.args.block.now.0 c.args.filter.now.0 ≡ None = sym c.get.ensures ∙ c.in-None.is in
    c.in_ok-insert-in-None.ensures.ok block filter ∙ put_fresh (verdicts_in c.args.self.now) c.args.block.now.0 c.args.filter.now.0 c.args.verdict free block filter
