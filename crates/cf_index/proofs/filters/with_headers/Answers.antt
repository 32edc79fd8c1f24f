use Rattle.std.proofs.Common.{rules, arith, ◌≡◌, ◌∙◌, refl, ap, length, true}
use Rattle.std.specs.Result.{is_ok}
use Rattle.cf_index.proofs.Heading.{head_next, head_end}
use Rattle.cf_index.proofs.filters.with_headers.Goals as goal

pub loop-each-preserved : goal.loop-each-preserved
loop-each-preserved c =
    let i = c.loop-each.invariant in
    let st = c.in-Some.ensures.steps in
    let done : is_ok c.push.result ≡ true = search rules in
    let pushed = rw done at c.push.ensures.items in
    let s = ap length st.0 in
    record {
      count = omega (arith, i.count, st.1, s);
      so_far = λ blocks spent count taken within built.
          head_next c.loop-each.filters.items _ _ c.loop-each.last.0 blocks spent count _ _ _ _ st.0 refl c.with_header-filter.ensures pushed taken within (i.so_far blocks spent count taken within built);
    }

pub returns : goal.returns
returns c =
    let i = c.loop-each.invariant in
    λ blocks spent count taken within built.
    head_end blocks spent count _ _ _ (i.count ∙ c.in-None.ensures.steps.0) (i.so_far blocks spent count taken within built)
