use Rattle.std.proofs.Common.{List, ℕ, Err, true, false, refl, ◌∙◌, ap, subst}
use Rattle.std.proofs.lemmas.Result.{err_from_is_err_and}
use Rattle.cf_bytes.specs.Outside.{with_more}
use Rattle.cf_run.specs.Texts.{HasBegun, last_text}
use Rattle.cf_run.proofs.Puts.{not_put, one_put, begun_by, added_by, texts_ok}
use Rattle.cf_run.proofs.follow.put_text.Goals as goal

pub returns-then-is_last-clause-put : goal.returns-then-is_last-clause-put
returns-then-is_last-clause-put g c = λ before is.
    not_put _ before (last_text c.args.last.now) _ (added_by _ c.as_str.result.now before c.is_last.result true c.as_str.ensures.value c.if-is_last.true (c.is_last.ensures before is)) is

pub returns-clause-put : goal.returns-clause-put
returns-clause-put g c = λ before is.
    one_put _ before c.args.text _ _
    (added_by _ c.as_str.result.now before c.is_last.result false c.as_str.ensures.value c.if-is_last.false (c.is_last.ensures before is)) refl
    (c.in_ok-put.ensures.ok ∙ ap (with_more (g.T.Texts.told c.args.texts.now)) c.as_str-2.ensures.value)

pub returns-in_err-put-clause-begun : goal.returns-in_err-put-clause-begun
returns-in_err-put-clause-begun g c = (let p = err_from_is_err_and c.from_residual.result c.from_residual.ensures.1 in rw (p.1, p.2) (λ before is.
    begun_by _ _ before _ _
    (added_by _ c.as_str.result.now before c.is_last.result false c.as_str.ensures.value c.if-is_last.false (c.is_last.ensures before is))
    (subst (λ (text : List ℕ). HasBegun text (g.T.Texts.told c.args.texts.now) (g.T.Texts.told c.put.new.self)) c.as_str-2.ensures.value c.in_err-put.ensures.begun)
    (λ none. (c.in_err-put.ensures.no_memory (ap Err none)).0)))

pub returns-then-is_last-clause-texts : goal.returns-then-is_last-clause-texts
returns-then-is_last-clause-texts g c = texts_ok refl refl

pub returns-clause-texts : goal.returns-clause-texts
returns-clause-texts g c = texts_ok c.in_ok-put.ensures.kept c.in_ok-put.ensures.same_reference

pub returns-in_err-put-clause-texts : goal.returns-in_err-put-clause-texts
returns-in_err-put-clause-texts g c = (let p = err_from_is_err_and c.from_residual.result c.from_residual.ensures.1 in rw (p.1, p.2) (record {
  fine = tt;
  short = λ is. (c.in_err-put.ensures.no_memory (cc is)).1;
  failed = λ is. c.in_err-put.ensures.failed (cc is);
  same_reference = c.in_err-put.ensures.same_reference;
}))
