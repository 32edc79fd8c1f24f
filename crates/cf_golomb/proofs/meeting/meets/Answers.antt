use Rattle.std.proofs.Common.{ap, sym, ◌∙◌}
use Rattle.cf_golomb.specs.Code.{body_at}
use Rattle.cf_golomb.specs.Meets.{hits, answer_by}
use Rattle.cf_golomb.proofs.ReadLemmas.{set_head, set_fault}
use Rattle.cf_golomb.proofs.meeting.meets.Goals as goal

pub returns-in-Ok : goal.returns-in-Ok
returns-in-Ok c =
    c.any_of_body.ensures
    ∙ ap (λ bits. answer_by (hits c.args.queries.now) (body_at c.in-Ok.n bits)) c.new.ensures
    ∙ ap (answer_by (hits c.args.queries.now)) (sym (set_head c.args.bytes.now c.in-Ok.rest.now c.in-Ok.n c.in-Ok.ensures.exact))

pub returns-in-Err : goal.returns-in-Err
returns-in-Err c = ap (answer_by (hits c.args.queries.now)) (sym (set_fault c.args.bytes.now c.in-Err.e c.in-Err.ensures.exact))
