use Rattle.std.proofs.Common.{◌≡◌, ◌∙◌, ◌<◌, length, ap, sym, arith}
use Rattle.std.proofs.lemmas.Bool.Decides.{nat_tests}
use Rattle.std.proofs.lemmas.Result.{err_from_is_err_and}
use Rattle.cf_input.specs.Lines.{read_lines}
use Rattle.cf_input.specs.SessionFile.{line_after, dialled}
use Rattle.cf_input.specs.Sessions.{script_in}
use Rattle.cf_input.proofs.LineSteps.{lines_step, lines_end, lines_on, lines_stop}
use Rattle.cf_input.proofs.SessionSteps.{stops_then, no_dial, some_dial}
use Rattle.cf_input.proofs.session.read_session.Goals as goal

pub returns-in_err-add_line-clause-exact : goal.returns-in_err-add_line-clause-exact
returns-in_err-add_line-clause-exact c =
    let some : 0 < length c.loop-rest.rest.now = grind (arith, nat_tests) in
    let lines = ap (read_lines line_after (script_in c.loop-rest.session)) (sym (lines_step c.loop-rest.rest.now some)) ∙ c.loop-rest.invariant.read in
    let front = rw (← c.cut_at.ensures.front) at lines in
    let p = err_from_is_err_and c.from_residual.result c.from_residual.ensures.1 in
    rw (p.1, p.2) (stops_then script_in script_in _ dialled c.in_err-add_line.field-0.0 (lines_stop (Unit {0}) script_in line_after (script_in c.loop-rest.session) (script_in c.add_line.new.session) _ _ _ c.in_err-add_line.field-0.0 c.in_err-add_line.ensures.exact front))

pub loop-rest-preserved : goal.loop-rest-preserved
loop-rest-preserved c =
    let some : 0 < length c.loop-rest.rest.now = grind (arith, nat_tests) in
    let lines = ap (read_lines line_after (script_in c.loop-rest.session)) (sym (lines_step c.loop-rest.rest.now some)) ∙ c.loop-rest.invariant.read in
    let shorter : length c.cut_at.result.1.now < length c.loop-rest.rest.now = c.cut_at.ensures.shorter some in
    record {
      read = rw (c.cut_at.ensures.rest) (lines_on line_after _ _ _ _ _ (rw c.cut_at.ensures.front at c.in_ok-add_line.ensures.exact) lines);
      few = c.in_ok-add_line.ensures.adds.few;
      lines = omega (arith, c.in_ok-add_line.ensures.adds.more, c.loop-rest.invariant.lines);
      named = c.in_ok-add_line.ensures.adds.named c.loop-rest.invariant.named;
      real = c.in_ok-add_line.ensures.adds.real c.loop-rest.invariant.real;
    }

pub returns-then-is_empty-clause-exact : goal.returns-then-is_empty-clause-exact
returns-then-is_empty-clause-exact c =
    let none : length c.loop-rest.rest.now ≡ 0 = grind (arith, nat_tests) in
    let dials : length c.loop-rest.session.dials.items ≡ 0 = grind (arith, nat_tests) in
    no_dial _ (script_in c.loop-rest.session) (lines_end line_after (script_in c.loop-rest.session) c.loop-rest.rest.now _ none c.loop-rest.invariant.read) dials

pub returns-clause-exact : goal.returns-clause-exact
returns-clause-exact c =
    let none : length c.loop-rest.rest.now ≡ 0 = grind (arith, nat_tests) in
    let dials : 0 < length c.loop-rest.session.dials.items = grind (arith, nat_tests) in
    some_dial _ (script_in c.loop-rest.session) (lines_end line_after (script_in c.loop-rest.session) c.loop-rest.rest.now _ none c.loop-rest.invariant.read) dials
