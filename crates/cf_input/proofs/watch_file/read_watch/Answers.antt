use Rattle.std.proofs.Common.{◌≡◌, ◌∙◌, ◌<◌, length, ap, sym, arith}
use Rattle.std.proofs.lemmas.Bool.Decides.{nat_tests}
use Rattle.std.proofs.lemmas.Result.{err_from_is_err_and}
use Rattle.cf_input.specs.Lines.{read_lines}
use Rattle.cf_input.specs.WatchFile.{script_after}
use Rattle.cf_input.proofs.LineSteps.{lines_step, lines_end, lines_on, lines_stop}
use Rattle.cf_input.proofs.watch_file.read_watch.Goals as goal

pub returns-in_err-add_line : goal.returns-in_err-add_line
returns-in_err-add_line c =
    let some : 0 < length c.loop-rest.rest.now = grind (arith, nat_tests) in
    let lines = ap (read_lines script_after c.loop-rest.watch) (sym (lines_step c.loop-rest.rest.now some)) ∙ c.loop-rest.invariant.read in
    let front = rw (← c.cut_at.ensures.front) at lines in
    let p = err_from_is_err_and c.from_residual.result c.from_residual.ensures.1 in
    rw (p.1, p.2) (lines_stop (Unit {0}) (λ w. w) script_after c.loop-rest.watch c.add_line.new.watch _ _ _ c.in_err-add_line.field-0.0 c.in_err-add_line.ensures front)

pub loop-rest-preserved : goal.loop-rest-preserved
loop-rest-preserved c =
    let some : 0 < length c.loop-rest.rest.now = grind (arith, nat_tests) in
    let lines = ap (read_lines script_after c.loop-rest.watch) (sym (lines_step c.loop-rest.rest.now some)) ∙ c.loop-rest.invariant.read in
    record { read = rw (c.cut_at.ensures.rest) (lines_on script_after _ _ _ _ _ (rw c.cut_at.ensures.front at c.in_ok-add_line.ensures) lines) }

pub returns : goal.returns
returns c =
    let none : length c.loop-rest.rest.now ≡ 0 = grind (arith, nat_tests) in
    lines_end script_after c.loop-rest.watch c.loop-rest.rest.now _ none c.loop-rest.invariant.read
