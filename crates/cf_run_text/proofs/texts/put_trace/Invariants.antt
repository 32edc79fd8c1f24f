use Rattle.std.proofs.Common.{◌≡◌, ◌++◌, take}
use Rattle.cf_run_text.specs.Texts.{trace_text}
use Rattle.cf_run_text.proofs.texts.put_trace.Given as goal

abbrev pub invariant-loop-line : goal.invariant-loop-line
invariant-loop-line l = l.out.items ≡ l.fn.out.items ++ trace_text (take l.line-index l.lines)
