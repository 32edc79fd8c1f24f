use Rattle.std.proofs.Common.{Result, Ok, Err, IfOk}
use Rattle.cf_cli_demo.proofs.demoing.demo_text.Goals as goal

on_ok : {X E : Type 0} {P Q : X → Type 0} (r : Result X E) → ((x : X) → P x → Q x) → IfOk r P → IfOk r Q
on_ok (Ok x) f p = f x p
on_ok (Err e) f p = tt

pub returns-in-Ok-play_demo-clause-text : goal.returns-in-Ok-play_demo-clause-text
returns-in-Ok-play_demo-clause-text g c = on_ok c.told.result (λ text says. says c.args.seed _ c.in-Ok-play_demo.ensures.ok) c.told.ensures.text

pub returns-in-Err-clause-why : goal.returns-in-Err-clause-why
returns-in-Err-clause-why g c = c.untold.ensures.demo c.args.seed c.args.blocks _ c.in-Err.ensures.err (λ other. (c.in-Err.ensures.undialled other).0)
