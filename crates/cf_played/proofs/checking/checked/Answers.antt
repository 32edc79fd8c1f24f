use Rattle.std.proofs.Common.{◌∙◌}
use Rattle.cf_played.proofs.Checks.{read_same, read_bad}
use Rattle.cf_played.proofs.checking.checked.Goals as goal

pub returns-clause-same : goal.returns-clause-same
returns-clause-same c = read_same c.args.chain.now c.deref.result.now c.read_chain.result (c.deref.ensures.value ∙ c.in_ok-bytes.ensures) c.read_chain.ensures.exact

pub returns-clause-bad : goal.returns-clause-bad
returns-clause-bad c = read_bad c.args.chain.now c.deref.result.now c.read_chain.result (c.deref.ensures.value ∙ c.in_ok-bytes.ensures) c.read_chain.ensures.exact
