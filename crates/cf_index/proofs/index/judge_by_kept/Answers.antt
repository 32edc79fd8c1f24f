use Rattle.std.proofs.Common.{subst}
use Rattle.cf_chain.specs.Coins.{CoinMap}
use Rattle.cf_coins.specs.Spending.{spend_txs}
use Rattle.cf_walk.specs.Files.{in_coins}
use Rattle.cf_walk.specs.Progress.{FindsCause}
use Rattle.cf_index.proofs.index.judge_by_kept.Goals as goal

pub returns-clause-exact : goal.returns-clause-exact
returns-clause-exact c =
    subst (λ (m : CoinMap). FindsCause (in_coins (spend_txs m c.args.block.now.txs)) c.judge_by-judged.result) c.in_ok-all.ensures.found c.judge_by-judged.ensures
