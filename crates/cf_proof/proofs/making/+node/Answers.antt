use Rattle.std.proofs.Common.{◌-◌, sym, arith}
use Rattle.cf_proof.proofs.TreeLemmas.{left_there}
use Rattle.cf_proof.proofs.MakeLemmas.{leaf_node, node_both, node_left}
use Rattle.std.proofs.Common.{length}
use Rattle.cf_proof.proofs.making.+node.Goals as goal

pub returns-then-height-eq0 : goal.returns-then-height-eq0
returns-then-height-eq0 t c = leaf_node c.args.leaves.now c.args.height c.args.place _ c.if-height-eq0.true c.requires.there

pub node-left-requires : goal.node-left-requires
node-left-requires t c = (omega arith, (c.requires.few, (omega arith, left_there c.args.place c.args.height (length c.args.leaves.now) (omega arith) c.requires.there)))

pub returns-then-not-is_there : goal.returns-then-not-is_there
returns-then-not-is_there t c = node_left c.args.leaves.now c.args.height (c.args.height - 1) c.args.place c.node-left.result.0 _ (omega arith) c.requires.there (sym c.if-not-is_there.ensures) c.node-left.ensures c.join.ensures

pub returns : goal.returns
returns t c = node_both c.args.leaves.now c.args.height (c.args.height - 1) c.args.place c.node-left.result.0 c.node-right.result.0 _ (omega arith) (sym c.if-not-is_there.ensures) c.node-left.ensures c.node-right.ensures c.join-2.ensures
