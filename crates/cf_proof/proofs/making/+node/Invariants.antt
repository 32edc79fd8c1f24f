use Rattle.cf_proof.proofs.making.+node.Given as goal

abbrev pub decreases-node : goal.decreases-node
decreases-node l = l.height
