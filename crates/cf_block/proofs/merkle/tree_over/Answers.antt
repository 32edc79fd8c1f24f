use Rattle.std.proofs.Common.{sym, ◌∙◌, arith}
use Rattle.cf_block.proofs.Halving.{root_halved, root_alone, doubled_more, doubled_end}
use Rattle.cf_block.proofs.merkle.tree_over.Goals as goal

pub loop-n-preserved : goal.loop-n-preserved
loop-n-preserved c = record {
  root = c.loop-n.invariant.root ∙ root_halved c.loop-n.level c.halve.new.level c.loop-n.n c.div_ceil-n.result (omega arith) c.loop-n.invariant.within (omega (arith, c.div_ceil-n.ensures)) c.halve.ensures;
  doubled = doubled_more c.args.level.now c.loop-n.level c.halve.new.level c.loop-n.n c.div_ceil-n.result c.loop-n.is_doubled c.has_twins-is_doubled.result (omega arith) c.loop-n.invariant.within (omega (arith, c.div_ceil-n.ensures)) c.has_twins-is_doubled.ensures c.halve.ensures c.loop-n.invariant.doubled;
  some = omega (arith, c.div_ceil-n.ensures);
  within = omega (arith, c.div_ceil-n.ensures, c.halve.auto.level);
}

pub returns-clause-root : goal.returns-clause-root
returns-clause-root c = root_alone c.loop-n.level c.loop-n.n _ (omega arith) c.loop-n.invariant.within ∙ sym c.loop-n.invariant.root

pub returns-clause-doubled : goal.returns-clause-doubled
returns-clause-doubled c = doubled_end c.args.level.now c.loop-n.level c.loop-n.n c.loop-n.is_doubled (omega arith) c.loop-n.invariant.within c.loop-n.invariant.doubled
