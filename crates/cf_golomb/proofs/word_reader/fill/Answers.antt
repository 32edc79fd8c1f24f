use Rattle.std.proofs.Common.{arith, ◌∙◌}
use Rattle.cf_golomb.proofs.BitLemmas.{unpack-cons}
use Rattle.cf_golomb.proofs.word_reader.fill.Goals as goal

pub loop-n-preserved : goal.loop-n-preserved
loop-n-preserved c = record {
  bits = c.loop-n.invariant.bits ∙ unpack-cons c.loop-n.n c.loop-n.word c.push_byte-word.result c.in-Some.b.now c.in-Some.more.now _ c.in-Some.ensures.cases.0 c.push_byte-word.ensures.bits;
  fits = omega (arith, c.loop-n-test.true, c.requires.need);
  word = c.push_byte-word.ensures.fits;
}
