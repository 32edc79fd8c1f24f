use Rattle.std.proofs.Common.{sym, ◌∙◌}
use Rattle.cf_golomb.proofs.BitLemmas.{nothing_left, bit_taken}
use Rattle.cf_golomb.proofs.word_reader.WordReaderBitSource.bit.Goals as goal

pub returns : goal.returns
returns c =
    bit_taken c.fill-filled.result.n c.fill-filled.result.word c.cut_word-cut.result.high c.cut_word-cut.result.low _ _
    (sym c.self.view_is ∙ c.fill-filled.ensures.bits) c.cut_word-cut.ensures.bits c.cut_word-cut.ensures.high

pub returns-then-filled-eq0 : goal.returns-then-filled-eq0
returns-then-filled-eq0 c =
    sym c.self.view_is ∙ c.fill-filled.ensures.bits ∙ nothing_left c.fill-filled.result.n c.fill-filled.result.word c.fill-filled.result.rest.now c.fill-filled.ensures.full c.if-filled-eq0.true
