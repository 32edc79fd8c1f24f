use Rattle.std.proofs.Common.{sym, ◌∙◌, ap}
use Rattle.cf_golomb.specs.Bits.{number_at}
use Rattle.cf_golomb.proofs.BitLemmas.{none_left, number_taken}
use Rattle.cf_golomb.proofs.word_reader.WordReaderBitSource.number.Goals as goal

pub returns-then-filled-k-clause-exact : goal.returns-then-filled-k-clause-exact
returns-then-filled-k-clause-exact c =
    ap (number_at c.args.k) (sym c.self.view_is ∙ c.fill-filled.ensures.bits) ∙ none_left c.args.k c.fill-filled.result.n c.fill-filled.result.word c.fill-filled.result.rest.now c.fill-filled.ensures.full c.if-filled-k.true

pub returns-clause-exact : goal.returns-clause-exact
returns-clause-exact c =
    number_taken c.args.k c.fill-filled.result.n c.fill-filled.result.word c.cut_word-cut.result.high c.cut_word-cut.result.low _ _
    (sym c.self.view_is ∙ c.fill-filled.ensures.bits) c.cut_word-cut.ensures.bits c.cut_word-cut.ensures.high
