use Rattle.std.proofs.Common.{ap, ◌∙◌, ◌%◌, length}
use Rattle.cf_golomb.proofs.BitLemmas.{loose_word}
use Rattle.cf_golomb.proofs.word_reader.WordReaderBitSource.loose.Goals as goal

pub returns : goal.returns
returns c = loose_word c.self.inside.n c.self.inside.word c.self.inside.rest.now ∙ ap (λ s. length s % 8) c.self.view_is
