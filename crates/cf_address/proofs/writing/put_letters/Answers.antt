use Rattle.std.proofs.Common.{refl, string_bytes}
use Rattle.cf_address.specs.Alphabet.{letter_of}
use Rattle.cf_address.proofs.AlphabetLemmas.{mapped_more}
use Rattle.cf_address.proofs.writing.put_letters.Goals as goal

pub loop-value-preserved : goal.loop-value-preserved
loop-value-preserved c = mapped_more letter_of (string_bytes c.args.text.now) (string_bytes c.loop-value.text) _ c.args.values.now c.loop-value.value-index _ c.loop-value-test.true c.loop-value.invariant c.in_ok-put_letter.ensures refl
