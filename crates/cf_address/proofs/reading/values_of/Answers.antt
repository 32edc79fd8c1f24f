use Rattle.std.proofs.Common.{◌<◌, [], refl}
use Rattle.std.proofs.lemmas.List.Folds.{list_all_at}
use Rattle.std.proofs.lemmas.List.Elements.{All-push}
use Rattle.cf_address.specs.Alphabet.{is_letter, value_of}
use Rattle.cf_address.proofs.AlphabetLemmas.{is_letter-none, letters_more, mapped_more}
use Rattle.cf_address.proofs.reading.values_of.Goals as goal

pub returns-in_default : goal.returns-in_default
returns-in_default c = (list_all_at is_letter c.args.letters.now c.loop-letter.letter-index 0 c.loop-letter-test.true (is_letter-none _ c.in_default.ensures.exact), refl)

pub loop-letter-preserved : goal.loop-letter-preserved
loop-letter-preserved c = record {
  letters = letters_more c.args.letters.now c.loop-letter.letter-index c.in-Some.value c.loop-letter-test.true c.loop-letter.invariant.letters c.in-Some.ensures.exact c.in-Some.ensures.small;
  values = mapped_more value_of [] c.loop-letter.values.items _ c.args.letters.now c.loop-letter.letter-index c.in-Some.value c.loop-letter-test.true c.loop-letter.invariant.values c.in_ok-push.ensures.items c.in-Some.ensures.exact;
  small = rw c.in_ok-push.ensures.items (All-push (λ v. v < 32) c.loop-letter.values.items c.in-Some.value c.loop-letter.invariant.small c.in-Some.ensures.small);
}
