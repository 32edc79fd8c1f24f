use Rattle.std.specs.Prelude.{encode_utf8}
use Rattle.std.proofs.Common.{◌++◌, string_bytes, ◌∙◌, ap}
use Rattle.std.proofs.lemmas.Str.Ascii.{encode_ascii}
use Rattle.cf_address.specs.Alphabet.{letter_of}
use Rattle.cf_address.proofs.AlphabetLemmas.{Stands-letter}
use Rattle.cf_address.proofs.writing.put_letter.Goals as goal

pub returns : goal.returns
returns c = c.in_ok-push.ensures.bytes ∙ ap (λ n. string_bytes c.args.text.now ++ encode_utf8 n) (c.from.ensures ∙ c.letter.ensures) ∙ ap (λ s. string_bytes c.args.text.now ++ s) (encode_ascii (letter_of c.args.value) (Stands-letter c.args.value c.requires).below)
