use Rattle.std.proofs.Common.{string_bytes, ◌∙◌, ap, subst, map, ◌++◌, lit<}
use Rattle.std.proofs.lemmas.Str.Ascii.{encode_ascii}
use Rattle.cf_address.specs.Alphabet.{letter_of}
use Rattle.cf_address.specs.Address.{AreValuesOf}
use Rattle.cf_address.proofs.AddressLemmas.{joined, written, written_lower}
use Rattle.cf_address.proofs.writing.write.Goals as goal

pub returns : goal.returns
returns c =
    let prefix = c.args.prefix.now in
    let values = c.in_ok-values.values.items in
    let are = subst (λ p. AreValuesOf p c.args.program.now values) c.as_bytes.ensures.value c.in_ok-values.ensures.values in
    let spelled = joined prefix (string_bytes c.in_ok-text.text) (string_bytes c.push.new.self)
    (string_bytes c.put_letters.new.text) values c.in_ok-text.ensures.ok
    (c.in_ok-push.ensures.bytes ∙ ap (λ s. string_bytes c.in_ok-text.text ++ s) (encode_ascii 49 (lit< tt)))
    (c.in_ok-put_letters.ensures ∙ ap (λ v. string_bytes c.push.new.self ++ map letter_of v) c.deref.ensures.value) in
    record {
      address = written prefix values _ c.args.program.now c.requires c.in_ok-values.ensures.valid are spelled;
      lower = written_lower prefix values _ c.args.program.now c.requires c.in_ok-values.ensures.valid are spelled;
    }
