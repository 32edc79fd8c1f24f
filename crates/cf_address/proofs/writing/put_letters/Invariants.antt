use Rattle.std.proofs.Common.{◌≡◌, ◌++◌, map, take, string_bytes}
use Rattle.cf_address.specs.Alphabet.{letter_of}
use Rattle.cf_address.proofs.writing.put_letters.Given as goal

abbrev pub invariant-loop-value : goal.invariant-loop-value
invariant-loop-value l = string_bytes l.text ≡ string_bytes l.fn.text ++ map letter_of (take l.value-index l.values)
