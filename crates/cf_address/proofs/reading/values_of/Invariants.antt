use Rattle.std.proofs.Common.{◌≡◌, true, map, take}
use Rattle.std.specs.List.{list_all}
use Rattle.cf_address.specs.Bits.{AreBelow}
use Rattle.cf_address.specs.Alphabet.{is_letter, value_of}
use Rattle.cf_address.proofs.reading.values_of.Given as goal

abbrev pub invariant-loop-letter : goal.invariant-loop-letter
invariant-loop-letter l = record {
  letters : list_all is_letter (take l.letter-index l.letters) ≡ true;
  values : l.values.items ≡ map value_of (take l.letter-index l.letters);
  small : AreBelow 32 l.values.items;
}
