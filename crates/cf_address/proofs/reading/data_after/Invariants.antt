use Rattle.std.proofs.Common.{◌≡◌, drop}
use Rattle.cf_address.specs.Faults.{data_after as letters_after}
use Rattle.cf_address.proofs.reading.data_after.Given as goal

abbrev pub invariant-loop-p : goal.invariant-loop-p
invariant-loop-p l = letters_after (drop l.p-index l.prefix) l.rest ≡ letters_after l.prefix l.text
