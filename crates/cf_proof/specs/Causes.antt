-- statement: the fault of a field.
use Rattle.cf_bytes.specs.declared.cut.CutFault.{CutFault}
use Rattle.cf_bytes.specs.declared.cut.CutFault.TheVariants.{Short as CutShort, NotShortest as CutNotShortest, TooLarge as CutTooLarge}
use Rattle.cf_proof.specs.declared.fault.ProofFault.{ProofFault}
use Rattle.cf_proof.specs.declared.fault.ProofFault.TheVariants.{Short, NotShortest, TooLarge}

-- the fault of a field, as a proof tells it
abbrev pub of_cut : CutFault → ProofFault
of_cut CutShort = Short
of_cut CutNotShortest = NotShortest
of_cut CutTooLarge = TooLarge
