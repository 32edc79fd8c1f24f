-- What reading a file does to the count of faults.
use Rattle.std.proofs.Common.{◌≡◌, ◌≢◌, ℕ, Err, refl}
use Rattle.cf_answers.specs.declared.status.Status.{Status}
use Rattle.cf_answers.specs.declared.status.Status.TheVariants.{Done, NoMemory, Usage, BadFile, FileFault, OutFault, NoPeers, Tired, Ended, LinkFault, NoNonce, NoHeight, NotThere, NotInChain, NotAddress}
use Rattle.cf_loading.specs.Verdicts.{CountsFile}

-- an answer other than FileFault leaves it
pub counts_fine : (status : Status) (before after : ℕ) → CountsFile {X = Unit {0}} (Err status) before after → status ≢ FileFault → after ≡ before
counts_fine Done before after same ne = same
counts_fine NoMemory before after same ne = same
counts_fine Usage before after same ne = same
counts_fine (BadFile which place cause) before after same ne = same
counts_fine FileFault before after risen ne = absurd (ne refl)
counts_fine OutFault before after same ne = same
counts_fine (NoPeers ends) before after same ne = same
counts_fine Tired before after same ne = same
counts_fine Ended before after same ne = same
counts_fine LinkFault before after same ne = same
counts_fine (NoNonce height) before after same ne = same
counts_fine (NoHeight tip) before after same ne = same
counts_fine (NotThere txid) before after same ne = same
counts_fine (NotInChain block) before after same ne = same
counts_fine (NotAddress cause) before after same ne = same
