-- What becomes of the record.
use Rattle.std.proofs.Common.{◌≡◌, ◌≢◌, ℕ, false, List, Option, None, refl, sym}
use Rattle.std.proofs.lemmas.Bool.{false≢true}
use Rattle.cf_bytes.specs.Files.{Named}
use Rattle.cf_wires.specs.Log.{Log}
use Rattle.cf_answers.specs.declared.status.Status.{Status}
use Rattle.cf_answers.specs.declared.status.Status.TheVariants.{Done, NoMemory, Usage, BadFile, FileFault, OutFault, NoPeers, Tired, Ended, LinkFault, NoNonce, NoHeight, NotThere, NotInChain, NotAddress}
use Rattle.cf_answers.specs.Statuses.{was_refused}
use Rattle.cf_cli_client.specs.Recording.{HasRecord, Records}
use Rattle.cf_cli_client.specs.Theorem.{IsOfRun}

-- the record of a run that was begun, where memory was not wanting
pub begun_records : (status : Status) (file : Option (List ℕ)) (log : Option Log) (before after : Option Named) → IsOfRun status → was_refused status ≡ false → status ≢ NoMemory
    → HasRecord file log before after → Records status file log before after
begun_records Done file log before after is begun enough kept = kept
begun_records NoMemory file log before after is begun enough kept = absurd (enough refl)
begun_records (BadFile which place cause) file log before after is begun enough kept = absurd (false≢true (sym begun))
begun_records FileFault file log before after is begun enough kept = absurd (false≢true (sym begun))
begun_records OutFault file log before after is begun enough kept = kept
begun_records (NoPeers ends) file log before after is begun enough kept = kept
begun_records Tired file log before after is begun enough kept = kept
begun_records Ended file log before after is begun enough kept = kept
begun_records Usage file log before after is begun enough kept = absurd is
begun_records LinkFault file log before after is begun enough kept = absurd is
begun_records (NoNonce height) file log before after is begun enough kept = absurd is
begun_records (NoHeight tip) file log before after is begun enough kept = absurd is
begun_records (NotThere txid) file log before after is begun enough kept = absurd is
begun_records (NotInChain block) file log before after is begun enough kept = absurd is
begun_records (NotAddress cause) file log before after is begun enough kept = absurd is
