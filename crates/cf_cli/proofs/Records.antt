-- What becomes of the files.
use Rattle.std.proofs.Common.{◌≡◌, ℕ, Bool, false, List, Option, Some, None, sym, subst}
use Rattle.std.specs.Prelude.{is_some, IfSome}
use Rattle.std.proofs.lemmas.Bool.{false≢true}
use Rattle.cf_bytes.specs.Files.{Named}
use Rattle.cf_wires.specs.Log.{Log}
use Rattle.cf_answers.specs.declared.status.Status.{Status}
use Rattle.cf_answers.specs.declared.status.Status.TheVariants.{Done, NoMemory, Usage, BadFile, FileFault, OutFault, NoPeers, Tired, Ended, LinkFault, NoNonce, NoHeight, NotThere, NotInChain, NotAddress}
use Rattle.cf_loading.specs.Verdicts.{and_then, IsJudged, IsOfFile, FileVerdict, Good, session_verdict, watch_verdict}
use Rattle.cf_answers.specs.Statuses.{was_unbegun}
use Rattle.cf_cli_client.specs.Recording.{Records}
use Rattle.std.specs.FinMap as finite

-- where a file is answered for before a run no file has changed
pub early_records : (status : Status) (file : Option (List ℕ)) (log : Option Log) (before after : Option Named) → IsOfFile status → after ≡ before → Records status file log before after
early_records NoMemory file log before after is same = same
early_records FileFault file log before after is same = same
early_records (BadFile which place cause) file log before after is same = same
early_records Done file log before after is same = absurd is
early_records Usage file log before after is same = absurd is
early_records OutFault file log before after is same = absurd is
early_records (NoPeers ends) file log before after is same = absurd is
early_records Tired file log before after is same = absurd is
early_records Ended file log before after is same = absurd is
early_records LinkFault file log before after is same = absurd is
early_records (NoNonce height) file log before after is same = absurd is
early_records (NoHeight tip) file log before after is same = absurd is
early_records (NotThere txid) file log before after is same = absurd is
early_records (NotInChain block) file log before after is same = absurd is
early_records (NotAddress cause) file log before after is same = absurd is

-- the same files, told by what they are equal to
pub records_from : (status : Status) (file : Option (List ℕ)) (log : Option Log) (first before after : Option Named) → before ≡ first → Records status file log before after
    → Records status file log first after
records_from status file log first before after same h = subst (λ (files : Option Named). Records status file log files after) same h

-- a run without a record changes no file
pub unrecorded : (status : Status) (log : Option Log) (before after : Option Named) → Records status None log before after → after ≡ before
unrecorded Done log before after h = h
unrecorded NoMemory log before after h = h
unrecorded Usage log before after h = h
unrecorded (BadFile which place cause) log before after h = h
unrecorded FileFault log before after h = h
unrecorded OutFault log before after h = h
unrecorded (NoPeers ends) log before after h = h
unrecorded Tired log before after h = h
unrecorded Ended log before after h = h
unrecorded LinkFault log before after h = h
unrecorded (NoNonce height) log before after h = h
unrecorded (NoHeight tip) log before after h = h
unrecorded (NotThere txid) log before after h = h
unrecorded (NotInChain block) log before after h = h
unrecorded (NotAddress cause) log before after h = h

-- the same of the name that is asked for
pub unrecorded_by : (file : Option (List ℕ)) (status : Status) (log : Option Log) (before after : Option Named) → Records status file log before after → is_some file ≡ false → after ≡ before
unrecorded_by None status log before after h off = unrecorded status log before after h
unrecorded_by (Some name) status log before after h off = absurd (false≢true (sym off))

-- a run that was begun is an answer to a good file
good_judged : (status : Status) (recorded : Bool) → was_unbegun status recorded ≡ false → IsJudged Good status
good_judged Done recorded begun = tt
good_judged NoMemory recorded begun = tt
good_judged Usage recorded begun = absurd (false≢true (sym begun))
good_judged (BadFile which place cause) recorded begun = absurd (false≢true (sym begun))
good_judged FileFault recorded begun = tt
good_judged OutFault recorded begun = tt
good_judged (NoPeers ends) recorded begun = tt
good_judged Tired recorded begun = tt
good_judged Ended recorded begun = tt
good_judged LinkFault recorded begun = tt
good_judged (NoNonce height) recorded begun = tt
good_judged (NoHeight tip) recorded begun = tt
good_judged (NotThere txid) recorded begun = tt
good_judged (NotInChain block) recorded begun = tt
good_judged (NotAddress cause) recorded begun = tt

-- the same over the watch file, where the files tell it
pub judged_once_begun : (files : Option Named) (watch : List ℕ) (status : Status) (recorded : Bool) → IfSome files (λ m. watch_verdict (finite.get m watch) ≡ Good) → was_unbegun status recorded ≡ false
    → IfSome files (λ m. IsJudged (watch_verdict (finite.get m watch)) status)
judged_once_begun None watch status recorded good begun = tt
judged_once_begun (Some m) watch status recorded good begun = subst (λ (v : FileVerdict). IsJudged v status) (sym good) (good_judged status recorded begun)

-- and over the watch file and the session file of a run over a tape
pub judged_played : (files between : Option Named) (watch session : List ℕ) (status : Status) (recorded : Bool) → between ≡ files
    → IfSome files (λ m. watch_verdict (finite.get m watch) ≡ Good) → IfSome between (λ m. session_verdict (finite.get m session) ≡ Good) → was_unbegun status recorded ≡ false
    → IfSome files (λ m. IsJudged (and_then (watch_verdict (finite.get m watch)) (session_verdict (finite.get m session))) status)
judged_played None between watch session status recorded same good fine begun = tt
judged_played (Some m) between watch session status recorded same good fine begun =
    let read : session_verdict (finite.get m session) ≡ Good = subst (λ (o : Option Named). IfSome o (λ x. session_verdict (finite.get x session) ≡ Good)) same fine in
    subst (λ (v : FileVerdict). IsJudged (and_then v (session_verdict (finite.get m session))) status) (sym good)
    (subst (λ (v : FileVerdict). IsJudged v status) (sym read) (good_judged status recorded begun))
