-- What a command says of what it doesn't use, and of its sink.
use Rattle.std.proofs.Common.{◌≡◌, ◌≢◌, ℕ, Bool, false, List, Option, Some, None, refl, sym, ◌∙◌}
use Rattle.std.specs.Prelude.{IfSome}
use Rattle.cf_bytes.specs.Files.{Named}
use Rattle.cf_answers.specs.Statuses.{has_run}
use Rattle.cf_answers.specs.Writing.{CountsOut}
use Rattle.cf_answers.specs.declared.status.Status.{Status}
use Rattle.cf_answers.specs.declared.status.Status.TheVariants.{Done, NoMemory, Usage, BadFile, FileFault, OutFault, NoPeers, Tired, Ended, LinkFault, NoNonce, NoHeight, NotThere, NotInChain, NotAddress}
use Rattle.cf_input.specs.declared.words.Command.{Command}
use Rattle.cf_loading.specs.Verdicts.{IsJudged, no_file}
use Rattle.cf_offline.specs.Making.{IsMaking}
use Rattle.cf_played.specs.declared.played.Played.{Played}
use Rattle.cf_cli.specs.Handed.{UsesLink, UsesOut, UsesPlayed}
use Rattle.cf_cli.specs.Statuses.{may_say}

-- ---- what isn't used

pub played_stays : {command : Option Command} {played : Played} → UsesPlayed command played played
played_stays = record { unshown = λ off. refl }

pub link_stays : {L : Type 0} {faults : L → ℕ} {command : Option Command} {status : Status} {link : L} → status ≢ LinkFault → UsesLink faults command status link link
link_stays well = record { unserved = λ off. refl; fault = λ is. absurd (well is); fine = λ ne. refl }

pub out_stays : {O : Type 0} {written : O → Option (List ℕ)} {faults : O → ℕ} {command : Option Command} {status : Status} {out : O} → status ≢ OutFault
    → UsesOut written faults command status out out
out_stays well = record { unwritten = λ off. refl; counts = record { fault = λ is. absurd (well is); fine = λ ne on. refl } }

-- ---- the sink of a command that writes its text once

pub out_once : {O : Type 0} {written : O → Option (List ℕ)} {faults : O → ℕ} {command : Option Command} {status : Status} {before after : O}
    → may_say command status ≡ has_run status → (has_run status ≡ false → written after ≡ written before) → CountsOut status (faults before) (faults after)
    → UsesOut written faults command status before after
out_once says unwritten counts = record {
  unwritten = λ off. unwritten (sym says ∙ off);
  counts = record { fault = counts.fault; fine = λ ne on. counts.fine ne };
}

-- ---- a command that reads no file

pub judged_none : (files : Option Named) (status : Status) → IsJudged no_file status → IfSome files (λ m. IsJudged no_file status)
judged_none None status judged = tt
judged_none (Some m) status judged = judged

pub made_judged : (status : Status) (witness : Bool) (seed blocks : ℕ) (file : List ℕ) (before after : Option Named) → IsMaking status witness seed blocks file before after
    → IsJudged no_file status
made_judged Done witness seed blocks file before after made = tt
made_judged (NoNonce height) witness seed blocks file before after made = tt
made_judged FileFault witness seed blocks file before after made = tt
made_judged NoMemory witness seed blocks file before after made = tt
made_judged Usage witness seed blocks file before after made = absurd made
made_judged (BadFile which place cause) witness seed blocks file before after made = absurd made
made_judged OutFault witness seed blocks file before after made = absurd made
made_judged (NoPeers ends) witness seed blocks file before after made = absurd made
made_judged Tired witness seed blocks file before after made = absurd made
made_judged Ended witness seed blocks file before after made = absurd made
made_judged LinkFault witness seed blocks file before after made = absurd made
made_judged (NoHeight tip) witness seed blocks file before after made = absurd made
made_judged (NotThere txid) witness seed blocks file before after made = absurd made
made_judged (NotInChain block) witness seed blocks file before after made = absurd made
made_judged (NotAddress cause) witness seed blocks file before after made = absurd made
