-- statement: what stands under a name that a command reads, and what reading it answers.
use Rattle.std.specs.Prelude.{◌≡◌, ℕ, Bool, nat_lt, if◌then◌else◌, List, length, Option, Some, None, Result, Ok, Err}
use Rattle.cf_bytes.specs.Outside.{HasRisen}
use Rattle.cf_bytes.specs.declared.files.FileFail.{FileFail}
use Rattle.cf_bytes.specs.declared.files.FileFail.TheVariants.{Failed, TooBig as TooMuch, NoMemory as OutOfMemory}
use Rattle.cf_block.specs.declared.tx.Block.{Block}
use Rattle.cf_walk.specs.declared.cause.BadBlock.{BadBlock}
use Rattle.cf_walk.specs.declared.fault.LoadFault.{LoadFault}
use Rattle.cf_walk.specs.declared.fault.LoadFault.TheVariants as faults
use Rattle.cf_walk.specs.Files.{blocks_at, most_blocks}
use Rattle.cf_input.specs.ProofFile.{proof_file_of}
use Rattle.cf_input.specs.SessionFile.{session_of}
use Rattle.cf_input.specs.WatchFile.{watch_of}
use Rattle.cf_answers.specs.declared.status.FileCause.{FileCause}
use Rattle.cf_answers.specs.declared.status.FileCause.TheVariants.{TooBig, Watch as OfWatch, Session as OfSession, Blocks as OfBlocks, Proof as OfProof}
use Rattle.cf_answers.specs.declared.status.Status.{Status}
use Rattle.cf_answers.specs.declared.status.Status.TheVariants.{NoMemory, Usage, BadFile, FileFault}
use Rattle.cf_answers.specs.declared.status.Which.{Which}
use Rattle.cf_answers.specs.declared.status.Which.TheVariants.{Watch, Session, Blocks, Proof}

-- the most bytes that a watch file may have
abbrev pub most_watch : ℕ
most_watch = 33554432

-- the most bytes that a session file may have
abbrev pub most_session : ℕ
most_session = 1073741824

-- the most bytes that the file of a proof may have
abbrev pub most_proof : ℕ
most_proof = 4000000

-- what stands under a name: no file, a file that is refused, or a good one
pub data FileVerdict : Type 0 where
  Missing : FileVerdict
  Bad : (which : Which) → (place : ℕ) → (cause : FileCause) → FileVerdict
  Good : FileVerdict

-- the verdict by what reading a file gave: where it is refused, the one for why
abbrev pub read_verdict : {A F : Type 0} → (F → FileVerdict) → Result A F → FileVerdict
read_verdict refused (Ok read) = Good
read_verdict refused (Err fault) = refused fault

-- the verdict on a file of at most so many bytes: missing, too big, or by its bytes
abbrev pub file_verdict : Which → ℕ → (List ℕ → FileVerdict) → Option (List ℕ) → FileVerdict
file_verdict which most judged None = Missing
file_verdict which most judged (Some bytes) = if nat_lt most (length bytes) then Bad which 0 TooBig else judged bytes

-- what a watch file is judged as: missing, too big, refused with its first bad line and cause, or good
abbrev pub watch_verdict : Option (List ℕ) → FileVerdict
watch_verdict = file_verdict Watch most_watch (λ bytes. read_verdict (λ fault. Bad Watch fault.place (OfWatch fault.cause)) (watch_of bytes))

-- what a session file is judged as: missing, too big, refused with its first bad line and cause, or good
abbrev pub session_verdict : Option (List ℕ) → FileVerdict
session_verdict = file_verdict Session most_session (λ bytes. read_verdict (λ fault. Bad Session fault.place (OfSession fault.cause)) (session_of bytes))

-- the verdict on a block file, by what reading it gave
abbrev pub blocks_read : Result (List Block) BadBlock → FileVerdict
blocks_read = read_verdict (λ bad. Bad Blocks bad.number (OfBlocks bad.cause))

-- what a file of blocks is judged as: missing, refused with its first bad record and cause, or good
abbrev pub blocks_verdict : Option (List ℕ) → FileVerdict
blocks_verdict = file_verdict Blocks most_blocks (λ bytes. blocks_read (blocks_at bytes))

-- what the file of a proof is judged as: missing, too big, refused with its first bad line and cause, or good
abbrev pub proof_verdict : Bool → Option (List ℕ) → FileVerdict
proof_verdict witness = file_verdict Proof most_proof (λ bytes. read_verdict (λ fault. Bad Proof fault.place (OfProof fault.cause)) (proof_file_of witness bytes))

-- what reading a file answers: a good one, or the program's answer
abbrev pub IsReadAs : {X : Type 0} → FileVerdict → Result X Status → Type 0
IsReadAs verdict (Ok x) = verdict ≡ Good
IsReadAs verdict (Err FileFault) = Unit {0}
IsReadAs verdict (Err NoMemory) = Unit {0}
IsReadAs verdict (Err (BadFile w p c)) = verdict ≡ Bad w p c
IsReadAs verdict (Err status) = ⊥

-- what reading a file does to the count of faults: it rises where the answer is FileFault, and else stays
abbrev pub CountsFile : {X : Type 0} → Result X Status → ℕ → ℕ → Type 0
CountsFile (Err FileFault) before after = HasRisen before after
CountsFile result before after = after ≡ before

-- the answers to files
abbrev pub IsOfFile : Status → Type 0
IsOfFile NoMemory = Unit {0}
IsOfFile FileFault = Unit {0}
IsOfFile (BadFile which place cause) = Unit {0}
IsOfFile status = ⊥

-- the answer to a file that can't be read
abbrev pub IsUnread : Which → FileFail → Status → Type 0
IsUnread which Failed status = status ≡ FileFault
IsUnread which TooMuch status = status ≡ BadFile which 0 TooBig
IsUnread which OutOfMemory status = status ≡ NoMemory

-- the answer where no chain was read from a file that was opened
abbrev pub IsUnloaded : LoadFault → Status → Type 0
IsUnloaded (faults.BadBlock bad) status = status ≡ BadFile Blocks bad.number (OfBlocks bad.cause)
IsUnloaded faults.TooBig status = status ≡ BadFile Blocks 0 TooBig
IsUnloaded faults.ReadFault status = status ≡ FileFault
IsUnloaded faults.NoMemory status = status ≡ NoMemory

-- ---- the answers of commands

-- the watch file is judged first
abbrev pub and_then : FileVerdict → FileVerdict → FileVerdict
and_then Missing later = Missing
and_then (Bad which place cause) later = Bad which place cause
and_then Good later = later

-- a command that reads no file
abbrev pub no_file : FileVerdict
no_file = Good

-- a file that is missing or refused is answered so, and no other is; a read may fail, and memory may be wanting
abbrev pub IsJudged : FileVerdict → Status → Type 0
IsJudged verdict FileFault = Unit {0}
IsJudged verdict NoMemory = Unit {0}
IsJudged verdict Usage = ⊥
IsJudged Missing status = ⊥
IsJudged (Bad which place cause) (BadFile w p c) = (w ≡ which) × (p ≡ place) × (c ≡ cause)
IsJudged (Bad which place cause) status = ⊥
IsJudged Good (BadFile w p c) = ⊥
IsJudged Good status = Unit {0}
