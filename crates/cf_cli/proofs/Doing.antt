-- What a command does, told of its words, and where no memory is found for them.
use Rattle.std.proofs.Common.{◌≡◌, inl, ℕ, ℤ, Bool, true, false, List, [], length, Option, Some, None, Result, Ok, Err, refl, subst}
use Rattle.std.specs.Prelude.{is_some, nat_lt, IfSome}
use Rattle.std.specs.FinMap as finite
use Rattle.cf_bytes.specs.Files.{Named}
use Rattle.cf_bytes.specs.declared.hash.Hash32.{Hash32}
use Rattle.cf_block.specs.declared.tx.Block.{Block}
use Rattle.cf_chain.specs.Filters.{Filtered, filter_at}
use Rattle.cf_walk.specs.declared.cause.BadBlock.{BadBlock}
use Rattle.cf_walk.specs.Files.{blocks_at}
use Rattle.cf_input.specs.declared.proof_file.ProofFileFault.{ProofFileFault}
use Rattle.cf_input.specs.declared.proof_file.Proven.{Proven}
use Rattle.cf_input.specs.declared.watch_file.WatchFileFault.{WatchFileFault}
use Rattle.cf_input.specs.declared.words.Command.{Command}
use Rattle.cf_input.specs.declared.words.Command.TheVariants.{Replay, Sync, Follow, Scan, Filter, Address, Prove, Check, Serve, Make, Demo}
use Rattle.cf_input.specs.ProofFile.{proof_file_of}
use Rattle.cf_input.specs.WatchFile.{watch_of}
use Rattle.cf_wires.specs.Log.{Tells}
use Rattle.cf_answers.specs.declared.status.Status.{Status}
use Rattle.cf_answers.specs.declared.status.Status.TheVariants.{NoMemory}
use Rattle.cf_cli.specs.Doing.{Around, Does}
use Rattle.cf_offline.specs.Proving.{Checks, ChecksBy, ChecksIn, Proves, TakesAlone, TellsPlace, height_in}
use Rattle.cf_offline.specs.Reading.{Filters, Scans, TellsFilter, TellsHeight}
use Rattle.cf_cli.proofs.Plays.{early_plays, early_tallied, early_told, same_command}
use Rattle.cf_cli_client.proofs.Tallies.{new_dialled}
use Rattle.cf_cli.proofs.Stays.{early_replayed_in, early_tallied_on, early_told_on}

-- the same of the words, and of the same moment
pub does_so : (found : Option Command) (c : Command) (status : Status) (z y : ℤ) (nonce : ℕ) (before after : Around) → found ≡ Some c → z ≡ y → Does c status z nonce before after
    → (x : Command) → found ≡ Some x → Does x status y nonce before after
does_so found c status z y nonce before after is same did x asked =
    subst (λ (k : Command). Does k status y nonce before after) (same_command found c x is asked) (subst (λ (m : ℤ). Does c status m nonce before after) same did)

-- ---- nothing was done

no_scan : (b : Option (List ℕ)) (scripts : Result (List (List ℕ)) WatchFileFault) (blocks : Result (List Block) BadBlock) → Scans NoMemory b b scripts blocks
no_scan b (Ok scripts) (Ok blocks) = refl
no_scan b (Ok scripts) (Err bad) = refl
no_scan b (Err fault) blocks = refl

no_lines : (b : Option (List ℕ)) (filtered : Option Filtered) → TellsFilter NoMemory b b filtered
no_lines b None = refl
no_lines b (Some filtered) = refl

no_height : (b : Option (List ℕ)) (blocks : List Block) (height : ℕ) (above : Bool) → TellsHeight NoMemory b b blocks height above
no_height b blocks height true = refl
no_height b blocks height false = no_lines b (filter_at blocks height)

no_filter : (b : Option (List ℕ)) (height : ℕ) (blocks : Result (List Block) BadBlock) → Filters NoMemory b b height blocks
no_filter b height (Ok blocks) = no_height b blocks height (nat_lt (length blocks) height)
no_filter b height (Err bad) = refl

no_proof : (b : Option (List ℕ)) (txid : Hash32) (blocks : Result (List Block) BadBlock) → Proves NoMemory txid blocks b b
no_proof b txid (Ok blocks) = refl
no_proof b txid (Err bad) = refl

no_check : (b : Option (List ℕ)) (proven : Result Proven ProofFileFault) → Checks NoMemory proven b b
no_check b (Ok proven) = refl
no_check b (Err fault) = refl

no_place : (b : Option (List ℕ)) (proven : Result Proven ProofFileFault) (blocks : Result (List Block) BadBlock) → ChecksIn NoMemory proven blocks b b
no_place b (Ok proven) (Ok blocks) = unplaced (height_in proven.block.0 blocks) where
  unplaced : (height : Option ℕ) → TellsPlace NoMemory proven height b b
  unplaced (Some height) = refl
  unplaced None = refl
no_place b (Ok proven) (Err bad) = refl
no_place b (Err fault) blocks = refl

-- what holds of any bytes holds of those that stand under a name
under : (o : Option Named) (name : List ℕ) {P : List ℕ → Type 0} → ((bytes : List ℕ) → P bytes) → IfSome o (λ m. IfSome (finite.get m name) P)
under None name h = tt
under (Some m) name {P} h = held (finite.get m name) where
  held : (o : Option (List ℕ)) → IfSome o P
  held None = tt
  held (Some bytes) = h bytes

under_both : (o : Option Named) (one two : List ℕ) {P : List ℕ → List ℕ → Type 0} → ((a b : List ℕ) → P a b)
    → IfSome o (λ m. IfSome (finite.get m one) (λ a. IfSome (finite.get m two) (P a)))
under_both None one two h = tt
under_both (Some m) one two {P} h = held (finite.get m one) (finite.get m two) where
  held : (a b : Option (List ℕ)) → IfSome a (λ x. IfSome b (P x))
  held None b = tt
  held (Some a) None = tt
  held (Some a) (Some b) = h a b

unchecked : (o : Option Named) (file : List ℕ) (chain : Option (List ℕ)) (b : Option (List ℕ)) (witness : Bool)
    → IfSome o (λ m. IfSome (finite.get m file) (λ bytes. ChecksBy NoMemory m (proof_file_of witness bytes) chain b b))
unchecked None file chain b witness = tt
unchecked (Some m) file chain b witness = held (finite.get m file) where
  alone : (chain : Option (List ℕ)) (bytes : List ℕ) → ChecksBy NoMemory m (proof_file_of witness bytes) chain b b
  alone None bytes = no_check b (proof_file_of witness bytes)
  alone (Some name) bytes = under (Some m) name {P = λ c. ChecksIn NoMemory (proof_file_of witness bytes) (blocks_at c) b b} (λ c. no_place b (proof_file_of witness bytes) (blocks_at c))

  held : (o : Option (List ℕ)) → IfSome o (λ bytes. ChecksBy NoMemory m (proof_file_of witness bytes) chain b b)
  held None = tt
  held (Some bytes) = alone chain bytes

untaken : (b : Option (List ℕ)) (bytes : List ℕ) (witness : Bool) (chain : Option (List ℕ)) → TakesAlone NoMemory witness bytes chain b b
untaken b bytes false None = λ txid blocks good made. refl
untaken b bytes false (Some name) = tt
untaken b bytes true chain = tt

-- where no memory is found for the words nothing has changed, and all that is promised of each command holds
pub undone : (c : Command) (moment : ℤ) (nonce : ℕ) (a : Around) → Tells [] a.wires → Tells [] a.tape → a.taped ≡ [] → Does c NoMemory moment nonce a a
undone (Replay follow trace watch session) moment nonce a wires tape log = record {
  replayed = early_replayed_in follow NoMemory _ trace a.files watch a.written a.tape a.taped tt tape log;
  plays = early_plays a.files session NoMemory a.taped tt log;
}
undone (Sync turns workers file watch peers) moment nonce a wires tape log = record {
  kept = early_told a.wires NoMemory (is_some file) false a.files watch peers a.written tt wires;
  tallied = early_tallied NoMemory turns (length peers) a.wires tt wires;
  over = λ ne. absurd (ne refl);
  dialled = new_dialled peers a.wires wires;
  records = refl;
}
undone (Follow turns workers file watch peers) moment nonce a wires tape log = record {
  kept = early_told_on a.wires NoMemory (is_some file) a.files watch peers a.written a.faults tt wires;
  tallied = early_tallied_on NoMemory turns (length peers) a.wires tt wires;
  dialled = new_dialled peers a.wires wires;
  records = refl;
}
undone (Scan file watch) moment nonce a wires tape log = record {
  answers = refl;
  told = under_both a.files watch file (λ w b. no_scan a.written (watch_of w) (blocks_at b));
}
undone (Filter file height) moment nonce a wires tape log = record {
  answers = refl;
  told = under a.files file (λ b. no_filter a.written height (blocks_at b));
}
undone (Address text) moment nonce a wires tape log = refl
undone (Prove file txid) moment nonce a wires tape log = record {
  answers = refl;
  told = under a.files file (λ b. no_proof a.written txid (blocks_at b));
}
undone (Check witness file chain) moment nonce a wires tape log = record {
  answers = refl;
  told = unchecked a.files file chain a.written witness;
  takes = under a.files file {P = λ b. TakesAlone NoMemory witness b chain a.written a.written} (λ b. untaken a.written b witness chain);
}
undone (Serve grow count at_once budget file address) moment nonce a wires tape log = (inl refl, refl)
undone (Make witness seed blocks file) moment nonce a wires tape log = (refl, refl)
undone (Demo seed blocks) moment nonce a wires tape log = refl
