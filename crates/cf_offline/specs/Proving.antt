-- statement: what is promised of the commands over proofs of transactions.
use Rattle.std.specs.Prelude.{◌≡◌, ◌+◌, ℕ, Bool, false, List, [], ◌∷◌, ◌++◌, get_or, bytes_eq, if◌then◌else◌, codes, decimal, option_map, Option, Some, None, IfSome, Result, Ok, Err}
use Rattle.std.specs.FinMap as finite
use Rattle.std.specs.List.{position}
use Rattle.hex.specs.Hex.{encode_lower, IsBytes}
use Rattle.cf_bytes.specs.Files.{Named}
use Rattle.cf_bytes.specs.Hash.{shown}
use Rattle.cf_bytes.specs.declared.hash.Hash32.{Hash32}
use Rattle.cf_block.specs.declared.tx.Tx.{Tx}
use Rattle.cf_block.specs.declared.tx.Block.{Block}
use Rattle.cf_block.specs.Header.{block_hash_of, genesis_header}
use Rattle.cf_block.specs.Tx.{tx_spelling}
use Rattle.cf_chain.specs.Good.{IsGoodChain}
use Rattle.cf_proof.specs.Made.{IsProofOf}
use Rattle.cf_walk.specs.declared.cause.BadBlock.{BadBlock}
use Rattle.cf_walk.specs.Files.{blocks_at}
use Rattle.cf_index.specs.Finding.{first_place, StandsAt}
use Rattle.cf_input.specs.ProofFile.{proof_file_of}
use Rattle.cf_input.specs.declared.proof_file.ProofFileFault.{ProofFileFault}
use Rattle.cf_input.specs.declared.proof_file.Proven.{Proven}
use Rattle.cf_answers.specs.declared.status.Status.{Status}
use Rattle.cf_answers.specs.declared.status.Status.TheVariants.{Done, BadFile, OutFault, NotThere, NotInChain}
use Rattle.cf_answers.specs.Writing.{named_line, IsWritten, IsOfText}
use Rattle.cf_loading.specs.Asking.{FileRead, Whole, ByParts}
use Rattle.cf_loading.specs.Verdicts.{FileVerdict, and_then, blocks_verdict, proof_verdict}
use Rattle.cf_offline.specs.Reading.{IsUnwritten, IsOfScan}

-- ---- prove

-- the lines `tx HEX` and `proof HEX`
abbrev pub proof_text : List ℕ → List ℕ → List ℕ
proof_text tx proof = named_line (codes "tx") (encode_lower tx) ++ named_line (codes "proof") (encode_lower proof)

-- these lines for the transaction at a place of a block
pub record IsTextAt (b : Block) (place : ℕ) (text : List ℕ) : Type 0 where
  pub tx : Tx
  pub proof : List ℕ
  pub tx_is : tx ≡ get_or b.txs place tx
  pub made : IsProofOf b place proof
  pub spelled : text ≡ proof_text (tx_spelling tx) proof
  pub tx_bytes : IsBytes (tx_spelling tx)
  pub proof_bytes : IsBytes proof

-- these lines for the first transaction above genesis with this hash
pub record IsProofText (txid : List ℕ) (blocks : List Block) (text : List ℕ) : Type 0 where
  pub height : ℕ
  pub place : ℕ
  pub first : first_place txid blocks ≡ Some (height, place)
  pub stands : StandsAt txid blocks height place
  pub lines : IsTextAt stands.block place text

-- the lines, or that no block has the transaction
abbrev pub GivesProofText : List ℕ → List Block → Option (List ℕ) → Type 0
GivesProofText txid blocks (Some text) = IsProofText txid blocks text
GivesProofText txid blocks None = first_place txid blocks ≡ None

-- the lines were written, or a beginning of them
abbrev pub WritesProof : Status → List ℕ → List Block → Option (List ℕ) → Option (List ℕ) → Type 0
WritesProof status txid blocks before after = (text : List ℕ) × IsProofText txid blocks text × IsWritten status before after text

-- the answer over a chain
abbrev pub TellsProof : Status → Hash32 → List Block → Option (List ℕ) → Option (List ℕ) → Type 0
TellsProof Done txid blocks before after = WritesProof Done txid.0 blocks before after
TellsProof OutFault txid blocks before after = WritesProof OutFault txid.0 blocks before after
TellsProof (NotThere told) txid blocks before after = (told ≡ txid) × (first_place txid.0 blocks ≡ None) × (after ≡ before)
TellsProof status txid blocks before after = IsUnwritten status before after

-- and by the file as it is read
abbrev pub Proves : Status → Hash32 → Result (List Block) BadBlock → Option (List ℕ) → Option (List ℕ) → Type 0
Proves status txid (Ok blocks) before after = TellsProof status txid blocks before after
Proves status txid (Err bad) before after = IsUnwritten status before after

-- the answers once the file is read
abbrev pub IsOfFind : Status → Type 0
IsOfFind (NotThere txid) = Unit {0}
IsOfFind status = IsOfText status

-- the answers of `prove`, whether the files tell their bytes or not: nothing is written before the text
abbrev pub IsOfProve : Status → Option (List ℕ) → Option (List ℕ) → Type 0
IsOfProve (NotThere txid) before after = after ≡ before
IsOfProve status before after = IsOfScan status before after

-- all that is promised of `prove`
pub record IsProved (status : Status) (files : Option Named) (file : List ℕ) (txid : Hash32) (before after : Option (List ℕ)) : Type 0 where
  pub answers : IsOfProve status before after
  pub told : IfSome files (λ m. IfSome (finite.get m file) (λ b. Proves status txid (blocks_at b) before after))

-- ---- check

-- the line `in BLOCKHASH TXID`
abbrev pub in_text : Proven → List ℕ
in_text p = codes "in " ++ (shown p.block.0 ++ (32 ∷ (shown p.txid.0 ++ 10 ∷ [])))

-- the line `in BLOCKHASH TXID at HEIGHT`
abbrev pub in_text_at : Proven → ℕ → List ℕ
in_text_at p height = codes "in " ++ (shown p.block.0 ++ (32 ∷ (shown p.txid.0 ++ (codes " at " ++ (decimal height ++ 10 ∷ [])))))

-- the height of the block with this hash in a chain: genesis is at 0, and of the others the lowest counts; none where the chain hasn't got it
abbrev pub height_in : List ℕ → List Block → Option ℕ
height_in hash blocks =
    if bytes_eq (block_hash_of genesis_header) hash then Some 0 else option_map (λ n. n + 1) (position (λ b. bytes_eq (block_hash_of b.header) hash) blocks)

-- the line with the height was written, or a beginning of it; or the chain hasn't got the block
abbrev pub TellsPlace : Status → Proven → Option ℕ → Option (List ℕ) → Option (List ℕ) → Type 0
TellsPlace status p (Some height) before after = IsWritten status before after (in_text_at p height)
TellsPlace (NotInChain block) p None before after = (block ≡ p.block) × (after ≡ before)
TellsPlace status p None before after = IsUnwritten status before after

-- by the file of blocks as it is read
abbrev pub Places : Status → Proven → Result (List Block) BadBlock → Option (List ℕ) → Option (List ℕ) → Type 0
Places status p (Ok blocks) before after = TellsPlace status p (height_in p.block.0 blocks) before after
Places status p (Err bad) before after = IsUnwritten status before after

-- by both files as they are read
abbrev pub ChecksIn : Status → Result Proven ProofFileFault → Result (List Block) BadBlock → Option (List ℕ) → Option (List ℕ) → Type 0
ChecksIn status (Ok p) blocks before after = Places status p blocks before after
ChecksIn status (Err fault) blocks before after = IsUnwritten status before after

-- by the file as it is read
abbrev pub Checks : Status → Result Proven ProofFileFault → Option (List ℕ) → Option (List ℕ) → Type 0
Checks status (Ok p) before after = IsWritten status before after (in_text p)
Checks status (Err fault) before after = IsUnwritten status before after

-- a file that isn't refused: this line was written, or a beginning of it, or nothing
abbrev pub Takes : Status → Option (List ℕ) → Option (List ℕ) → List ℕ → Type 0
Takes (BadFile which place cause) before after line = ⊥
Takes status before after line = IsWritten status before after line

-- a file of what `prove` writes of a good chain isn't refused: the line tells the hash of the block that has the transaction
abbrev pub TakesWhatIsProved : Status → List ℕ → Option (List ℕ) → Option (List ℕ) → Type 0
TakesWhatIsProved status bytes before after = (txid : List ℕ) (blocks : List Block) → IsGoodChain blocks → (made : IsProofText txid blocks bytes)
    → Takes status before after (in_text (record { block = record { 0 = block_hash_of made.stands.block.header }; txid = record { 0 = txid } }))

-- the answers of `check` once its files are read
abbrev pub IsOfPlace : Status → Type 0
IsOfPlace (NotInChain block) = Unit {0}
IsOfPlace status = IsOfText status

-- the answers of `check`, whether the files tell their bytes or not: nothing is written before the text
abbrev pub IsOfCheck : Status → Option (List ℕ) → Option (List ℕ) → Type 0
IsOfCheck (NotInChain block) before after = after ≡ before
IsOfCheck status before after = IsOfScan status before after

-- the files that `check` reads: the file of the proof, and then the file of blocks, where one is named
abbrev pub files_checked : List ℕ → Option (List ℕ) → List FileRead
files_checked file None = Whole file ∷ []
files_checked file (Some chain) = Whole file ∷ ByParts chain ∷ []

-- what they are judged as: the file of the proof first
abbrev pub check_verdict : Named → Bool → List ℕ → Option (List ℕ) → FileVerdict
check_verdict files witness file None = proof_verdict witness (finite.get files file)
check_verdict files witness file (Some chain) = and_then (proof_verdict witness (finite.get files file)) (blocks_verdict (finite.get files chain))

-- what `check` writes by the files as they are read
abbrev pub ChecksBy : Status → Named → Result Proven ProofFileFault → Option (List ℕ) → Option (List ℕ) → Option (List ℕ) → Type 0
ChecksBy status files proven None before after = Checks status proven before after
ChecksBy status files proven (Some chain) before after = IfSome (finite.get files chain) (λ b. ChecksIn status proven (blocks_at b) before after)

-- a file of what `prove` writes is taken, where no chain is named and no witnesses are expected
abbrev pub TakesAlone : Status → Bool → List ℕ → Option (List ℕ) → Option (List ℕ) → Option (List ℕ) → Type 0
TakesAlone status false bytes None before after = TakesWhatIsProved status bytes before after
TakesAlone status witness bytes chain before after = Unit {0}

-- all that is promised of `check`
pub record IsChecked (status : Status) (witness : Bool) (files : Option Named) (file : List ℕ) (chain before after : Option (List ℕ)) : Type 0 where
  pub answers : IsOfCheck status before after
  pub told : IfSome files (λ m. IfSome (finite.get m file) (λ b. ChecksBy status m (proof_file_of witness b) chain before after))
  pub takes : IfSome files (λ m. IfSome (finite.get m file) (λ b. TakesAlone status witness b chain before after))
