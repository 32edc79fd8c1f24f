-- statement: what is promised of the commands that write a text of a file of blocks, or of an address.
use Rattle.std.specs.Prelude.{◌≡◌, ℕ, nat_lt, Bool, true, false, List, [], ◌∷◌, ◌++◌, length, codes, Option, Some, None, IfSome, Result, Ok, Err}
use Rattle.std.specs.FinMap as finite
use Rattle.hex.specs.Hex.{encode_lower}
use Rattle.cf_bytes.specs.Files.{Named}
use Rattle.cf_bytes.specs.Hash.{shown}
use Rattle.cf_block.specs.declared.tx.Block.{Block}
use Rattle.cf_chain.specs.Filters.{Filtered, filter_at}
use Rattle.cf_walk.specs.declared.cause.BadBlock.{BadBlock}
use Rattle.cf_walk.specs.Files.{blocks_at}
use Rattle.cf_input.specs.Addresses.{IsOtherForm, HasNoForm}
use Rattle.cf_input.specs.WatchFile.{watch_of}
use Rattle.cf_input.specs.declared.watch_file.WatchFileFault.{WatchFileFault}
use Rattle.cf_answers.specs.Writing.{IsOfText, IsWritten, named_line}
use Rattle.cf_answers.specs.declared.status.Status.{Status}
use Rattle.cf_answers.specs.declared.status.Status.TheVariants.{Done, NoMemory, BadFile, FileFault, OutFault, NoHeight, NotAddress}
use Rattle.cf_loading.specs.Scanning.{scan_text}

-- a line each for a block's hash, its filter and its filter header
abbrev pub filter_text : Filtered → List ℕ
filter_text f = named_line (codes "block") (shown f.block) ++ (named_line (codes "filter") (encode_lower f.filter) ++ named_line (codes "header") (shown f.header))

-- a command that was refused: nothing was written
abbrev pub IsUnwritten : Status → Option (List ℕ) → Option (List ℕ) → Type 0
IsUnwritten NoMemory before after = after ≡ before
IsUnwritten FileFault before after = after ≡ before
IsUnwritten (BadFile which place cause) before after = after ≡ before
IsUnwritten status before after = ⊥

-- `scan`, by its files as they are read
abbrev pub Scans : Status → Option (List ℕ) → Option (List ℕ) → Result (List (List ℕ)) WatchFileFault → Result (List Block) BadBlock → Type 0
Scans status before after (Ok scripts) (Ok blocks) = IsWritten status before after (scan_text scripts blocks)
Scans status before after (Ok scripts) (Err bad) = IsUnwritten status before after
Scans status before after (Err fault) blocks = IsUnwritten status before after

-- no such height: the tip is told
abbrev pub TellsTip : Status → Option (List ℕ) → Option (List ℕ) → ℕ → Type 0
TellsTip (NoHeight tip) before after top = (tip ≡ top) × (after ≡ before)
TellsTip status before after top = IsUnwritten status before after

-- the lines of a block that there is
abbrev pub TellsFilter : Status → Option (List ℕ) → Option (List ℕ) → Option Filtered → Type 0
TellsFilter status before after (Some f) = IsWritten status before after (filter_text f)
TellsFilter status before after None = IsUnwritten status before after

-- what `filter` answers of a height in a good file: that it is above the tip, where it is, or the block's lines
abbrev pub TellsHeight : Status → Option (List ℕ) → Option (List ℕ) → List Block → ℕ → Bool → Type 0
TellsHeight status before after blocks height true = TellsTip status before after (length blocks)
TellsHeight status before after blocks height false = TellsFilter status before after (filter_at blocks height)

-- `filter`, by its file as it is read
abbrev pub Filters : Status → Option (List ℕ) → Option (List ℕ) → ℕ → Result (List Block) BadBlock → Type 0
Filters status before after height (Ok blocks) = TellsHeight status before after blocks height (nat_lt (length blocks) height)
Filters status before after height (Err bad) = IsUnwritten status before after

-- the answers to a height, once the file is read
abbrev pub IsOfHeight : Status → Type 0
IsOfHeight (NoHeight tip) = Unit {0}
IsOfHeight status = IsOfText status

-- the answers of `scan`, whether the files tell their bytes or not: nothing is written before the text
abbrev pub IsOfScan : Status → Option (List ℕ) → Option (List ℕ) → Type 0
IsOfScan Done before after = Unit {0}
IsOfScan OutFault before after = Unit {0}
IsOfScan status before after = IsUnwritten status before after

-- the answers of `filter`, whether its file tells its bytes or not: of a height above the tip nothing is written
abbrev pub IsOfFilter : Status → Option (List ℕ) → Option (List ℕ) → Type 0
IsOfFilter (NoHeight tip) before after = after ≡ before
IsOfFilter status before after = IsOfScan status before after

-- all that is promised of `scan` over these files and this sink
pub record IsScanned (status : Status) (files : Option Named) (watch file : List ℕ) (before after : Option (List ℕ)) : Type 0 where
  pub answers : IsOfScan status before after
  pub told : IfSome files (λ m. IfSome (finite.get m watch) (λ w. IfSome (finite.get m file) (λ b. Scans status before after (watch_of w) (blocks_at b))))

-- all that is promised of `filter`
pub record IsFiltered (status : Status) (files : Option Named) (file : List ℕ) (height : ℕ) (before after : Option (List ℕ)) : Type 0 where
  pub answers : IsOfFilter status before after
  pub told : IfSome files (λ m. IfSome (finite.get m file) (λ b. Filters status before after height (blocks_at b)))

-- the line with the other form of a text was written, or a beginning of it
abbrev pub WritesForm : Status → List ℕ → Option (List ℕ) → Option (List ℕ) → Type 0
WritesForm status text before after = (line : List ℕ) × IsOtherForm text line × IsWritten status before after (line ++ 10 ∷ [])

-- all that is promised of `address`: the other form of the text is written, or it has none, for this cause
abbrev pub IsAddressed : Status → List ℕ → Option (List ℕ) → Option (List ℕ) → Type 0
IsAddressed Done text before after = WritesForm Done text before after
IsAddressed OutFault text before after = WritesForm OutFault text before after
IsAddressed NoMemory text before after = after ≡ before
IsAddressed (NotAddress cause) text before after = HasNoForm cause text × (after ≡ before)
IsAddressed status text before after = ⊥
