-- statement: which files a command asks for.
use Rattle.std.specs.Prelude.{◌≡◌, ℕ, List, [], ◌∷◌, Option, Some, None}
use Rattle.cf_bytes.specs.Files.{ReadsFile, Opens, Parts, WritesFile, IsAtMostWritten}
use Rattle.cf_input.specs.declared.words.Command.{Command}
use Rattle.cf_input.specs.declared.words.Command.TheVariants.{Replay, Sync, Follow, Scan, Filter, Address, Prove, Check, Serve, Make, Demo}
use Rattle.cf_loading.specs.Asking.{FileRead, Whole, ByParts, AreRead}
use Rattle.cf_offline.specs.Proving.{files_checked}

-- the files that a command reads, in this order: those of blocks by parts
abbrev pub files_read : Command → List FileRead
files_read (Replay follow trace watch session) = Whole watch ∷ Whole session ∷ []
files_read (Sync turns workers file watch peers) = Whole watch ∷ []
files_read (Follow turns workers file watch peers) = Whole watch ∷ []
files_read (Scan file watch) = Whole watch ∷ ByParts file ∷ []
files_read (Filter file height) = ByParts file ∷ []
files_read (Address text) = []
files_read (Prove file txid) = ByParts file ∷ []
files_read (Check witness file chain) = files_checked file chain
files_read (Serve grow count at_once budget file address) = ByParts file ∷ []
files_read (Make witness seed blocks file) = []
files_read (Demo seed blocks) = []

-- the file that a command writes: `make` its chain, and `sync` and `follow` the record that is asked for
abbrev pub name_written : Command → Option (List ℕ)
name_written (Make witness seed blocks file) = Some file
name_written (Sync turns workers file watch peers) = file
name_written (Follow turns workers file watch peers) = file
name_written command = None

-- of these files the first ones were read, each once and in this order, and then at most this one was written, once;
-- nothing else was asked
abbrev pub AsksFor : {F : Type 0} → ReadsFile F → Opens F → Parts F → WritesFile F → List FileRead → Option (List ℕ) → F → F → Type 0
AsksFor {F} reads opens parts writes files written before after =
    (between : F) × AreRead reads opens parts files before between × IsAtMostWritten writes written between after

-- what a command asks of the files; where the words ask for nothing, nothing is asked of them
abbrev pub AreAsked : {F : Type 0} → ReadsFile F → Opens F → Parts F → WritesFile F → Option Command → F → F → Type 0
AreAsked reads opens parts writes None before after = after ≡ before
AreAsked reads opens parts writes (Some command) before after =
    AsksFor reads opens parts writes (files_read command) (name_written command) before after
