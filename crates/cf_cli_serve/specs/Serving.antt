-- statement: what is promised of `serve`.
use Rattle.std.specs.Prelude.{◌≡◌, ℕ, ℤ, ◌+◌, ◌≤◌, ◌⊎◌, Bool, true, false, not, List, [], ◌∷◌, Option, Some, IfSome, Result, Ok, Err}
use Rattle.std.specs.FinMap as finite
use Rattle.cf_bytes.specs.Files.{Named}
use Rattle.cf_conn.specs.Told.{ConnTold}
use Rattle.cf_block.specs.declared.tx.Block.{Block}
use Rattle.cf_chain.specs.Good.{IsGoodChain}
use Rattle.cf_walk.specs.Files.{blocks_at}
use Rattle.cf_input.specs.declared.words.Command.{Command}
use Rattle.cf_input.specs.declared.words.Command.TheVariants.{Serve}
use Rattle.cf_link.specs.Links.{LinkTold, longer_by}
use Rattle.cf_link.specs.Serving.{Serves}
use Rattle.cf_bytes.specs.declared.memory.Refused.{Refused}
use Rattle.cf_bytes.specs.declared.memory.Refused.TheVariants.{No, NoMemory as OutOfMemory}
use Rattle.cf_bytes.specs.declared.outside.Failed.{Failed}
use Rattle.cf_grow.specs.Service.{IsServedBy}
use Rattle.cf_grow.specs.GrowingService.{IsServedWhileGrowing}
use Rattle.cf_grow.specs.Standing.{tip_of}
use Rattle.cf_answers.specs.declared.status.Status.{Status}
use Rattle.cf_answers.specs.declared.status.Status.TheVariants.{Done, NoMemory, BadFile, FileFault, LinkFault}
use Rattle.cf_answers.specs.Statuses.{was_refused}

-- it listens at one more address
abbrev pub listening : LinkTold → List ℕ → LinkTold
listening was address = record was { addresses = longer_by was.addresses (address ∷ []) }

-- how a server serves each connection: by the chain that was loaded, or each message by a good chain that has the tip of these blocks at its height, and on
-- which stands what was told last
abbrev pub served_by : Bool → List Block → ℤ → ℕ → ConnTold → ℕ → ConnTold → Type 0
served_by false blocks moment nonce = IsServedBy (record { blocks = blocks; moment = moment; nonce = nonce })
served_by true blocks moment nonce = IsServedWhileGrowing (record { moment = moment; nonce = nonce; tip = tip_of blocks })

-- It listened at the address. Then connections were accepted, at most so many, and each was given back, in the order of accepting, served so.
abbrev pub ServesAt : (ConnTold → ℕ → ConnTold → Type 0) → List ℕ → ℕ → LinkTold → LinkTold → Type 0
ServesAt served address most was now = Serves served (listening was address) now × (now.accepted ≤ was.accepted + most)

-- the same, or nothing was done with the link
abbrev pub MayServe : (ConnTold → ℕ → ConnTold → Type 0) → List ℕ → ℕ → LinkTold → LinkTold → Type 0
MayServe served address most was now = (now ≡ was) ⊎ ServesAt served address most was now

-- what is done to the link once the chain is loaded; Done comes once as many connections were served as were asked for
abbrev pub ServesChain : Status → (ConnTold → ℕ → ConnTold → Type 0) → List ℕ → ℕ → LinkTold → LinkTold → Type 0
ServesChain Done served address count was now = ServesAt served address count was now × (now.accepted ≡ was.accepted + count)
ServesChain LinkFault served address count was now = MayServe served address count was now
ServesChain NoMemory served address count was now = MayServe served address count was now
ServesChain status served address count was now = ⊥

-- the same over a good chain, which is the file's where the files tell it
abbrev pub ServesFile : Bool → Status → ℤ → ℕ → Option Named → List ℕ → List ℕ → ℕ → LinkTold → LinkTold → Type 0
ServesFile grow status moment nonce files file address count was now =
    (blocks : List Block) × IsGoodChain blocks × IfSome files (λ m. IfSome (finite.get m file) (λ bytes. blocks_at bytes ≡ Ok blocks))
    × ServesChain status (served_by grow blocks moment nonce) address count was now

-- all that is promised of `serve`: by its answer, what was done to the link
abbrev pub IsServing : Bool → Status → ℤ → ℕ → Option Named → List ℕ → List ℕ → ℕ → LinkTold → LinkTold → Type 0
IsServing grow Done moment nonce files file address count was now = ServesFile grow Done moment nonce files file address count was now
IsServing grow LinkFault moment nonce files file address count was now = ServesFile grow LinkFault moment nonce files file address count was now
IsServing grow NoMemory moment nonce files file address count was now = (now ≡ was) ⊎ ServesFile grow NoMemory moment nonce files file address count was now
IsServing grow (BadFile which place cause) moment nonce files file address count was now = now ≡ was
IsServing grow FileFault moment nonce files file address count was now = now ≡ was
IsServing grow status moment nonce files file address count was now = ⊥

-- the answer where serving ended so
abbrev pub answer_of : Result (Unit {0}) (Refused Failed) → Status
answer_of (Ok done) = Done
answer_of (Err (No failed)) = LinkFault
answer_of (Err OutOfMemory) = NoMemory

-- whether a command that was answered so may have used the link that was handed in: `serve` alone does
abbrev pub may_serve : Option Command → Status → Bool
may_serve (Some (Serve grow count at_once budget file address)) status = not (was_refused status)
may_serve command status = false
