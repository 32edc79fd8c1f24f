-- statement: what a log says of blocks: which were fetched, what is claimed of them, which filters were given and tested, which chain is
-- the best, and the history over its fetched blocks.
use Rattle.std.specs.Prelude.{◌≡◌, ◌≢◌, ◌⊎◌, ℕ, ◌≤◌, ◌<◌, ◌==◌, Bool, true, false, List, [], ◌∷◌, ◌++◌, map, length, reverse, Option, Some, None}
use Rattle.cf_bytes.specs.declared.hash.Hash32.{Hash32}
use Rattle.cf_block.specs.declared.header.Header.{Header}
use Rattle.cf_block.specs.declared.tx.Block.{Block}
use Rattle.cf_block.specs.Header.{block_hash_of}
use Rattle.cf_bytes.specs.Cut.{IsBytes}
use Rattle.cf_filter.specs.Filter.{filter_hash_of}
use Rattle.cf_headers.specs.Chain.{Hash, Chain, back_to, IsIn, IsAbove}
use Rattle.cf_headers.specs.Heights.{hash_at, common_of}
use Rattle.cf_match.specs.declared.job.Job.{Job}
use Rattle.cf_match.specs.Verdicts.{misses}
use Rattle.cf_msg.specs.declared.msg.Inventory.{Inventory as Wanted}
use Rattle.cf_msg.specs.declared.msg.Msg.{Msg}
use Rattle.cf_msg.specs.declared.msg.Msg.TheVariants.{GetData, GetCfilters, Ping}
use Rattle.cf_wires.specs.declared.event.Delivery.TheVariants.{Got, Gone, Tick, Ended}
use Rattle.cf_wires.specs.declared.event.Event.{Event}
use Rattle.cf_wires.specs.declared.event.Event.TheVariants.{Sent, Closed, Took}
use Rattle.cf_peer.specs.declared.mode.Mode.{Mode}
use Rattle.cf_peer.specs.declared.mode.Mode.TheVariants.{Once, Following}
use Rattle.cf_peer.specs.declared.peer.Cause.{Cause}
use Rattle.cf_peer.specs.declared.peer.Cause.TheVariants.{Omits}
use Rattle.cf_wires.specs.Log.{Log}
use Rattle.cf_peer.specs.Trail.{Trail, trail, spelled, is_connected, own, is_heard_out_in}
use Rattle.cf_scan.specs.declared.history.Entry.{Entry}
use Rattle.cf_scan.specs.Scan.{scan_of}
use Rattle.cf_filter.specs.Lacking.{output_items_of, lacks}
use Rattle.cf_peer.specs.Asking.{OpenRequest, NothingOpen, HeadersOpen, ClaimsOpen, FiltersOpen, BlockOpen, PingOpen, request, is_open, counted, claims, hash_claimed, HasHeader, fetched_blocks, given_filters, blocks_from, Deserves, MayAskIn}

-- ---- peers

-- what counts of a peer's trail: all but refused frames, and the messages that it said while it wasn't connected or from the first
-- frame on for which it deserves to be closed (`counts`, cf_peer, `specs/Asking.antt`)
abbrev pub counted_part : Log → ℕ → Trail
counted_part log p = counted (trail log p)

-- the peer with this number is connected
abbrev pub IsConnected : Log → ℕ → Type 0
IsConnected log p = is_connected (trail log p) ≡ true

-- no request is open to anybody
abbrev pub IsQuiet : Log → Type 0
IsQuiet log = (p : ℕ) → is_open (trail log p) ≡ false

-- something is open to somebody
abbrev pub IsBusy : Log → Type 0
IsBusy log = (p : ℕ) × (is_open (trail log p) ≡ true)

-- what came were bytes
abbrev pub AreBytes : Log → Type 0
AreBytes [] = Unit {0}
AreBytes (Took (Got p piece) ∷ log) = IsBytes piece × AreBytes log
AreBytes (_ ∷ log) = AreBytes log

-- ---- blocks

-- this block, which is committed, ended an open `getdata` of some peer, before the first frame by which that peer deserved a cause
abbrev pub IsFetched : Log → Block → Type 0
IsFetched log block = (p : ℕ) × IsIn block (fetched_blocks (counted_part log p))

-- a block with this hash was fetched
abbrev pub IsFetchedHash : Log → Hash → Type 0
IsFetchedHash log hash = (block : Block) × IsFetched log block × (block_hash_of block.header ≡ hash)

-- ---- claims and filters

-- p claims this filter hash of a block
abbrev pub HasClaimed : Log → ℕ → Hash → Hash32 → Type 0
HasClaimed log p block hash = hash_claimed (claims (counted_part log p)) block ≡ Some hash

-- a connected peer claims this of a block, and none claims another thing
pub record IsAgreed (log : Log) (block : Hash) (hash : Hash32) : Type 0 where
  pub who : ℕ
  pub there : IsConnected log who
  pub claims : HasClaimed log who block hash
  pub alone : (p : ℕ) → (other : Hash32) → IsConnected log p → HasClaimed log p block other → other ≡ hash

-- two connected peers claim different things of it
pub record IsDisputed (log : Log) (block : Hash) : Type 0 where
  pub one : ℕ
  pub other : ℕ
  pub there : IsConnected log one × IsConnected log other
  pub mine : Hash32
  pub yours : Hash32
  pub claims : HasClaimed log one block mine × HasClaimed log other block yours
  pub apart : mine ≢ yours

-- whether a block's filter is to be tested after a send: a question for filters that p was sent makes it so where the block was
-- fetched before, and not so where it wasn't; any other send leaves that as it was
abbrev pub test_after : Bool → Option Msg → Log → Hash → Type 0 → Type 0
test_after false m log block before = before
test_after true None log block before = before
test_after true (Some (GetCfilters filter start stop)) log block before = IsFetchedHash log block
test_after true (Some m) log block before = before

-- the filters that the peer was asked for last were asked for after this block was fetched: so that of the block is to be tested
abbrev pub IsTest : Log → ℕ → Hash → Type 0
IsTest [] p block = ⊥
IsTest (Sent q bytes ∷ log) p block = test_after (q.0 == p) (spelled bytes) log block (IsTest log p block)
IsTest (_ ∷ log) p block = IsTest log p block

-- they weren't: the filter of the block is to be judged
abbrev pub IsNoTest : Log → ℕ → Hash → Type 0
IsNoTest log p block = IsTest log p block → ⊥

-- by the newest entry an answer of p about filters became whole, and this filter is one of those that it brought
pub record IsNew (e : Event) (log : Log) (p : ℕ) (job : Job) : Type 0 where
  pub news : List Job
  pub joined : given_filters (counted_part (e ∷ log) p) ≡ news ++ given_filters (counted_part log p)
  pub among : IsIn job news

-- a filter came in a whole answer, by what counts, and way was true of that peer and that block right before the last piece of it:
-- `IsTest` where the filter was asked for to be tested, `IsNoTest` where it was to be judged
abbrev pub IsAnswered : (Log → ℕ → Hash → Type 0) → Log → Job → Type 0
IsAnswered way [] job = ⊥
IsAnswered way (Took (Got q piece) ∷ log) job =
    (way log q.0 job.block.0 × IsNew (Took (Got q piece)) log q.0 job) ⊎ IsAnswered way log job
IsAnswered way (_ ∷ log) job = IsAnswered way log job

-- a filter was given: it came in a whole answer to a question that was put while its block wasn't fetched
abbrev pub IsGiven : Log → Job → Type 0
IsGiven log job = IsAnswered IsNoTest log job

-- a filter was tested: it came in a whole answer to a question that was put once its block was fetched
abbrev pub IsTested : Log → Job → Type 0
IsTested log job = IsAnswered IsTest log job

-- one of this block, with this hash
abbrev pub IsGivenWith : Log → Hash → Hash32 → Type 0
IsGivenWith log block hash = (job : Job) × IsGiven log job × (job.block.0 ≡ block) × (filter_hash_of job.filter ≡ hash.0)

-- the connected peers agree on a filter that was given, and it has no watched script's value; or it has one, or is no filter
pub record IsJudged (watch : List (List ℕ)) (log : Log) (block : Hash) (miss : Bool) : Type 0 where
  pub hash : Hash32
  pub agreed : IsAgreed log block hash
  pub filter : Job
  pub given : IsGiven log filter
  pub of_block : filter.block.0 ≡ block
  pub this : filter_hash_of filter.filter ≡ hash.0
  pub verdict : misses watch filter ≡ miss

-- the connected peers agree on a filter of this block that was given, and it misses the watched scripts
abbrev pub IsCleared : List (List ℕ) → Log → Hash → Type 0
IsCleared watch log block = IsJudged watch log block true

-- the block is among what the peer had brought that said this piece
abbrev pub IsBroughtBy : Event → Log → Block → Type 0
IsBroughtBy (Took (Got q piece)) log b = IsIn b (fetched_blocks (counted_part (Took (Got q piece) ∷ log) q.0))
IsBroughtBy _ log b = ⊥

-- of each peer the same blocks were fetched
abbrev pub IsSameFetched : Log → Log → Type 0
IsSameFetched a b = (p : ℕ) → fetched_blocks (counted_part a p) ≡ fetched_blocks (counted_part b p)

-- an entry that brings no bytes of a peer
abbrev pub IsNoPiece : Event → Type 0
IsNoPiece (Took (Got q piece)) = ⊥
IsNoPiece _ = Unit {0}

-- a block is settled where it was fetched, or cleared
abbrev pub IsSettled : List (List ℕ) → Log → Hash → Type 0
IsSettled watch log hash = IsFetchedHash log hash ⊎ IsCleared watch log hash

-- the connected peers, p among them, agree on a filter of a block that wasn't fetched, and that filter hasn't come
abbrev pub IsFilterWanted : Log → ℕ → Hash → Type 0
IsFilterWanted log p block =
    (IsFetchedHash log block → ⊥) × ((hash : Hash32) × (IsAgreed log block hash × HasClaimed log p block hash × (IsGivenWith log block hash → ⊥)))

-- a block that wasn't fetched: they differ on its filter, or agree on one that has come and isn't a miss
abbrev pub IsBlockWanted : List (List ℕ) → Log → Hash → Type 0
IsBlockWanted watch log block = (IsFetchedHash log block → ⊥) × (IsDisputed log block ⊎ IsJudged watch log block false)

-- ---- filters that were tested

-- one of this block, with this hash
pub record IsTestedWith (log : Log) (block : Hash) (hash : Hash32) : Type 0 where
  pub filter : Job
  pub tested : IsTested log filter
  pub of_block : filter.block.0 ≡ block
  pub this : filter_hash_of filter.filter ≡ hash.0

-- ---- what a peer is blamed for

-- the block was fetched, and the filter is none or lacks an output's item
pub record IsOmission (log : Log) (block : Hash) (filter : List ℕ) : Type 0 where
  pub body : Block
  pub fetched : IsFetched log body
  pub of_block : block_hash_of body.header ≡ block
  pub lacking : lacks block (output_items_of body) filter ≡ true

-- a connected peer claims a filter that was tested and omits an output's script
pub record IsOmitting (log : Log) (p : ℕ) : Type 0 where
  pub there : IsConnected log p
  pub block : Hash
  pub hash : Hash32
  pub claimed : HasClaimed log p block hash
  pub tested : IsTestedWith log block hash
  pub omits : IsOmission log block tested.filter.filter

-- a peer deserves to be closed for a cause: one that its own part gives, or an omission
abbrev pub DeservesIn : Log → ℕ → Cause → Type 0
DeservesIn log p cause = Deserves (trail log p) cause ⊎ ((cause ≡ Omits) × IsOmitting log p)

-- ---- what is asked

-- the blocks of a range of a chain, the lowest first
abbrev pub blocks_in : ℕ → Option Chain → List Hash
blocks_in start None = []
blocks_in start (Some part) = blocks_from start part

-- what depends on all peers: a block that was fetched is asked of nobody
abbrev pub IsWanted : Log → Msg → Type 0
IsWanted log (GetData entries) = (entry : Wanted) → IsIn entry entries → IsFetchedHash log entry.hash.0 → ⊥
IsWanted log m = Unit {0}

-- the blocks of an open request for filters: those whose filter has come, and then those whose filter is to come
abbrev pub filters_open : OpenRequest → List Hash
filters_open NothingOpen = []
filters_open HeadersOpen = []
filters_open (ClaimsOpen stop parent blocks) = []
filters_open (FiltersOpen left came) = map (λ (j : Job). j.block.0) came ++ left
filters_open (BlockOpen block) = []
filters_open (PingOpen number) = []

-- the block of an open request for a block
abbrev pub blocks_open : OpenRequest → List Hash
blocks_open NothingOpen = []
blocks_open HeadersOpen = []
blocks_open (ClaimsOpen stop parent blocks) = []
blocks_open (FiltersOpen left came) = []
blocks_open (BlockOpen block) = block ∷ []
blocks_open (PingOpen number) = []

-- a block stands in a request for filters that is open to a connected peer
abbrev pub IsFilterOpen : Log → Hash → Type 0
IsFilterOpen log block = (q : ℕ) × (IsConnected log q × IsIn block (filters_open (request (trail log q))))

-- a block stands in a request for a block that is open to a connected peer
abbrev pub IsBlockOpen : Log → Hash → Type 0
IsBlockOpen log block = (q : ℕ) × (IsConnected log q × IsIn block (blocks_open (request (trail log q))))

-- the last delivery is a tick
abbrev pub is_after_tick : Log → Bool
is_after_tick [] = false
is_after_tick (Took (Got p piece) ∷ log) = false
is_after_tick (Took (Gone p) ∷ log) = false
is_after_tick (Took (Tick s) ∷ log) = true
is_after_tick (Took Ended ∷ log) = false
is_after_tick (_ ∷ log) = is_after_tick log

-- What is asked of p is open to nobody: no filter that it is asked for and whose block wasn't fetched, and no block. (The filter of a
-- fetched block is asked of each peer by itself, so that it is tested.) Of a ping another thing is said: that the last delivery is a tick.
abbrev pub IsAlone : Log → ℕ → Msg → Type 0
IsAlone log p (GetCfilters filter start stop) =
    (block : Hash) → IsIn block (blocks_in start (back_to stop.0 (own (trail log p)))) → (IsFetchedHash log block → ⊥) → IsFilterOpen log block → ⊥
IsAlone log p (GetData entries) = (entry : Wanted) → IsIn entry entries → IsBlockOpen log entry.hash.0 → ⊥
IsAlone log p (Ping number) = is_after_tick log ≡ true
IsAlone log p m = Unit {0}

-- a message may be sent to p, by all that the log holds
pub record MaySendIn (mode : Mode) (log : Log) (p : ℕ) (m : Msg) : Type 0 where
  pub of_its_part : MayAskIn mode (trail log p) m
  pub wanted : IsWanted log m
  pub alone : IsAlone log p m

-- the filters of all blocks of a range are wanted of p
abbrev pub AreFiltersWanted : Log → ℕ → ℕ → Hash → Type 0
AreFiltersWanted log p start stop = (block : Hash) → IsIn block (blocks_in start (back_to stop (own (trail log p)))) → IsFilterWanted log p block

-- a fetched block on whose filter the connected peers differ, where what p claims of it wasn't tested
pub record IsTestWanted (log : Log) (p : ℕ) (block : Hash) : Type 0 where
  pub fetched : IsFetchedHash log block
  pub disputed : IsDisputed log block
  pub hash : Hash32
  pub claimed : HasClaimed log p block hash
  pub untested : IsTestedWith log block hash → ⊥

-- the filter of one block is asked for, of the one at the stop
pub record IsTestOf (log : Log) (p start : ℕ) (stop : Hash) : Type 0 where
  pub part : Chain
  pub tip : back_to stop (own (trail log p)) ≡ Some part
  pub one : start ≡ length part
  pub wanted : IsTestWanted log p stop

-- What a client is to ask for that stands for this log: filters that are wanted of p, or one that is to be tested; and blocks that are wanted. It
-- depends on who is connected, so that of a log with a failed send that the client isn't told of yet it need not hold.
abbrev pub IsNeeded : List (List ℕ) → Log → ℕ → Msg → Type 0
IsNeeded watch log p (GetCfilters filter start stop) = AreFiltersWanted log p start stop.0 ⊎ IsTestOf log p start stop.0
IsNeeded watch log p (GetData entries) = (entry : Wanted) → IsIn entry entries → IsBlockWanted watch log entry.hash.0
IsNeeded watch log p m = Unit {0}

-- by a client that ends once nothing is open
abbrev pub MaySend : Log → ℕ → Msg → Type 0
MaySend log p m = MaySendIn Once log p m

-- what a client goes by: the scripts that it watches, and how long it goes on
pub record Rule : Type 0 where
  pub watch : List (List ℕ)
  pub mode : Mode

-- that of one which ends once nothing is open
abbrev pub once : List (List ℕ) → Rule
once watch = record { watch = watch; mode = Once }

-- that of one which follows
abbrev pub following : List (List ℕ) → Rule
following watch = record { watch = watch; mode = Following }

-- a client that ends once nothing is open takes a delivery only while something is; one that follows, only while a peer is connected
abbrev pub MayTake : Mode → Log → Type 0
MayTake Once log = IsBusy log
MayTake Following log = (p : ℕ) × IsConnected log p

-- At each moment what was sent might be sent to that peer, what was closed deserved it, and a delivery was taken only while something
-- was open, or by one that follows while a peer was connected.
abbrev pub RightlyIn : Mode → Log → Type 0
RightlyIn mode [] = Unit {0}
RightlyIn mode (Sent p bytes ∷ log) = ((m : Msg) × (spelled bytes ≡ Some m) × MaySendIn mode log p.0 m) × RightlyIn mode log
RightlyIn mode (Closed p ∷ log) = ((cause : Cause) × DeservesIn log p.0 cause) × RightlyIn mode log
RightlyIn mode (Took d ∷ log) = MayTake mode log × RightlyIn mode log
RightlyIn mode (_ ∷ log) = RightlyIn mode log

-- the same of a client that ends once nothing is open
abbrev pub Rightly : Log → Type 0
Rightly log = RightlyIn Once log

-- ---- the best chain

-- each connected peer with a smaller number than this has a chain of its own that is shorter
abbrev pub AreShorterBefore : Log → Chain → ℕ → Type 0
AreShorterBefore log chain p = (q : ℕ) → q < p → IsConnected log q → length (own (counted_part log q)) < length chain

-- A chain that is the own chain of a connected peer, by what counts, and none of them has a longer one. Of several as long it is the one of the
-- peer with the smallest number. It is genesis's where nobody is connected.
pub record IsBest (log : Log) (chain : Chain) : Type 0 where
  pub longest : (p : ℕ) → IsConnected log p → length (own (counted_part log p)) ≤ length chain
  pub shown : ((p : ℕ) × (IsConnected log p × (own (counted_part log p) ≡ chain) × AreShorterBefore log chain p))
      ⊎ (((p : ℕ) → is_connected (trail log p) ≡ false) × (chain ≡ []))

-- What the rule of asking leaves true of a connected peer with nothing open to it: of the blocks that its own chain shares with a chain, where one was fetched and
-- they differ on its filter, what the peer claims of it was tested. (A block with genesis's hash would never be asked about. Where no hashes clash there is none.)
abbrev pub IsTestedThrough : Log → Chain → ℕ → Type 0
IsTestedThrough log chain p =
    (h : ℕ) → 1 ≤ h → h ≤ common_of (own (counted_part log p)) chain → IsAbove (hash_at (own (counted_part log p)) h)
    → IsFetchedHash log (hash_at (own (counted_part log p)) h) → IsDisputed log (hash_at (own (counted_part log p)) h)
    → (hash : Hash32) → HasClaimed log p (hash_at (own (counted_part log p)) h) hash → IsTestedWith log (hash_at (own (counted_part log p)) h) hash

-- What the rule of asking leaves true of a connected peer with nothing open to it: it was heard out; of the blocks that its own chain shares
-- with the best one the filter header is known at each; each of them that stands in no open request for filters or for a block is settled; and where one
-- was fetched and they differ on its filter, what the peer claims of it was tested.
-- (A block with genesis's hash would never be asked about. Where no hashes clash there is none.)
pub record IsAskedOutIn (mode : Mode) (watch : List (List ℕ)) (log : Log) (chain : Chain) (p : ℕ) : Type 0 where
  pub heard_out : is_heard_out_in mode (counted_part log p) ≡ true
  pub claimed : (h : ℕ) → 1 ≤ h → h ≤ common_of (own (counted_part log p)) chain → HasHeader (counted_part log p) (hash_at (own (counted_part log p)) h)
  pub settled : (h : ℕ) → 1 ≤ h → h ≤ common_of (own (counted_part log p)) chain → IsAbove (hash_at (own (counted_part log p)) h)
      → (IsFilterOpen log (hash_at (own (counted_part log p)) h) → ⊥) → (IsBlockOpen log (hash_at (own (counted_part log p)) h) → ⊥)
      → IsSettled watch log (hash_at (own (counted_part log p)) h)
  pub tested : IsTestedThrough log chain p

-- the same of a client that ends once nothing is open
abbrev pub IsAskedOut : List (List ℕ) → Log → Chain → ℕ → Type 0
IsAskedOut watch log chain p = IsAskedOutIn Once watch log chain p

-- ---- the history

-- what a scan takes for the block with a header: a fetched block with the header's hash, or the header without transactions where none was fetched
abbrev pub StandsFor : Log → Header → Block → Type 0
StandsFor log h b =
    (IsFetched log b × (block_hash_of b.header ≡ block_hash_of h))
    ⊎ ((IsFetchedHash log (block_hash_of h) → ⊥) × (b ≡ record { header = h; txs = [] }))

-- so blocks stand for headers, one by one
abbrev pub StandFor : Log → List Header → List Block → Type 0
StandFor log [] [] = Unit {0}
StandFor log [] (b ∷ blocks) = ⊥
StandFor log (h ∷ headers) [] = ⊥
StandFor log (h ∷ headers) (b ∷ blocks) = StandsFor log h b × StandFor log headers blocks

-- the entries are those of the scan over a chain's blocks, from height 1 on, each taken as it was fetched
pub record IsScanOver (watch : List (List ℕ)) (log : Log) (chain : Chain) (entries : List Entry) : Type 0 where
  pub blocks : List Block
  pub taken : StandFor log (reverse chain) blocks
  pub history : entries ≡ scan_of blocks watch
