-- machine: what a growing chain tells a connection, by a step.
use Rattle.std.specs.Prelude.{◌≡◌, ◌⊎◌, ◌+◌, ℕ, Bool, true, false, if◌then◌else◌, List, [], ◌∷◌, ◌++◌, length, nat_lt, Option, Some, None, IfSome, is_none, Result, Ok, Err}
use Rattle.cf_bytes.specs.declared.hash.Hash32.{Hash32}
use Rattle.cf_block.specs.declared.tx.Block.{Block}
use Rattle.cf_chain.specs.Good.{IsGoodChain}
use Rattle.cf_chain.specs.Grow.{GrowAnswer, TipMark, NotMet, TipTold, mark_at, announcement, asked_for, grown, grow_answer}
use Rattle.cf_grow.specs.declared.grown.Taken.{Taken}
use Rattle.cf_grow.specs.declared.mark.ServedMark.{ServedMark}
use Rattle.cf_grow.specs.declared.mark.Shrunk.{Shrunk as Hashes}
use Rattle.cf_grow.specs.declared.mark.TakeFail.{TakeFail}
use Rattle.cf_grow.specs.declared.mark.TakeFail.TheVariants.{Shrunk, NoMemory}
use Rattle.cf_grow.specs.declared.taking.Answer.{Answer}
use Rattle.cf_grow.specs.Held.{text_all}
use Rattle.cf_index.specs.declared.commitment.Commitment.{Commitment}
use Rattle.cf_index.specs.Committing.{IsCommitmentOf}
use Rattle.cf_walk.specs.Files.{cause_on}
use Rattle.cf_frame.specs.declared.frame.Frame.{Frame}
use Rattle.cf_msg.specs.declared.msg.Msg.{Msg}
use Rattle.cf_msg.specs.declared.msg.Msg.TheVariants.{Block as BlockMessage}
use Rattle.cf_msg.specs.Reading.{message_of}
use Rattle.cf_server.specs.declared.answering.Serving.{Serving}
use Rattle.cf_server.specs.Replies.{messages_of, AreRepliesOf}
use Rattle.cf_server.specs.Serving.{text_of}
use Rattle.cf_grow.specs.Standing.{Start, Keeps, hash_in}
use Rattle.cf_grow.specs.Keeping.{records_above}
use Rattle.cf_bytes.specs.Outside.{with_more}

-- what was told, by what is kept of it
abbrev pub told_by : Bool → ℕ → Hash32 → TipMark
told_by true height hash = TipTold height hash.0
told_by false height hash = NotMet

abbrev pub mark_of : ServedMark → TipMark
mark_of mark = told_by mark.served.seen mark.height mark.hash

-- the answer to a message of a connection with this mark, by a chain
abbrev pub answer_at : ServedMark → List Block → Msg → GrowAnswer
answer_at mark blocks m = grow_answer mark.served.time mark.served.nonce blocks (mark_of mark) m

-- the mark stands on the chain, once something was told
abbrev pub HasMark : List Block → ServedMark → Type 0
HasMark blocks mark = mark.served.seen ≡ true → hash_in blocks mark.height ≡ Some mark.hash

-- where the mark stands then, by whether a version has come by then
abbrev pub moved : List Block → TipMark → Bool → TipMark
moved blocks NotMet true = mark_at blocks
moved blocks NotMet false = NotMet
moved blocks (TipTold height hash) seen = if nat_lt height (length blocks) then mark_at blocks else TipTold height hash

-- the messages that an answer stands for
abbrev pub news_in : Option Hash32 → List Msg
news_in None = []
news_in (Some hash) = announcement hash.0 ∷ []

abbrev pub messages_in : Serving → List Block → Answer → List Msg
messages_in served blocks a = news_in a.news ++ (asked_for a.wants ++ messages_of served blocks a.plain)

pub record IsAnswerOf (served : Serving) (blocks : List Block) (a : Answer) (messages : List Msg) : Type 0 where
  pub told : messages_in served blocks a ≡ messages
  pub each : AreRepliesOf blocks a.plain

-- a chain hasn't this hash at this height: these are both hashes
abbrev pub Misses : List Block → ℕ → Hash32 → Hashes → Type 0
Misses blocks height hash s = (s.seen ≡ hash) × (s.found ≡ hash_in blocks height) × (s.found ≡ Some hash → ⊥)

-- it is refused only where the mark doesn't stand on the chain, once something was told, or the first tip doesn't, and carries both hashes
abbrev pub IsRefusal : List Block → ServedMark → TakeFail → Type 0
IsRefusal blocks mark (Shrunk s) =
    ((mark.served.seen ≡ true) × Misses blocks mark.height mark.hash s) ⊎ Misses blocks mark.first.height mark.first.hash s
IsRefusal blocks mark NoMemory = Unit {0}

abbrev pub Refuses : {X : Type 0} → List Block → ServedMark → Result X TakeFail → Type 0
Refuses blocks mark (Ok x) = Unit {0}
Refuses blocks mark (Err e) = IsRefusal blocks mark e

-- it is refused by some good chain
pub record IsRefused (mark : ServedMark) (e : TakeFail) : Type 0 where
  pub chain : List Block
  pub good : IsGoodChain chain
  pub refusal : IsRefusal chain mark e

abbrev pub RefusesBy : {X : Type 0} → ServedMark → Result X TakeFail → Type 0
RefusesBy mark (Ok x) = Unit {0}
RefusesBy mark (Err e) = IsRefused mark e

-- what the server began with
abbrev pub begun_in : ServedMark → Start
begun_in mark = record { time = mark.served.time; tip = mark.first }

-- that and the nonce of the server's own version stay
abbrev pub HasMomentOf : ServedMark → ServedMark → Type 0
HasMomentOf old new = (begun_in new ≡ begun_in old) × (new.served.nonce ≡ old.served.nonce)

-- a block may stand on a chain
abbrev pub fits_on : List Block → Block → Bool
fits_on blocks b = is_none (cause_on blocks b)

-- a chain that grows, how many bytes of blocks may still join it, and the bytes that its keeper has, where they are told
pub record Growth : Type 0 where
  pub blocks : List Block
  pub room : ℕ
  pub kept : Option (List ℕ)

-- nothing has changed, or so many bytes of the room were taken
abbrev pub TakesRoom : ℕ → Growth → Growth → Type 0
TakesRoom size old new = (new ≡ old) ⊎ (new.room + size ≡ old.room)

-- the bytes that were kept, and behind them the records of the blocks that have joined, the lowest first
abbrev pub KeepsWhatJoins : Growth → Growth → Type 0
KeepsWhatJoins old new = new.kept ≡ with_more old.kept (records_above old.blocks new.blocks)

-- a frame brings no block that may stand on a chain
abbrev pub BringsNone : List Block → Frame → Type 0
BringsNone blocks f = (b : Block) → message_of f ≡ Ok (BlockMessage b) → fits_on blocks b ≡ false

-- a commitment that was found is that of the block which a message brings
abbrev pub FoundFor : Msg → Option Commitment → Type 0
FoundFor m commitment = (b : Block) → m ≡ BlockMessage b → IfSome commitment (IsCommitmentOf b)

-- the height of the block that has joined, where one has
abbrev pub height_joined : ℕ → ℕ → Option ℕ
height_joined before now = if nat_lt before now then Some now else None

abbrev pub joined_in : List Block → List Block → Option ℕ
joined_in old new = height_joined (length old) (length new)

-- one message was answered by a good chain that has the first tip, and on which the mark stands, and of a block that has joined it the height is told
pub record IsStep (mark now : ServedMark) (m : Msg) (taken : Taken) : Type 0 where
  pub chain : List Block
  pub good : IsGoodChain chain
  pub has : HasMark chain mark
  pub keeps : Keeps chain mark.first
  pub answer : text_all taken.parts ≡ text_of (answer_at mark chain m).replies
  pub next : mark_of now ≡ (answer_at mark chain m).mark
  pub joined : taken.joined ≡ joined_in chain (grown fits_on chain mark.served.seen m)
