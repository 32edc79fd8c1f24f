-- machine: what is taken of a piece of a peer's bytes.
use Rattle.std.specs.Prelude.{◌≡◌, ◌≢◌, ◌⊎◌, ◌<◌, ℕ, Bool, true, false, List, [], ◌∷◌, ◌++◌, length, map, Option, Some, None, IsSome, IfNone}
use Rattle.std.specs.List.{AllByRecursion}
use Rattle.cf_bytes.specs.declared.peer.PeerNo.{PeerNo}
use Rattle.cf_block.specs.declared.tx.Block.{Block}
use Rattle.cf_frame.specs.Stream.{read_stream}
use Rattle.cf_msg.specs.declared.msg.Msg.{Msg}
use Rattle.cf_dispute.specs.declared.claim.Claim.{Claim}
use Rattle.cf_peer.specs.declared.act.Act.{Act}
use Rattle.cf_peer.specs.declared.act.Act.TheVariants.{Send as SendTo}
use Rattle.cf_peer.specs.declared.peer.Cause.{Cause}
use Rattle.cf_peer.specs.declared.peer.Peer.{Peer}
use Rattle.cf_peer.specs.declared.peer.Reaction.{Reaction}
use Rattle.cf_peer.specs.declared.peer.Reaction.TheVariants.{Nothing as NoReply, Send, Close, Expose}
use Rattle.cf_peer.specs.Trail.{Trail, Part, Said, is_connected, part_after, has_version, replies_owed, reply_to, IsReply}
use Rattle.cf_peer.specs.Asking.{NothingOpen, claims, request, verdict, counted, fetched_blocks, fetched_by, given_filters, given_by}
use Rattle.cf_peer.specs.Hearing.{Faulty}
use Rattle.cf_peer.specs.Peer.{Holds, Hears, calm}
use Rattle.cf_tables.specs.Tables.{IsSameTable, with_blocks}
use Rattle.cf_tables.specs.Trials.{TrialsGo, judged_if}
use Rattle.cf_match.specs.declared.job.Job.{Job}
use Rattle.cf_match.specs.Verdicts.{AreSameVerdicts}
use Rattle.cf_headers.specs.Chain.{Hash}
use Rattle.cf_seek.specs.Opening.{IsSameElse}
use Rattle.cf_hear.specs.declared.stop.HearStop.{HearStop}
use Rattle.cf_hear.specs.declared.stop.HearStop.TheVariants.{Fault, Exposed}
use Rattle.cf_hear.specs.Exposing.{IsExposedIn, IsUnexposed}
use Rattle.cf_hear.specs.Seen.{Follows}
use Rattle.cf_tracker.specs.Seen.{Seen, IsSameSeen}

-- p's chain and claims are now those of this trail, and what is open to it; the extracts of these blocks came, the last of them first, and the verdicts on
-- these filters, the first of them first, where they weren't asked for so that they are tested; and so with what is kept of tests
pub record Gains (before after : Seen) (p : PeerNo) (t : Trail) (news : List Block) (jobs : List Job) : Type 0 where
  pub watch : after.watch ≡ before.watch
  pub follows : Follows after p.0 t
  pub others : (q : ℕ) → q ≢ p.0 → after.chains q ≡ before.chains q
  pub claims : (q : ℕ) → q ≢ p.0 → (block : Hash) → after.claims q block ≡ before.claims q block
  pub table : IsSameTable after.table (with_blocks before.watch news before.table)
  pub verdicts : AreSameVerdicts after.verdicts (judged_if (before.trials.aims p.0) before.watch jobs before.verdicts)
  pub opens : IsSameElse before.opens after.opens p.0
  pub trials : TrialsGo before.trials after.trials p.0 news jobs

-- what one message does to the peer and to what was seen: the reply that is owed to it, the cause that it gives, or that it exposes the peer, to which nothing is
-- open then
abbrev pub HearsSeen : Seen → Seen → PeerNo → Peer → Msg → Trail → Reaction → Type 0
HearsSeen before after p peer m t NoReply = Hears peer m t NoReply × Gains before after p (Said m ∷ t) (fetched_by m (request t)) (given_by m (request t))
HearsSeen before after p peer m t (Send r) = Hears peer m t (Send r) × Gains before after p (Said m ∷ t) (fetched_by m (request t)) (given_by m (request t))
HearsSeen before after p peer m t (Close cause) = Hears peer m t (Close cause) × IsSameSeen before after
HearsSeen before after p peer m t (Expose block filter) =
    Hears peer m t NoReply × Gains before after p (Said m ∷ t) (fetched_by m (request t)) (given_by m (request t))
    × ((request (Said m ∷ t) ≡ NothingOpen) × IsExposedIn after p.0 block.0 filter.0)

-- what one message of a peer does that held any trail by which it was tracked
abbrev pub HearsFrom : Seen → Seen → PeerNo → Peer → Peer → Msg → Reaction → Type 0
HearsFrom before after p old new m reply =
    (t : Trail) → Holds old t → Follows before p.0 t → HearsSeen before after p new m t reply

-- p is still tracked; the chains and the claims of all others are as they were, and so are the watched scripts
pub record LeavesOthers (p : ℕ) (before after : Seen) : Type 0 where
  pub entered : IsSome (after.chains p)
  pub chains : (q : ℕ) → q ≢ p → after.chains q ≡ before.chains q
  pub claims : (q : ℕ) → q ≢ p → (block : Hash) → after.claims q block ≡ before.claims q block
  pub watch : after.watch ≡ before.watch

-- the bytes that wait are as they were; and where its open request was younger than 60 seconds, that of now is
pub record KeepsPeer (before after : Peer) : Type 0 where
  pub waits : after.framer ≡ before.framer
  pub calm : calm before ≡ true → calm after ≡ true

-- one frame was taken from the bytes, which left these, with one message, and these replies are owed to it
pub record Advances (before after : Seen) (p : PeerNo) (bytes rest : List ℕ) (new : Peer) (t : Trail) (replies : List Msg)
    : Type 0 where
  pub message : Msg
  pub leads : part_after (read_stream bytes) t ≡ part_after (read_stream rest) (Said message ∷ t)
  pub holds : Holds new (Said message ∷ t)
  pub owes : reply_to message t ≡ replies
  pub gains : Gains before after p (Said message ∷ t) (fetched_by message (request t)) (given_by message (request t))

-- the same, and it exposes the peer
pub record Reveals (before after : Seen) (p : PeerNo) (bytes rest : List ℕ) (new : Peer) (t : Trail) (block filter : Hash)
    : Type 0 where
  pub advances : Advances before after p bytes rest new t []
  pub idle : request (Said advances.message ∷ t) ≡ NothingOpen
  pub exposed : IsExposedIn after p.0 block filter

-- the bytes deserve a cause, and what was seen stays
pub record Stops (before after : Seen) (bytes : List ℕ) (t : Trail) (cause : Cause) : Type 0 where
  pub faulty : Faulty t (part_after (read_stream bytes) t).trail cause
  pub same : IsSameSeen before after

-- what the frame at the front of the bytes does, if one is whole, and what bytes it leaves
abbrev pub HearsNext : Seen → Seen → PeerNo → List ℕ → List ℕ → Peer → Trail → Option Reaction → Type 0
HearsNext before after p bytes rest new t None =
    Holds new t × (part_after (read_stream bytes) t ≡ record { trail = t; waits = rest }) × IsSameSeen before after
HearsNext before after p bytes rest new t (Some NoReply) = Advances before after p bytes rest new t []
HearsNext before after p bytes rest new t (Some (Send r)) = Advances before after p bytes rest new t (r ∷ [])
HearsNext before after p bytes rest new t (Some (Close cause)) = Stops before after bytes t cause
HearsNext before after p bytes rest new t (Some (Expose block filter)) = Reveals before after p bytes rest new t block.0 filter.0

abbrev pub goes_on : Option Reaction → Bool
goes_on None = false
goes_on (Some NoReply) = true
goes_on (Some (Send r)) = true
goes_on (Some (Close cause)) = false
goes_on (Some (Expose block filter)) = false

-- what is left of the bytes: those that the framer has, and those of the piece behind them. They are fewer where the
-- reading goes on; where no frame is whole, none of the piece is left
pub record Leaves (bytes framer piece : List ℕ) (reply : Option Reaction) : Type 0 where
  pub whole : IfNone reply (piece ≡ [])
  pub shorter : goes_on reply ≡ true → length (framer ++ piece) < length bytes

-- replies are veracks and pongs, and none comes before the peer's version
pub record AreReplies (replies : List Msg) (t : Trail) : Type 0 where
  pub each : AllByRecursion IsReply replies
  pub after_version : (replies ≡ []) ⊎ (has_version t ≡ true)

-- what the blocks were that a trail brought since another
abbrev pub Brings : Trail → Trail → List Block → Type 0
Brings start end news = fetched_blocks (counted end) ≡ news ++ fetched_blocks (counted start)

-- what the filters were that a trail was given since another, in their order
abbrev pub Gives : Trail → Trail → List Job → Type 0
Gives start end jobs = given_filters (counted end) ≡ jobs ++ given_filters (counted start)

-- a piece was taken whole, or up to the first frame that deserves a cause
pub record HeardWhole (p : PeerNo) (new : Peer) (seen now : Seen) (before after : List Act) (start end : Part) : Type 0 where
  pub replies : List Msg
  pub acts : after ≡ before ++ map (λ (m : Msg). SendTo p m) replies
  pub are : AreReplies replies end.trail
  pub holds : Holds new end.trail
  pub waits : new.framer ≡ end.waits
  pub owes : replies_owed end.trail ≡ replies_owed start.trail ++ replies
  pub news : List Block
  pub brings : Brings start.trail end.trail news
  pub jobs : List Job
  pub gives : Gives start.trail end.trail jobs
  pub gains : Gains seen now p end.trail news jobs

-- what came before a fault: p's chain and claims don't matter any more, nor what is open to it
pub record Retains (before after : Seen) (p : PeerNo) (news : List Block) (jobs : List Job) : Type 0 where
  pub watch : after.watch ≡ before.watch
  pub others : (q : ℕ) → q ≢ p.0 → after.chains q ≡ before.chains q
  pub claims : (q : ℕ) → q ≢ p.0 → (block : Hash) → after.claims q block ≡ before.claims q block
  pub table : IsSameTable after.table (with_blocks before.watch news before.table)
  pub verdicts : AreSameVerdicts after.verdicts (judged_if (before.trials.aims p.0) before.watch jobs before.verdicts)
  pub opens : IsSameElse before.opens after.opens p.0
  pub trials : TrialsGo before.trials after.trials p.0 news jobs

-- what came before a fault was taken; and, where nobody was exposed before, of what counts of the peer's claims none was found to lack what its block pays
pub record HeardFault (p : PeerNo) (seen now : Seen) (before after : List Act) (start end : Part) (cause : Cause) : Type 0 where
  pub replies : List Msg
  pub acts : after ≡ before ++ map (λ (m : Msg). SendTo p m) replies
  pub are : AreReplies replies end.trail
  pub first : verdict end.trail ≡ Some cause
  pub owes : replies_owed (counted end.trail) ≡ replies_owed start.trail ++ replies
  pub news : List Block
  pub brings : Brings start.trail end.trail news
  pub jobs : List Job
  pub gives : Gives start.trail end.trail jobs
  pub kept : Retains seen now p news jobs
  pub spared : IsUnexposed seen → (block : Hash) (claim : Claim) → claims (counted end.trail) block ≡ Some claim
      → now.trials.told block claim.hash.0 ≡ Some true → ⊥

-- a piece was taken up to a message that exposed the peer: with nothing open to it what follows brings nothing, and it is closed
pub record HeardExposed (p : PeerNo) (seen now : Seen) (before after : List Act) (start end : Part) (block filter : Hash) : Type 0 where
  pub so_far : Trail
  pub replies : List Msg
  pub acts : after ≡ before ++ map (λ (m : Msg). SendTo p m) replies
  pub are : AreReplies replies so_far
  pub on : is_connected so_far ≡ true
  pub clean : verdict so_far ≡ None
  pub idle : request so_far ≡ NothingOpen
  pub later : List ℕ
  pub leads : part_after (read_stream later) so_far ≡ end
  pub owes : replies_owed so_far ≡ replies_owed start.trail ++ replies
  pub news : List Block
  pub brings : Brings start.trail so_far news
  pub jobs : List Job
  pub gives : Gives start.trail so_far jobs
  pub gains : Gains seen now p so_far news jobs
  pub exposed : IsExposedIn now p.0 block filter

-- what a piece of a peer's bytes does: all of its messages were taken, or those before the first frame that deserves a cause, or those up to the first that exposes
-- the peer
abbrev pub HeardPiece : PeerNo → Peer → Seen → Seen → List Act → List Act → Part → Part → Option HearStop → Type 0
HeardPiece p new seen now before after start end None = HeardWhole p new seen now before after start end
HeardPiece p new seen now before after start end (Some (Fault cause)) = HeardFault p seen now before after start end cause
HeardPiece p new seen now before after start end (Some (Exposed e)) = HeardExposed p seen now before after start end e.block.0 e.filter.0

-- on the way through a piece: the bytes that wait, with what is left of it behind them, lead to its end
pub record Midway (p : PeerNo) (peer : Peer) (bytes : List ℕ) (seen now : Seen) (before after : List Act) (start end : Part)
    : Type 0 where
  pub so_far : Trail
  pub replies : List Msg
  pub acts : after ≡ before ++ map (λ (m : Msg). SendTo p m) replies
  pub are : AreReplies replies so_far
  pub holds : Holds peer so_far
  pub leads : part_after (read_stream bytes) so_far ≡ end
  pub owes : replies_owed so_far ≡ replies_owed start.trail ++ replies
  pub news : List Block
  pub brings : Brings start.trail so_far news
  pub jobs : List Job
  pub gives : Gives start.trail so_far jobs
  pub gains : Gains seen now p so_far news jobs
  pub idle : ((news ≡ []) × (jobs ≡ [])) ⊎ (request so_far ≡ NothingOpen)
