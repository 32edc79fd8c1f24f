-- What is taken of a piece of a peer's bytes, message by message.
use Rattle.std.proofs.Common.{◌≡◌, ◌≢◌, ◌⊎◌, inl, inr, ℕ, List, [], ◌∷◌, ◌++◌, map, length, take, drop, Option, Some, None, Result, Ok, Err, ◌<◌, ◌≤◌, Bool, true, false, if◌then◌else◌, refl, sym, ◌∙◌, ap, subst, append_assoc, arith}
use Rattle.std.specs.List.{All, AllByRecursion, list_any}
use Rattle.std.proofs.lemmas.List.{append-nil, length-append, map-append, take-append-drop}
use Rattle.std.proofs.lemmas.Bool.{cases_eq}
use Rattle.std.proofs.lemmas.List.Elements.{All-append, All-nil, All-cons}
use Rattle.cf_bytes.specs.declared.hash.Hash32.{Hash32}
use Rattle.cf_bytes.specs.declared.memory.NoMemory.{NoMemory}
use Rattle.cf_bytes.specs.declared.peer.PeerNo.{PeerNo}
use Rattle.cf_block.specs.declared.tx.Block.{Block}
use Rattle.cf_block.specs.Header.{block_hash_of, genesis_header}
use Rattle.cf_frame.specs.Lending.{HasFrame, IsFilled, after_frame}
use Rattle.cf_frame.specs.Reading.{front_of}
use Rattle.cf_frame.specs.Stream.{read_stream}
use Rattle.cf_frame.proofs.Lending.{all_taken}
use Rattle.cf_headers.specs.Chain.{Hash, Chain, Accepted, Longer, NoLonger, Unlinked, Invalid, TooHigh, accept, back_to, chain_after}
use Rattle.cf_headers.specs.declared.change.Change.{Change}
use Rattle.cf_headers.specs.Changes.{change_of, link_height}
use Rattle.cf_headers.specs.Heights.{height_of}
use Rattle.cf_headers.specs.Store.{Puts, own_of}
use Rattle.cf_lent.specs.declared.views.View.{View}
use Rattle.cf_lent.specs.declared.views.View.TheVariants as lents
use Rattle.cf_lent.specs.View.{msg_of}
use Rattle.cf_msg.specs.declared.msg.Inventory.{Inventory}
use Rattle.cf_msg.specs.declared.msg.Msg.{Msg}
use Rattle.cf_msg.specs.declared.msg.Msg.TheVariants.{Headers, Inv, Block as BlockMessage, Cfheaders, Cfilter}
use Rattle.cf_peer.specs.declared.act.Act.{Act}
use Rattle.cf_peer.specs.declared.act.Act.TheVariants.{Send as SendTo}
use Rattle.cf_peer.specs.declared.peer.Cause.{Cause}
use Rattle.cf_peer.specs.declared.peer.Peer.{Peer}
use Rattle.cf_peer.specs.declared.peer.Reaction.{Reaction}
use Rattle.cf_peer.specs.declared.peer.Reaction.TheVariants.{Nothing as NoReply, Send, Close, Expose}
use Rattle.cf_peer.specs.Acts.{IsSendable, IsDoable}
use Rattle.cf_peer.specs.Trail.{Trail, Part, Said, part_after, heard_part, fault_in, first, longer_of, ready, has_version, is_connected, own, replies_owed, is_unknown, IsReply}
use Rattle.cf_peer.specs.Asking.{OpenRequest, NothingOpen, request, claims, claims_after, counted, fault_of, fetched_blocks, fetched_by, given_filters, given_by, verdict}
use Rattle.cf_peer.specs.Hearing.{Faulty}
use Rattle.cf_peer.specs.Peer.{Holds, IsRight, TakesClaims, awaits, cause_of_claims, Hears, is_plain, is_ready_peer}
use Rattle.cf_peer.proofs.Peers.{other_block, reply_is, same_holds, early_headers, early_own, plain_said}
use Rattle.cf_peer.proofs.LentLeads.{done_shorter}
use Rattle.cf_peer.proofs.Stream.{faulty_said, said_met, waits_says}
use Rattle.cf_scan.specs.declared.extracts.TxExtract.{TxExtract}
use Rattle.cf_tables.specs.Tables.{IsSameTable, with_block, with_blocks}
use Rattle.cf_tables.specs.Known.{ExtractTable}
use Rattle.cf_sync.proofs.Counted.{same_longer, same_use}
use Rattle.cf_sync.proofs.Grows.{said_brings, said_gives}
use Rattle.cf_tables.specs.Claiming.{IsSameTables}
use Rattle.cf_match.specs.declared.job.Job.{Job}
use Rattle.cf_match.specs.Verdicts.{Verdicts, AreSameVerdicts, with_verdict, with_verdicts}
use Rattle.cf_tables.proofs.Judgings.{same_all}
use Rattle.std.specs.Prelude.{IfOk, IsSome, is_none, is_some, not, option_map, unwrap_or}
use Rattle.cf_block.specs.declared.header.Header.{Header}
use Rattle.cf_dispute.specs.declared.claim.Claim.{Claim}
use Rattle.cf_dispute.specs.declared.claim.ClaimFault.{ClaimFault}
use Rattle.cf_dispute.specs.Claims.{first_filter_header, with_claims}
use Rattle.cf_dispute.specs.Tables.{blocks_of, claim_fault}
use Rattle.cf_dispute.specs.Claims as dispute
use Rattle.cf_headers.specs.Rules.{same as same_bytes}
use Rattle.cf_peer.specs.declared.peer.Request.{Request}
use Rattle.cf_peer.specs.declared.peer.Request.TheVariants.{Nothing, Handshake, Headers as HeadersAsked, Claims as ClaimsAsked, Filters as FiltersAsked, Block as BlockAsked, Ping as PingAsked}
use Rattle.cf_seek.specs.Opening.{Closes, IsSameElse}
use Rattle.cf_holds.specs.Known.{OpensAt}
use Rattle.cf_holds.proofs.KeptOpens.{opens_closed}
use Rattle.cf_hear.specs.Seen.{Follows}
use Rattle.cf_tracker.specs.Seen.{Seen, IsSameSeen}
use Rattle.cf_hear.specs.Hearing.{Gains, Gives, Retains, HearsSeen, HearsNext, LeavesOthers, Advances, Reveals, Stops, Brings, Midway, HeardFault, HeardExposed, HeardPiece, AreReplies}
use Rattle.cf_hear.specs.Exposing.{ExposesAmong, IsUnexposed}
use Rattle.cf_hear.specs.declared.stop.HearStop.{HearStop}
use Rattle.cf_hear.proofs.Trying.{IsOnce, gives_on, go_none, go_on, go_self, go_then, idle_by, once_by, one_empty, trials_self}
use Rattle.cf_tables.specs.Trials.{TrialsGo, judged_if}
use Rattle.cf_hear.proofs.Opening.{closes_then, else_of, else_self, else_then, opens_claims, opens_headers, opens_news, opens_on, opens_other, opens_plain, opens_self}

-- ---- what was seen

pub same_seen : (s : Seen) → IsSameSeen s s
same_seen s = record { watch = refl; chains = λ q. refl; claims = λ q block. refl; table = λ hash. refl; verdicts = λ block hash. refl; opens = opens_self s.opens; trials = trials_self s.trials; written = refl }

-- no filter changes a verdict
pub none_judged : (aim : Bool) (watch : List (List ℕ)) (v : Verdicts) → AreSameVerdicts v (judged_if aim watch [] v)
none_judged true watch v block hash = refl
none_judged false watch v block hash = refl

-- nothing came, and p's chain and claims are those of this trail
pub gains_none : (s : Seen) (p : PeerNo) (t : Trail) → Follows s p.0 t → Gains s s p t [] []
gains_none s p t is = record {
  watch = refl;
  follows = is;
  others = λ q ne. refl;
  claims = λ q ne block. refl;
  table = λ hash. refl;
  verdicts = none_judged (s.trials.aims p.0) s.watch s.verdicts;
  opens = else_self s.opens p.0;
  trials = go_self s.trials p.0;
}

-- the extracts of blocks, put in after those of others
blocks_append : (watch : List (List ℕ)) (more news : List Block) (now before : ExtractTable) → IsSameTable now (with_blocks watch news before) → IsSameTable (with_blocks watch more now) (with_blocks watch (more ++ news) before)
blocks_append watch [] news now before is = is
blocks_append watch (b ∷ more) news now before is =
    λ hash. ap (λ (o : Option (List TxExtract)). with_block watch b (λ (h : Hash). o) hash) (blocks_append watch more news now before is hash)

-- the verdicts on filters, after those on others
verdicts_append : (watch : List (List ℕ)) (jobs more : List Job) (before : Verdicts) → AreSameVerdicts (with_verdicts watch more (with_verdicts watch jobs before)) (with_verdicts watch (jobs ++ more) before)
verdicts_append watch [] more before block hash = refl
verdicts_append watch (job ∷ jobs) more before block hash = verdicts_append watch jobs more (with_verdict watch job before) block hash

-- and so where they are judged
judged_append : (aim : Bool) (watch : List (List ℕ)) (jobs more : List Job) (now before : Verdicts) → AreSameVerdicts now (judged_if aim watch jobs before)
    → AreSameVerdicts (judged_if aim watch more now) (judged_if aim watch (jobs ++ more) before)
judged_append true watch jobs more now before is = is
judged_append false watch jobs more now before is = λ block hash.
    same_all watch more now (with_verdicts watch jobs before) is block hash ∙ verdicts_append watch jobs more before block hash

pub gains_then : (a b c : Seen) (p : PeerNo) (t u : Trail) (news more : List Block) (jobs later : List Job) → IsOnce news jobs more later → Gains a b p t news jobs → Gains b c p u more later
    → Gains a c p u (more ++ news) (jobs ++ later)
gains_then a b c p t u news more jobs later once x y = record {
  watch = y.watch ∙ x.watch;
  follows = y.follows;
  others = λ q ne. y.others q ne ∙ x.others q ne;
  claims = λ q ne block. y.claims q ne block ∙ x.claims q ne block;
  table = λ hash. y.table hash ∙ ap (λ (w : List (List ℕ)). with_blocks w more b.table hash) x.watch ∙ blocks_append a.watch more news b.table a.table x.table hash;
  verdicts = λ block hash. y.verdicts block hash
      ∙ ap (λ (w : List (List ℕ)). judged_if (b.trials.aims p.0) w later b.verdicts block hash) x.watch
      ∙ ap (λ (aim : Bool). judged_if aim a.watch later b.verdicts block hash) (x.trials.aims p.0)
      ∙ judged_append (a.trials.aims p.0) a.watch jobs later b.verdicts a.verdicts x.verdicts block hash;
  opens = else_then a.opens b.opens c.opens p.0 x.opens y.opens;
  trials = go_then a.trials b.trials c.trials p.0 news more jobs later once x.trials y.trials;
}

-- p's chain and claims may be any after a fault
pub gains_retains : (a b c : Seen) (p : PeerNo) (t : Trail) (news : List Block) (jobs : List Job) → Gains a b p t news jobs → IsSameSeen b c → Retains a c p news jobs
gains_retains a b c p t news jobs x y = record {
  watch = y.watch ∙ x.watch;
  others = λ q ne. y.chains q ∙ x.others q ne;
  claims = λ q ne block. y.claims q block ∙ x.claims q ne block;
  table = λ hash. sym (y.table hash) ∙ x.table hash;
  verdicts = λ block hash. y.verdicts block hash ∙ x.verdicts block hash;
  opens = else_then a.opens b.opens c.opens p.0 x.opens (else_of b.opens c.opens p.0 y.opens);
  trials = go_on a.trials b.trials c.trials p.0 news jobs x.trials y.trials;
}

-- ---- what was seen of others

pub leaves_self : (p : ℕ) (s : Seen) → IsSome (s.chains p) → LeavesOthers p s s
leaves_self p s entered =
    record { entered = entered; chains = λ q ne. refl; claims = λ q ne block. refl; watch = refl }

pub leaves_then : (p : ℕ) (a b c : Seen) → LeavesOthers p a b → LeavesOthers p b c → LeavesOthers p a c
leaves_then p a b c x y = record {
  entered = y.entered;
  chains = λ q ne. y.chains q ne ∙ x.chains q ne;
  claims = λ q ne block. y.claims q ne block ∙ x.claims q ne block;
  watch = y.watch ∙ x.watch;
}

-- no chain changed, nor what others claim
pub leaves_chains : (p : ℕ) (before after : Seen) → IsSome (before.chains p)
    → ((q : ℕ) → after.chains q ≡ before.chains q)
    → ((q : ℕ) → q ≢ p → (block : Hash) → after.claims q block ≡ before.claims q block)
    → after.watch ≡ before.watch → LeavesOthers p before after
leaves_chains p before after entered chains claims watch = record {
  entered = subst IsSome (sym (chains p)) entered;
  chains = λ q ne. chains q;
  claims = claims;
  watch = watch;
}

-- ---- one message

-- a block changes no chain
block_own : (b : Block) (t : Trail) → own (Said (BlockMessage b) ∷ t) ≡ own t
block_own b t = alike (ready t) (own t) where
  alike : (x : Bool) (chain : Chain) → (if x then chain else chain) ≡ chain
  alike true chain = refl
  alike false chain = refl

-- it follows a trail that one more message leaves with the same chain and claims, and with the same open
pub follows_on : (s : Seen) (p : ℕ) (m : Msg) (t : Trail) → own (Said m ∷ t) ≡ own t → ((block : Hash) → claims (Said m ∷ t) block ≡ claims t block)
    → OpensAt s.opens p (Said m ∷ t) → Follows s p t → Follows s p (Said m ∷ t)
follows_on s p m t chain same opens f =
    record { chain = f.chain ∙ ap Some (sym chain); claims = λ block. f.claims block ∙ sym (same block); opens = opens }

-- a block that isn't open to p
pub other_hears : (seen : Seen) (p : PeerNo) (peer : Peer) (b : Block) (hash : Hash32) (t : Trail) → Holds peer t → awaits peer hash ≡ false → hash.0 ≡ block_hash_of b.header
    → Follows seen p.0 t → HearsSeen seen seen p peer (BlockMessage b) t NoReply
other_hears seen p peer b hash t h off is f =
    let o = other_block peer b hash t h off (sym is) in (
      (o.0, refl),
      subst (λ (bs : List Block). Gains seen seen p (Said (BlockMessage b) ∷ t) bs []) (sym o.1) (gains_none seen p (Said (BlockMessage b) ∷ t)
          (follows_on seen p.0 (BlockMessage b) t (block_own b t) (λ block. refl) (opens_other seen.opens p.0 peer b hash t h off is f.opens) f)),
    )

-- the block that is open to it, once its extract is kept
pub taken_hears : (before kept after : Seen) (p : PeerNo) (peer : Peer) (b : Block) (t : Trail) → Holds peer (Said (BlockMessage b) ∷ t) → fetched_by (BlockMessage b) (request t) ≡ b ∷ []
    → Follows before p.0 t → IsSameTable kept.table (with_block before.watch b before.table)
    → IsSameSeen (record before { table = kept.table; trials = record before.trials { paid = kept.trials.paid } }) kept
    → Closes kept.opens after.opens p.0 → IsSameSeen (record kept { opens = after.opens }) after
    → TrialsGo before.trials after.trials p.0 (b ∷ []) []
    → request (Said (BlockMessage b) ∷ t) ≡ NothingOpen → HearsSeen before after p peer (BlockMessage b) t NoReply
taken_hears before kept after p peer b t h brought f table keeps closes stays trials ends =
    let closed = closes_then before.opens kept.opens after.opens p.0 (else_of before.opens kept.opens p.0 keeps.opens) closes in (
      (h, refl),
      subst (λ (bs : List Block). Gains before after p (Said (BlockMessage b) ∷ t) bs []) (sym brought) (record {
        watch = stays.watch ∙ keeps.watch;
        follows = record {
          chain = stays.chains p.0 ∙ keeps.chains p.0 ∙ f.chain ∙ ap Some (sym (block_own b t));
          claims = λ block. stays.claims p.0 block ∙ keeps.claims p.0 block ∙ f.claims block;
          opens = opens_closed before.opens after.opens p.0 (Said (BlockMessage b) ∷ t) closed (λ on. ends);
        };
        others = λ q ne. stays.chains q ∙ keeps.chains q;
        claims = λ q ne block. stays.claims q block ∙ keeps.claims q block;
        table = λ hash. sym (stays.table hash) ∙ table hash;
        verdicts = λ block hash. stays.verdicts block hash ∙ keeps.verdicts block hash ∙ none_judged (before.trials.aims p.0) before.watch before.verdicts block hash;
        opens = closed.others;
        trials = trials;
      }),
    )

-- claims change no chain, nor does a filter
claims_own : (filter : ℕ) (stop previous : Hash32) (hashes : List Hash32) (t : Trail) → own (Said (Cfheaders filter stop previous hashes) ∷ t) ≡ own t
claims_own filter stop previous hashes t = alike (ready t) (own t) where
  alike : (x : Bool) (chain : Chain) → (if x then chain else chain) ≡ chain
  alike true chain = refl
  alike false chain = refl

filter_own : (filter : ℕ) (block : Hash32) (bytes : List ℕ) (t : Trail) → own (Said (Cfilter filter block bytes) ∷ t) ≡ own t
filter_own filter block bytes t = alike (ready t) (own t) where
  alike : (x : Bool) (chain : Chain) → (if x then chain else chain) ≡ chain
  alike true chain = refl
  alike false chain = refl

-- what is asked of an open request asks for the claims alone
pub right_same : (r : Request) (a b : dispute.Table) → ((block : Hash) → b block ≡ a block) → IsRight r a → IsRight r b
right_same Nothing a b is h = tt
right_same (Handshake age) a b is h = tt
right_same (HeadersAsked age) a b is h = tt
right_same (ClaimsAsked range age) a b is h = (
  subst IsSome (ap (λ (o : Option Claim). if same_bytes (block_hash_of genesis_header) range.parent.0 then Some first_filter_header else option_map (λ (c : Claim). c.header) o) (sym (is range.parent.0))) h.0,
  λ block i. is block ∙ h.1 block i,
)
right_same (FiltersAsked batch age) a b is h = h
right_same (BlockAsked block age) a b is h = tt
right_same (PingAsked number age) a b is h = tt

-- a run of blocks that is read as a slice: the same claims, and the same fault
pub same_run : (previous : Hash32) (read blocks hashes : List Hash32) (table after : dispute.Table) → read ≡ blocks → ((block : Hash) → after block ≡ with_claims previous (blocks_of read) hashes table block)
    → (block : Hash) → after block ≡ with_claims previous (blocks_of blocks) hashes table block
same_run previous read blocks hashes table after e is block = is block ∙ ap (λ (xs : List Hash32). with_claims previous (blocks_of xs) hashes table block) e

pub same_fault : (header : Option Hash32) (previous : Hash32) (read blocks hashes : List Hash32) (o : Option ClaimFault) → read ≡ blocks → claim_fault header (length read) previous (length hashes) ≡ o
    → claim_fault header (length blocks) previous (length hashes) ≡ o
same_fault header previous read blocks hashes o e is = subst (λ (xs : List Hash32). claim_fault header (length xs) previous (length hashes) ≡ o) e is

pub cause_is : (o : Option Cause) (fault : Option ClaimFault) (f : ClaimFault) (cause : Cause) → o ≡ option_map cause_of_claims fault → fault ≡ Some f → cause ≡ cause_of_claims f → o ≡ Some cause
cause_is o fault f cause all is this = all ∙ ap (option_map cause_of_claims) is ∙ ap (λ (x : Cause). Some x) (sym this)

-- claims that were taken
pub claims_hears : (before after : Seen) (p : PeerNo) (peer : Peer) (filter : ℕ) (stop previous : Hash32) (hashes : List Hash32) (t : Trail)
    → TakesClaims peer (after.claims p.0) (Cfheaders filter stop previous hashes) t None → Follows before p.0 t
    → ((q : ℕ) → q ≢ p.0 → (block : Hash) → after.claims q block ≡ before.claims q block) → IsSameSeen (record before { claims = after.claims }) after
    → HearsSeen before after p peer (Cfheaders filter stop previous hashes) t NoReply
claims_hears before after p peer filter stop previous hashes t takes f others stays = (
  (takes.0, refl),
  record {
    watch = stays.watch;
    follows = record {
      chain = stays.chains p.0 ∙ f.chain ∙ ap Some (sym (claims_own filter stop previous hashes t));
      claims = takes.1;
      opens = opens_on before.opens after.opens p.0 (Said (Cfheaders filter stop previous hashes) ∷ t) stays.opens
          (opens_claims before.opens p.0 filter stop previous hashes t f.opens);
    };
    others = λ q ne. stays.chains q;
    claims = others;
    table = λ hash. sym (stays.table hash);
    verdicts = λ block hash. stays.verdicts block hash ∙ none_judged (before.trials.aims p.0) before.watch before.verdicts block hash;
    opens = else_of before.opens after.opens p.0 stays.opens;
    trials = go_none before.trials after.trials p.0 stays.trials;
  },
)

-- a filter that was taken
pub filter_hears : (before after : Seen) (p : PeerNo) (peer : Peer) (filter : ℕ) (block : Hash32) (bytes : List ℕ) (jobs : List Job) (t : Trail)
    → Holds peer (Said (Cfilter filter block bytes) ∷ t) → given_by (Cfilter filter block bytes) (request t) ≡ jobs → Follows before p.0 t → after.watch ≡ before.watch → ((q : ℕ) → after.chains q ≡ before.chains q)
    → IsSameTables before.claims after.claims → IsSameTable after.table before.table → AreSameVerdicts after.verdicts (judged_if (before.trials.aims p.0) before.watch jobs before.verdicts)
    → OpensAt after.opens p.0 (Said (Cfilter filter block bytes) ∷ t) → IsSameElse before.opens after.opens p.0 → TrialsGo before.trials after.trials p.0 [] jobs
    → HearsSeen before after p peer (Cfilter filter block bytes) t NoReply
filter_hears before after p peer filter block bytes jobs t h gives f watch chains claims table verdicts opens others trials = (
  (h, refl),
  subst (λ (js : List Job). Gains before after p (Said (Cfilter filter block bytes) ∷ t) [] js) (sym gives) (record {
    watch = watch;
    follows = record {
      chain = chains p.0 ∙ f.chain ∙ ap Some (sym (filter_own filter block bytes t));
      claims = λ b. claims p.0 b ∙ f.claims b;
      opens = opens;
    };
    others = λ q ne. chains q;
    claims = λ q ne b. claims q b;
    table = table;
    verdicts = verdicts;
    opens = others;
    trials = trials;
  }),
)

-- headers that come before the handshake is over
pub early_hears : (seen : Seen) (p : PeerNo) (peer : Peer) (hs : List Header) (t : Trail) → Holds peer t → is_ready_peer peer ≡ false → Follows seen p.0 t
    → HearsSeen seen seen p peer (Headers hs) t NoReply
early_hears seen p peer hs t h early f = (
  (early_headers peer hs t h early, refl),
  gains_none seen p (Said (Headers hs) ∷ t)
      (follows_on seen p.0 (Headers hs) t (early_own peer hs t h early) (λ block. refl) (opens_headers seen.opens p.0 hs t f.opens) f),
)

-- what headers do to the chain that is kept they do to the own chain
pub change_own : {o : Option Chain} {own : Chain} (hs : List Header) (change : Change)
    → change ≡ change_of (link_height hs (unwrap_or o [])) (accept hs (unwrap_or o [])) → o ≡ Some own
    → change ≡ change_of (link_height hs own) (accept hs own)
change_own hs change answer is =
    answer ∙ ap (λ (o : Option Chain). change_of (link_height hs (unwrap_or o [])) (accept hs (unwrap_or o []))) is

-- headers that were taken
pub headers_hears : (before after : Seen) (p : PeerNo) (peer : Peer) (hs : List Header) (t : Trail) → Holds peer (Said (Headers hs) ∷ t) → ready t ≡ true
    → Puts before.chains after.chains p (Some (chain_after (accept hs (own_of before.chains p)) (own_of before.chains p))) → Follows before p.0 t
    → IsSameSeen (record before { chains = after.chains }) after → HearsSeen before after p peer (Headers hs) t NoReply
headers_hears before after p peer hs t h over puts f stays =
    let mine : own_of before.chains p ≡ own t = ap (λ (o : Option Chain). unwrap_or o []) f.chain in (
      (h, refl),
      record {
        watch = stays.watch;
        follows = record {
          chain = puts.here ∙ ap (λ (c : Chain). Some (chain_after (accept hs c) c)) mine ∙ ap Some (sym (same_longer (accept hs (own t)) (own t)))
              ∙ ap Some (sym (ap (λ (b : Bool). if b then longer_of (accept hs (own t)) (own t) else own t) over));
          claims = λ block. stays.claims p.0 block ∙ f.claims block;
          opens = opens_on before.opens after.opens p.0 (Said (Headers hs) ∷ t) stays.opens (opens_headers before.opens p.0 hs t f.opens);
        };
        others = puts.others;
        claims = λ q ne block. stays.claims q block;
        table = λ hash. sym (stays.table hash);
        verdicts = λ block hash. stays.verdicts block hash ∙ none_judged (before.trials.aims p.0) before.watch before.verdicts block hash;
        opens = else_of before.opens after.opens p.0 stays.opens;
        trials = go_none before.trials after.trials p.0 stays.trials;
      },
    )

-- headers for which it is closed: its chain stays
fault_same : (a : Accepted) (own : Chain) (cause : Cause) → fault_in a ≡ Some cause → chain_after a own ≡ own
fault_same (Longer next) own cause e = cc
fault_same NoLonger own cause e = refl
fault_same Unlinked own cause e = refl
fault_same (Invalid place fault) own cause e = refl
fault_same TooHigh own cause e = refl

pub headers_end : (before after : Seen) (p : PeerNo) (old peer : Peer) (hs : List Header) (t : Trail) (cause : Cause) → Holds old t → ready t ≡ true
    → verdict (Said (Headers hs) ∷ t) ≡ Some cause
    → Puts before.chains after.chains p (Some (chain_after (accept hs (own_of before.chains p)) (own_of before.chains p))) → Follows before p.0 t
    → IsSameSeen (record before { chains = after.chains }) after → HearsSeen before after p peer (Headers hs) t (Close cause)
headers_end before after p old peer hs t cause holds over gives puts f stays =
    let mine : own_of before.chains p ≡ own t = ap (λ (o : Option Chain). unwrap_or o []) f.chain in
    let fault : fault_in (accept hs (own t)) ≡ Some cause =
    sym (ap (λ (b : Bool). if b then fault_in (accept hs (own t)) else None) over) ∙ sym (ap (λ (o : Option Cause). first o (fault_of (Headers hs) t)) holds.clean) ∙ gives in
    let here : after.chains p.0 ≡ before.chains p.0 =
    puts.here ∙ ap (λ (c : Chain). Some (chain_after (accept hs c) c)) mine ∙ ap Some (fault_same (accept hs (own t)) (own t) cause fault) ∙ sym f.chain in (
      gives,
      record {
        watch = stays.watch;
        chains = λ q. elim (cases_eq q p.0) [
          | inl is ↦ subst (λ (k : ℕ). after.chains k ≡ before.chains k) (sym is) here
          | inr ne ↦ puts.others q ne
        ];
        claims = stays.claims;
        table = stays.table;
        verdicts = stays.verdicts;
        opens = stays.opens;
        trials = stays.trials;
        written = stays.written;
      },
    )

-- a message that is lent, and has to do with nothing that is kept beside the peer
pub plain_lent : (v : View) → ((hs : List Header) → v ≡ lents.Headers hs → ⊥) → ((b : Block) → v ≡ lents.Block b → ⊥)
    → ((filter : ℕ) (block : Hash32) (bytes : List ℕ) → v ≡ lents.Cfilter filter block bytes → ⊥)
    → ((filter : ℕ) (stop previous : Hash32) (hashes : List Hash32) → v ≡ lents.Cfheaders filter stop previous hashes → ⊥)
    → ((entries : List Inventory) → v ≡ lents.Inv entries → ⊥)
    → is_plain (msg_of v) ≡ true
plain_lent (lents.Headers hs) headers block filter claims news = absurd (headers hs refl)
plain_lent (lents.Block b) headers block filter claims news = absurd (block b refl)
plain_lent (lents.Cfilter f b y) headers block filter claims news = absurd (filter f b y refl)
plain_lent (lents.Cfheaders f s p hs) headers block filter claims news = absurd (claims f s p hs refl)
plain_lent (lents.Inv entries) headers block filter claims news = absurd (news entries refl)
plain_lent v headers block filter claims news = refl

plain_given : (m : Msg) (r : OpenRequest) → is_plain m ≡ true → given_by m r ≡ []
plain_given (Cfilter filter block bytes) r plain = cc plain
plain_given m r plain = refl

plain_claims : (m : Msg) (r : OpenRequest) (table : dispute.Table) → is_plain m ≡ true → claims_after m r table ≡ table
plain_claims (Cfheaders filter stop previous hashes) r table plain = cc plain
plain_claims m r table plain = refl

gains_plain : (seen : Seen) (p : PeerNo) (m : Msg) (t : Trail) → is_plain m ≡ true → Follows seen p.0 t
    → Gains seen seen p (Said m ∷ t) (fetched_by m (request t)) (given_by m (request t))
gains_plain seen p m t plain f =
    let said = plain_said m t plain in
    subst (λ (bs : List Block). Gains seen seen p (Said m ∷ t) bs (given_by m (request t))) (sym said.1)
    (subst (λ (js : List Job). Gains seen seen p (Said m ∷ t) [] js) (sym (plain_given m (request t) plain))
    (gains_none seen p (Said m ∷ t)
    (follows_on seen p.0 m t said.0 (λ block. ap (λ (c : dispute.Table). c block) (plain_claims m (request t) (claims t) plain))
    (opens_plain seen.opens p.0 m t plain f.opens) f)))

pub plain_hears : (seen : Seen) (p : PeerNo) (peer : Peer) (m : Msg) (t : Trail) (r : Reaction) → is_plain m ≡ true → Hears peer m t r → Follows seen p.0 t
    → HearsSeen seen seen p peer m t r
plain_hears seen p peer m t NoReply plain hears f = (hears, gains_plain seen p m t plain f)
plain_hears seen p peer m t (Send reply) plain hears f = (hears, gains_plain seen p m t plain f)
plain_hears seen p peer m t (Close cause) plain hears f = (hears, same_seen seen)
plain_hears seen p peer m t (Expose block filter) plain hears f = absurd hears

-- what p tells of blocks changes no chain, and of what is kept beside the peer nothing
news_own : (entries : List Inventory) (t : Trail) → own (Said (Inv entries) ∷ t) ≡ own t
news_own entries t = alike (ready t) (own t) where
  alike : (x : Bool) (chain : Chain) → (if x then chain else chain) ≡ chain
  alike true chain = refl
  alike false chain = refl

pub news_hears : (seen : Seen) (p : PeerNo) (peer : Peer) (entries : List Inventory) (t : Trail)
    → Holds peer (Said (Inv entries) ∷ t) → Follows seen p.0 t → HearsSeen seen seen p peer (Inv entries) t NoReply
news_hears seen p peer entries t h f = (
  (h, refl),
  gains_none seen p (Said (Inv entries) ∷ t)
      (follows_on seen p.0 (Inv entries) t (news_own entries t) (λ block. refl) (opens_news seen.opens p.0 entries t f.opens) f),
)

-- what is unknown on the chain that is kept of p is so on its own
pub unknown_by : (seen : Seen) (p : PeerNo) (entries : List Inventory) (t : Trail) (unknown : Bool) → Follows seen p.0 t
    → unknown ≡ list_any (is_unknown (own_of seen.chains p)) entries → unknown ≡ list_any (is_unknown (own t)) entries
unknown_by seen p entries t unknown f e =
    e ∙ ap (λ (o : Option Chain). list_any (is_unknown (unwrap_or o [])) entries) f.chain

-- a hash that stands at no height of a chain isn't led back to by it
pub is_unplaced : (place : Option ℕ) (off : Bool) (hash : Hash) (chain : Chain) → place ≡ height_of hash chain
    → is_some place ≡ not off → off ≡ is_none (back_to hash chain)
is_unplaced place off hash chain e is = by off (back_to hash chain) (sym (ap is_some e) ∙ is) where
  by : (r : Bool) (o : Option Chain) → is_some (option_map length o) ≡ not r → r ≡ is_none o
  by true None f = refl
  by false None f = cc f
  by true (Some part) f = cc f
  by false (Some part) f = refl

-- what a message that was read does to the peer and to what was seen
pub hears_next : (before after : Seen) (p : PeerNo) (bytes rest : List ℕ) (new : Peer) (m : Msg) (t : Trail) (r : Reaction)
    → part_after (read_stream bytes) t ≡ part_after (read_stream rest) (Said m ∷ t) → HearsSeen before after p new m t r
    → HearsNext before after p bytes rest new t (Some r)
hears_next before after p bytes rest new m t NoReply leads h =
    record { message = m; leads = leads; holds = h.0.0; owes = h.0.1; gains = h.1 }
hears_next before after p bytes rest new m t (Send reply) leads h =
    record { message = m; leads = leads; holds = h.0.0; owes = h.0.1; gains = h.1 }
hears_next before after p bytes rest new m t (Close cause) leads h = record {
  faulty = subst (λ (x : Part). Faulty t x.trail cause) (sym leads) (faulty_said (read_stream rest) m cause t h.0);
  same = h.1;
}
hears_next before after p bytes rest new m t (Expose block filter) leads h = record {
  advances = record { message = m; leads = leads; holds = h.0.0; owes = h.0.1; gains = h.1 };
  idle = h.2.0;
  exposed = h.2.1;
}

-- a message by which p may be exposed
pub may_expose : (before after : Seen) (p : PeerNo) (peer : Peer) (m : Msg) (t : Trail) (blocks : List Hash) (r : Reaction) → request (Said m ∷ t) ≡ NothingOpen
    → ExposesAmong after p.0 blocks r → HearsSeen before after p peer m t NoReply → HearsSeen before after p peer m t r
may_expose before after p peer m t blocks NoReply idle among h = h
may_expose before after p peer m t blocks (Send reply) idle among h = absurd among
may_expose before after p peer m t blocks (Close cause) idle among h = absurd among
may_expose before after p peer m t blocks (Expose block filter) idle among h = (h.0, h.1, (idle, among))

-- ---- bytes of a piece that go to the framer

-- no more are taken than there are
pub taken_within : (bytes piece : List ℕ) (n : ℕ) → IsFilled bytes piece n → n ≤ length piece
taken_within bytes piece n so = so.within

-- those that were taken of it, and those that are left
pub taken_joined : (bytes piece fed left : List ℕ) (n : ℕ) → fed ≡ bytes ++ take n piece → left ≡ drop n piece
    → fed ++ left ≡ bytes ++ piece
taken_joined bytes piece fed left n is rest =
    ap (λ (l : List ℕ). l ++ left) is
    ∙ append_assoc bytes (take n piece) left
    ∙ ap (λ (l : List ℕ). bytes ++ l) (ap (λ (l : List ℕ). take n piece ++ l) rest ∙ take-append-drop n piece)

none_of : (xs : List ℕ) → length xs ≡ 0 → xs ≡ []
none_of [] e = refl
none_of (x ∷ xs) e = absurd (omega (arith, e))

left_none : (piece left : List ℕ) (n : ℕ) → take n piece ≡ piece → take n piece ++ left ≡ piece → left ≡ []
left_none piece left n all both =
    none_of left (omega (arith, ap length all, ap length both, length-append (take n piece) left))

-- where no whole frame waits then, nothing is left
pub taken_all : (bytes piece fed left : List ℕ) (n : ℕ) → IsFilled bytes piece n → fed ≡ bytes ++ take n piece
    → left ≡ drop n piece → front_of fed ≡ Ok None → left ≡ []
taken_all bytes piece fed left n so is rest front =
    rest
    ∙ left_none piece (drop n piece) n (all_taken bytes piece n so (ap front_of (sym is) ∙ front)) (take-append-drop n piece)

-- the frame at the front of the bytes, once some of the piece were taken
pub taken_leads : (bytes fed left new : List ℕ) (m : Msg) (t : Trail) → fed ++ left ≡ bytes
    → part_after (read_stream (fed ++ left)) t ≡ part_after (read_stream (after_frame fed ++ left)) (Said m ∷ t)
    → new ≡ after_frame fed → part_after (read_stream bytes) t ≡ part_after (read_stream (new ++ left)) (Said m ∷ t)
taken_leads bytes fed left new m t joined reads done =
    ap (λ (l : List ℕ). part_after (read_stream l) t) (sym joined)
    ∙ reads
    ∙ ap (λ (l : List ℕ). part_after (read_stream (l ++ left)) (Said m ∷ t)) (sym done)

pub taken_waits : (bytes fed left : List ℕ) (t : Trail) → fed ++ left ≡ bytes → left ≡ [] → front_of fed ≡ Ok None
    → part_after (read_stream bytes) t ≡ record { trail = t; waits = fed ++ left }
taken_waits bytes fed left t joined none front =
    let whole : fed ++ left ≡ fed = ap (λ (l : List ℕ). fed ++ l) none ∙ append-nil fed in
    ap (λ (l : List ℕ). part_after (read_stream l) t) (sym joined) ∙ waits_says (fed ++ left) t (ap front_of whole ∙ front)

pub taken_stops : (seen : Seen) (bytes fed left : List ℕ) (t : Trail) (cause : Cause) → fed ++ left ≡ bytes
    → Faulty t (part_after (read_stream (fed ++ left)) t).trail cause → Stops seen seen bytes t cause
taken_stops seen bytes fed left t cause joined faulty = record {
  faulty = subst (λ (l : List ℕ). Faulty t (part_after (read_stream l) t).trail cause) joined faulty;
  same = same_seen seen;
}

-- a frame was taken, and is done with: fewer bytes are left
pub taken_fewer : (bytes fed left new : List ℕ) → fed ++ left ≡ bytes → HasFrame fed → new ≡ after_frame fed
    → length (new ++ left) < length bytes
taken_fewer bytes fed left new joined has done =
    omega (arith, done_shorter fed has, ap length done, ap length joined, length-append new left, length-append fed left)

-- ---- a piece

all_with : (rs : List Msg) (r : Msg) → AllByRecursion IsReply rs → IsReply r → AllByRecursion IsReply (rs ++ r ∷ [])
all_with [] r h is = (is, tt)
all_with (x ∷ rs) r h is = (h.0, all_with rs r h.1 is)

met_after : (m : Msg) (rs : List Msg) (t : Trail) → (rs ≡ []) ⊎ (has_version t ≡ true) → (rs ≡ []) ⊎ (has_version (Said m ∷ t) ≡ true)
met_after m rs t (inl none) = inl none
met_after m rs t (inr is) = inr (said_met m t is)

-- the blocks that a message brought, and those before it
brings_said : (peer : Peer) (m : Msg) (start t : Trail) (news : List Block) → Holds peer (Said m ∷ t) → Brings start t news → Brings start (Said m ∷ t) (fetched_by m (request t) ++ news)
brings_said peer m start t news h is =
    said_brings m t h.on h.clean ∙ ap (λ (bs : List Block). fetched_by m (request t) ++ bs) is ∙ sym (append_assoc (fetched_by m (request t)) news (fetched_blocks (counted start)))

-- the filters that a message gave, and those before it
gives_said : (peer : Peer) (m : Msg) (start t : Trail) (news : List Block) (jobs : List Job) → Holds peer (Said m ∷ t) → ((news ≡ []) × (jobs ≡ [])) ⊎ (request t ≡ NothingOpen)
    → Gives start t jobs → Gives start (Said m ∷ t) (jobs ++ given_by m (request t))
gives_said peer m start t news jobs h idle is =
    said_gives m t h.on h.clean ∙ ap (λ (js : List Job). given_by m (request t) ++ js) is
    ∙ gives_on (given_by m (request t)) jobs (given_filters (counted start))
    (one_empty news (fetched_by m (request t)) jobs (given_by m (request t)) (once_by m (request t) news jobs idle))

-- nothing of the piece was taken yet
pub midway_start : (p : PeerNo) (peer : Peer) (waits : List ℕ) (seen : Seen) (acts : List Act) (piece : List ℕ) (start : Part)
    → Holds peer start.trail → waits ≡ start.waits → Follows seen p.0 start.trail
    → Midway p peer (waits ++ piece) seen seen acts acts start (heard_part piece start)
midway_start p peer waits seen acts piece start holds e f = record {
  so_far = start.trail;
  replies = [];
  acts = sym (append-nil acts);
  are = record { each = tt; after_version = inl refl };
  holds = holds;
  leads = ap (λ (w : List ℕ). part_after (read_stream (w ++ piece)) start.trail) e;
  owes = sym (append-nil (replies_owed start.trail));
  news = [];
  brings = refl;
  jobs = [];
  gives = refl;
  gains = gains_none seen p start.trail f;
  idle = inl (refl, refl);
}

-- one more message was taken, and these replies were added
midway_on : (p : PeerNo) (old new : Peer) (bytes rest : List ℕ) (seen now next : Seen) (before acts more : List Act)
    (start end : Part) (added : List Msg) (midway : Midway p old bytes seen now before acts start end)
    → (moves : Advances now next p bytes rest new midway.so_far added)
    → AreReplies (midway.replies ++ added) (Said moves.message ∷ midway.so_far)
    → more ≡ acts ++ map (λ (m : Msg). SendTo p m) added → Midway p new rest seen next before more start end
midway_on p old new bytes rest seen now next before acts more start end added midway moves are e =
    let send : Msg → Act = λ m. SendTo p m in
    record {
      so_far = Said moves.message ∷ midway.so_far;
      replies = midway.replies ++ added;
      acts = e ∙ ap (λ (xs : List Act). xs ++ map send added) midway.acts
          ∙ append_assoc before (map send midway.replies) (map send added)
          ∙ ap (λ (xs : List Act). before ++ xs) (sym (map-append send midway.replies added));
      are = are;
      holds = moves.holds;
      leads = sym moves.leads ∙ midway.leads;
      owes = ap (λ (rs : List Msg). replies_owed midway.so_far ++ rs) moves.owes
          ∙ ap (λ (rs : List Msg). rs ++ added) midway.owes ∙ append_assoc (replies_owed start.trail) midway.replies added;
      news = fetched_by moves.message (request midway.so_far) ++ midway.news;
      brings = brings_said new moves.message start.trail midway.so_far midway.news moves.holds midway.brings;
      jobs = midway.jobs ++ given_by moves.message (request midway.so_far);
      gives = gives_said new moves.message start.trail midway.so_far midway.news midway.jobs moves.holds midway.idle midway.gives;
      gains = gains_then seen now next p midway.so_far (Said moves.message ∷ midway.so_far) midway.news (fetched_by moves.message (request midway.so_far)) midway.jobs (given_by moves.message (request midway.so_far))
          (once_by moves.message (request midway.so_far) midway.news midway.jobs midway.idle) midway.gains moves.gains;
      idle = idle_by moves.message (request midway.so_far) midway.news midway.jobs midway.idle;
    }

pub midway_quiet : (p : PeerNo) (old new : Peer) (bytes rest : List ℕ) (seen now next : Seen) (before acts : List Act)
    (start end : Part) (midway : Midway p old bytes seen now before acts start end)
    → Advances now next p bytes rest new midway.so_far [] → Midway p new rest seen next before acts start end
midway_quiet p old new bytes rest seen now next before acts start end midway moves =
    midway_on p old new bytes rest seen now next before acts acts start end [] midway moves
    (subst (λ (rs : List Msg). AreReplies rs (Said moves.message ∷ midway.so_far)) (sym (append-nil midway.replies)) (record {
      each = midway.are.each;
      after_version = met_after moves.message midway.replies midway.so_far midway.are.after_version;
    }))
    (sym (append-nil acts))

pub midway_reply : (p : PeerNo) (old new : Peer) (bytes rest : List ℕ) (seen now next : Seen) (before acts more : List Act)
    (start end : Part) (r : Msg) (midway : Midway p old bytes seen now before acts start end)
    → Advances now next p bytes rest new midway.so_far (r ∷ []) → more ≡ acts ++ SendTo p r ∷ []
    → Midway p new rest seen next before more start end
midway_reply p old new bytes rest seen now next before acts more start end r midway moves e =
    let is = reply_is moves.message r midway.so_far moves.owes in
    midway_on p old new bytes rest seen now next before acts more start end (r ∷ []) midway moves
    (record { each = all_with midway.replies r midway.are.each is.0; after_version = inr is.1 }) e

met_end : (rs : List Msg) (t end : Trail) → (has_version t ≡ true → has_version end ≡ true) → (rs ≡ []) ⊎ (has_version t ≡ true) → (rs ≡ []) ⊎ (has_version end ≡ true)
met_end rs t end known (inl none) = inl none
met_end rs t end known (inr is) = inr (known is)

-- where nobody is exposed the peer claims no filter that was found to lack something
spared_by : (now next : Seen) (p : ℕ) (t end : Trail) (block : Hash) (claim : Claim) → is_connected t ≡ true → verdict t ≡ None → counted end ≡ counted t → Follows now p t
    → IsSameSeen now next → IsUnexposed next → claims (counted end) block ≡ Some claim → next.trials.told block claim.hash.0 ≡ Some true → ⊥
spared_by now next p t end block claim on clean counts f same none mine found = none p block claim.hash.0 (record {
  claimed = record {
    claim = claim;
    mine = same.claims p block ∙ f.claims block ∙ sym (ap (λ (c : dispute.Table). c block) (same_use t on clean).claiming)
        ∙ sym (ap (λ (u : Trail). claims u block) counts) ∙ mine;
    this = refl;
  };
  found = found;
})

pub midway_fault : (p : PeerNo) (old : Peer) (bytes : List ℕ) (seen now next : Seen) (before acts : List Act) (start end : Part)
    (cause : Cause) (midway : Midway p old bytes seen now before acts start end)
    → Stops now next bytes midway.so_far cause → (IsUnexposed seen → IsUnexposed next) → HeardFault p seen next before acts start end cause
midway_fault p old bytes seen now next before acts start end cause midway stops unexposed =
    let faulty = subst (λ (x : Part). Faulty midway.so_far x.trail cause) midway.leads stops.faulty in
    record {
      replies = midway.replies;
      acts = midway.acts;
      are = record { each = midway.are.each; after_version = met_end midway.replies midway.so_far end.trail faulty.known midway.are.after_version };
      first = faulty.first;
      owes = ap replies_owed faulty.counts ∙ (same_use midway.so_far midway.holds.on midway.holds.clean).owing ∙ midway.owes;
      news = midway.news;
      brings = faulty.same ∙ midway.brings;
      jobs = midway.jobs;
      gives = faulty.same_given ∙ midway.gives;
      kept = gains_retains seen now next p midway.so_far midway.news midway.jobs midway.gains stops.same;
      spared = λ none block claim. spared_by now next p.0 midway.so_far end.trail block claim midway.holds.on midway.holds.clean faulty.counts
          midway.gains.follows stops.same (unexposed none);
    }

-- a message exposes the peer
pub midway_exposed : (p : PeerNo) (old new : Peer) (bytes rest : List ℕ) (seen now next : Seen) (before acts : List Act) (start end : Part) (block filter : Hash)
    (midway : Midway p old bytes seen now before acts start end)
    → Reveals now next p bytes rest new midway.so_far block filter → HeardExposed p seen next before acts start end block filter
unfolding midway_quiet midway_on
midway_exposed p old new bytes rest seen now next before acts start end block filter midway reveals =
    let more = midway_quiet p old new bytes rest seen now next before acts start end midway reveals.advances in
    record {
      so_far = more.so_far;
      replies = more.replies;
      acts = more.acts;
      are = more.are;
      on = more.holds.on;
      clean = more.holds.clean;
      idle = reveals.idle;
      later = rest;
      leads = more.leads;
      owes = more.owes;
      news = more.news;
      brings = more.brings;
      jobs = more.jobs;
      gives = more.gives;
      gains = more.gains;
      exposed = reveals.exposed;
    }

-- the framer is taken out of the peer for a piece, and put back
pub put_back : (r : Result (Option HearStop) NoMemory) (p : PeerNo) (old taken now new : Peer) (fed waits piece : List ℕ)
    (seen next : Seen) (acts more : List Act)
    → taken ≡ record old { framer = [] } → fed ≡ old.framer → new ≡ record now { framer = waits }
    → IfOk r (λ o. (part : Part) → Holds taken part.trail → fed ≡ part.waits → Follows seen p.0 part.trail
    → HeardPiece p (record now { framer = waits }) seen next acts more part (heard_part piece part) o)
    → IfOk r (λ o. (part : Part) → Holds old part.trail → old.framer ≡ part.waits → Follows seen p.0 part.trail
    → HeardPiece p new seen next acts more part (heard_part piece part) o)
put_back (Ok o) p old taken now new fed waits piece seen next acts more out from back h = λ part holds is f.
    subst (λ (x : Peer). HeardPiece p x seen next acts more part (heard_part piece part) o) (sym back)
    (h part (subst (λ (x : Peer). Holds x part.trail) (sym out) (same_holds old [] part.trail holds)) (from ∙ is) f)
put_back (Err e) p old taken now new fed waits piece seen next acts more out from back h = h

-- one act more that can be done
pub doable_with : (p : PeerNo) (m : Msg) (acts more : List Act) → p.0 < 9 → All IsDoable acts → IsSendable m → more ≡ acts ++ SendTo p m ∷ [] → All IsDoable more
doable_with p m acts more number all sendable e = subst (All IsDoable) (sym e) (All-append IsDoable acts (SendTo p m ∷ []) all (All-cons IsDoable (SendTo p m) [] (number, sendable) (All-nil IsDoable)))

-- what was taken of a piece, and what is left of it
pub ruleset taken_so = (taken_within, taken_joined, taken_all)
