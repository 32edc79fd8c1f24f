-- How what was seen goes on with the log.
use Rattle.std.proofs.Common.{◌≡◌, ◌≢◌, inl, inr, ℕ, List, [], ◌∷◌, ◌++◌, Option, Some, None, Bool, true, false, ◌==◌, if◌then◌else◌, refl, sym, ◌∙◌, ap, subst, arith}
use Rattle.std.proofs.lemmas.Grind.{common_steps}
use Rattle.std.proofs.lemmas.Bool.{both_ways, cases_eq}
use Rattle.cf_bytes.specs.declared.peer.PeerNo.{PeerNo}
use Rattle.cf_block.specs.declared.tx.Block.{Block}
use Rattle.cf_dispute.specs.Claims.{no_claims}
use Rattle.cf_dispute.specs.Claims as dispute
use Rattle.cf_headers.specs.Chain.{Hash, Chain, IsIn}
use Rattle.cf_headers.specs.Store.{Puts}
use Rattle.cf_match.specs.Verdicts.{AreSameVerdicts}
use Rattle.cf_msg.specs.declared.msg.Msg.{Msg}
use Rattle.cf_peer.specs.declared.act.Act.{Act}
use Rattle.cf_peer.specs.declared.peer.Cause.{Cause}
use Rattle.cf_peer.specs.declared.peer.Peer.{Peer}
use Rattle.cf_wires.specs.declared.event.Delivery.TheVariants.{Got, Gone, Tick, Ended}
use Rattle.cf_wires.specs.declared.event.Event.TheVariants.{Dialled, NotDialled, Sent, Closed, Took}
use Rattle.cf_wires.specs.declared.event.Mark.TheVariants as mark
use Rattle.cf_wires.specs.Log.{Log}
use Rattle.cf_peer.specs.Trail.{Trail, Part, Asked, Lost, part_of, trail, went_on, asks, spelled, with_item, called_part, heard_part, is_connected, own}
use Rattle.cf_peer.specs.Asking.{NothingOpen, claims, counted, request, fetched_blocks, given_filters, SameUse}
use Rattle.cf_sync.specs.Fetching.{IsConnected, IsFetched, blocks_open, filters_open}
use Rattle.cf_holds.specs.Known.{HoldsFetched, HoldsClaims, HoldsGiven, HoldsOpens, OpensAt, claims_kept}
use Rattle.cf_holds.specs.HeldTests.{AimsAt, HoldsTrials}
use Rattle.cf_sync.specs.Planned.{IsSameGiven}
use Rattle.cf_sync.proofs.Answered.{none_came_same_given}
use Rattle.cf_holds.proofs.KeptAims.{IsNoQuestion, aims_other, trials_piece, trials_same, trials_sent, trials_stay}
use Rattle.cf_holds.proofs.KeptGiven.{verdicts_go}
use Rattle.cf_holds.proofs.KeptOpens.{opens_closed, opens_put}
use Rattle.cf_sync.proofs.Counted.{same_use}
use Rattle.cf_sync.proofs.Deaf.{heard_deaf, heard_on}
use Rattle.cf_holds.proofs.TableGrows.{holds_after_piece}
use Rattle.cf_holds.proofs.VerdictsGrow.{same_given}
use Rattle.cf_seek.specs.Opening.{Closes}
use Rattle.cf_tables.specs.Tables.{IsSameTable}
use Rattle.cf_tables.specs.Known.{ExtractTable}
use Rattle.cf_tables.specs.Claiming.{ForgetsClaims}
use Rattle.cf_hear.specs.Hearing.{HeardWhole, HeardFault, HeardExposed}
use Rattle.cf_tracker.specs.Seen.{Seen, IsSameSeen}
use Rattle.cf_hear.specs.Tracks.{HasOpened, Tracks, IsPut, chain_kept}
use Rattle.cf_hear.proofs.Hearing.{same_seen}
use Rattle.cf_hear.proofs.Trying.{go_on, go_self}
use Rattle.cf_hear.proofs.Opening.{closed_on, closes_off, closes_then, else_by, else_self, holds_by, opens_asked, opens_by, opens_kept, opens_self}

-- ---- what is kept of fetched blocks, where two logs tell of the same

pub same_fetched : (log next : Log) → ((p : ℕ) → fetched_blocks (counted (trail next p)) ≡ fetched_blocks (counted (trail log p))) → (b : Block) → IsFetched log b → IsFetched next b
same_fetched log next same b got = (got.0, subst (λ (bs : List Block). IsIn b bs) (sym (same got.0)) got.1)

pub holds_on : (watch now : List (List ℕ)) (log next : Log) (table new : ExtractTable) → now ≡ watch → IsSameTable new table
    → ((p : ℕ) → fetched_blocks (counted (trail next p)) ≡ fetched_blocks (counted (trail log p))) → HoldsFetched watch log table → HoldsFetched now next new
holds_on watch now log next table new same_watch same_table same h = subst (λ (w : List (List ℕ)). HoldsFetched w next new) (sym same_watch) (record {
  sound = λ hash e is. (let w = h.sound hash e (sym (same_table hash) ∙ is) in (w.0, same_fetched log next same w.0 w.1, w.2, w.3));
  complete = λ hash off got. h.complete hash (sym (same_table hash) ∙ off) (got.0, same_fetched next log (λ p. sym (same p)) got.0 got.1, got.2);
})

-- ---- a log that tells the same, or that p's chain and claims became others, and nothing is open to it

-- the same filters were given
same_gave : (log : Log) → IsSameGiven log log
same_gave log = λ job. (λ gave. gave, λ gave. gave)

-- of each peer the same blocks, and the same filters
pub record IsSameBrought (log next : Log) : Type 0 where
  pub blocks : (q : ℕ) → fetched_blocks (counted (trail next q)) ≡ fetched_blocks (counted (trail log q))
  pub filters : IsSameGiven log next

pub tracks_on : (before after : Seen) (log next : Log) → after.watch ≡ before.watch → IsSameTable after.table before.table → AreSameVerdicts after.verdicts before.verdicts
    → ((q : ℕ) → after.chains q ≡ chain_kept (trail next q)) → HoldsClaims next after.claims → HoldsOpens next after.opens → IsSameBrought log next
    → HoldsTrials next after.trials → Tracks before log → Tracks after next
tracks_on before after log next watch table verdicts kept claimed opened same trials tracks = record {
  kept = kept;
  claimed = claimed;
  fetched = holds_on before.watch after.watch log next before.table after.table watch table same.blocks tracks.fetched;
  given = subst (λ (w : List (List ℕ)). HoldsGiven w next after.verdicts) (sym watch) (same_given before.watch log next before.verdicts after.verdicts same.filters verdicts tracks.given);
  opened = opened;
  trials = trials;
}

-- the log goes on, and no chain changes and no claims
pub tracks_same : (s : Seen) (log next : Log) → ((q : ℕ) → chain_kept (trail next q) ≡ chain_kept (trail log q)) → ((q : ℕ) → claims_kept (trail next q) ≡ claims_kept (trail log q))
    → HoldsOpens next s.opens → IsSameBrought log next → HoldsTrials next s.trials → Tracks s log → Tracks s next
tracks_same s log next chains claims opened same trials tracks =
    tracks_on s s log next refl (λ hash. refl) (λ block hash. refl) (λ q. tracks.kept q ∙ sym (chains q)) (λ q block. tracks.claimed q block ∙ sym (ap (λ (t : dispute.Table). t block) (claims q))) opened same trials tracks

-- p's chain and claims become these, and no others; and nothing is open to it
pub tracks_put : (before after : Seen) (p : ℕ) (own : Option Chain) (table : dispute.Table) (log next : Log) → IsPut before after p own table → own ≡ chain_kept (trail next p) → table ≡ claims_kept (trail next p)
    → (is_connected (trail next p) ≡ true → request (trail next p) ≡ NothingOpen)
    → ((q : ℕ) → q ≢ p → part_of next q ≡ part_of log q) → IsSameBrought log next → HoldsTrials next before.trials → Tracks before log → Tracks after next
tracks_put before after p own table log next put here claims idle others same trials tracks =
    tracks_on before after log next put.stays.watch (λ hash. sym (put.stays.table hash)) put.stays.verdicts
    (λ q. elim (cases_eq q p) [
      | inl is ↦ subst (λ (k : ℕ). after.chains k ≡ chain_kept (trail next k)) (sym is) (put.here ∙ here)
      | inr other ↦ put.others q other ∙ tracks.kept q ∙ sym (ap (λ (x : Part). chain_kept x.trail) (others q other))
    ])
    (λ q block. elim (cases_eq q p) [
      | inl is ↦ subst (λ (k : ℕ). after.claims k block ≡ claims_kept (trail next k) block) (sym is) (put.claims block ∙ ap (λ (t : dispute.Table). t block) claims)
      | inr other ↦ put.claims_others q other block ∙ tracks.claimed q block ∙ sym (ap (λ (x : Part). claims_kept x.trail block) (others q other))
    ])
    (opens_put log next before.opens after.opens p tracks.opened put.opens.others (λ q other. ap (λ (x : Part). x.trail) (others q other))
    (opens_closed before.opens after.opens p (trail next p) put.opens idle)) same
    (trials_same next before.trials after.trials put.stays.trials.paid put.stays.trials.told put.stays.trials.aims trials) tracks

-- by what a tracker's calls say: a peer is forgotten; one that claims nothing is entered
pub put_forgotten : (before last : Seen) (p : PeerNo) → Puts before.chains last.chains p None
    → ForgetsClaims before.claims last.claims p.0 → Closes before.opens last.opens p.0
    → IsSameSeen (record before { chains = last.chains; claims = last.claims; opens = last.opens }) last
    → IsPut before last p.0 None no_claims
put_forgotten before last p puts claims closes stays = record {
  here = puts.here;
  others = puts.others;
  claims = claims.gone;
  claims_others = claims.others;
  opens = closes;
  stays = stays;
}

pub put_entered : (before last : Seen) (p : PeerNo) → Puts before.chains last.chains p (Some [])
    → ((block : Hash) → before.claims p.0 block ≡ None) → Closes before.opens before.opens p.0
    → IsSameSeen (record before { chains = last.chains }) last → IsPut before last p.0 (Some []) no_claims
put_entered before last p puts none idle stays = record {
  here = puts.here;
  others = puts.others;
  claims = λ block. stays.claims p.0 block ∙ none block;
  claims_others = λ q ne block. stays.claims q block;
  opens = closed_on before.opens last.opens p.0 stays.opens idle;
  stays = record {
    watch = stays.watch;
    chains = λ q. refl;
    claims = λ q block. refl;
    table = stays.table;
    verdicts = stays.verdicts;
    opens = opens_self last.opens;
    trials = stays.trials;
    written = stays.written;
  };
}

-- ---- the entries

brought_at : (log next : Log) (p : ℕ) → ((q : ℕ) → q ≢ p → part_of next q ≡ part_of log q) → fetched_blocks (counted (trail next p)) ≡ fetched_blocks (counted (trail log p)) → IsSameGiven log next → IsSameBrought log next
brought_at log next p others blocks filters = record {
  blocks = λ q. elim (cases_eq q p) [
    | inl is ↦ subst (λ (k : ℕ). fetched_blocks (counted (trail next k)) ≡ fetched_blocks (counted (trail log k))) (sym is) blocks
    | inr other ↦ ap (λ (x : Part). fetched_blocks (counted x.trail)) (others q other)
  ];
  filters = filters;
}

-- p is lost, in whatever way, and nothing else
pub tracks_lost : (before after : Seen) (p : PeerNo) (log next : Log) → IsPut before after p.0 None no_claims → is_connected (trail next p.0) ≡ false → ((q : ℕ) → q ≢ p.0 → part_of next q ≡ part_of log q)
    → fetched_blocks (counted (trail next p.0)) ≡ fetched_blocks (counted (trail log p.0)) → IsSameGiven log next → HoldsTrials next before.trials → Tracks before log → Tracks after next
tracks_lost before after p log next put off others blocks filters trials tracks =
    tracks_put before after p.0 None no_claims log next put
    (sym (ap (λ (b : Bool). if b then Some (own (trail next p.0)) else None) off)) (sym (ap (λ (b : Bool). if b then claims (counted (trail next p.0)) else no_claims) off))
    (λ on. absurd (both_ways (is_connected (trail next p.0)) off on)) others (brought_at log next p.0 others blocks filters) trials tracks

closed_here : (p : PeerNo) (part : Part) → went_on (Closed p) p.0 part ≡ with_item (Lost mark.Closed) part
closed_here p part = grind (arith, common_steps)

closed_others : (p : PeerNo) (q : ℕ) (part : Part) → q ≢ p.0 → went_on (Closed p) q part ≡ part
closed_others p q part ne = grind (arith, common_steps)

pub tracks_closed : (before after : Seen) (p : PeerNo) (log : Log) → IsPut before after p.0 None no_claims → Tracks before log → Tracks after (Closed p ∷ log)
tracks_closed before after p log put tracks =
    let here = closed_here p (part_of log p.0) in
    tracks_lost before after p log (Closed p ∷ log) put (ap (λ (x : Part). is_connected x.trail) here) (λ q other. closed_others p q (part_of log q) other)
    (ap (λ (x : Part). fetched_blocks (counted x.trail)) here) (same_gave log) (trials_stay (Closed p) log before.trials tt tt tracks.trials) tracks

gone_here : (p : PeerNo) (part : Part) → went_on (Took (Gone p)) p.0 part ≡ with_item (Lost mark.Gone) part
gone_here p part = grind (arith, common_steps)

gone_others : (p : PeerNo) (q : ℕ) (part : Part) → q ≢ p.0 → went_on (Took (Gone p)) q part ≡ part
gone_others p q part ne = grind (arith, common_steps)

pub tracks_gone : (before after : Seen) (p : PeerNo) (log : Log) → IsPut before after p.0 None no_claims → Tracks before log → Tracks after (Took (Gone p) ∷ log)
tracks_gone before after p log put tracks =
    let here = gone_here p (part_of log p.0) in
    tracks_lost before after p log (Took (Gone p) ∷ log) put (ap (λ (x : Part). is_connected x.trail) here) (λ q other. gone_others p q (part_of log q) other)
    (ap (λ (x : Part). fetched_blocks (counted x.trail)) here) (same_gave log) (trials_stay (Took (Gone p)) log before.trials tt tt tracks.trials) tracks

called_here : (p : PeerNo) (name : List ℕ) (part : Part) → went_on (Dialled p name) p.0 part ≡ called_part part
called_here p name part = grind (arith, common_steps)

called_others : (p : PeerNo) (name : List ℕ) (q : ℕ) (part : Part) → q ≢ p.0 → went_on (Dialled p name) q part ≡ part
called_others p name q part ne = grind (arith, common_steps)

pub tracks_dialled : (before after : Seen) (p : PeerNo) (name : List ℕ) (log : Log) → IsPut before after p.0 (Some []) no_claims → Tracks before log → Tracks after (Dialled p name ∷ log)
tracks_dialled before after p name log put tracks =
    let here = called_here p name (part_of log p.0) in
    let next = Dialled p name ∷ log in
    tracks_put before after p.0 (Some []) no_claims log next put (sym (ap (λ (x : Part). chain_kept x.trail) here)) (sym (ap (λ (x : Part). claims_kept x.trail) here))
    (λ on. ap (λ (x : Part). request x.trail) here) (λ q other. called_others p name q (part_of log q) other)
    (brought_at log next p.0 (λ q other. called_others p name q (part_of log q) other) (ap (λ (x : Part). fetched_blocks (counted x.trail)) here) (same_gave log))
    (trials_stay (Dialled p name) log before.trials tt tt tracks.trials) tracks

-- what is sent changes nothing that is kept
asked_same : (A : Type 0) (f : Trail → A) (o : Option Msg) (t : Trail) → ((m : Msg) → f (asks (Some m) t) ≡ f t) → f (asks o t) ≡ f t
asked_same A f None t some = refl
asked_same A f (Some m) t some = some m

sent_same : (A : Type 0) (f : Trail → A) (p : PeerNo) (bytes : List ℕ) (log : Log) (q : ℕ) → ((m : Msg) → f (asks (Some m) (trail log q)) ≡ f (trail log q)) → f (trail (Sent p bytes ∷ log) q) ≡ f (trail log q)
sent_same A f p bytes log q some = by (p.0 == q) where
  by : (b : Bool) → f (if b then record (part_of log q) { trail = asks (spelled bytes) (trail log q) } else part_of log q).trail ≡ f (trail log q)
  by true = asked_same A f (spelled bytes) (trail log q) some
  by false = refl

sent_here : (p : PeerNo) (bytes : List ℕ) (part : Part) → went_on (Sent p bytes) p.0 part ≡ record part { trail = asks (spelled bytes) part.trail }
sent_here p bytes part = grind (arith, common_steps)

sent_others : (p : PeerNo) (bytes : List ℕ) (q : ℕ) (part : Part) → q ≢ p.0 → went_on (Sent p bytes) q part ≡ part
sent_others p bytes q part ne = grind (arith, common_steps)

-- a message was sent, and what is kept of it is open to p
pub tracks_asked : (before after : Seen) (p : PeerNo) (bytes : List ℕ) (log : Log) → HasOpened before after p.0 → OpensAt after.opens p.0 (asks (spelled bytes) (trail log p.0))
    → (IsConnected log p.0 → AimsAt (Sent p bytes ∷ log) p.0 (after.trials.aims p.0)) → Tracks before log → Tracks after (Sent p bytes ∷ log)
tracks_asked before after p bytes log same at aim tracks =
    let next = Sent p bytes ∷ log in
    tracks_on before after log next same.stays.watch (λ hash. sym (same.stays.table hash)) same.stays.verdicts
    (λ q. same.stays.chains q ∙ tracks.kept q ∙ sym (sent_same (Option Chain) chain_kept p bytes log q (λ m. refl)))
    (λ q block. same.stays.claims q block ∙ tracks.claimed q block ∙ sym (ap (λ (t : dispute.Table). t block) (sent_same dispute.Table claims_kept p bytes log q (λ m. refl))))
    (opens_put log next before.opens after.opens p.0 tracks.opened same.opens (λ q ne. ap (λ (x : Part). x.trail) (sent_others p bytes q (part_of log q) ne))
    (subst (OpensAt after.opens p.0) (sym (ap (λ (x : Part). x.trail) (sent_here p bytes (part_of log p.0)))) at))
    (record {
      blocks = λ q. sent_same (List Block) (λ t. fetched_blocks (counted t)) p bytes log q (λ m. refl);
      filters = same_gave log;
    }) (trials_sent p bytes log before.trials after.trials same.stays.trials.paid same.stays.trials.told same.aims aim tracks.trials) tracks

pub opened_self : (s : Seen) (p : ℕ) → HasOpened s s p
opened_self s p = record {
  opens = else_self s.opens p;
  more = record { filters = λ q block off. off; blocks = λ q block off. off };
  aims = λ q ne. refl;
  stays = same_seen s;
}

-- a message that asks for neither filters nor a block
pub tracks_sent : (s : Seen) (p : PeerNo) (bytes : List ℕ) (m : Msg) (log : Log) → spelled bytes ≡ Some m
    → filters_open (request (Asked m ∷ trail log p.0)) ≡ filters_open (request (trail log p.0)) → blocks_open (request (Asked m ∷ trail log p.0)) ≡ blocks_open (request (trail log p.0))
    → IsNoQuestion (Some m) → Tracks s log → Tracks s (Sent p bytes ∷ log)
tracks_sent s p bytes m log is filters blocks none tracks =
    tracks_asked s s p bytes log (opened_self s p.0)
    (subst (λ (o : Option Msg). OpensAt s.opens p.0 (asks o (trail log p.0))) (sym is) (opens_asked s.opens p.0 m (trail log p.0) filters blocks (tracks.opened p.0)))
    (λ on. aims_other p bytes log (Some m) (s.trials.aims p.0) is none (tracks.trials.aims p.0 on)) tracks

pub tracks_tick : (s : Seen) (seconds : ℕ) (log : Log) → Tracks s log → Tracks s (Took (Tick seconds) ∷ log)
tracks_tick s seconds log tracks =
    tracks_same s log (Took (Tick seconds) ∷ log) (λ q. refl) (λ q. refl) (λ q. opens_kept s.opens q (trail log q) (trail (Took (Tick seconds) ∷ log) q) refl refl (tracks.opened q))
    (record { blocks = λ q. refl; filters = same_gave log }) (trials_stay (Took (Tick seconds)) log s.trials tt tt tracks.trials) tracks

pub tracks_ended : (s : Seen) (log : Log) → Tracks s log → Tracks s (Took Ended ∷ log)
tracks_ended s log tracks =
    tracks_same s log (Took Ended ∷ log) (λ q. refl) (λ q. refl) (λ q. opens_kept s.opens q (trail log q) (trail (Took Ended ∷ log) q) refl refl (tracks.opened q))
    (record { blocks = λ q. refl; filters = same_gave log }) (trials_stay (Took Ended) log s.trials tt tt tracks.trials) tracks

-- ---- a peer that isn't connected

-- what is kept of it is nothing
off_chain : (t : Trail) → is_connected t ≡ false → chain_kept t ≡ None
off_chain t off = ap (λ (b : Bool). if b then Some (own t) else None) off

off_claims : (t : Trail) (block : Hash) → is_connected t ≡ false → claims_kept t block ≡ None
off_claims t block off = ap (λ (b : Bool). (if b then claims (counted t) else no_claims) block) off

pub none_claimed : (s : Seen) (log : Log) (p : ℕ) → is_connected (trail log p) ≡ false → Tracks s log → (block : Hash) → s.claims p block ≡ None
none_claimed s log p off tracks block = tracks.claimed p block ∙ off_claims (trail log p) block off

-- nor is anything open to it
pub none_open : (s : Seen) (log : Log) (p : ℕ) → is_connected (trail log p) ≡ false → Tracks s log → Closes s.opens s.opens p
none_open s log p off tracks = closes_off s.opens p (trail log p) (tracks.opened p) off

pub put_off : (s : Seen) (log : Log) (p : ℕ) → is_connected (trail log p) ≡ false → Tracks s log → IsPut s s p None no_claims
put_off s log p off tracks = record {
  opens = none_open s log p off tracks;
  here = tracks.kept p ∙ off_chain (trail log p) off;
  others = λ q ne. refl;
  claims = none_claimed s log p off tracks;
  claims_others = λ q ne block. refl;
  stays = same_seen s;
}

-- it goes once more
pub tracks_away : (s : Seen) (p : PeerNo) (log : Log) → is_connected (trail log p.0) ≡ false → Tracks s log → Tracks s (Took (Gone p) ∷ log)
tracks_away s p log off tracks = tracks_gone s s p log (put_off s log p.0 off tracks) tracks

-- it couldn't be dialled
missed_here : (p : PeerNo) (name : List ℕ) (part : Part) → went_on (NotDialled p name) p.0 part ≡ with_item (Lost mark.NotDialled) part
missed_here p name part = grind (arith, common_steps)

missed_others : (p : PeerNo) (name : List ℕ) (q : ℕ) (part : Part) → q ≢ p.0 → went_on (NotDialled p name) q part ≡ part
missed_others p name q part ne = grind (arith, common_steps)

pub tracks_missed : (s : Seen) (p : PeerNo) (name : List ℕ) (log : Log) → is_connected (trail log p.0) ≡ false → Tracks s log → Tracks s (NotDialled p name ∷ log)
tracks_missed s p name log off tracks =
    let here = missed_here p name (part_of log p.0) in
    tracks_lost s s p log (NotDialled p name ∷ log) (put_off s log p.0 off tracks) (ap (λ (x : Part). is_connected x.trail) here) (λ q other. missed_others p name q (part_of log q) other)
    (ap (λ (x : Part). fetched_blocks (counted x.trail)) here) (same_gave log) (trials_stay (NotDialled p name) log s.trials tt tt tracks.trials) tracks

-- what it says doesn't count
pub got_here : (p : PeerNo) (piece : List ℕ) (part : Part) → went_on (Took (Got p piece)) p.0 part ≡ heard_part piece part
got_here p piece part = grind (arith, common_steps)

pub got_others : (p : PeerNo) (piece : List ℕ) (q : ℕ) (part : Part) → q ≢ p.0 → went_on (Took (Got p piece)) q part ≡ part
got_others p piece q part ne = grind (arith, common_steps)

deaf_gave : (p : PeerNo) (piece : List ℕ) (log : Log) → given_filters (counted (trail (Took (Got p piece) ∷ log) p.0)) ≡ given_filters (counted (trail log p.0)) → IsSameGiven log (Took (Got p piece) ∷ log)
deaf_gave p piece log same =
    let next = Took (Got p piece) ∷ log in
    none_came_same_given (Took (Got p piece)) log (λ q. elim (cases_eq q p.0) [
      | inl is ↦ subst (λ (k : ℕ). given_filters (counted (trail next k)) ≡ given_filters (counted (trail log k))) (sym is) same
      | inr other ↦ ap (λ (x : Part). given_filters (counted x.trail)) (got_others p piece q (part_of log q) other)
    ])

pub tracks_deaf : (s : Seen) (p : PeerNo) (piece : List ℕ) (log : Log) → is_connected (trail log p.0) ≡ false → Tracks s log → Tracks s (Took (Got p piece) ∷ log)
tracks_deaf s p piece log off tracks =
    let here = got_here p piece (part_of log p.0) in
    let deaf = heard_deaf piece (part_of log p.0) off in
    let same = ap (λ (x : Part). given_filters (counted x.trail)) here ∙ ap given_filters deaf in
    tracks_lost s s p log (Took (Got p piece) ∷ log) (put_off s log p.0 off tracks) (ap (λ (x : Part). is_connected x.trail) here ∙ heard_on piece (part_of log p.0) ∙ off)
    (λ q other. got_others p piece q (part_of log q) other)
    (ap (λ (x : Part). fetched_blocks (counted x.trail)) here ∙ ap fetched_blocks deaf) (deaf_gave p piece log same)
    (trials_piece p piece log s.trials s.trials [] [] (ap (λ (x : Part). fetched_blocks (counted x.trail)) here ∙ ap fetched_blocks deaf) same
    (go_self s.trials p.0) tracks.trials) tracks

-- ---- a piece of a connected peer

-- taken whole
pub tracks_heard : (p : PeerNo) (peer : Peer) (seen now : Seen) (before after : List Act) (piece : List ℕ) (log : Log) → HeardWhole p peer seen now before after (part_of log p.0) (heard_part piece (part_of log p.0))
    → Tracks seen log → Tracks now (Took (Got p piece) ∷ log)
tracks_heard p peer seen now before after piece log heard tracks =
    let next = Took (Got p piece) ∷ log in
    let here : part_of next p.0 ≡ heard_part piece (part_of log p.0) = got_here p piece (part_of log p.0) in
    let others : (q : ℕ) → q ≢ p.0 → part_of next q ≡ part_of log q = λ q ne. got_others p piece q (part_of log q) ne in
    let end : Trail = (heard_part piece (part_of log p.0)).trail in
    let on : is_connected end ≡ true = heard.holds.on in
    let used : SameUse end = same_use end on heard.holds.clean in
    let t : trail next p.0 ≡ end = ap (λ (x : Part). x.trail) here in
    record {
      kept = λ q. elim (cases_eq q p.0) [
        | inl is ↦ subst (λ (k : ℕ). now.chains k ≡ chain_kept (trail next k)) (sym is)
            (heard.gains.follows.chain ∙ sym (ap (λ (x : Trail). chain_kept x) t ∙ ap (λ (b : Bool). if b then Some (own end) else None) on))
        | inr other ↦ heard.gains.others q other ∙ tracks.kept q ∙ sym (ap (λ (x : Part). chain_kept x.trail) (others q other))
      ];
      claimed = λ q block. elim (cases_eq q p.0) [
        | inl is ↦ subst (λ (k : ℕ). now.claims k block ≡ claims_kept (trail next k) block) (sym is)
            (heard.gains.follows.claims block ∙ sym (ap (λ (x : Trail). claims_kept x block) t ∙ ap (λ (b : Bool). (if b then claims (counted end) else no_claims) block) on ∙ ap (λ (c : dispute.Table). c block) used.claiming))
        | inr other ↦ heard.gains.claims q other block ∙ tracks.claimed q block ∙ sym (ap (λ (x : Part). claims_kept x.trail block) (others q other))
      ];
      fetched = subst (λ (w : List (List ℕ)). HoldsFetched w next now.table) (sym heard.gains.watch)
          (holds_after_piece seen.watch p piece log heard.news seen.table now.table (ap (λ (x : Trail). fetched_blocks (counted x)) t ∙ heard.brings) heard.gains.table tracks.fetched);
      given = subst (λ (w : List (List ℕ)). HoldsGiven w next now.verdicts) (sym heard.gains.watch)
          (verdicts_go p piece log seen.watch seen.trials seen.verdicts now.verdicts heard.jobs (ap (λ (x : Trail). given_filters (counted x)) t ∙ heard.gives) heard.gains.verdicts tracks.trials tracks.given);
      opened = opens_put log next seen.opens now.opens p.0 tracks.opened heard.gains.opens (λ q other. ap (λ (x : Part). x.trail) (others q other))
          (subst (OpensAt now.opens p.0) (sym t) heard.gains.follows.opens);
      trials = trials_piece p piece log seen.trials now.trials heard.news heard.jobs
          (ap (λ (x : Trail). fetched_blocks (counted x)) t ∙ heard.brings) (ap (λ (x : Trail). given_filters (counted x)) t ∙ heard.gives) heard.gains.trials tracks.trials;
    }

-- One in which a frame deserves a cause: what was seen stands for the log with the piece, but for p's chain and claims, which are given up with it.
-- `mid` is what would be seen then if they weren't.
pub tracks_faulty : (p : PeerNo) (seen now last : Seen) (before acts : List Act) (piece : List ℕ) (log : Log) (cause : Cause) → HeardFault p seen now before acts (part_of log p.0) (heard_part piece (part_of log p.0)) cause
    → IsPut now last p.0 None no_claims → Tracks seen log → (mid : Seen) × (Tracks mid (Took (Got p piece) ∷ log) × IsPut mid last p.0 None no_claims)
tracks_faulty p seen now last before acts piece log cause fault put tracks =
    let next = Took (Got p piece) ∷ log in
    let others : (q : ℕ) → q ≢ p.0 → part_of next q ≡ part_of log q = λ q ne. got_others p piece q (part_of log q) ne in
    let t : trail next p.0 ≡ (heard_part piece (part_of log p.0)).trail = ap (λ (x : Part). x.trail) (got_here p piece (part_of log p.0)) in (
      record { watch = last.watch; chains = λ q. chain_kept (trail next q); claims = λ q. claims_kept (trail next q); table = last.table; verdicts = last.verdicts; opens = opens_by next; trials = last.trials; written = last.written },
      (
        record {
          kept = λ q. refl;
          claimed = λ q block. refl;
          fetched = subst (λ (w : List (List ℕ)). HoldsFetched w next last.table) (sym (put.stays.watch ∙ fault.kept.watch))
              (holds_after_piece seen.watch p piece log fault.news seen.table last.table (ap (λ (x : Trail). fetched_blocks (counted x)) t ∙ fault.brings) (λ hash. sym (put.stays.table hash) ∙ fault.kept.table hash) tracks.fetched);
          given = subst (λ (w : List (List ℕ)). HoldsGiven w next last.verdicts) (sym (put.stays.watch ∙ fault.kept.watch))
              (verdicts_go p piece log seen.watch seen.trials seen.verdicts last.verdicts fault.jobs (ap (λ (x : Trail). given_filters (counted x)) t ∙ fault.gives)
              (λ block hash. put.stays.verdicts block hash ∙ fault.kept.verdicts block hash) tracks.trials tracks.given);
          opened = holds_by next;
          trials = trials_piece p piece log seen.trials last.trials fault.news fault.jobs
              (ap (λ (x : Trail). fetched_blocks (counted x)) t ∙ fault.brings) (ap (λ (x : Trail). given_filters (counted x)) t ∙ fault.gives)
              (go_on seen.trials now.trials last.trials p.0 fault.news fault.jobs fault.kept.trials put.stays.trials) tracks.trials;
        },
        record {
          here = put.here;
          others = λ q other. put.others q other ∙ fault.kept.others q other ∙ tracks.kept q ∙ sym (ap (λ (x : Part). chain_kept x.trail) (others q other));
          claims = put.claims;
          claims_others = λ q other block. put.claims_others q other block ∙ fault.kept.claims q other block ∙ tracks.claimed q block ∙ sym (ap (λ (x : Part). claims_kept x.trail block) (others q other));
          opens = closes_then (opens_by next) now.opens last.opens p.0
              (else_by log next seen.opens now.opens p.0 tracks.opened (λ q other. ap (λ (x : Part). x.trail) (others q other)) fault.kept.opens) put.opens;
          stays = same_seen last;
        },
      ),
    )

-- a piece up to a message that exposed its peer: what is kept of tests, blocks and filters is right for the log, with the parts that the log tells
abbrev pub seen_at : Seen → Log → Seen
seen_at s log = record s { chains = λ q. chain_kept (trail log q); claims = λ q. claims_kept (trail log q); opens = opens_by log }

pub tracks_exposed : (p : PeerNo) (seen now : Seen) (before acts : List Act) (piece : List ℕ) (log : Log) (block filter : Hash)
    → (x : HeardExposed p seen now before acts (part_of log p.0) (heard_part piece (part_of log p.0)) block filter)
    → (fetched_blocks (counted (heard_part piece (part_of log p.0)).trail) ≡ fetched_blocks (counted x.so_far)) → (given_filters (counted (heard_part piece (part_of log p.0)).trail) ≡ given_filters (counted x.so_far))
    → Tracks seen log → Tracks (seen_at now (Took (Got p piece) ∷ log)) (Took (Got p piece) ∷ log)
tracks_exposed p seen now before acts piece log block filter x blocks filters tracks =
    let next = Took (Got p piece) ∷ log in
    let t : trail next p.0 ≡ (heard_part piece (part_of log p.0)).trail = ap (λ (y : Part). y.trail) (got_here p piece (part_of log p.0)) in
    let brings : fetched_blocks (counted (trail next p.0)) ≡ x.news ++ fetched_blocks (counted (trail log p.0)) = ap (λ (u : Trail). fetched_blocks (counted u)) t ∙ blocks ∙ x.brings in
    let gives : given_filters (counted (trail next p.0)) ≡ x.jobs ++ given_filters (counted (trail log p.0)) = ap (λ (u : Trail). given_filters (counted u)) t ∙ filters ∙ x.gives in
    record {
      kept = λ q. refl;
      claimed = λ q at. refl;
      fetched = subst (λ (w : List (List ℕ)). HoldsFetched w next now.table) (sym x.gains.watch) (holds_after_piece seen.watch p piece log x.news seen.table now.table brings x.gains.table tracks.fetched);
      given = subst (λ (w : List (List ℕ)). HoldsGiven w next now.verdicts) (sym x.gains.watch)
          (verdicts_go p piece log seen.watch seen.trials seen.verdicts now.verdicts x.jobs gives x.gains.verdicts tracks.trials tracks.given);
      opened = holds_by next;
      trials = trials_piece p piece log seen.trials now.trials x.news x.jobs brings gives x.gains.trials tracks.trials;
    }
