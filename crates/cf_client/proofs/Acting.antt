-- One act of the client of itself: what it does to the places, to what was seen and to the log.
use Rattle.std.proofs.Common.{◌≡◌, ◌≢◌, inl, inr, ℕ, ◌<◌, ◌≤◌, if◌then◌else◌, List, [], ◌∷◌, ◌++◌, ◌-◌, suc, map, length, take, reverse, get_or, set, Option, Some, None, Bool, true, false, refl, sym, ◌∙◌, ap, subst, arith}
use Rattle.std.proofs.Math.Path.{fun_ext}
use Rattle.std.specs.Prelude.{unwrap_or}
use Rattle.cf_bytes.specs.declared.hash.Hash32.{Hash32}
use Rattle.cf_bytes.specs.declared.peer.PeerNo.{PeerNo}
use Rattle.cf_dispute.specs.Claims.{no_claims}
use Rattle.cf_dispute.specs.Tables.{blocks_of}
use Rattle.cf_block.specs.Header.{block_hash_of}
use Rattle.cf_headers.specs.Chain.{Hash, Chain, back_to, tip_hash}
use Rattle.cf_msg.specs.declared.msg.Inventory.{Inventory}
use Rattle.cf_msg.specs.declared.msg.Msg.{Msg}
use Rattle.cf_msg.specs.declared.msg.Msg.TheVariants.{Version, GetHeaders, GetData, GetCfheaders, GetCfilters}
use Rattle.cf_peer.specs.declared.act.Act.TheVariants.{Send, Close}
use Rattle.cf_peer.specs.declared.act.Act.{Act}
use Rattle.cf_peer.specs.declared.mode.Mode.{Mode}
use Rattle.cf_peer.specs.declared.peer.Cause.{Cause}
use Rattle.cf_peer.specs.declared.peer.Peer.{Peer}
use Rattle.cf_peer.specs.declared.peer.Range.{Range}
use Rattle.cf_peer.specs.Acts.{bytes_of, IsSendable}
use Rattle.cf_wires.specs.Log.{Log}
use Rattle.cf_peer.specs.Trail.{Trail, IsClientVersion, asks, part_of, trail, is_connected, own, Asked}
use Rattle.cf_wires.specs.declared.event.Event.TheVariants.{Sent}
use Rattle.cf_peer.specs.Asking.{FiltersOpen, NothingOpen, blocks_from, claims_asked, filters_asked, request}
use Rattle.cf_peer.specs.Peer.{Holds, heard_out, wants, is_idle_peer, asked_for_headers, asked_for_claims, asked_for_filters, asked_for_block}
use Rattle.cf_peer.proofs.Peers.{idle_request, asked_claims_holds, asked_filters_holds, asked_block_holds}
use Rattle.cf_sync.specs.Fetching.{IsConnected, MaySendIn, IsNeeded, Rule, blocks_open, filters_open}
use Rattle.cf_holds.specs.HeldTests.{AimsAt}
use Rattle.cf_holds.specs.Known.{OpensAt}
use Rattle.cf_sync.proofs.Counted.{same_use}
use Rattle.cf_holds.proofs.KeptOpens.{opens_block, opens_filters}
use Rattle.cf_seek.specs.declared.spans.Span.{Span}
use Rattle.cf_seek.specs.declared.spans.Wish.TheVariants.{Claims, Filters, Block, Test}
use Rattle.cf_seek.specs.declared.testing.Trial.{Trial}
use Rattle.cf_seek.specs.Aims.{IsAimed}
use Rattle.cf_tables.specs.Outputs.{Paid}
use Rattle.std.proofs.lemmas.Bool.{cases_eq}
use Rattle.cf_tables.specs.Tests.{IsSameTold}
use Rattle.cf_tables.specs.Known.{TestResults}
use Rattle.cf_seek.specs.Testing.{IsTrying}
use Rattle.cf_tables.specs.Trials.{IsSameTrials, Trials}
use Rattle.cf_headers.proofs.Found.{back_ends}
use Rattle.cf_holds.proofs.KeptAims.{IsNoQuestion, aims_asked, aims_for_test, aims_for_wanted, aims_other}
use Rattle.cf_seek.specs.Opens.{Opens}
use Rattle.cf_seek.specs.Opening.{IsSameOpens, OpensBlock, OpensFilters}
use Rattle.cf_seek.specs.Seeking.{MoreOpens}
use Rattle.cf_seek.specs.Spans.{IsWish}
use Rattle.cf_tracker.specs.Seen.{Seen, IsSameSeen}
use Rattle.cf_hear.specs.Tracks.{HasOpened, Tracks, IsPut}
use Rattle.cf_hear.proofs.Opening.{opens_asked, opens_on}
use Rattle.cf_hear.proofs.Tracking.{opened_self, tracks_asked, tracks_closed}
use Rattle.cf_hear.proofs.Wishes.{claims_send, filters_needed, filters_send, block_send, test_needed, test_part, test_send}
use Rattle.cf_place.specs.declared.place.Place.{Place}
use Rattle.cf_place.specs.declared.place.Place.TheVariants.{Here}
use Rattle.cf_place.specs.Places.{Keeps, nobody, after as done, AsksAbove, AsksFor, Goes, IsQuestion}
use Rattle.cf_client.specs.Settled.{chain_at}
use Rattle.cf_client.proofs.Best.{Furthest, Tries, in_turn, rule_in}
use Rattle.cf_client.proofs.Standing.{after-append, wants_goes, send_goes, keeps_at, asked_keeps, idle_free}
use Rattle.cf_client.proofs.Spelled.{spelled_bytes}

-- ---- what the calls of a tracker say, of what was seen

-- nothing that is kept of tests changed
pub aims_stay : (before after : Trials) (i : ℕ) → ((hash : Hash) → after.paid hash ≡ before.paid hash) → IsSameTold after.told before.told → after.aims i ≡ before.aims i
    → ((q : ℕ) → q ≢ i → after.aims q ≡ before.aims q) → IsSameTrials before after
aims_stay before after i paid told here others = record {
  paid = paid;
  told = told;
  aims = λ q. elim (cases_eq q i) [
    | inl same ↦ subst (λ (k : ℕ). after.aims k ≡ before.aims k) (sym same) here
    | inr other ↦ others q other
  ];
}

-- where the same is open no less is
pub more_same : (before after : Opens) → IsSameOpens before after → MoreOpens before after
more_same before after same = record {
  filters = λ q block off. sym (same.filters q block) ∙ off;
  blocks = λ q block off. sym (same.blocks q block) ∙ off;
}

abbrev opens_with : (ℕ → Hash → Bool) → (ℕ → Hash → Bool) → Opens
opens_with filters blocks = record { filters = filters; blocks = blocks }

opens_is : (a b : Opens) → IsSameOpens a b → b ≡ a
opens_is a b same =
    ap (λ (f : ℕ → Hash → Bool). opens_with f b.blocks) (fun_ext (λ q. fun_ext (λ block. same.filters q block)))
    ∙ ap (λ (f : ℕ → Hash → Bool). opens_with a.filters f) (fun_ext (λ q. fun_ext (λ block. same.blocks q block)))

abbrev trials_with : Paid → TestResults → (ℕ → Bool) → Trials
trials_with paid told aims = record { paid = paid; told = told; aims = aims }

trials_is : (a b : Trials) → IsSameTrials a b → b ≡ a
trials_is a b same =
    ap (λ (p : Paid). trials_with p b.told b.aims) (fun_ext same.paid)
    ∙ ap (λ (t : TestResults). trials_with a.paid t b.aims) (fun_ext (λ block. fun_ext (same.told block)))
    ∙ ap (λ (f : ℕ → Bool). trials_with a.paid a.told f) (fun_ext same.aims)

-- what was seen is what it was
pub seen_same : (before after : Seen) → IsSameSeen before after → after ≡ before
seen_same before after same =
    ap (λ x. record after { watch = x }) same.watch
    ∙ ap (λ x. record after { watch = before.watch; chains = x }) (fun_ext same.chains)
    ∙ ap (λ x. record after { watch = before.watch; chains = before.chains; claims = x }) (fun_ext (λ p. fun_ext (same.claims p)))
    ∙ ap (λ x. record before { table = x; verdicts = after.verdicts; opens = after.opens; trials = after.trials; written = after.written }) (fun_ext (λ hash. sym (same.table hash)))
    ∙ ap (λ x. record before { verdicts = x; opens = after.opens; trials = after.trials; written = after.written }) (fun_ext (λ block. fun_ext (same.verdicts block)))
    ∙ ap (λ x. record before { opens = x; trials = after.trials; written = after.written }) (opens_is before.opens after.opens same.opens)
    ∙ ap (λ x. record before { trials = x; written = after.written }) (trials_is before.trials after.trials same.trials)
    ∙ ap (λ x. record before { written = x }) same.written

-- ---- the chain that is kept of a peer

-- the chain that is kept of a connected peer is its own
pub own_tracked : (s : Seen) (log : Log) (p : ℕ) → Tracks s log → is_connected (trail log p) ≡ true → chain_at s p ≡ own (trail log p)
own_tracked s log p tracks on = ap (λ (o : Option Chain). unwrap_or o []) (tracks.kept p ∙ ap (λ b. if b then Some (own (trail log p)) else None) on)

-- ---- a peer is closed

pub closed_tracks : (before after : Seen) (acts : List Act) (log : Log) (p : PeerNo) (cause : Cause) → IsPut before after p.0 None no_claims → Tracks before (done acts log)
    → Tracks after (done (acts ++ Close p cause ∷ []) log)
closed_tracks before now acts log p cause put tracks = subst (Tracks now) (sym (after-append acts (Close p cause) log)) (tracks_closed before now p (done acts log) put tracks)

-- ---- a message is sent

pub sent_tracks : (before after : Seen) (acts : List Act) (log : Log) (p : PeerNo) (m : Msg) → IsSendable m → HasOpened before after p.0 → OpensAt after.opens p.0 (Asked m ∷ trail (done acts log) p.0)
    → (IsConnected (done acts log) p.0 → AimsAt (Sent p (bytes_of m) ∷ done acts log) p.0 (after.trials.aims p.0)) → Tracks before (done acts log) → Tracks after (done (acts ++ Send p m ∷ []) log)
sent_tracks before after acts log p m sendable same at aim tracks =
    subst (Tracks after) (sym (after-append acts (Send p m) log))
    (tracks_asked before after p (bytes_of m) (done acts log) same
    (subst (λ (o : Option Msg). OpensAt after.opens p.0 (asks o (trail (done acts log) p.0))) (sym (spelled_bytes m sendable)) at) aim tracks)

-- what is no question for filters leaves whether what is open is to be tested
pub aim_kept : (before after : Seen) (l : Log) (p : PeerNo) (m : Msg) → IsSendable m → IsNoQuestion (Some m) → after.trials.aims p.0 ≡ before.trials.aims p.0 → Tracks before l
    → IsConnected l p.0 → AimsAt (Sent p (bytes_of m) ∷ l) p.0 (after.trials.aims p.0)
aim_kept before after l p m sendable none same tracks on =
    subst (λ (b : Bool). AimsAt (Sent p (bytes_of m) ∷ l) p.0 b) (sym same) (aims_other p (bytes_of m) l (Some m) (before.trials.aims p.0) (spelled_bytes m sendable) none (tracks.trials.aims p.0 on))

-- a peer with nothing open, and what it was sent: headers, and claims
asked_above : (m : Msg) (chain : Chain) (t : Trail) → AsksAbove chain m → request t ≡ NothingOpen
    → (filters_open (request (Asked m ∷ t)) ≡ filters_open (request t)) × (blocks_open (request (Asked m ∷ t)) ≡ blocks_open (request t))
asked_above (GetHeaders version locator stop) chain t asks idle = (sym (ap filters_open idle), sym (ap blocks_open idle))
asked_above m chain t asks idle = absurd asks

headers_only : (m : Msg) (chain : Chain) → AsksAbove chain m → IsNoQuestion (Some m)
headers_only (GetHeaders version locator stop) chain asks = λ filter start end e. cc
headers_only m chain asks = absurd asks

-- a version asks for nothing
pub version_asks : (m : Msg) (t : Trail) → IsClientVersion m → (filters_open (request (Asked m ∷ t)) ≡ filters_open (request t)) × (blocks_open (request (Asked m ∷ t)) ≡ blocks_open (request t))
version_asks (Version version services time to from nonce agent height relay) t ours = (refl, refl)
version_asks m t ours = absurd ours

pub version_only : (m : Msg) → IsClientVersion m → IsNoQuestion (Some m)
version_only (Version version services time to from nonce agent height relay) ours = λ filter start stop e. cc
version_only m ours = absurd ours

pub idle_at : {rule : Rule} (places : List Place) (acts : List Act) (log : Log) (i : ℕ) (peer : Peer) → Goes rule places acts log → get_or places i nobody ≡ Here peer
    → is_idle_peer peer ≡ true → request (trail (done acts log) i) ≡ NothingOpen
idle_at places acts log i peer goes here idle = (idle_request peer (trail (done acts log) i) (keeps_at places acts log i peer goes here).holds idle).1

pub headers_tracks : {rule : Rule} (places : List Place) (acts : List Act) (log : Log) (s : Seen) (i : ℕ) (peer : Peer) (m : Msg) → Goes rule places acts log
    → get_or places i nobody ≡ Here peer → is_idle_peer peer ≡ true → IsQuestion (chain_at s i) m → Tracks s (done acts log)
    → Tracks s (done (acts ++ Send (record { 0 = i }) m ∷ []) log)
headers_tracks places acts log s i peer m goes here idle question tracks =
    let t = trail (done acts log) i in
    let same = asked_above m (chain_at s i) t question.asks (idle_at places acts log i peer goes here idle) in
    sent_tracks s s acts log (record { 0 = i }) m question.sendable (opened_self s i) (opens_asked s.opens i m t same.0 same.1 (tracks.opened i))
    (aim_kept s s (done acts log) (record { 0 = i }) m question.sendable (headers_only m (chain_at s i) question.asks) refl tracks) tracks

pub claims_tracks : {rule : Rule} (places : List Place) (acts : List Act) (log : Log) (s after : Seen) (i common : ℕ) (peer : Peer) (span : Span) → Goes rule places acts log
    → get_or places i nobody ≡ Here peer → is_idle_peer peer ≡ true → IsSendable (GetCfheaders 0 span.start span.stop) → HasOpened s after i
    → IsWish s.table s.claims s.verdicts s.opens i (chain_at s i) common (Claims span) → IsSameOpens s.opens after.opens → IsAimed i (Claims span) s.trials.aims after.trials.aims → Tracks s (done acts log)
    → Tracks after (done (acts ++ Send (record { 0 = i }) (GetCfheaders 0 span.start span.stop) ∷ []) log)
claims_tracks places acts log s after i common peer span goes here idle sendable opened wish same aimed tracks =
    let l = done acts log in
    let t = trail l i in
    let m = GetCfheaders 0 span.start span.stop in
    let sp = wish.1.1.0 in
    let is : chain_at s i ≡ own t = own_tracked s l i tracks (keeps_at places acts log i peer goes here).holds.on in
    let tip = ap (λ (c : Chain). back_to span.stop.0 c) (sym is) ∙ sp.tip in
    let none = idle_at places acts log i peer goes here idle in
    sent_tracks s after acts log (record { 0 = i }) m sendable opened
    (opens_on s.opens after.opens i (Asked m ∷ t) same
    (opens_asked s.opens i m t (ap (λ (o : Option Chain). filters_open (claims_asked span.start span.stop.0 o)) tip ∙ sym (ap filters_open none))
    (ap (λ (o : Option Chain). blocks_open (claims_asked span.start span.stop.0 o)) tip ∙ sym (ap blocks_open none)) (tracks.opened i)))
    (aim_kept s after l (record { 0 = i }) m sendable (λ filter start stop e. cc) aimed.here tracks) tracks

pub filters_tracks : {rule : Rule} (places : List Place) (acts : List Act) (log : Log) (s after : Seen) (i common : ℕ) (peer : Peer) (span : Span) → Goes rule places acts log
    → get_or places i nobody ≡ Here peer → is_idle_peer peer ≡ true → IsSendable (GetCfilters 0 span.start span.stop) → HasOpened s after i
    → IsWish s.table s.claims s.verdicts s.opens i (chain_at s i) common (Filters span) → OpensFilters s.opens after.opens i (blocks_of span.blocks.items) → common ≤ length (chain_at s i)
    → IsAimed i (Filters span) s.trials.aims after.trials.aims → Tracks s (done acts log)
    → Tracks after (done (acts ++ Send (record { 0 = i }) (GetCfilters 0 span.start span.stop) ∷ []) log)
filters_tracks places acts log s after i common peer span goes here idle sendable opened wish opens low aimed tracks =
    let l = done acts log in
    let t = trail l i in
    let m = GetCfilters 0 span.start span.stop in
    let sp = wish.1.1.0 in
    let on = (keeps_at places acts log i peer goes here).holds.on in
    let is : chain_at s i ≡ own t = own_tracked s l i tracks on in
    let tip = ap (λ (c : Chain). back_to span.stop.0 c) (sym is) ∙ sp.tip in
    sent_tracks s after acts log (record { 0 = i }) m sendable opened
    (opens_filters s.opens after.opens i t (Asked m ∷ t) (blocks_of span.blocks.items) (tracks.opened i) (idle_at places acts log i peer goes here idle) opens on
    (ap (filters_asked span.start) tip ∙ ap (λ (bs : List Hash). FiltersOpen bs []) (sym sp.blocks)))
    (λ on. let used = same_use t on (keeps_at places acts log i peer goes here).holds.clean in
    subst (λ (b : Bool). AimsAt (Sent (record { 0 = i }) (bytes_of m) ∷ l) i b) (sym aimed.here)
    (aims_asked (record { 0 = i }) (bytes_of m) l 0 span.start span.stop false (spelled_bytes m sendable)
    (aims_for_wanted l i span.start span.stop.0 used.chain (filters_needed s l i common span (chain_at s i) tracks is low wish)))) tracks

-- one block above the one below it
one_named : (part : Chain) (height : ℕ) (block : Hash) → height ≡ length part → 1 ≤ height → tip_hash part ≡ block → blocks_from height part ≡ block ∷ []
one_named [] height block is up tip = absurd (omega (arith, is, up))
one_named (h ∷ below) height block is up tip =
    let one : suc (length below) - length below ≡ 1 = omega arith in
    ap (λ (n : ℕ). blocks_from n (h ∷ below)) is ∙ ap (λ (k : ℕ). map block_hash_of (reverse (take k (h ∷ below)))) one ∙ ap (λ (x : Hash). x ∷ []) tip

pub test_tracks : {rule : Rule} (places : List Place) (acts : List Act) (log : Log) (s after : Seen) (i common : ℕ) (peer : Peer) (trial : Trial) → Goes rule places acts log
    → get_or places i nobody ≡ Here peer → is_idle_peer peer ≡ true → IsSendable (GetCfilters 0 trial.height trial.block) → HasOpened s after i
    → IsTrying s.table s.claims s.trials.told i (chain_at s i) common (Test trial) → OpensFilters s.opens after.opens i (trial.block.0 ∷ [])
    → IsAimed i (Test trial) s.trials.aims after.trials.aims → Tracks s (done acts log)
    → Tracks after (done (acts ++ Send (record { 0 = i }) (GetCfilters 0 trial.height trial.block) ∷ []) log)
test_tracks places acts log s after i common peer trial goes here idle sendable opened tries opens aimed tracks =
    let l = done acts log in
    let t = trail l i in
    let m = GetCfilters 0 trial.height trial.block in
    let on = (keeps_at places acts log i peer goes here).holds.on in
    let is : chain_at s i ≡ own t = own_tracked s l i tracks on in
    let needed = test_needed s l i common trial (chain_at s i) tracks is tries in
    let used = same_use t on (keeps_at places acts log i peer goes here).holds.clean in
    sent_tracks s after acts log (record { 0 = i }) m sendable opened
    (opens_filters s.opens after.opens i t (Asked m ∷ t) (trial.block.0 ∷ []) (tracks.opened i) (idle_at places acts log i peer goes here idle) opens on
    (ap (filters_asked trial.height) needed.tip
    ∙ ap (λ (bs : List Hash). FiltersOpen bs [])
    (one_named needed.part trial.height trial.block.0 needed.one (test_part s l i common trial (chain_at s i) is tries).above (back_ends trial.block.0 (own t) needed.part needed.tip))))
    (λ on1. subst (λ (b : Bool). AimsAt (Sent (record { 0 = i }) (bytes_of m) ∷ l) i b) (sym aimed.here)
    (aims_asked (record { 0 = i }) (bytes_of m) l 0 trial.height trial.block true (spelled_bytes m sendable) (aims_for_test l i trial.height trial.block.0 used.chain needed))) tracks

pub block_tracks : {rule : Rule} (places : List Place) (acts : List Act) (log : Log) (s after : Seen) (i : ℕ) (peer : Peer) (hash : Hash32) (m : Msg) → Goes rule places acts log
    → get_or places i nobody ≡ Here peer → is_idle_peer peer ≡ true → IsSendable m → AsksFor hash m → HasOpened s after i
    → OpensBlock s.opens after.opens i hash.0 → IsAimed i (Block hash) s.trials.aims after.trials.aims → Tracks s (done acts log)
    → Tracks after (done (acts ++ Send (record { 0 = i }) m ∷ []) log)
block_tracks places acts log s after i peer hash (GetData entries) goes here idle sendable asked opened opens aimed tracks =
    let l = done acts log in
    let t = trail l i in
    sent_tracks s after acts log (record { 0 = i }) (GetData entries) sendable opened
    (opens_block s.opens after.opens i t (Asked (GetData entries) ∷ t) hash.0 (tracks.opened i) (idle_at places acts log i peer goes here idle) opens
    (keeps_at places acts log i peer goes here).holds.on (ap (λ (es : List Inventory). request (Asked (GetData es) ∷ t)) asked))
    (aim_kept s after l (record { 0 = i }) (GetData entries) sendable (λ filter start stop e. cc) aimed.here tracks) tracks
block_tracks places acts log s after i peer hash m goes here idle sendable asked opened opens aimed tracks = absurd asked

-- for headers
pub headers_goes : {rule : Rule} (places : List Place) (acts : List Act) (log : Log) (s : Seen) (i : ℕ) (peer : Peer) (m : Msg)
    → i < length places → Goes rule places acts log → get_or places i nobody ≡ Here peer → wants rule.mode peer ≡ true → Tracks s (done acts log) → IsQuestion (chain_at s i) m
    → Goes rule (set places i (Here (asked_for_headers peer))) (acts ++ Send (record { 0 = i }) m ∷ []) log
headers_goes places acts log s i peer m lt goes here is tracks question =
    wants_goes places acts log i peer (chain_at s i) m lt goes here is (own_tracked s (done acts log) i tracks (keeps_at places acts log i peer goes here).holds.on) question

-- the blocks of a span, as a run that is open
abbrev pub range_in : Span → Range
range_in span = record { stop = span.stop; parent = span.parent; blocks = span.blocks.items }

-- for claims of filters
pub claims_goes : (mode : Mode) (places : List Place) (acts : List Act) (log : Log) (s : Seen) (i : ℕ) (peer : Peer) (common : ℕ) (span : Span)
    → i < length places → Goes (rule_in mode s) places acts log → get_or places i nobody ≡ Here peer → is_idle_peer peer ≡ true → heard_out mode peer ≡ true → Furthest s i common (Claims span) → Tries s i common (Claims span) → Tracks s (done acts log) → common ≤ length (chain_at s i)
    → IsWish s.table s.claims s.verdicts s.opens i (chain_at s i) common (Claims span) → IsSendable (GetCfheaders 0 span.start span.stop)
    → Goes (rule_in mode s) (set places i (Here (asked_for_claims (range_in span) peer))) (acts ++ Send (record { 0 = i }) (GetCfheaders 0 span.start span.stop) ∷ []) log
claims_goes mode places acts log s i peer common span lt goes here idle ended far tries tracks low wish sendable =
    let keeps : Keeps peer (part_of (done acts log) i) = keeps_at places acts log i peer goes here in
    let is : chain_at s i ≡ own (trail (done acts log) i) = own_tracked s (done acts log) i tracks keeps.holds.on in
    let may = claims_send mode s (done acts log) i common span (chain_at s i) tracks is low (idle_free peer (part_of (done acts log) i) keeps idle) keeps.holds.clean wish in
    let sp = wish.1.1.0 in
    send_goes places acts log i (asked_for_claims (range_in span) peer) (GetCfheaders 0 span.start span.stop) lt goes sendable may.0
    (in_turn mode places (done acts log) s i common (Claims span) (GetCfheaders 0 span.start span.stop) goes.stand tracks is (sym (keeps.holds.hearing mode) ∙ ended) far tries wish (refl, refl))
    (asked_keeps (asked_for_claims (range_in span) peer) peer (part_of (done acts log) i) (GetCfheaders 0 span.start span.stop) keeps
    (asked_claims_holds peer (trail (done acts log) i) (range_in span) 0 span.start sp.part keeps.holds idle (ap (λ (c : Chain). back_to span.stop.0 c) (sym is) ∙ sp.tip) sp.parent sp.blocks) refl refl refl)

-- for filters
pub filters_goes : (mode : Mode) (places : List Place) (acts : List Act) (log : Log) (s : Seen) (i : ℕ) (peer : Peer) (common : ℕ) (span : Span)
    → i < length places → Goes (rule_in mode s) places acts log → get_or places i nobody ≡ Here peer → is_idle_peer peer ≡ true → heard_out mode peer ≡ true → Furthest s i common (Filters span) → Tries s i common (Filters span) → Tracks s (done acts log) → common ≤ length (chain_at s i)
    → IsWish s.table s.claims s.verdicts s.opens i (chain_at s i) common (Filters span) → IsSendable (GetCfilters 0 span.start span.stop)
    → Goes (rule_in mode s) (set places i (Here (asked_for_filters span.blocks.items peer))) (acts ++ Send (record { 0 = i }) (GetCfilters 0 span.start span.stop) ∷ []) log
filters_goes mode places acts log s i peer common span lt goes here idle ended far tries tracks low wish sendable =
    let keeps : Keeps peer (part_of (done acts log) i) = keeps_at places acts log i peer goes here in
    let is : chain_at s i ≡ own (trail (done acts log) i) = own_tracked s (done acts log) i tracks keeps.holds.on in
    let may = filters_send mode s (done acts log) i common span (chain_at s i) tracks is low (idle_free peer (part_of (done acts log) i) keeps idle) keeps.holds.clean wish in
    let sp = wish.1.1.0 in
    send_goes places acts log i (asked_for_filters span.blocks.items peer) (GetCfilters 0 span.start span.stop) lt goes sendable may.0 (
      may.1,
      in_turn mode places (done acts log) s i common (Filters span) (GetCfilters 0 span.start span.stop) goes.stand tracks is (sym (keeps.holds.hearing mode) ∙ ended) far tries wish (refl, refl),
    )
    (asked_keeps (asked_for_filters span.blocks.items peer) peer (part_of (done acts log) i) (GetCfilters 0 span.start span.stop) keeps
    (asked_filters_holds peer (trail (done acts log) i) span.blocks.items 0 span.start span.stop sp.part keeps.holds idle (ap (λ (c : Chain). back_to span.stop.0 c) (sym is) ∙ sp.tip) sp.blocks) refl refl refl)

-- for a block
pub block_goes : (mode : Mode) (places : List Place) (acts : List Act) (log : Log) (s : Seen) (i : ℕ) (peer : Peer) (common : ℕ) (hash : Hash32) (m : Msg)
    → i < length places → Goes (rule_in mode s) places acts log → get_or places i nobody ≡ Here peer → is_idle_peer peer ≡ true → heard_out mode peer ≡ true → Furthest s i common (Block hash) → Tries s i common (Block hash) → Tracks s (done acts log) → common ≤ length (chain_at s i)
    → IsWish s.table s.claims s.verdicts s.opens i (chain_at s i) common (Block hash) → IsSendable m → AsksFor hash m
    → Goes (rule_in mode s) (set places i (Here (asked_for_block hash peer))) (acts ++ Send (record { 0 = i }) m ∷ []) log
block_goes mode places acts log s i peer common hash (GetData entries) lt goes here idle ended far tries tracks low wish sendable asks =
    let keeps : Keeps peer (part_of (done acts log) i) = keeps_at places acts log i peer goes here in
    let is : chain_at s i ≡ own (trail (done acts log) i) = own_tracked s (done acts log) i tracks keeps.holds.on in
    let may = block_send mode s (done acts log) i common hash (chain_at s i) tracks is low (idle_free peer (part_of (done acts log) i) keeps idle) wish in
    send_goes places acts log i (asked_for_block hash peer) (GetData entries) lt goes sendable
    (subst (λ (es : List Inventory). MaySendIn mode (done acts log) i (GetData es)) (sym asks) may.0) (
      subst (λ (es : List Inventory). IsNeeded s.watch (done acts log) i (GetData es)) (sym asks) may.1,
      in_turn mode places (done acts log) s i common (Block hash) (GetData entries) goes.stand tracks is (sym (keeps.holds.hearing mode) ∙ ended) far tries wish asks,
    )
    (asked_keeps (asked_for_block hash peer) peer (part_of (done acts log) i) (GetData entries) keeps
    (subst (λ (es : List Inventory). Holds (asked_for_block hash peer) (Asked (GetData es) ∷ trail (done acts log) i)) (sym asks) (asked_block_holds peer (trail (done acts log) i) hash keeps.holds idle)) refl refl refl)
block_goes mode places acts log s i peer common hash m lt goes here idle ended far tries tracks low wish sendable asks = absurd asks

-- for a filter that is to be tested
pub test_goes : (mode : Mode) (places : List Place) (acts : List Act) (log : Log) (s : Seen) (i : ℕ) (peer : Peer) (common : ℕ) (trial : Trial)
    → i < length places → Goes (rule_in mode s) places acts log → get_or places i nobody ≡ Here peer → is_idle_peer peer ≡ true → heard_out mode peer ≡ true → Furthest s i common (Test trial)
    → Tries s i common (Test trial) → Tracks s (done acts log)
    → IsWish s.table s.claims s.verdicts s.opens i (chain_at s i) common (Test trial) → IsSendable (GetCfilters 0 trial.height trial.block)
    → Goes (rule_in mode s) (set places i (Here (asked_for_filters (trial.block ∷ []) peer))) (acts ++ Send (record { 0 = i }) (GetCfilters 0 trial.height trial.block) ∷ []) log
test_goes mode places acts log s i peer common trial lt goes here idle ended far tries tracks wish sendable =
    let keeps : Keeps peer (part_of (done acts log) i) = keeps_at places acts log i peer goes here in
    let t = trail (done acts log) i in
    let is : chain_at s i ≡ own t = own_tracked s (done acts log) i tracks keeps.holds.on in
    let may = test_send mode s (done acts log) i common trial (chain_at s i) tracks is (idle_free peer (part_of (done acts log) i) keeps idle) keeps.holds.clean tries in
    let needed = test_needed s (done acts log) i common trial (chain_at s i) tracks is tries in
    let up = (test_part s (done acts log) i common trial (chain_at s i) is tries).above in
    send_goes places acts log i (asked_for_filters (trial.block ∷ []) peer) (GetCfilters 0 trial.height trial.block) lt goes sendable may.0 (
      may.1,
      in_turn mode places (done acts log) s i common (Test trial) (GetCfilters 0 trial.height trial.block) goes.stand tracks is (sym (keeps.holds.hearing mode) ∙ ended) far tries wish (refl, refl),
    )
    (asked_keeps (asked_for_filters (trial.block ∷ []) peer) peer (part_of (done acts log) i) (GetCfilters 0 trial.height trial.block) keeps
    (asked_filters_holds peer t (trial.block ∷ []) 0 trial.height trial.block needed.part keeps.holds idle needed.tip
    (sym (one_named needed.part trial.height trial.block.0 needed.one up (back_ends trial.block.0 (own t) needed.part needed.tip)))) refl refl refl)
