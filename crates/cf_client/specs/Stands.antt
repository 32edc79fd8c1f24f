-- machine: what a client holds of a log.
use Rattle.std.specs.Prelude.{◌≡◌, ◌⊎◌, ℕ, zero, suc, ◌+◌, Bool, true, not, ◌&&◌, false, if◌then◌else◌, List, length}
use Rattle.cf_bytes.specs.declared.hash.Hash32.{Hash32}
use Rattle.cf_headers.specs.Chain.{Chain, tip_hash}
use Rattle.cf_headers.specs.declared.store.HeaderStore.{Ghosts}
use Rattle.cf_match.specs.declared.matcher.Matcher.{Ghosts as Judges}
use Rattle.std.specs.List.{All}
use Rattle.cf_peer.specs.declared.act.Act.{Act}
use Rattle.cf_peer.specs.declared.act.Act.TheVariants.{Send, Close}
use Rattle.cf_wires.specs.Log.{Log, tally_of}
use Rattle.cf_peer.specs.Trail.{trail}
use Rattle.cf_peer.specs.Asking.{is_open, is_ping, is_request, pings}
use Rattle.cf_peer.specs.declared.mode.Mode.{Mode}
use Rattle.cf_peer.specs.declared.mode.Mode.TheVariants.{Once, Following}
use Rattle.cf_wires.specs.declared.event.Delivery.{Delivery}
use Rattle.cf_wires.specs.declared.event.Delivery.TheVariants.{Got, Gone, Tick, Ended}
use Rattle.cf_scan.specs.declared.history.Entry.{Entry}
use Rattle.cf_scan.specs.Watching.{IsWatch}
use Rattle.cf_sync.specs.Fetching.{IsBest, IsConnected, IsAskedOutIn, Rule}
use Rattle.cf_sync.specs.Sync.{IsToldOf}
use Rattle.cf_client.specs.declared.client.Client.{Client}
use Rattle.cf_place.specs.Places.{PlacesStand, after, Allowed}
use Rattle.cf_place.specs.Standing.{Greeting}
use Rattle.cf_tracker.specs.Tracker.{watch_of}
use Rattle.cf_hear.specs.Judging.{Judging, judging_of}
use Rattle.cf_hear.specs.Exposing.{IsUnexposed}
use Rattle.cf_tracker.specs.Seen.{Seen, seen_of}
use Rattle.cf_hear.specs.Tracks.{Tracks}

-- what the client has seen, over its store's chains
abbrev pub seen_by : {H M : Type 0} → {g : Ghosts H} {j : Judges M} → Client H M g j → Seen
seen_by c = seen_of c.tracker

-- what the client keeps is a function of the log, and exposes no connected peer; after want of memory it reflects nothing
pub record Reflects {H M : Type 0} {g : Ghosts H} {j : Judges M} (c : Client H M g j) (log : Log) : Type 0 where
  pub alive : c.dead ≡ false
  pub places : PlacesStand c.places.items log
  pub tracks : Tracks (seen_by c) log
  pub unexposed : IsUnexposed (seen_by c)

-- the scripts that it watches
abbrev pub watch_by : {H M : Type 0} → {g : Ghosts H} {j : Judges M} → Client H M g j → List (List ℕ)
watch_by c = watch_of c.tracker

-- what it goes by: these scripts, and whether it goes on once nothing is open
abbrev pub rule_by : {H M : Type 0} → {g : Ghosts H} {j : Judges M} → Client H M g j → Rule
rule_by c = record { watch = watch_by c; mode = c.mode }

-- the client reflects the log with the acts, each of which was allowed
pub record Answers {H M : Type 0} {g : Ghosts H} {j : Judges M} (c : Client H M g j) (acts : List Act) (log : Log) : Type 0 where
  pub stand : Reflects c (after acts log)
  pub allowed : Allowed (rule_by c) acts log

-- it found no memory once, and answers so from then on
abbrev pub is_dead : {H M : Type 0} → {g : Ghosts H} {j : Judges M} → Client H M g j → Bool
is_dead c = c.dead

-- how many numbers below this pass a test
abbrev pub count_below : (ℕ → Bool) → ℕ → ℕ
count_below test zero = 0
count_below test (suc p) = count_below test p + (if test p then 1 else 0)

-- how many requests are open: to each peer that was dialled at most one, its handshake or another
abbrev pub open_count : Log → ℕ
open_count log = count_below (λ (p : ℕ). is_open (trail log p)) ((tally_of log).dials + 1)

-- how many numbers are in use, 0 among them
abbrev pub count_of : {H M : Type 0} → {g : Ghosts H} {j : Judges M} → Client H M g j → ℕ
count_of c = length c.places.items

-- what its version tells
abbrev pub greeting_by : {H M : Type 0} → {g : Ghosts H} {j : Judges M} → Client H M g j → Greeting
greeting_by c = record { moment = c.moment; number = c.nonce }

-- the matcher that it was handed
abbrev pub matcher_by : {H M : Type 0} → {g : Ghosts H} {j : Judges M} → Client H M g j → M
matcher_by c = c.matcher

-- its matcher, and the verdicts that it keeps
abbrev pub judging_by : {H M : Type 0} → {g : Ghosts H} {j : Judges M} → Client H M g j → Judging M
judging_by c = judging_of c.tracker c.matcher

-- the height and the hash of the best chain's tip
pub record IsBestTip (height : ℕ) (hash : Hash32) (log : Log) : Type 0 where
  pub chain : Chain
  pub best : IsBest log chain
  pub height_is : height ≡ length chain
  pub hash_is : hash.0 ≡ tip_hash chain

-- the best chain's tip and the history over it; whatever the rule of asking leaves true of that chain and a connected peer with nothing open is true
pub record IsReportOf (rule : Rule) (height : ℕ) (hash : Hash32) (entries : List Entry) (log : Log) : Type 0 where
  pub watchable : IsWatch rule.watch
  pub told : IsToldOf rule.watch height hash entries log
  pub asked_out : (p : ℕ) → IsConnected log p → is_open (trail log p) ≡ false → IsAskedOutIn rule.mode rule.watch log told.chain p

-- the history alone, over the chain of which the tip is told
abbrev pub IsHistoryTold : Rule → List Entry → Log → Type 0
IsHistoryTold rule entries log = (height : ℕ) × ((hash : Hash32) × IsReportOf rule height hash entries log)

-- an act puts no question but a ping, unless to a peer that was sent all pings that have numbers
abbrev pub AsksNone : Log → Act → Type 0
AsksNone log (Send p m) = ((is_request m && not (is_ping m)) ≡ false) ⊎ (pings (trail log p.0) ≡ 18446744073709551615)
AsksNone log (Close p cause) = Unit {0}

-- with a tick a client that follows asks nothing but pings, of whoever may be sent one
abbrev pub AreTicked : Mode → Delivery → List Act → Log → Type 0
AreTicked Once d acts log = Unit {0}
AreTicked Following (Got p piece) acts log = Unit {0}
AreTicked Following (Gone p) acts log = Unit {0}
AreTicked Following (Tick seconds) acts log = All (AsksNone log) acts
AreTicked Following Ended acts log = Unit {0}

-- once a tick was taken by a client that follows something is open to each connected peer: what was open before, a ping, or a handshake; unless all
-- numbers of pings were used
abbrev pub ArePinged : Mode → Delivery → Log → Type 0
ArePinged Following (Tick seconds) log =
    (p : ℕ) → IsConnected log p → (is_open (trail log p) ≡ true) ⊎ (pings (trail log p) ≡ 18446744073709551615)
ArePinged Following (Got p piece) log = Unit {0}
ArePinged Following (Gone p) log = Unit {0}
ArePinged Following Ended log = Unit {0}
ArePinged Once d log = Unit {0}
