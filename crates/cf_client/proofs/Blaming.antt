-- Between two calls of the client nobody is left who claims a filter that was tested and omits something, nor who
-- was not asked all that the rule asks.
use Rattle.std.proofs.Common.{ℕ, []}
use Rattle.cf_headers.specs.Chain.{Chain, NoHashClash}
use Rattle.cf_headers.specs.declared.store.HeaderStore.{Ghosts}
use Rattle.cf_match.specs.declared.matcher.Matcher.{Ghosts as Judges}
use Rattle.cf_peer.specs.declared.mode.Mode.TheVariants.{Following}
use Rattle.cf_wires.specs.Log.{Log}
use Rattle.cf_seek.proofs.Deciding.{at_by}
use Rattle.cf_sync.specs.Fetching.{AreBytes, IsBest, IsConnected, IsTestedThrough, RightlyIn}
use Rattle.cf_sync.specs.Blame.{AreBlamed}
use Rattle.cf_sync.specs.Sync.{IsHashed}
use Rattle.cf_sync.proofs.Quieted.{are_blamed}
use Rattle.cf_client.specs.declared.client.Client.{Client}
use Rattle.cf_client.specs.Stands.{Reflects, rule_by, seen_by}
use Rattle.cf_client.specs.Blameless.{AreAskedOut, HasBlamed, IsBlameless}
use Rattle.cf_client.proofs.Best.{best_back}
use Rattle.cf_client.proofs.Naming.{blameless_seen}
use Rattle.cf_client.proofs.Reporting.{asked_out_of, tested_of}

pub blameless : {H M : Type 0} {g : Ghosts H} {j : Judges M} (c : Client H M g j) (log : Log) → Reflects c log
    → RightlyIn Following log → IsBlameless log
blameless c log reflects right = blameless_seen (seen_by c) log reflects.tracks reflects.unexposed right

-- with nothing open, once what each claims of the fetched blocks on which they differ was tested
pub has_blamed : {H M : Type 0} {g : Ghosts H} {j : Judges M} (c : Client H M g j) (log : Log) (chain : Chain)
    → Reflects c log → AreBytes log → RightlyIn Following log → NoHashClash (IsHashed log [])
    → IsBest log chain → ((p : ℕ) → IsConnected log p → IsTestedThrough log chain p) → AreBlamed log chain
has_blamed c log chain reflects bytes right clash best through = are_blamed log chain bytes clash best through
    (blameless c log reflects right)

-- so it is between any two calls
pub blames_now : {H M : Type 0} {g : Ghosts H} {j : Judges M} (c : Client H M g j) (log : Log) → Reflects c log
    → HasBlamed log
blames_now c log reflects bytes right clash quiet chain best =
    has_blamed c log chain reflects bytes right clash best
    (λ p on. tested_of c.mode c.places.items log (seen_by c) chain reflects.places reflects.tracks (c.settled reflects.alive)
    (best_back c.places.items log (seen_by c) chain reflects.places reflects.tracks best) p on (quiet p))

-- and each with nothing open was asked all that the rule asks
pub asked_out_now : {H M : Type 0} {g : Ghosts H} {j : Judges M} (c : Client H M g j) (log : Log) → Reflects c log
    → AreAskedOut (rule_by c) log
asked_out_now c log reflects chain best =
    asked_out_of c.mode c.places.items log (seen_by c) chain reflects.places reflects.tracks (c.settled reflects.alive)
    (λ block. at_by c.tracker.claims.1 block)
    (best_back c.places.items log (seen_by c) chain reflects.places reflects.tracks best)
