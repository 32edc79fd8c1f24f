-- The follow theorem, from what a client that follows leaves true of a log.
use Rattle.std.proofs.Common.{◌≡◌, inl, inr, ℕ, zero, suc, ◌<◌, ◌≤◌, List, [], ◌∷◌, ◌++◌, length, take, Option, Some, None, true, false, ◌==◌, refl, sym, ◌∙◌, subst, arith}
use Rattle.std.specs.FinMap.{empty}
use Rattle.std.proofs.lemmas.Bool.{both_ways, false≢true, eqb-true}
use Rattle.cf_bytes.specs.declared.hash.Hash32.{Hash32}
use Rattle.cf_block.specs.declared.tx.Block.{Block}
use Rattle.cf_chain.specs.Coins.{CoinMap, after_block}
use Rattle.cf_chain.specs.Good.{AreGoodBlocks}
use Rattle.cf_dispute.specs.Claims.{Table}
use Rattle.cf_frame.specs.declared.frame.FrameFault.{FrameFault}
use Rattle.cf_frame.specs.Stream.{StreamRead, read_stream}
use Rattle.cf_headers.specs.Chain.{NoHashClash}
use Rattle.cf_msg.specs.declared.msg.Msg.{Msg}
use Rattle.cf_msg.specs.declared.msg.Msg.TheVariants.{Ping, GetHeaders, GetData, GetCfheaders, GetCfilters}
use Rattle.cf_wires.specs.declared.event.Delivery.TheVariants.{Got, Gone, Tick, Ended}
use Rattle.cf_wires.specs.declared.event.Event.{Event}
use Rattle.cf_wires.specs.declared.event.Event.TheVariants.{Dialled, NotDialled, Sent, SendFailed, Closed, Took}
use Rattle.cf_wires.specs.declared.event.Mark.TheVariants as mark
use Rattle.cf_peer.specs.declared.mode.Mode.TheVariants.{Following}
use Rattle.cf_peer.specs.declared.peer.Cause.{Cause}
use Rattle.cf_wires.specs.Log.{Log}
use Rattle.cf_peer.specs.Trail.{Trail, Part, Asked, Lost, called_part, with_item, hears, hears_fault, part_after, heard_part, spelled, asks, part_of, trail, is_connected, has_failed}
use Rattle.cf_peer.specs.Asking.{is_open, age, claims, verdict, Deserves}
use Rattle.cf_scan.specs.declared.history.Entry.{Entry}
use Rattle.cf_sync.specs.Fetching.{AreBytes, DeservesIn, IsConnected, IsOmitting, IsQuiet, RightlyIn}
use Rattle.cf_sync.specs.Honesty.{InTime, Stays, was_called, IsNeverClosed}
use Rattle.cf_sync.specs.Growing.{Turn, Reaches, IsGrowingOver, IsGrowing, IsTold, OthersShowNone, FollowTheorem}
use Rattle.cf_sync.specs.Sync.{IsOfBlocks, IsHashed, HasAskedIn, IsHistoryOf}
use Rattle.cf_sync.proofs.Blamed.{bytes_before, clash_before, truth_omits_nothing}
use Rattle.cf_sync.proofs.Chains.{Setting}
use Rattle.cf_sync.proofs.Counted.{same_use}
use Rattle.cf_sync.proofs.Entries.{at_either}
use Rattle.cf_sync.proofs.Growing.{keeps_growing, own_told, one_told}
use Rattle.cf_sync.proofs.GrowingStages.{lower_setting, filter_within}
use Rattle.cf_sync.proofs.HonestLemmas.{Hearing, hearing_hears}
use Rattle.cf_sync.proofs.Modes.{rightly_before_in}
use Rattle.cf_sync.proofs.Ranges.{in_take}
use Rattle.cf_sync.proofs.Remembers.{asked_rightly_in}
use Rattle.cf_sync.proofs.Serves.{AreTrue}
use Rattle.cf_sync.proofs.Settles.{setting_from, history_over, followed_in}

-- it is connected once it was dialled, what is open to it is young, and no send to it has failed
record Sound (t : Trail) : Type 0 where
  on : was_called t ≡ true → is_connected t ≡ true
  young : is_open t ≡ true → age t < 60
  whole : has_failed t ≡ false

not_deserves : (t : Trail) (cause : Cause) → Sound t → verdict t ≡ None → Deserves t cause → ⊥
not_deserves t cause s clean (inl words) = (let w = words.1 in let no : None ≡ Some cause = sym clean ∙ w in cc)
not_deserves t cause s clean (inr (inl fault)) = both_ways (has_failed t) s.whole fault.1
not_deserves t cause s clean (inr (inr late)) = (let y = s.young late.1 in absurd (omega (arith, late.2)))

-- what holds of a peer that is never closed: no words of its own deserve it, and it omits nothing
record Blameless (log : Log) (p : ℕ) : Type 0 where
  clean : verdict (trail log p) ≡ None
  innocent : IsOmitting log p → ⊥

not_shut : (log : Log) (p q : ℕ) (cause : Cause) → q ≡ p → Sound (trail log p) → Blameless log p
    → DeservesIn log q cause → ⊥
not_shut log p q cause same s b (inl d) =
    not_deserves (trail log p) cause s b.clean (subst (λ (k : ℕ). Deserves (trail log k) cause) same d)
not_shut log p q cause same s b (inr o) = b.innocent (subst (λ (k : ℕ). IsOmitting log k) same o.1)

young_asked : (m : Msg) (t : Trail) → (is_open t ≡ true → age t < 60) → is_open (Asked m ∷ t) ≡ true
    → age (Asked m ∷ t) < 60
young_asked (GetHeaders version locator stop) t young h = omega arith
young_asked (GetCfheaders filter start stop) t young h = omega arith
young_asked (GetCfilters filter start stop) t young h = omega arith
young_asked (GetData entries) t young h = omega arith
young_asked (Ping number) t young h = omega arith
young_asked m t young h = young h

sound_asked : (m : Msg) (t : Trail) → Sound t → Sound (Asked m ∷ t)
sound_asked m t s = record { on = s.on; young = young_asked m t s.young; whole = s.whole }

sound_heard : (t u : Trail) → Hearing t u → Sound t → Sound u
sound_heard t u h s = record {
  on = λ is. h.on ∙ s.on (sym h.called ∙ is);
  young = λ is. let y = s.young (h.opened is) in let e = h.same_age in omega (arith, e, y);
  whole = h.whole ∙ s.whole;
}

sound_read : (r : StreamRead) (t : Trail) → Sound t → Sound (part_after r t).trail
sound_read r t s = by_fault r.fault where
  heard : Sound (hears r.frames t)
  heard = sound_heard t (hears r.frames t) (hearing_hears r.frames t) s

  by_fault : (o : Option FrameFault) → Sound (hears_fault o (hears r.frames t))
  by_fault None = heard
  by_fault (Some fault) = record { on = heard.on; young = heard.young; whole = heard.whole }

abbrev IsSoundPart : Part → Type 0
IsSoundPart part = Sound part.trail

-- one entry more
sound_on : (e : Event) (log : Log) (p : ℕ) → RightlyIn Following (e ∷ log) → Blameless log p → InTime e log p
    → Stays e p
    → Sound (trail log p) → Sound (trail (e ∷ log) p)
sound_on (Dialled q name) log p right none time stays s =
    at_either IsSoundPart (q.0 == p) (called_part (part_of log p)) (part_of log p)
    (λ is. record { on = λ h. refl; young = λ h. omega arith; whole = refl }) (λ off. s)
sound_on (NotDialled q name) log p right none time stays s =
    at_either IsSoundPart (q.0 == p) (with_item (Lost mark.NotDialled) (part_of log p)) (part_of log p)
    (λ is. absurd (stays (eqb-true q.0 p is))) (λ off. s)
sound_on (Sent q bytes) log p right none time stays s =
    at_either IsSoundPart (q.0 == p) (record (part_of log p) { trail = asks (spelled bytes) (trail log p) })
    (part_of log p)
    (λ is. subst (λ (o : Option Msg). Sound (asks o (trail log p))) (sym right.0.1)
    (sound_asked right.0.0 (trail log p) s)) (λ off. s)
sound_on (SendFailed q) log p right none time stays s =
    at_either IsSoundPart (q.0 == p) (with_item (Lost mark.SendFailed) (part_of log p)) (part_of log p)
    (λ is. absurd (stays (eqb-true q.0 p is))) (λ off. s)
sound_on (Closed q) log p right none time stays s =
    at_either IsSoundPart (q.0 == p) (with_item (Lost mark.Closed) (part_of log p)) (part_of log p)
    (λ is. absurd (not_shut log p q.0 right.0.0 (eqb-true q.0 p is) s none right.0.1)) (λ off. s)
sound_on (Took (Got q piece)) log p right none time stays s =
    at_either IsSoundPart (q.0 == p) (heard_part piece (part_of log p)) (part_of log p)
    (λ is. sound_read (read_stream ((part_of log p).waits ++ piece)) (trail log p) s) (λ off. s)
sound_on (Took (Gone q)) log p right none time stays s =
    at_either IsSoundPart (q.0 == p) (with_item (Lost mark.Gone) (part_of log p)) (part_of log p)
    (λ is. absurd (stays (eqb-true q.0 p is))) (λ off. s)
sound_on (Took (Tick n)) log p right none time stays s = record { on = s.on; young = time; whole = s.whole }
sound_on (Took Ended) log p right none time stays s = s

-- ---- at each moment

-- what the theorem assumes of a log and a chain of blocks
record Premises (log : Log) (blocks : List Block) : Type 0 where
  bytes : AreBytes log
  clash : NoHashClash (IsHashed log blocks)
  right : RightlyIn Following log

premises_before : (e : Event) (log : Log) (blocks : List Block) → Premises (e ∷ log) blocks → Premises log blocks
premises_before e log blocks w = record {
  bytes = bytes_before e log w.bytes;
  clash = clash_before e log blocks w.clash;
  right = rightly_before_in Following e log w.right;
}

-- what is true of a lower chain's claims is true of the whole chain's
true_whole : (blocks : List Block) (k : ℕ) (cs : Table) → AreTrue (take k blocks) cs → AreTrue blocks cs
true_whole blocks k cs tr block claim e =
    let w = tr block claim e in
    record {
      filter = w.filter;
      in_chain = filter_within blocks k w.filter w.in_chain;
      of_block = w.of_block;
      hash = w.hash;
      header = w.header;
    }

blameless_at : (blocks : List Block) → Setting blocks → AreGoodBlocks empty blocks → (first : ℕ)
    → first ≤ length blocks → (log : Log) (p : ℕ)
    → Premises log blocks → IsGrowingOver log p blocks first → Blameless log p
blameless_at blocks set good first low [] p w growing = record { clean = refl; innocent = λ o. false≢true o.there }
blameless_at blocks set good first low (e ∷ log) p w growing =
    let kept = keeps_growing blocks set first low (trail (e ∷ log) p) (asked_rightly_in Following (e ∷ log) p w.right)
    growing.0.0 growing.0.1 in
    record {
      clean = kept.clean;
      innocent = truth_omits_nothing (e ∷ log) p blocks w.bytes w.clash good kept.clean
          (true_whole blocks growing.0.0.height (claims (trail (e ∷ log) p)) kept.grows.true_claims);
    }

sound_at : (blocks : List Block) → Setting blocks → AreGoodBlocks empty blocks → (first : ℕ) → first ≤ length blocks
    → (log : Log) (p : ℕ)
    → Premises log blocks → IsGrowingOver log p blocks first → Sound (trail log p)
sound_at blocks set good first low [] p w growing =
    record { on = λ h. h; young = λ h. absurd (false≢true h); whole = refl }
sound_at blocks set good first low (e ∷ log) p w growing =
    let before = premises_before e log blocks w in
    sound_on e log p w.right (blameless_at blocks set good first low log p before growing.3) growing.1 growing.2
    (sound_at blocks set good first low log p before growing.3)

never_at : (blocks : List Block) → Setting blocks → AreGoodBlocks empty blocks → (first : ℕ) → first ≤ length blocks
    → (log : Log) (p : ℕ)
    → Premises log blocks → IsGrowingOver log p blocks first → IsNeverClosed log p
never_at blocks set good first low [] p w growing = tt
never_at blocks set good first low (Closed q ∷ log) p w growing =
    let before = premises_before (Closed q) log blocks w in (
      (λ same. not_shut log p q.0 w.right.0.0 same (sound_at blocks set good first low log p before growing.3)
          (blameless_at blocks set good first low log p before growing.3) w.right.0.1),
      never_at blocks set good first low log p before growing.3,
    )
never_at blocks set good first low (Dialled q name ∷ log) p w growing =
    never_at blocks set good first low log p (premises_before (Dialled q name) log blocks w) growing.3
never_at blocks set good first low (NotDialled q name ∷ log) p w growing =
    never_at blocks set good first low log p (premises_before (NotDialled q name) log blocks w) growing.3
never_at blocks set good first low (Sent q bytes ∷ log) p w growing =
    never_at blocks set good first low log p (premises_before (Sent q bytes) log blocks w) growing.3
never_at blocks set good first low (SendFailed q ∷ log) p w growing =
    never_at blocks set good first low log p (premises_before (SendFailed q) log blocks w) growing.3
never_at blocks set good first low (Took d ∷ log) p w growing =
    never_at blocks set good first low log p (premises_before (Took d) log blocks w) growing.3

turn_at : (log : Log) (p : ℕ) (blocks : List Block) (first : ℕ) → was_called (trail log p) ≡ true
    → IsGrowingOver log p blocks first → (s : Turn) × Reaches blocks first (trail log p) s
turn_at [] p blocks first called growing = absurd (false≢true called)
turn_at (e ∷ log) p blocks first called growing = growing.0

-- ---- the theorem

good_take : (coins : CoinMap) (blocks : List Block) (k : ℕ) → AreGoodBlocks coins blocks
    → AreGoodBlocks coins (take k blocks)
good_take coins blocks zero good = tt
good_take coins [] (suc k) good = tt
good_take coins (b ∷ blocks) (suc k) good = (good.0, good_take (after_block coins b) blocks k good.1)

-- the strings of a lower chain are among a chain's
lower_hashed : (log : Log) (blocks : List Block) (k : ℕ) (bytes : List ℕ) → IsHashed log (take k blocks) bytes
    → IsHashed log blocks bytes
lower_hashed log blocks k bytes (inl e) = inl e
lower_hashed log blocks k bytes (inr (inl received)) = inr (inl received)
lower_hashed log blocks k bytes (inr (inr of)) = inr (inr (by_kind of)) where
  by_kind : IsOfBlocks (take k blocks) bytes → IsOfBlocks blocks bytes
  by_kind (inl b) = inl (b.0, in_take b.0 k blocks b.1, b.2)
  by_kind (inr f) = inr (f.0, filter_within blocks k f.0 f.1, f.2)

lower_clash : (log : Log) (blocks : List Block) (k : ℕ) → NoHashClash (IsHashed log blocks)
    → NoHashClash (IsHashed log (take k blocks))
lower_clash log blocks k clash = record {
  apart = λ a b i j e. clash.apart a b (lower_hashed log blocks k a i) (lower_hashed log blocks k b j) e;
  real = λ a i e. clash.real a (lower_hashed log blocks k a i) e;
}

growing_connected : (log : Log) (p : ℕ) (blocks : List Block) (first : ℕ) → Premises log blocks
    → IsGrowing log p blocks first → IsConnected log p
growing_connected log p blocks first w peer =
    (sound_at blocks (setting_from log blocks w.clash peer.good peer.low) peer.good.each first peer.from log p w
    peer.growing).on peer.dialled

premises_of : (watch : List (List ℕ)) (height : ℕ) (hash : Hash32) (entries : List Entry) (log : Log)
    (blocks : List Block)
    → HasAskedIn Following watch height hash entries log → NoHashClash (IsHashed log blocks) → Premises log blocks
premises_of watch height hash entries log blocks h clash = record { bytes = h.bytes; clash = clash; right = h.rightly }

growing_history : (watch : List (List ℕ)) (height : ℕ) (hash : Hash32) (entries : List Entry) (log : Log)
    → HasAskedIn Following watch height hash entries log
    → (p : ℕ) (blocks : List Block) (first top : ℕ) → NoHashClash (IsHashed log blocks) → IsGrowing log p blocks first
    → IsTold blocks first (trail log p) top
    → OthersShowNone log p (take top blocks) → IsQuiet log → IsHistoryOf watch (take top blocks) height hash entries
growing_history watch height hash entries log h p blocks first top clash peer told none quiet =
    let set = setting_from log blocks clash peer.good peer.low in
    let on = growing_connected log p blocks first (premises_of watch height hash entries log blocks h clash) peer in
    let turn = turn_at log p blocks first peer.dialled peer.growing in
    let kept = keeps_growing blocks set first peer.from (trail log p) (asked_rightly_in Following log p h.rightly)
    turn.0 turn.1 in
    let here : top ≡ turn.0.height = one_told blocks set first (trail log p) top turn.0.height told kept.told in
    let f = followed_in Following watch height hash entries log h quiet (p, on) in
    let heard = sym ((same_use (trail log p) on kept.clean).hearing Following) ∙ f.heard_out p on in
    subst (λ (k : ℕ). IsHistoryOf watch (take k blocks) height hash entries) (sym here)
    (history_over Following watch height hash entries log f p (take turn.0.height blocks)
    (lower_clash log blocks turn.0.height clash)
    (lower_setting blocks turn.0.height set) (good_take empty blocks turn.0.height peer.good.each) on kept.clean
    (own_told blocks first (trail log p) turn.0 kept heard) kept.grows.true_claims
    (subst (λ (k : ℕ). OthersShowNone log p (take k blocks)) here none))

pub follow_theorem_of : (watch : List (List ℕ)) (height : ℕ) (hash : Hash32) (entries : List Entry) (log : Log)
    → HasAskedIn Following watch height hash entries log → FollowTheorem watch height hash entries log
follow_theorem_of watch height hash entries log h = record {
  never = λ p blocks first clash peer. never_at blocks (setting_from log blocks clash peer.good peer.low)
      peer.good.each first peer.from log p
      (premises_of watch height hash entries log blocks h clash) peer.growing;
  somebody = λ p blocks first clash peer. growing_connected log p blocks first
      (premises_of watch height hash entries log blocks h clash) peer;
  exact = λ p blocks first top clash peer told none quiet.
      growing_history watch height hash entries log h p blocks first top clash peer told none quiet;
}

-- what grows is never closed, whatever was told of the log
pub growing_never : (log : Log) (p : ℕ) (blocks : List Block) (first : ℕ) → AreBytes log → RightlyIn Following log
    → NoHashClash (IsHashed log blocks) → IsGrowing log p blocks first → IsNeverClosed log p
growing_never log p blocks first bytes right clash peer =
    never_at blocks (setting_from log blocks clash peer.good peer.low) peer.good.each first peer.from log p
    (record { bytes = bytes; clash = clash; right = right }) peer.growing
