-- statement: blame: the filters that differ on a fetched block are asked for and tested against what the block itself pays.
use Rattle.std.specs.Prelude.{◌≡◌, ◌⊎◌, ℕ, Bool, true, false, [], ◌∷◌, Some}
use Rattle.cf_bytes.specs.declared.hash.Hash32.{Hash32}
use Rattle.cf_headers.specs.Chain.{Hash, Chain, IsIn}
use Rattle.cf_msg.specs.declared.msg.Msg.{Msg}
use Rattle.cf_wires.specs.declared.event.Event.TheVariants.{Dialled, Sent, SendFailed, Closed}
use Rattle.cf_wires.specs.Log.{Log}
use Rattle.cf_peer.specs.Trail.{Trail, Called, Said, Asked, spelled, own, is_news}
use Rattle.cf_peer.specs.Asking.{hashes_of}
use Rattle.cf_sync.specs.Fetching.{counted_part, IsConnected, IsFetchedHash, HasClaimed, IsDisputed, IsTestedWith, IsOmission, IsOmitting}

-- ---- what is asked once

-- since a block was fetched this message was sent to p
abbrev pub WasAskedSince : Log → ℕ → Msg → Hash → Type 0
WasAskedSince [] p m block = ⊥
WasAskedSince (Sent q bytes ∷ log) p m block =
    (IsFetchedHash log block × (q.0 ≡ p) × (spelled bytes ≡ Some m)) ⊎ WasAskedSince log p m block
WasAskedSince (Dialled q name ∷ log) p m block = (q.0 ≡ p → ⊥) × WasAskedSince log p m block
WasAskedSince (_ ∷ log) p m block = WasAskedSince log p m block

-- with news what was before is gone
abbrev pub before_news : Bool → Type 0 → Type 0
before_news true before = ⊥
before_news false before = before

-- the same message was sent to a peer since it was dialled, and since it told last of a block that wasn't on its own chain
abbrev pub WasAskedSinceNews : Trail → Msg → Type 0
WasAskedSinceNews [] m = ⊥
WasAskedSinceNews (Called ∷ t) m = ⊥
WasAskedSinceNews (Said n ∷ t) m = before_news (is_news n (own t)) (WasAskedSinceNews t m)
WasAskedSinceNews (Asked n ∷ t) m = (m ≡ n) ⊎ WasAskedSinceNews t m
WasAskedSinceNews (_ ∷ t) m = WasAskedSinceNews t m

-- ---- what follows

-- Of each fetched block of a chain on whose filter the connected peers differ: what a connected peer whose own chain holds it claims was tested, and
-- that filter lacks nothing that the block pays.
pub record AreBlamed (log : Log) (chain : Chain) : Type 0 where
  pub tested : (block : Hash) → IsIn block (hashes_of chain) → IsFetchedHash log block → IsDisputed log block
      → (p : ℕ) → IsConnected log p → IsIn block (hashes_of (own (counted_part log p))) → (hash : Hash32) → HasClaimed log p block hash → IsTestedWith log block hash
  pub clean : (block : Hash) → IsIn block (hashes_of chain) → (p : ℕ) → IsConnected log p → (hash : Hash32) → HasClaimed log p block hash
      → (t : IsTestedWith log block hash) → IsOmission log block t.filter.filter → ⊥

-- ---- who was closed for it

-- p was closed while it omitted something, and since then no send to it has failed and it wasn't dialled
abbrev pub HasOmitted : Log → ℕ → Type 0
HasOmitted [] p = ⊥
HasOmitted (Closed q ∷ log) p = ((q.0 ≡ p) × IsOmitting log p) ⊎ HasOmitted log p
HasOmitted (SendFailed q ∷ log) p = (q.0 ≡ p → ⊥) × HasOmitted log p
HasOmitted (Dialled q name ∷ log) p = (q.0 ≡ p → ⊥) × HasOmitted log p
HasOmitted (_ ∷ log) p = HasOmitted log p
