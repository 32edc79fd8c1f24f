-- Logs in which the same blocks were fetched, and entries by which none is.
use Rattle.std.proofs.Common.{◌≡◌, ℕ, List, ◌∷◌, Option, Some, None, Bool, false, ◌==◌, if◌then◌else◌, refl, sym, ap, subst}
use Rattle.cf_bytes.specs.declared.peer.PeerNo.{PeerNo}
use Rattle.cf_block.specs.declared.tx.Block.{Block}
use Rattle.cf_headers.specs.Chain.{Hash, IsIn}
use Rattle.cf_msg.specs.declared.msg.Msg.{Msg}
use Rattle.cf_msg.specs.declared.msg.Msg.TheVariants.{GetData}
use Rattle.cf_wires.specs.declared.event.Delivery.TheVariants.{Got, Gone, Tick, Ended}
use Rattle.cf_wires.specs.declared.event.Event.{Event}
use Rattle.cf_wires.specs.declared.event.Event.TheVariants.{Dialled, NotDialled, Sent, SendFailed, Closed, Took}
use Rattle.cf_wires.specs.declared.event.Mark.TheVariants as mark
use Rattle.cf_wires.specs.Log.{Log}
use Rattle.cf_peer.specs.Trail.{Trail, Part, Lost, called_part, with_item, heard_part, spelled, asks, part_of, trail}
use Rattle.cf_peer.specs.Asking.{counted, fetched_blocks}
use Rattle.cf_sync.specs.Fetching.{IsFetched, IsFetchedHash, IsSameFetched, IsNoPiece, IsWanted}
use Rattle.cf_sync.proofs.Entries.{at_either}

-- ---- what brings nothing to a peer's part

pub sent_brings_none : (o : Option Msg) (t : Trail) → fetched_blocks (counted (asks o t)) ≡ fetched_blocks (counted t)
sent_brings_none None t = refl
sent_brings_none (Some m) t = refl

-- ---- and what entry brings nothing

abbrev HasSame : Trail → Part → Type 0
HasSame t part = fetched_blocks (counted part.trail) ≡ fetched_blocks (counted t)

pub no_piece_brings : (e : Event) (log : Log) → IsNoPiece e → IsSameFetched (e ∷ log) log
no_piece_brings (Dialled q name) log is p = at_either (HasSame (trail log p)) (q.0 == p) (called_part (part_of log p)) (part_of log p) (λ is. refl) (λ off. refl)
no_piece_brings (NotDialled q name) log is p = at_either (HasSame (trail log p)) (q.0 == p) (with_item (Lost mark.NotDialled) (part_of log p)) (part_of log p) (λ is. refl) (λ off. refl)
no_piece_brings (Sent q bytes) log is p =
    at_either (HasSame (trail log p)) (q.0 == p) (record (part_of log p) { trail = asks (spelled bytes) (trail log p) }) (part_of log p)
    (λ is. sent_brings_none (spelled bytes) (trail log p)) (λ off. refl)
no_piece_brings (SendFailed q) log is p = at_either (HasSame (trail log p)) (q.0 == p) (with_item (Lost mark.SendFailed) (part_of log p)) (part_of log p) (λ is. refl) (λ off. refl)
no_piece_brings (Closed q) log is p = at_either (HasSame (trail log p)) (q.0 == p) (with_item (Lost mark.Closed) (part_of log p)) (part_of log p) (λ is. refl) (λ off. refl)
no_piece_brings (Took (Got q piece)) log is p = absurd is
no_piece_brings (Took (Gone q)) log is p = at_either (HasSame (trail log p)) (q.0 == p) (with_item (Lost mark.Gone) (part_of log p)) (part_of log p) (λ is. refl) (λ off. refl)
no_piece_brings (Took (Tick s)) log is p = refl
no_piece_brings (Took Ended) log is p = refl

-- a piece changes nobody else's part
pub piece_of_another : (p : PeerNo) (piece : List ℕ) (log : Log) (q : ℕ) → (p.0 == q) ≡ false → part_of (Took (Got p piece) ∷ log) q ≡ part_of log q
piece_of_another p piece log q off = ap (λ (b : Bool). if b then heard_part piece (part_of log q) else part_of log q) off

-- ---- what depends on the fetched blocks alone

pub same_fetched : (a b : Log) → IsSameFetched a b → (block : Block) → IsFetched a block → IsFetched b block
same_fetched a b same block got = (got.0, subst (λ (bs : List Block). IsIn block bs) (same got.0) got.1)

pub same_fetched_back : (a b : Log) → IsSameFetched a b → IsSameFetched b a
same_fetched_back a b same p = sym (same p)

pub same_fetched_hash : (a b : Log) → IsSameFetched a b → (hash : Hash) → IsFetchedHash a hash → IsFetchedHash b hash
same_fetched_hash a b same hash got = (got.0, same_fetched a b same got.0 got.1, got.2)

pub same_wanted : (a b : Log) → IsSameFetched a b → (m : Msg) → IsWanted a m → IsWanted b m
same_wanted a b same (GetData entries) wanted = λ entry i got. wanted entry i (same_fetched_hash b a (same_fetched_back a b same) entry.hash.0 got)
same_wanted a b same m wanted = wanted
