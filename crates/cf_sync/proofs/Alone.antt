-- What is asked is open to nobody: by a plan, and where nothing is being fetched.
use Rattle.std.proofs.Common.{◌≡◌, ℕ, List, true, refl, sym, ◌∙◌, subst}
use Rattle.std.proofs.lemmas.Bool.{both_ways}
use Rattle.cf_bytes.specs.declared.hash.Hash32.{Hash32}
use Rattle.cf_headers.specs.Chain.{Hash, IsIn, back_to}
use Rattle.cf_msg.specs.declared.msg.Inventory.{Inventory}
use Rattle.cf_msg.specs.declared.msg.Msg.{Msg}
use Rattle.cf_msg.specs.declared.msg.Msg.TheVariants.{GetData, GetCfilters, Ping}
use Rattle.cf_wires.specs.Log.{Log}
use Rattle.cf_peer.specs.Trail.{Part, part_of, trail, is_connected, own}
use Rattle.cf_peer.specs.Asking.{OpenRequest, is_spare, NothingOpen, HeadersOpen, ClaimsOpen, FiltersOpen, BlockOpen, PingOpen, request}
use Rattle.cf_sync.specs.Fetching.{IsConnected, IsSameFetched, filters_open, blocks_open, IsAlone, blocks_in, is_after_tick}
use Rattle.cf_sync.proofs.SameFetched.{same_fetched_hash}

-- ---- the plan

-- what is asked of p by a plan is open to nobody, so it is indeed, where each connected peer has the part that was planned, the same was fetched,
-- and the last delivery is a tick of both or of neither
pub alone_less : (planned log : Log) (p : ℕ) (m : Msg) → IsSameFetched planned log
    → is_after_tick planned ≡ is_after_tick log → ((q : ℕ) → IsConnected log q → part_of planned q ≡ part_of log q)
    → part_of planned p ≡ part_of log p → IsAlone planned p m → IsAlone log p m
alone_less planned log p (GetCfilters filter start stop) fetched ticked parts mine alone = λ b i none stands.
    alone b (subst (λ (x : Part). IsIn b (blocks_in start (back_to stop.0 (own x.trail)))) (sym mine) i) (λ got. none (same_fetched_hash planned log fetched b got))
    (stands.0, subst (λ (x : Part). (is_connected x.trail ≡ true) × IsIn b (filters_open (request x.trail))) (sym (parts stands.0 stands.1.0)) stands.1)
alone_less planned log p (GetData entries) fetched ticked parts mine alone = λ entry i stands.
    alone entry i (stands.0, subst (λ (x : Part). (is_connected x.trail ≡ true) × IsIn entry.hash.0 (blocks_open (request x.trail))) (sym (parts stands.0 stands.1.0)) stands.1)
alone_less planned log p (Ping number) fetched ticked parts mine alone = sym ticked ∙ alone
alone_less planned log p m fetched ticked parts mine alone = tt

-- ---- where nothing is being fetched

-- neither filters nor a block are open to a connected peer
abbrev pub IsNoneFetching : Log → Type 0
IsNoneFetching log = (q : ℕ) → IsConnected log q → is_spare (request (trail log q)) ≡ true

spare_filters : (r : OpenRequest) (b : Hash) → is_spare r ≡ true → IsIn b (filters_open r) → ⊥
spare_filters NothingOpen b spare i = i
spare_filters HeadersOpen b spare i = i
spare_filters (ClaimsOpen stop parent blocks) b spare i = i
spare_filters (FiltersOpen left came) b spare i = absurd (both_ways (is_spare (FiltersOpen left came)) refl spare)
spare_filters (BlockOpen wanted) b spare i = i
spare_filters (PingOpen number) b spare i = i

spare_blocks : (r : OpenRequest) (b : Hash) → is_spare r ≡ true → IsIn b (blocks_open r) → ⊥
spare_blocks NothingOpen b spare i = i
spare_blocks HeadersOpen b spare i = i
spare_blocks (ClaimsOpen stop parent blocks) b spare i = i
spare_blocks (FiltersOpen left came) b spare i = i
spare_blocks (BlockOpen wanted) b spare i = absurd (both_ways (is_spare (BlockOpen wanted)) refl spare)
spare_blocks (PingOpen number) b spare i = i

pub none_filters : (log : Log) (p filter start : ℕ) (stop : Hash32) → IsNoneFetching log → IsAlone log p (GetCfilters filter start stop)
none_filters log p filter start stop none b i new stands = spare_filters (request (trail log stands.0)) b (none stands.0 stands.1.0) stands.1.1

pub none_block : (log : Log) (p : ℕ) (entries : List Inventory) → IsNoneFetching log → IsAlone log p (GetData entries)
none_block log p entries none entry i stands = spare_blocks (request (trail log stands.0)) entry.hash.0 (none stands.0 stands.1.0) stands.1.1
