-- No ping is open in the log of a client that ends once nothing is open.
use Rattle.std.proofs.Common.{◌≡◌, ℕ, List, [], ◌∷◌, true, false, if◌then◌else◌, subst, ◌++◌}
use Rattle.cf_headers.specs.Chain.{Hash}
use Rattle.cf_match.specs.declared.job.Job.{Job}
use Rattle.cf_msg.specs.declared.msg.Inventory.{Inventory}
use Rattle.cf_msg.specs.declared.msg.Msg.{Msg}
use Rattle.cf_msg.specs.declared.msg.Msg.TheVariants.{Ping, Pong, GetHeaders, Headers, GetData, Block as BlockMessage, GetCfheaders, Cfheaders, GetCfilters, Cfilter}
use Rattle.cf_wires.specs.Log.{Log}
use Rattle.cf_peer.specs.Trail.{Trail, Called, Said, Refused, Asked, Passed, Lost, trail, own}
use Rattle.cf_peer.specs.Asking.{OpenRequest, NothingOpen, HeadersOpen, ClaimsOpen, FiltersOpen, BlockOpen, PingOpen, request, request_for, request_after, is_wanted, is_answer_of, filters_left, filter_of, block_asked, MayAsk}
use Rattle.cf_sync.specs.Fetching.{Rightly}
use Rattle.cf_sync.proofs.Remembers.{AskedRightly, asked_rightly}

abbrev IsNoPing : OpenRequest → Type 0
IsNoPing NothingOpen = Unit {0}
IsNoPing HeadersOpen = Unit {0}
IsNoPing (ClaimsOpen stop parent blocks) = Unit {0}
IsNoPing (FiltersOpen left came) = Unit {0}
IsNoPing (BlockOpen block) = Unit {0}
IsNoPing (PingOpen number) = ⊥

none_left : (left : List Hash) (came : List Job) → IsNoPing (filters_left left came)
none_left [] came = tt
none_left (n ∷ left) came = tt

after_said : (m : Msg) (r : OpenRequest) → IsNoPing r → IsNoPing (request_after m r)
after_said (Headers hs) HeadersOpen is = tt
after_said (Cfheaders filter stop previous hashes) (ClaimsOpen wanted parent blocks) is =
    elim (is_answer_of filter stop.0 wanted) as
    (λ b. IsNoPing (if b then NothingOpen else ClaimsOpen wanted parent blocks)) [ true ↦ tt | false ↦ tt ]
after_said (Cfilter filter block bytes) (FiltersOpen (next ∷ left) came) is =
    elim (is_answer_of filter block.0 next) as
    (λ b. IsNoPing (if b then filters_left left (came ++ filter_of block bytes ∷ []) else FiltersOpen (next ∷ left)
    came)) [
      | true ↦ none_left left (came ++ filter_of block bytes ∷ [])
      | false ↦ tt
    ]
after_said (BlockMessage b) (BlockOpen wanted) is =
    elim (is_wanted b wanted) as (λ x. IsNoPing (if x then NothingOpen else BlockOpen wanted))
    [ true ↦ tt | false ↦ tt ]
after_said (Pong number) (PingOpen wanted) is = absurd is
after_said m r is = is

after_asked : (m : Msg) (t : Trail) → MayAsk t m → IsNoPing (request t) → IsNoPing (request_for m (own t) (request t))
after_asked (GetHeaders version locator stop) t may is = tt
after_asked (GetCfheaders filter start stop) t may is = rw may.1.0.tip tt
after_asked (GetCfilters filter start stop) t may is = rw may.1.0.tip tt
after_asked (GetData entries) t may is = by_entries entries where
  by_entries : (entries : List Inventory) → IsNoPing (block_asked entries (request t))
  by_entries [] = is
  by_entries (e ∷ more) = tt
after_asked (Ping number) t may is = absurd may
after_asked m t may is = is

none_open : (t : Trail) → AskedRightly t → IsNoPing (request t)
none_open [] right = tt
none_open (Called ∷ t) right = tt
none_open (Said m ∷ t) right = after_said m (request t) (none_open t right)
none_open (Refused c ∷ t) right = none_open t right
none_open (Asked m ∷ t) right = after_asked m t right.0 (none_open t right.1)
none_open (Passed s ∷ t) right = none_open t right
none_open (Lost w ∷ t) right = none_open t right

pub no_ping : (log : Log) (p number : ℕ) → Rightly log → request (trail log p) ≡ PingOpen number → ⊥
no_ping log p number right e = subst IsNoPing e (none_open (trail log p) (asked_rightly log p right))
