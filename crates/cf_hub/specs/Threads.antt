-- machine: what a dial does to the threads that wait for tasks.
use Rattle.std.specs.Prelude.{◌≡◌, ◌⊎◌, ℕ, Bool, true, false, List, [], ◌∷◌, ◌++◌, Option, Some, None, IfSome, IsSome, Result, Ok, Err}
use Rattle.cf_bytes.specs.declared.outside.Failed.{Failed}
use Rattle.cf_bytes.specs.declared.peer.PeerNo.{PeerNo}
use Rattle.cf_tasks.specs.Waiting.{Waiting, HasGiven, HasFailed}
use Rattle.cf_wires.specs.declared.wires.WireFail.{WireFail}
use Rattle.cf_wires.specs.declared.wires.WireFail.TheVariants as fails

-- the pulse, where it still waited, was handed over to a thread; or none took it, and it waits still
abbrev pub HandsOver : {C : Type 0} → Bool → Option C → Option C → Waiting → Waiting → Type 0
HandsOver true clock clock' ws ws' = (clock' ≡ None) × (((clock ≡ None) × (ws' ≡ ws)) ⊎ HasGiven ws ws')
HandsOver false clock clock' ws ws' = IsSome clock' × HasFailed ws ws'

-- the pulse and its threads stay as they were, or it was handed over, or none took it
abbrev pub MayHandOver : {C : Type 0} → Option C → Option C → Waiting → Waiting → Type 0
MayHandOver clock clock' ws ws' = ((clock' ≡ clock) × (ws' ≡ ws)) ⊎ HandsOver true clock clock' ws ws' ⊎ HandsOver false clock clock' ws ws'

-- a dial that goes well has given one thread its reader; one that fails has found none, or asked for none
abbrev pub Takes : {T : Type 0} → Result T WireFail → Waiting → Waiting → Type 0
Takes (Ok x) ws ws' = HasGiven ws ws'
Takes (Err fails.Failed) ws ws' = (ws' ≡ ws) ⊎ HasFailed ws ws'
Takes (Err fails.NoMemory) ws ws' = ws' ≡ ws

-- why a dial may count as the hub's own failure: it came too late, or no thread took its reader, or none the pulse, which waits still
abbrev pub MayMiss : {C : Type 0} → Bool → Waiting → Waiting → Option C → Waiting → Waiting → Type 0
MayMiss finished readers readers' clock' tickers tickers' = (finished ≡ true) ⊎ HasFailed readers readers' ⊎ (IsSome clock' × HasFailed tickers tickers')

-- the pulse that waits and the one that a thread has are those that they were, or a thread has now the one that waited
abbrev pub Moves : {P : Type 0} → Option P → Option P → Option P → Option P → Type 0
Moves {P = P} waits waits' runs runs' = ((waits' ≡ waits) × (runs' ≡ runs)) ⊎ ((p : P) × (waits ≡ Some p) × (waits' ≡ None) × (runs' ≡ Some p))

module _ {D S W : Type 0} (dials : D → List ℕ → Result (S × W) Failed → D → Type 0) (written : W → Option (List ℕ)) where
  -- what a dial does to the dialer, to the tasks that read, and to the writers. Where it goes well it was one dial of that name: the task has the source that was
  -- dialled and the peer's number, the writer is the one that was dialled, and where it tells its bytes it has told none. Else there is no task more, and one dial at most
  abbrev pub HasOpened : Result PeerNo WireFail → List ℕ → D → D → List (ℕ × S) → List (ℕ × S) → List (Option W) → List (Option W) → Type 0
  HasOpened (Ok p) name d d' ts ts' ws ws' =
      (s : S) × (w : W) × dials d name (Ok (s, w)) d' × (ts' ≡ ts ++ (p.0, s) ∷ []) × (ws' ≡ ws ++ Some w ∷ []) × IfSome (written w) (λ bytes. bytes ≡ [])
  HasOpened (Err fails.Failed) name d d' ts ts' ws ws' = (ts' ≡ ts) × ((d' ≡ d) ⊎ ((r : Result (S × W) Failed) × dials d name r d'))
  HasOpened (Err fails.NoMemory) name d d' ts ts' ws ws' = (ts' ≡ ts) × (d' ≡ d)
