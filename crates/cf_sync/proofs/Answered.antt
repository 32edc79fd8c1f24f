-- What came in a whole answer, to whatever questions: it stays so, it stands among what its peer gave, and pieces
-- alone bring it.
use Rattle.std.proofs.Common.{◌≡◌, inl, inr, ℕ, List, [], ◌∷◌, ◌==◌, Bool, true, false, Option, Some, None, refl, sym, ◌∙◌, subst}
use Rattle.std.proofs.lemmas.Bool.{cases_Bool, eqb-true}
use Rattle.std.proofs.lemmas.List.{append_cancel_right}
use Rattle.cf_headers.specs.Chain.{Hash, IsIn}
use Rattle.cf_match.specs.declared.job.Job.{Job}
use Rattle.cf_msg.specs.declared.msg.Msg.{Msg}
use Rattle.cf_msg.specs.declared.msg.Msg.TheVariants.{GetCfilters}
use Rattle.cf_wires.specs.declared.event.Delivery.TheVariants.{Got, Gone, Tick, Ended}
use Rattle.cf_wires.specs.declared.event.Event.{Event}
use Rattle.cf_wires.specs.declared.event.Event.TheVariants.{Dialled, NotDialled, Sent, SendFailed, Closed, Took}
use Rattle.cf_wires.specs.declared.event.Mark.TheVariants as mark
use Rattle.cf_wires.specs.Log.{Log}
use Rattle.cf_peer.specs.Asking.{counted, given_filters}
use Rattle.cf_peer.specs.Trail.{Trail, Part, Lost, called_part, with_item, spelled, asks, part_of, trail}
use Rattle.cf_sync.specs.Fetching.{counted_part, IsAnswered, IsFetchedHash, IsGiven, IsNoPiece, IsNoTest, IsTest, test_after}
use Rattle.cf_sync.specs.Planned.{IsSameGiven}
use Rattle.cf_sync.proofs.Entries.{at_either}
use Rattle.cf_sync.proofs.Grows.{fetched_stays, gave_more}
use Rattle.cf_sync.proofs.Listed.{in_left, in_right, in_either}
use Rattle.cf_sync.proofs.SameFetched.{piece_of_another}

-- ---- for any kind of question

-- what came so stays so
pub answered_stays : (way : Log → ℕ → Hash → Type 0) (e : Event) (log : Log) (job : Job) → IsAnswered way log job
    → IsAnswered way (e ∷ log) job
answered_stays way (Took (Got q piece)) log job a = inr a
answered_stays way (Took (Gone q)) log job a = a
answered_stays way (Took (Tick s)) log job a = a
answered_stays way (Took Ended) log job a = a
answered_stays way (Dialled q name) log job a = a
answered_stays way (NotDialled q name) log job a = a
answered_stays way (Sent q bytes) log job a = a
answered_stays way (SendFailed q) log job a = a
answered_stays way (Closed q) log job a = a

-- what isn't a piece brings none
pub only_pieces_answer : (way : Log → ℕ → Hash → Type 0) (e : Event) (log : Log) (job : Job) → IsNoPiece e
    → IsAnswered way (e ∷ log) job → IsAnswered way log job
only_pieces_answer way (Took (Got q piece)) log job none a = absurd none
only_pieces_answer way (Took (Gone q)) log job none a = a
only_pieces_answer way (Took (Tick s)) log job none a = a
only_pieces_answer way e log job none a = a

-- nor does an entry with which no peer gave a filter more
pub none_came_answers : (way : Log → ℕ → Hash → Type 0) (e : Event) (log : Log)
    → ((q : ℕ) → given_filters (counted_part (e ∷ log) q) ≡ given_filters (counted_part log q))
    → (job : Job) → IsAnswered way (e ∷ log) job → IsAnswered way log job
none_came_answers way (Took (Got q piece)) log same1 job (inr old) = old
none_came_answers way (Took (Got q piece)) log same1 job (inl new) =
    let none : new.1.news ≡ [] =
    append_cancel_right new.1.news [] (given_filters (counted_part log q.0)) (sym new.1.joined ∙ same1 q.0) in
    absurd (subst (λ (js : List Job). IsIn job js) none new.1.among)
none_came_answers way (Took (Gone q)) log same1 job a = a
none_came_answers way (Took (Tick s)) log same1 job a = a
none_came_answers way e log same1 job a = a

-- a filter came in a whole answer of some peer, before the first frame by which that peer deserved a cause
abbrev pub HasCome : Log → Job → Type 0
HasCome log job = (p : ℕ) × IsIn job (given_filters (counted_part log p))

come_stays : (e : Event) (log : Log) (job : Job) → HasCome log job → HasCome (e ∷ log) job
come_stays e log job w =
    let more = gave_more e log w.0 in
    (w.0, subst (λ (js : List Job). IsIn job js) (sym more.1) (in_right job more.0 (given_filters (counted_part log w.0)) w.1))

pub answered_wide : (way : Log → ℕ → Hash → Type 0) (log : Log) (job : Job) → IsAnswered way log job → HasCome log job
answered_wide way [] job a = absurd a
answered_wide way (Took (Got q piece) ∷ log) job (inl new) =
    let among = in_left job new.1.news (given_filters (counted_part log q.0)) new.1.among in
    (q.0, subst (λ (js : List Job). IsIn job js) (sym new.1.joined) among)
answered_wide way (Took (Got q piece) ∷ log) job (inr old) =
    come_stays (Took (Got q piece)) log job (answered_wide way log job old)
answered_wide way (Took (Gone q) ∷ log) job a = come_stays (Took (Gone q)) log job (answered_wide way log job a)
answered_wide way (Took (Tick s) ∷ log) job a = come_stays (Took (Tick s)) log job (answered_wide way log job a)
answered_wide way (Took Ended ∷ log) job a = come_stays (Took Ended) log job (answered_wide way log job a)
answered_wide way (Dialled q name ∷ log) job a = come_stays (Dialled q name) log job (answered_wide way log job a)
answered_wide way (NotDialled q name ∷ log) job a = come_stays (NotDialled q name) log job (answered_wide way log job a)
answered_wide way (Sent q bytes ∷ log) job a = come_stays (Sent q bytes) log job (answered_wide way log job a)
answered_wide way (SendFailed q ∷ log) job a = come_stays (SendFailed q) log job (answered_wide way log job a)
answered_wide way (Closed q ∷ log) job a = come_stays (Closed q) log job (answered_wide way log job a)

-- ---- what was given

pub given_stays : (e : Event) (log : Log) (job : Job) → IsGiven log job → IsGiven (e ∷ log) job
given_stays = answered_stays IsNoTest

pub given_wide : (log : Log) (job : Job) → IsGiven log job → HasCome log job
given_wide = answered_wide IsNoTest

-- so they are with an entry with which no peer gave a filter more
pub none_came_same_given : (e : Event) (log : Log)
    → ((q : ℕ) → given_filters (counted_part (e ∷ log) q) ≡ given_filters (counted_part log q)) → IsSameGiven log (e ∷ log)
none_came_same_given e log same1 job = (given_stays e log job, none_came_answers IsNoTest e log same1 job)

-- ---- what is to be tested is of a fetched block

pub fetched_hash_stays : (e : Event) (log : Log) (block : Hash) → IsFetchedHash log block
    → IsFetchedHash (e ∷ log) block
fetched_hash_stays e log block w = (w.0, fetched_stays e log w.0 w.1, w.2)

pub test_fetched : (log : Log) (p : ℕ) (block : Hash) → IsTest log p block → IsFetchedHash log block
test_fetched [] p block t = absurd t
test_fetched (Sent q bytes ∷ log) p block t = by (q.0 == p) (spelled bytes) (test_fetched log p block) t where
  by : (b : Bool) (o : Option Msg) → (IsTest log p block → IsFetchedHash log block)
      → test_after b o log block (IsTest log p block) → IsFetchedHash (Sent q bytes ∷ log) block
  by false o before t = fetched_hash_stays (Sent q bytes) log block (before t)
  by true None before t = fetched_hash_stays (Sent q bytes) log block (before t)
  by true (Some (GetCfilters filter start stop)) before t = fetched_hash_stays (Sent q bytes) log block t
  by true (Some m) before t = fetched_hash_stays (Sent q bytes) log block (before t)
test_fetched (Dialled q name ∷ log) p block t =
    fetched_hash_stays (Dialled q name) log block (test_fetched log p block t)
test_fetched (NotDialled q name ∷ log) p block t =
    fetched_hash_stays (NotDialled q name) log block (test_fetched log p block t)
test_fetched (SendFailed q ∷ log) p block t = fetched_hash_stays (SendFailed q) log block (test_fetched log p block t)
test_fetched (Closed q ∷ log) p block t = fetched_hash_stays (Closed q) log block (test_fetched log p block t)
test_fetched (Took d ∷ log) p block t = fetched_hash_stays (Took d) log block (test_fetched log p block t)

-- ---- what came of a block that wasn't fetched was given

asks_none : (o : Option Msg) (t : Trail) → given_filters (counted (asks o t)) ≡ given_filters (counted t)
asks_none None t = refl
asks_none (Some m) t = refl

-- no filter comes with what isn't a piece
abbrev GaveSame : Trail → Part → Type 0
GaveSame t part = given_filters (counted part.trail) ≡ given_filters (counted t)

pub no_piece_gives : (e : Event) (log : Log) → IsNoPiece e → (p : ℕ)
    → given_filters (counted_part (e ∷ log) p) ≡ given_filters (counted_part log p)
no_piece_gives (Dialled q name) log is p =
    at_either (GaveSame (trail log p)) (q.0 == p) (called_part (part_of log p)) (part_of log p)
    (λ is. refl) (λ off. refl)
no_piece_gives (NotDialled q name) log is p =
    at_either (GaveSame (trail log p)) (q.0 == p) (with_item (Lost mark.NotDialled) (part_of log p)) (part_of log p)
    (λ is. refl) (λ off. refl)
no_piece_gives (Sent q bytes) log is p =
    at_either (GaveSame (trail log p)) (q.0 == p) (record (part_of log p) { trail = asks (spelled bytes) (trail log p) })
    (part_of log p)
    (λ is. asks_none (spelled bytes) (trail log p)) (λ off. refl)
no_piece_gives (SendFailed q) log is p =
    at_either (GaveSame (trail log p)) (q.0 == p) (with_item (Lost mark.SendFailed) (part_of log p)) (part_of log p)
    (λ is. refl) (λ off. refl)
no_piece_gives (Closed q) log is p =
    at_either (GaveSame (trail log p)) (q.0 == p) (with_item (Lost mark.Closed) (part_of log p)) (part_of log p)
    (λ is. refl) (λ off. refl)
no_piece_gives (Took (Got q piece)) log is p = absurd is
no_piece_gives (Took (Gone q)) log is p =
    at_either (GaveSame (trail log p)) (q.0 == p) (with_item (Lost mark.Gone) (part_of log p)) (part_of log p)
    (λ is. refl) (λ off. refl)
no_piece_gives (Took (Tick s)) log is p = refl
no_piece_gives (Took Ended) log is p = refl

-- the block wasn't fetched before the entry either
unfetched_before : (e : Event) (log : Log) (block : Hash) → (IsFetchedHash (e ∷ log) block → ⊥)
    → IsFetchedHash log block → ⊥
unfetched_before e log block none got = none (fetched_hash_stays e log block got)

came_before : (e : Event) (log : Log) (p : ℕ) (job : Job) → IsNoPiece e → IsIn job (given_filters (counted_part (e ∷ log) p))
    → IsIn job (given_filters (counted_part log p))
came_before e log p job none i = subst (λ (js : List Job). IsIn job js) (no_piece_gives e log none p) i

pub came_given : (log : Log) (p : ℕ) (job : Job) → IsIn job (given_filters (counted_part log p))
    → (IsFetchedHash log job.block.0 → ⊥) → IsGiven log job
came_given [] p job i none = absurd i
came_given (Took (Got q piece) ∷ log) p job i none = elim (cases_Bool (q.0 == p)) [
  | inl is ↦ (
      let more = gave_more (Took (Got q piece)) log q.0 in
      let here : IsIn job (given_filters (counted_part (Took (Got q piece) ∷ log) q.0)) =
      subst (λ (k : ℕ). IsIn job (given_filters (counted_part (Took (Got q piece) ∷ log) k))) (sym (eqb-true q.0 p is)) i in
      elim (in_either job more.0 (given_filters (counted_part log q.0)) (subst (λ (js : List Job). IsIn job js) more.1 here)) [
        | inl new ↦ inl (
          (λ t. before (test_fetched log q.0 job.block.0 t)),
          record { news = more.0; joined = more.1; among = new },
        )
        | inr old ↦ inr (came_given log q.0 job old before)
      ]
      )
  | inr off ↦ inr (came_given log p job (elsewhere off) before)
] where
  before : IsFetchedHash log job.block.0 → ⊥
  before = unfetched_before (Took (Got q piece)) log job.block.0 none

  elsewhere : (q.0 == p) ≡ false → IsIn job (given_filters (counted_part log p))
  elsewhere off = subst (λ (part : Part). IsIn job (given_filters (counted part.trail))) (piece_of_another q piece log p off) i
came_given (Took (Gone q) ∷ log) p job i none =
    came_given log p job (came_before (Took (Gone q)) log p job tt i)
    (unfetched_before (Took (Gone q)) log job.block.0 none)
came_given (Took (Tick s) ∷ log) p job i none =
    came_given log p job (came_before (Took (Tick s)) log p job tt i)
    (unfetched_before (Took (Tick s)) log job.block.0 none)
came_given (Took Ended ∷ log) p job i none =
    came_given log p job (came_before (Took Ended) log p job tt i) (unfetched_before (Took Ended) log job.block.0 none)
came_given (Dialled q name ∷ log) p job i none =
    came_given log p job (came_before (Dialled q name) log p job tt i)
    (unfetched_before (Dialled q name) log job.block.0 none)
came_given (NotDialled q name ∷ log) p job i none =
    came_given log p job (came_before (NotDialled q name) log p job tt i)
    (unfetched_before (NotDialled q name) log job.block.0 none)
came_given (Sent q bytes ∷ log) p job i none =
    came_given log p job (came_before (Sent q bytes) log p job tt i)
    (unfetched_before (Sent q bytes) log job.block.0 none)
came_given (SendFailed q ∷ log) p job i none =
    came_given log p job (came_before (SendFailed q) log p job tt i)
    (unfetched_before (SendFailed q) log job.block.0 none)
came_given (Closed q ∷ log) p job i none =
    came_given log p job (came_before (Closed q) log p job tt i) (unfetched_before (Closed q) log job.block.0 none)
