-- What was sent, closed and taken was right at each moment, also where a step finds no memory.
use Rattle.std.proofs.Common.{◌≡◌, ◌<◌, ℕ, suc, List, [], ◌∷◌, length, drop, get_or, false, Ok, Err, sym, ◌∙◌, subst}
use Rattle.cf_bytes.specs.declared.peer.PeerNo.{PeerNo}
use Rattle.cf_headers.specs.declared.store.HeaderStore.{Ghosts}
use Rattle.cf_match.specs.declared.matcher.Matcher.{Ghosts as Judges}
use Rattle.cf_msg.specs.declared.msg.Msg.{Msg}
use Rattle.cf_peer.specs.Acts.{bytes_of}
use Rattle.cf_peer.specs.declared.act.Act.{Act}
use Rattle.cf_peer.specs.declared.act.Act.TheVariants.{Send}
use Rattle.cf_peer.specs.declared.mode.Mode.{Mode}
use Rattle.cf_wires.specs.declared.event.Event.TheVariants.{NotDialled, Sent}
use Rattle.cf_wires.specs.Log.{Log, Told, Tells, tell}
use Rattle.cf_sync.specs.Fetching.{AreBytes, RightlyIn, Rule}
use Rattle.cf_place.specs.Places.{MayAct}
use Rattle.cf_client.specs.declared.client.Client.{Client}
use Rattle.cf_client.specs.Stands.{rule_by, greeting_by}
use Rattle.cf_run.specs.declared.progress.Progress.{Progress}
use Rattle.cf_run.specs.States.{ActsLeft, Doing, HoldsOver, Notes, is_pending, state_at}
use Rattle.cf_run.specs.Passing.{KeepsTerms, StaysRight}
use Rattle.cf_run.specs.Run.{IsRight}
use Rattle.cf_run.specs.Versions.{KeepsGreeting}
use Rattle.cf_run.proofs.Performs.{next_left, sent_rightly, tells_more}
use Rattle.cf_run.proofs.Turns.{told_so}
use Rattle.cf_run.proofs.Versions.{keeps_then}

-- of a log that the wires tell
right_so : (mode : Mode) (actual : Log) (t : Told) → Tells actual t → AreBytes actual → RightlyIn mode actual → IsRight mode t
right_so mode actual t tells bytes rightly =
    told_so t.log actual (λ log. AreBytes log × RightlyIn mode log) tells.content (bytes, rightly)

notes_right : {rule : Rule} {progress : Progress} {called : List (List ℕ)} {actual : Log} {t : Told}
    → Notes rule progress called actual t → IsRight rule.mode t
notes_right {rule = rule} {actual = actual} {t = t} notes =
    right_so rule.mode actual t notes.tells notes.bytes notes.rightly

-- while acts are done
pub doing_right : {rule : Rule} {acts : List Act} {progress : Progress} {called : List (List ℕ)} {planned : Log} {t : Told}
    → Doing rule acts progress called planned t → IsRight rule.mode t
doing_right doing = notes_right doing.notes

-- between two calls of the client
pub holds_right : {H M : Type 0} {g : Ghosts H} {j : Judges M} (c : Client H M g j) {progress : Progress}
    {called : List (List ℕ)} {t : Told} → HoldsOver c progress called t → IsRight (rule_by c).mode t
holds_right c holds = notes_right holds.notes

-- once a message was sent
pub sent_right : {rule : Rule} (acts : List Act) (progress : Progress) (called : List (List ℕ)) (planned : Log) (t u : Told)
    (p : PeerNo) (m : Msg) → is_pending (state_at progress.sends p.0) ≡ false → u ≡ tell (Sent p (bytes_of m)) t
    → MayAct rule (Send p m) planned → Doing rule (Send p m ∷ acts) progress called planned t → IsRight rule.mode u
sent_right {rule = rule} acts progress called planned t u p m free told may doing =
    rw told
    (right_so rule.mode (Sent p (bytes_of m) ∷ doing.actual) (tell (Sent p (bytes_of m)) t)
    (tells_more doing.actual t (Sent p (bytes_of m)) doing.notes.tells) doing.notes.bytes
    (sent_rightly acts progress called planned t p m free may doing))

-- nothing has passed
pub right_new : (mode : Mode) (t : Told) → Tells [] t → IsRight mode t
right_new mode t tells = right_so mode [] t tells tt tt

-- by the same rule
pub right_by : {r q : Rule} (t : Told) → q ≡ r → IsRight q.mode t → IsRight r.mode t
right_by t same right = subst (λ (x : Rule). IsRight x.mode t) same right

-- of wires that tell the same
pub right_at : {t u : Told} (mode : Mode) → u ≡ t → IsRight mode t → IsRight mode u
right_at mode same right = subst (IsRight mode) (sym same) right

-- a peer could not be dialled
pub missed_right : {H M : Type 0} {g : Ghosts H} {j : Judges M} (c : Client H M g j) {progress : Progress}
    {called : List (List ℕ)} {t u : Told} (p : PeerNo) (name : List ℕ) → u ≡ tell (NotDialled p name) t
    → HoldsOver c progress called t → IsRight (rule_by c).mode u
missed_right c {t = t} p name told holds =
    rw told
    (right_so (rule_by c).mode (NotDialled p name ∷ holds.actual) (tell (NotDialled p name) t)
    (tells_more holds.actual t (NotDialled p name) holds.notes.tells) holds.notes.bytes holds.notes.rightly)

-- the next of acts finds no memory
pub acts_right : {rule : Rule} (acts : List Act) (i : ℕ) (a : Act) (end : Log) (progress : Progress) (called : List (List ℕ)) (t u : Told)
    → i < length acts → a ≡ get_or acts i a → ActsLeft rule (drop i acts) end progress called t
    → ((more : List Act) (called : List (List ℕ)) (planned : Log) → MayAct rule a planned
    → Doing rule (a ∷ more) progress called planned t → IsRight rule.mode u)
    → IsRight rule.mode u
acts_right acts i a end progress called t u lt is left step =
    let l = next_left acts i a end progress called t lt is left in
    step (drop (suc i) acts) called l.planned l.allowed.0 l.doing

-- ---- a step that is a part of another, of which so much was done before, for a client that goes by and tells the same

pub stays_on : {A B E F H M : Type 0} {g : Ghosts H} {j : Judges M} {c d : Client H M g j} {x : A} {y : B} {t u v : Told}
    → greeting_by d ≡ greeting_by c → KeepsGreeting (greeting_by c) t u → StaysRight {E = E} (Ok x) d u v
    → StaysRight {E = F} (Ok y) c t v
stays_on {c = c} {d = d} {t = t} {u = u} {v = v} greeting keeps stays =
    record { right = tt; versions = keeps_then (greeting_by d) (greeting_by c) t u v greeting keeps stays.versions }

pub stays_err : {A B E F H M : Type 0} {g : Ghosts H} {j : Judges M} {c d : Client H M g j} {x : E} {y : F} {t u v : Told}
    → rule_by d ≡ rule_by c → greeting_by d ≡ greeting_by c → KeepsGreeting (greeting_by c) t u
    → StaysRight {A = A} (Err x) d u v → StaysRight {A = B} (Err y) c t v
stays_err {c = c} {d = d} {t = t} {u = u} {v = v} rule greeting keeps stays = record {
  right = right_by v rule stays.right;
  versions = keeps_then (greeting_by d) (greeting_by c) t u v greeting keeps stays.versions;
}

pub terms_on : {A B E F H M : Type 0} {g : Ghosts H} {j : Judges M} {c d e : Client H M g j} {x : A} {y : B}
    → rule_by d ≡ rule_by c → greeting_by d ≡ greeting_by c → KeepsTerms {E = E} (Ok x) d e → KeepsTerms {E = F} (Ok y) c e
terms_on rule greeting terms = record { rule = terms.rule ∙ rule; greeting = terms.greeting ∙ greeting }

pub terms_err : {A B E F H M : Type 0} {g : Ghosts H} {j : Judges M} {c d e : Client H M g j} {x : E} {y : F}
    → greeting_by d ≡ greeting_by c → KeepsTerms {A = A} (Err x) d e → KeepsTerms {A = B} (Err y) c e
terms_err greeting terms = record { rule = tt; greeting = terms.greeting ∙ greeting }
