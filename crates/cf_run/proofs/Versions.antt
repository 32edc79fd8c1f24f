-- No version is sent that tells another greeting than the client's.
use Rattle.std.proofs.Common.{◌≡◌, ℕ, ℤ, ◌<◌, List, [], length, get_or, Option, Some, None, sym, ◌∙◌, subst}
use Rattle.std.specs.Prelude.{IfSome}
use Rattle.std.specs.List.{All}
use Rattle.std.proofs.lemmas.List.Elements.{All-nil, All-cons, All-get_or, All-same}
use Rattle.cf_bytes.specs.declared.peer.PeerNo.{PeerNo}
use Rattle.cf_msg.specs.declared.msg.Msg.{Msg}
use Rattle.cf_peer.specs.declared.act.Act.{Act}
use Rattle.cf_peer.specs.declared.act.Act.TheVariants.{Send}
use Rattle.cf_wires.specs.declared.event.Event.{Event}
use Rattle.cf_wires.specs.declared.event.Event.TheVariants.{Sent}
use Rattle.cf_peer.specs.Acts.{bytes_of, IsSendable}
use Rattle.cf_wires.specs.Log.{Log, Told, Tells, tell, longer}
use Rattle.cf_place.specs.Places.{ActTells, Greets}
use Rattle.cf_place.specs.Standing.{Greeting, TellsGreeting}
use Rattle.cf_run.specs.Versions.{EntryTells, IsOfGreeting, HasGreeting, KeepsGreeting}
use Rattle.cf_client.proofs.Spelled.{spelled_bytes}

-- an entry that tells this greeting, or is no version
pub entry_keeps : (greeting : Greeting) (e : Event) (t u : Told) → u ≡ tell e t → EntryTells greeting e → KeepsGreeting greeting t u
entry_keeps greeting e t u told tells = λ has. subst (HasGreeting greeting) (sym told) (kept t.log has) where
  kept : (o : Option Log) → IfSome o (IsOfGreeting greeting) → IfSome (longer e o) (IsOfGreeting greeting)
  kept None has = has
  kept (Some log) has = (tells, has)

pub sent_keeps : (greeting : Greeting) (p : PeerNo) (m : Msg) (t u : Told) → IsSendable m → u ≡ tell (Sent p (bytes_of m)) t → TellsGreeting greeting m → KeepsGreeting greeting t u
sent_keeps greeting p m t u sendable told tells =
    entry_keeps greeting (Sent p (bytes_of m)) t u told (subst (λ (o : Option Msg). IfSome o (TellsGreeting greeting)) (sym (spelled_bytes m sendable)) tells)

-- nothing passed
pub same_keeps : (greeting : Greeting) (t u : Told) → u ≡ t → KeepsGreeting greeting t u
same_keeps greeting t u same = λ has. subst (HasGreeting greeting) (sym same) has

-- nothing has passed
pub new_greeting : (greeting : Greeting) (t : Told) → Tells [] t → HasGreeting greeting t
new_greeting greeting t tells = by t.log tells.content where
  by : (o : Option Log) → IfSome o (λ l. l ≡ []) → IfSome o (IsOfGreeting greeting)
  by None is = is
  by (Some log) is = subst (IsOfGreeting greeting) (sym is) tt

-- the acts of a client that was told of a dial
pub greeting_tells : (greeting : Greeting) (p : PeerNo) (acts : List Act) → Greets greeting p acts → All (ActTells greeting) acts
greeting_tells greeting p acts greets =
    subst (All (ActTells greeting)) (sym greets.alone) (All-cons (ActTells greeting) (Send p greets.message) [] greets.tells (All-nil (ActTells greeting)))

-- one of acts that tell this greeting
pub one_tells : (greeting : Greeting) (acts : List Act) (i : ℕ) (a : Act) → i < length acts → a ≡ get_or acts i a → All (ActTells greeting) acts → ActTells greeting a
one_tells greeting acts i a lt is all = subst (ActTells greeting) (sym is) (All-get_or (ActTells greeting) acts i a lt all)

-- the same acts, of the same client
pub acts_tell_so : (v w : Greeting) (acts same : List Act) → v ≡ w → same ≡ acts → All (ActTells v) acts → All (ActTells w) same
acts_tell_so v w acts same greeting is all = All-same (ActTells w) same acts is (subst (λ (x : Greeting). All (ActTells x) acts) greeting all)

-- and then, of the same client
pub keeps_then : (v w : Greeting) (t u x : Told) → v ≡ w → KeepsGreeting w t u → KeepsGreeting v u x → KeepsGreeting w t x
keeps_then v w t u x greeting one two = λ has. subst (λ (y : Greeting). KeepsGreeting y u x) greeting two (one has)

pub has_so : (v w : Greeting) (t : Told) → v ≡ w → HasGreeting v t → HasGreeting w t
has_so v w t greeting has = subst (λ (x : Greeting). HasGreeting x t) greeting has

-- where each version that was sent so far tells this greeting
pub greeting_then : (v w greeting : Greeting) (t u : Told) → v ≡ greeting → w ≡ v → HasGreeting v t → KeepsGreeting w t u → HasGreeting greeting u
greeting_then v w greeting t u first same has keeps = subst (λ (x : Greeting). HasGreeting x u) (same ∙ first) (keeps (subst (λ (x : Greeting). HasGreeting x t) (sym same) has))

pub greeting_so : (v : Greeting) (z y : ℤ) (n : ℕ) → v ≡ record { moment = z; number = n } → z ≡ y → v ≡ record { moment = y; number = n }
greeting_so v z y n is same = subst (λ (x : ℤ). v ≡ record { moment = x; number = n }) same is
