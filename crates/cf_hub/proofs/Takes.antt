-- What a hub knows, as entries come and are noted.
use Rattle.std.proofs.Common.{◌≡◌, ◌<◌, ◌≤◌, ◌+◌, ℕ, zero, suc, Bool, true, false, true≢false, List, [], ◌∷◌, ◌++◌, Option, Some, None, IfSome, IfNone, IsSome, ◌↔◌, ◌≢◌, All, length, take, sym, refl, ap, ◌∙◌, subst, append-nil, arith}
use Rattle.std.specs.Option.{ForSome}
use Rattle.std.proofs.lemmas.List.{length-append}
use Rattle.cf_bytes.specs.declared.peer.PeerNo.{PeerNo}
use Rattle.cf_wires.specs.declared.event.Event.{Event}
use Rattle.cf_wires.specs.declared.event.Event.TheVariants.{Took, Dialled, NotDialled, Sent, SendFailed, Closed}
use Rattle.cf_wires.specs.declared.event.Delivery.{Delivery}
use Rattle.cf_wires.specs.declared.event.Delivery.TheVariants as gives
use Rattle.cf_wires.specs.Log.{Log, Told, deliveries, is_real, tell, told_finished, longer}
use Rattle.cf_tasks.specs.declared.entry.Item.{Item}
use Rattle.cf_tasks.specs.Queue.{of, entry}
use Rattle.cf_outside.specs.declared.entry.EntryKind.{EntryKind}
use Rattle.cf_outside.specs.declared.entry.EntryKind.TheVariants as kinds
use Rattle.cf_hub.specs.declared.book.HubLog.{HubLog}
use Rattle.cf_hub.specs.Book.{told_of}
use Rattle.cf_hub.specs.Gives.{delivery_of, given_of, LogGives, IsFront}
use Rattle.cf_hub.specs.Finish.{Read, Fronts}
use Rattle.cf_hub.specs.Over.{Heard}
use Rattle.cf_hub.proofs.Gives.{given_more, log_waits, log_grows, count_grows, log_ends}

pub none_all : {X : Type 0} (P : X → Type 0) (xs : List X) → xs ≡ [] → All P xs
none_all P xs e = λ k d l. let n = ap length e in absurd (omega (arith, l, n))

pub some_same : {X : Type 0} (o o' : Option X) → o' ≡ o → IsSome o → IsSome o'
some_same {X = X} o o' e h = let Q : Option X → Type 0 = λ x. IsSome x in subst Q (sym e) h

pub some_of : {X Y : Type 0} (o : Option X) (u : Option Y) → (IsSome o ↔ IsSome u) → IsSome u → IsSome o
some_of o u e h = e.1 h

abbrev is_some : {X : Type 0} → Option X → Bool
is_some None = false
is_some (Some x) = true

pub none_for : {X : Type 0} (P : X → Type 0) (o : Option X) → o ≡ None → ForSome o P
none_for P o n = λ x e. absurd (true≢false (sym (ap is_some e) ∙ ap is_some n))

pub wait_log : (t : Told) (got got' : List (Item EntryKind)) (from : ℕ) (kind : EntryKind) → got' ≡ got ++ entry from kind ∷ [] → t.tally.taken ≤ length (given_of got) → LogGives t got → LogGives t got'
wait_log t got got' from kind e w h = let Q : List (Item EntryKind) → Type 0 = LogGives t in subst Q (sym e) (log_waits t got (entry from kind) w h)

pub wait_within : (n : ℕ) (got got' : List (Item EntryKind)) (from : ℕ) (kind : EntryKind) → got' ≡ got ++ entry from kind ∷ [] → n ≤ length (given_of got) → n ≤ length (given_of got')
wait_within n got got' from kind e w =
    let s : length (given_of got') ≡ length (given_of got) + length (delivery_of from kind) = ap (λ g. length (given_of g)) e ∙ ap length (given_more got from kind) ∙ length-append (given_of got) (delivery_of from kind) in
    omega (arith, w, s)

pub not_given : (got got' : List (Item EntryKind)) (from : ℕ) (kind : EntryKind) → got' ≡ got ++ entry from kind ∷ [] → delivery_of from kind ≡ [] → given_of got' ≡ given_of got
not_given got got' from kind e n = ap given_of e ∙ given_more got from kind ∙ ap (λ l. given_of got ++ l) n ∙ append-nil (given_of got)

pub is_given : (got got' : List (Item EntryKind)) (from : ℕ) (kind : EntryKind) (d : Delivery) → got' ≡ got ++ entry from kind ∷ [] → delivery_of from kind ≡ d ∷ [] → given_of got' ≡ given_of got ++ d ∷ []
is_given got got' from kind d e n = ap given_of e ∙ given_more got from kind ∙ ap (λ l. given_of got ++ l) n

-- which entry is which delivery
pub got_is : (p q : ℕ) (b b' : List ℕ) → q ≡ p → b' ≡ b → 0 < p → delivery_of p (kinds.Got b) ≡ gives.Got (record { 0 = q }) b' ∷ []
got_is zero q b b' e f n = absurd (omega (arith, n))
got_is (suc p) q b b' e f n = ap (λ x. gives.Got (record { 0 = x }) b ∷ []) (sym e) ∙ ap (λ x. gives.Got (record { 0 = q }) x ∷ []) (sym f)

pub gone_is : (p q : ℕ) → q ≡ p → 0 < p → delivery_of p kinds.Last ≡ gives.Gone (record { 0 = q }) ∷ []
gone_is zero q e n = absurd (omega (arith, n))
gone_is (suc p) q e n = ap (λ x. gives.Gone (record { 0 = x }) ∷ []) (sym e)

pub tick_is : (p s t : ℕ) → p ≡ 0 → t ≡ s → delivery_of p (kinds.Tick s) ≡ gives.Tick t ∷ []
tick_is zero s t z e = ap (λ x. gives.Tick x ∷ []) (sym e)
tick_is (suc p) s t z e = absurd (omega (arith, z))

pub got_none : (p : ℕ) (b : List ℕ) → p ≡ 0 → delivery_of p (kinds.Got b) ≡ []
got_none zero b z = refl
got_none (suc p) b z = absurd (omega (arith, z))

pub gone_none : (p : ℕ) → p ≡ 0 → delivery_of p kinds.Last ≡ []
gone_none zero z = refl
gone_none (suc p) z = absurd (omega (arith, z))

pub tick_none : (p s : ℕ) → 0 < p → delivery_of p (kinds.Tick s) ≡ []
tick_none zero s z = absurd (omega (arith, z))
tick_none (suc p) s z = refl

-- what is told stays the first of what was given, where one more is noted and given
pub took_log : (t t' : Told) (got got' : List (Item EntryKind)) (d : Delivery) → t' ≡ tell (Took d) t → is_real d ≡ true → given_of got' ≡ given_of got ++ d ∷ []
    → t.tally.taken ≡ length (given_of got) → LogGives t got → LogGives t' got'
took_log t t' got got' d e r g n h = let Q : Told → Type 0 = λ x. LogGives x got' in subst Q (sym e) (log_grows t got got' d r g n h)

pub took_count : (t t' : Told) (got got' : List (Item EntryKind)) (d : Delivery) → t' ≡ tell (Took d) t → is_real d ≡ true → given_of got' ≡ given_of got ++ d ∷ []
    → t.tally.taken ≡ length (given_of got) → t'.tally.taken ≡ length (given_of got')
took_count t t' got got' d e r g n = ap (λ (x : Told). x.tally.taken) e ∙ count_grows t got got' d r g n

pub ended_log : (t t' : Told) (got : List (Item EntryKind)) → t' ≡ tell (Took gives.Ended) t → LogGives t got → LogGives t' got
ended_log t t' got e h = let Q : Told → Type 0 = λ x. LogGives x got in subst Q (sym e) (log_ends t got h)

pub finished_log : (t t' : Told) (got : List (Item EntryKind)) → t' ≡ told_finished t → LogGives t got → LogGives t' got
finished_log t t' got e h = let Q : Told → Type 0 = λ x. LogGives x got in subst Q (sym e) h

pub same_log : (t t' : Told) (got got' : List (Item EntryKind)) → t' ≡ t → got' ≡ got → LogGives t got → LogGives t' got'
same_log t t' got got' e g h = let Q : Told → Type 0 = λ x. LogGives x got' in let R : List (Item EntryKind) → Type 0 = LogGives t in subst Q (sym e) (subst R (sym g) h)

-- what was received beside it gave nothing
same_given : (t t' : Told) (got got' : List (Item EntryKind)) → t' ≡ t → given_of got' ≡ given_of got → LogGives t got → LogGives t' got'
same_given t t' got got' e g h =
    let Q : Told → Type 0 = λ x. LogGives x got' in
    subst Q (sym e) (λ log is. h log is ∙ ap (take t.tally.taken) (sym g))

pub same_heard : (gone : List Bool) (got got' : List (Item EntryKind)) → got' ≡ got → Heard gone got → Heard gone got'
same_heard gone got got' g h = let R : List (Item EntryKind) → Type 0 = Heard gone in subst R (sym g) h

pub same_within : (n m : ℕ) (got got' : List (Item EntryKind)) → m ≡ n → got' ≡ got → n ≤ length (given_of got) → m ≤ length (given_of got')
same_within n m got got' e g h = let s = ap (λ l. length (given_of l)) g in omega (arith, s, h, e)

pub same_front : (got got' sent : List (Item EntryKind)) → got' ≡ got → IsFront (of 0 got) sent → IsFront (of 0 got') sent
same_front got got' sent g h = let R : List (Item EntryKind) → Type 0 = λ l. IsFront (of 0 l) sent in subst R (sym g) h

abbrev inner : Option Log → Log
inner None = []
inner (Some l) = l

dial_log : (t : Told) (e : Event) (got : List (Item EntryKind)) → ((log : Log) → deliveries (e ∷ log) ≡ deliveries log) → (tell e t).tally.taken ≡ t.tally.taken → LogGives t got → LogGives (tell e t) got
dial_log t e got q n h = one t.log refl
  where
    one : (o : Option Log) → t.log ≡ o → LogGives (tell e t) got
    one None z = λ log is. absurd (true≢false (sym (ap is_some is) ∙ ap (λ x. is_some (longer e x)) z))
    one (Some l) z = λ log is.
        ap deliveries (ap inner (sym is) ∙ ap (λ x. inner (longer e x)) z) ∙ q l ∙ h l z ∙ sym (ap (λ k. take k (given_of got)) n)

pub dialled_log : (t t' : Told) (got : List (Item EntryKind)) (p : PeerNo) (name : List ℕ) → t' ≡ tell (Dialled p name) t → LogGives t got → LogGives t' got
dialled_log t t' got p name e h = let Q : Told → Type 0 = λ x. LogGives x got in subst Q (sym e) (dial_log t (Dialled p name) got (λ _. refl) refl h)

pub missed_log : (t t' : Told) (got : List (Item EntryKind)) (p : PeerNo) (name : List ℕ) → t' ≡ tell (NotDialled p name) t → LogGives t got → LogGives t' got
missed_log t t' got p name e h = let Q : Told → Type 0 = λ x. LogGives x got in subst Q (sym e) (dial_log t (NotDialled p name) got (λ _. refl) refl h)

-- what goes on is not joined
pub not_joined : (joined finished : Bool) → (joined ≡ true → finished ≡ true) → finished ≡ false → joined ≡ false
not_joined true finished h s = absurd (true≢false (sym (h refl) ∙ s))
not_joined false finished h s = refl

pub no_fronts : {S : Type 0} (got : List (Item EntryKind)) (js : List (Read S)) → js ≡ [] → Fronts got js
no_fronts got js e = none_all (λ j. (0 < j.number) × IsFront (of j.number got) j.sent) js e

abbrev here : {X : Type 0} → X → Option X → X
here x None = x
here x (Some y) = y

pub for_some : {X : Type 0} (P : X → Type 0) (x : X) → P x → ForSome (Some x) P
for_some P x h = λ y e. subst P (ap (here x) e) h

pub moved_fronts : {S : Type 0} (got got' : List (Item EntryKind)) (js : List (Read S)) → got' ≡ got → Fronts got js → Fronts got' js
moved_fronts got got' js e h = let Q : List (Item EntryKind) → Type 0 = λ g. Fronts g js in subst Q (sym e) h

-- a send, a send that failed and a close are no deliveries
pub sent_log : (t t' : Told) (got : List (Item EntryKind)) (p : PeerNo) (b : List ℕ) → t' ≡ tell (Sent p b) t → LogGives t got → LogGives t' got
sent_log t t' got p b e h = let Q : Told → Type 0 = λ x. LogGives x got in subst Q (sym e) (dial_log t (Sent p b) got (λ _. refl) refl h)

pub failed_log : (t t' : Told) (got : List (Item EntryKind)) (p : PeerNo) → t' ≡ tell (SendFailed p) t → LogGives t got → LogGives t' got
failed_log t t' got p e h = let Q : Told → Type 0 = λ x. LogGives x got in subst Q (sym e) (dial_log t (SendFailed p) got (λ _. refl) refl h)

pub closed_log : (t t' : Told) (got : List (Item EntryKind)) (p : PeerNo) → t' ≡ tell (Closed p) t → LogGives t got → LogGives t' got
closed_log t t' got p e h = let Q : Told → Type 0 = λ x. LogGives x got in subst Q (sym e) (dial_log t (Closed p) got (λ _. refl) refl h)

-- what a book and what was received keep as an entry is taken
pub record Noted (b b' : HubLog) (got got' : List (Item EntryKind)) : Type 0 where
  pub dials : b'.dials ≡ b.dials
  pub closed : b'.closed ≡ b.closed
  pub finished : b'.finished ≡ b.finished
  pub counts : b'.taken ≡ length (given_of got')
  pub gives : LogGives (told_of b') got'

same_dials : (d : Delivery) (t : Told) → (tell (Took d) t).tally.dials ≡ t.tally.dials
same_dials (gives.Got p b) t = refl
same_dials (gives.Gone p) t = refl
same_dials (gives.Tick s) t = refl
same_dials gives.Ended t = refl

same_closed : (d : Delivery) (t : Told) → (tell (Took d) t).tally.closed ≡ t.tally.closed
same_closed (gives.Got p b) t = refl
same_closed (gives.Gone p) t = refl
same_closed (gives.Tick s) t = refl
same_closed gives.Ended t = refl

real_is : (d : Delivery) → d ≢ gives.Ended → is_real d ≡ true
real_is (gives.Got p b) n = refl
real_is (gives.Gone p) n = refl
real_is (gives.Tick s) n = refl
real_is gives.Ended n = absurd (n refl)

-- an entry was taken: it was noted where it is a delivery
pub on_noted : (o : Option Delivery) (b b' : HubLog) (got got' : List (Item EntryKind))
    → IfSome o (λ d. (told_of b' ≡ tell (Took d) (told_of b)) × (given_of got' ≡ given_of got ++ d ∷ []))
    → IfNone o ((b' ≡ b) × (given_of got' ≡ given_of got)) → IfSome o (λ d. d ≢ gives.Ended)
    → b.taken ≡ length (given_of got) → LogGives (told_of b) got → Noted b b' got got'
on_noted (Some d) b b' got got' s n r c h = record {
  dials = ap (λ (t : Told). t.tally.dials) s.0 ∙ same_dials d (told_of b);
  closed = ap (λ (t : Told). t.tally.closed) s.0 ∙ same_closed d (told_of b);
  finished = ap (λ (t : Told). t.finished) s.0;
  counts = took_count (told_of b) (told_of b') got got' d s.0 (real_is d r) s.1 c;
  gives = took_log (told_of b) (told_of b') got got' d s.0 (real_is d r) s.1 c h;
}
on_noted None b b' got got' s n r c h = record {
  dials = ap (λ (x : HubLog). x.dials) n.0;
  closed = ap (λ (x : HubLog). x.closed) n.0;
  finished = ap (λ (x : HubLog). x.finished) n.0;
  counts = ap (λ (x : HubLog). x.taken) n.0 ∙ c ∙ sym (ap length n.1);
  gives = same_given (told_of b) (told_of b') got got' (ap told_of n.0) n.1 h;
}
