-- What was answered, as the log goes on.
use Rattle.std.proofs.Common.{◌≡◌, ℕ, zero, suc, ◌+◌, ◌<◌, Bool, true, false, List, [], ◌∷◌, ◌++◌, length, take, drop, Option, Some, refl, sym, ◌∙◌, ap, subst, inl, inr, arith, append_assoc}
use Rattle.std.specs.Prelude.{◌≢◌, ◌⊎◌, ◌==◌, ◌||◌, map, min, pos, reverse, option_to_list, slice_get, if◌then◌else◌}
use Rattle.std.proofs.Math.ListN.{set}
use Rattle.std.proofs.Math.Logic.{∥∥₁_elim, ∥∥₁_map}
use Rattle.std.proofs.Props.{props}
use Rattle.std.proofs.lemmas.Grind.{common_steps}
use Rattle.std.proofs.lemmas.List.{append-nil, length-map, reverse-append, take-append-drop, take_at}
use Rattle.std.proofs.lemmas.List.Elements.{filter-append}
use Rattle.cf_bytes.specs.declared.peer.PeerNo.{PeerNo}
use Rattle.cf_block.specs.declared.tx.Block.{Block}
use Rattle.cf_chain.specs.Serve.{replies}
use Rattle.cf_msg.specs.declared.msg.Msg.{Msg}
use Rattle.cf_msg.specs.Message.{is_version}
use Rattle.cf_wires.specs.declared.event.Delivery.TheVariants.{Got, Tick}
use Rattle.cf_wires.specs.declared.event.Event.{Event}
use Rattle.cf_wires.specs.declared.event.Event.TheVariants.{Dialled, Sent, Closed, Took}
use Rattle.cf_wires.specs.Log.{Log}
use Rattle.cf_peer.specs.Trail.{spelled}
use Rattle.cf_server.specs.declared.answering.Serving.{Serving}
use Rattle.cf_server.specs.Taking.{served_after, text_on}
use Rattle.cf_server.proofs.Texts.{text-nil, text_on-append}
use Rattle.cf_played.specs.declared.kind.Way.{Way}
use Rattle.cf_played.specs.declared.kind.Way.TheVariants.{Honest, Omits, Silent}
use Rattle.cf_played.specs.declared.player.Player.{Player}
use Rattle.cf_played.specs.Answers.{answered_to, came, frames_from, HasAnswered, HasBegun, HasBegunAlike, heard_of, is_answered, is_plain, seen_after, told_to}
use Rattle.cf_played.specs.Frames.{AreFramesAlike}
use Rattle.cf_played.specs.Peers.{Peer, shown}
use Rattle.cf_played.specs.Turns.{Rest}
use Rattle.cf_played.specs.Waiting.{front_of, behind_front}
use Rattle.cf_played.proofs.Alike.{begun_alike, frames_alike, no_frames, replies_append}
use Rattle.cf_played.proofs.TurnLemmas.{shown_at}
use Rattle.cf_played.specs.Players.{AreAccounted, Gives, HasHeard, HearsAt, IsAccounted, IsAnswered}

-- ---- messages, joined

abbrev start : Bool → Serving
start seen = record { time = pos 0; nonce = 0; seen = seen }

after_is : (seen : Bool) (ms : List Msg) → served_after (start seen) ms ≡ start (seen_after seen ms)
after_is seen [] = refl
after_is seen (m ∷ ms) = after_is (is_version m || seen) ms

frames_append : (seen : Bool) (blocks : List Block) (a b : List Msg) → frames_from seen blocks (a ++ b) ≡ frames_from seen blocks a ++ frames_from (seen_after seen a) blocks b
frames_append seen blocks a b = text_on-append (start seen) blocks a b ∙ ap (λ (s : Serving). text_on (start seen) blocks a ++ text_on s blocks b) (after_is seen a)

seen_append : (seen : Bool) (a b : List Msg) → seen_after seen (a ++ b) ≡ seen_after (seen_after seen a) b
seen_append seen [] b = refl
seen_append seen (m ∷ ms) b = seen_append (is_version m || seen) ms b

heard_append : (way : Way) (a b : List Msg) → heard_of way (a ++ b) ≡ heard_of way a ++ heard_of way b
heard_append Honest a b = refl
heard_append Omits a b = refl
heard_append Silent a b = filter-append is_answered a b

-- the machine's answers to what a peer hears of
abbrev answers_of : Way → List Block → List Msg → List Msg
answers_of way blocks told = replies (pos 0) 0 blocks false (heard_of way told)

-- ---- one peer

pub answered_seen : (old new : Player) (m : Option Msg) (told : List Msg) → IsAnswered old m new → old.seen ≡ seen_after false (heard_of old.way told)
    → new.seen ≡ seen_after false (heard_of new.way (told ++ option_to_list m))
answered_seen old new m told is so =
    let h : List Msg = heard_of old.way (option_to_list m) in
    is.seen
    ∙ ap (λ (b : Bool). seen_after b h) so
    ∙ sym (seen_append false (heard_of old.way told) h)
    ∙ ap (seen_after false) (sym (heard_append old.way told (option_to_list m)))
    ∙ ap (λ (w : Way). seen_after false (heard_of w (told ++ option_to_list m))) (sym is.way)

pub answered_text : (old new : Player) (m : Option Msg) (told : List Msg) (came_so : List ℕ) → IsAnswered old m new → old.seen ≡ seen_after false (heard_of old.way told)
    → (is_plain old.way ≡ true → came_so ++ old.waiting ≡ answered_to old.way old.index told)
    → is_plain new.way ≡ true → came_so ++ new.waiting ≡ answered_to new.way new.index (told ++ option_to_list m)
answered_text old new m told came_so is seen so plain =
    let h : List Msg = heard_of old.way (option_to_list m) in
    let was : is_plain old.way ≡ true = ap is_plain (sym is.way) ∙ plain in
    let first : came_so ++ new.waiting ≡ (came_so ++ old.waiting) ++ frames_from old.seen old.index h =
    ap (λ (w : List ℕ). came_so ++ w) (is.text was) ∙ sym (append_assoc came_so old.waiting (frames_from old.seen old.index h)) in
    let second : (came_so ++ old.waiting) ++ frames_from old.seen old.index h ≡ answered_to old.way old.index told ++ frames_from (seen_after false (heard_of old.way told)) old.index h =
    ap (λ (w : List ℕ). w ++ frames_from old.seen old.index h) (so was) ∙ ap (λ (b : Bool). answered_to old.way old.index told ++ frames_from b old.index h) seen in
    let third : answered_to old.way old.index told ++ frames_from (seen_after false (heard_of old.way told)) old.index h ≡ answered_to old.way old.index (told ++ option_to_list m) =
    sym (frames_append false old.index (heard_of old.way told) h) ∙ ap (frames_from false old.index) (sym (heard_append old.way told (option_to_list m))) in
    let fourth : answered_to old.way old.index (told ++ option_to_list m) ≡ answered_to new.way new.index (told ++ option_to_list m) =
    λ i. answered_to (sym is.way i) (sym is.blocks i) (told ++ option_to_list m) in
    first ∙ second ∙ third ∙ fourth

pub answered_alike : (old new : Player) (m : Option Msg) (told : List Msg) (came_so : List ℕ) → IsAnswered old m new → old.seen ≡ seen_after false (heard_of old.way told)
    → AreFramesAlike (answers_of old.way old.index told) (came_so ++ old.waiting) → AreFramesAlike (answers_of new.way new.index (told ++ option_to_list m)) (came_so ++ new.waiting)
answered_alike old new m told came_so is seen so =
    let h : List Msg = heard_of old.way (option_to_list m) in
    let text : (came_so ++ old.waiting) ++ is.more ≡ came_so ++ new.waiting = append_assoc came_so old.waiting is.more ∙ ap (λ (w : List ℕ). came_so ++ w) (sym is.joined) in
    let next : AreFramesAlike (replies (pos 0) 0 old.index (seen_after false (heard_of old.way told)) h) is.more = subst (λ (b : Bool). AreFramesAlike (replies (pos 0) 0 old.index b h) is.more) seen is.alike in
    let both : AreFramesAlike (answers_of old.way old.index told ++ replies (pos 0) 0 old.index (seen_after false (heard_of old.way told)) h) ((came_so ++ old.waiting) ++ is.more) =
    frames_alike (answers_of old.way old.index told) (replies (pos 0) 0 old.index (seen_after false (heard_of old.way told)) h) (came_so ++ old.waiting) is.more so next in
    let all : answers_of old.way old.index told ++ replies (pos 0) 0 old.index (seen_after false (heard_of old.way told)) h ≡ answers_of old.way old.index (told ++ option_to_list m) =
    sym (replies_append false old.index (heard_of old.way told) h) ∙ ap (replies (pos 0) 0 old.index false) (sym (heard_append old.way told (option_to_list m))) in
    let still : answers_of old.way old.index (told ++ option_to_list m) ≡ answers_of new.way new.index (told ++ option_to_list m) = λ i. answers_of (sym is.way i) (sym is.blocks i) (told ++ option_to_list m) in
    subst (λ (s : List ℕ). AreFramesAlike (answers_of new.way new.index (told ++ option_to_list m)) s) text
    (subst (λ (ms : List Msg). AreFramesAlike ms ((came_so ++ old.waiting) ++ is.more)) (all ∙ still) both)

-- ---- the peers of a list

-- one was put in place of another
set_each : (P Q : ℕ → Player → Type 0) (xs : List Player) (i : ℕ) (y : Player) → ((k : ℕ) (x : Player) → k ≢ i → P k x → Q k x) → Q i y
    → ((k : ℕ) (x : Player) → slice_get xs k ≡ Some x → P k x) → (k : ℕ) (x : Player) → slice_get (set xs i y) k ≡ Some x → Q k x
set_each P Q [] i y others here all k x e = cc
set_each P Q (z ∷ xs) zero y others here all zero x e = let same : y ≡ x = cc in subst (Q zero) same here
set_each P Q (z ∷ xs) zero y others here all (suc k) x e = others (suc k) x (omega arith) (all (suc k) x e)
set_each P Q (z ∷ xs) (suc i) y others here all zero x e = others zero x (omega arith) (all zero x e)
set_each P Q (z ∷ xs) (suc i) y others here all (suc k) x e =
    set_each (λ n. P (suc n)) (λ n. Q (suc n)) xs i y (λ n w other. others (suc n) w (λ same. other (omega (arith, same)))) here (λ n w f. all (suc n) w f) k x e

same_number : (n k : ℕ) → n ≡ k → (n == k) ≡ true
same_number n k e = grind (arith, common_steps)

other_number : (n k : ℕ) → n ≢ k → (n == k) ≡ false
other_number n k e = grind (arith, common_steps)

-- ---- the log goes on

-- one entry more at its end, where it is kept the oldest first
pub one_later : (items : List Event) (e : Event) (players : List Player) → AreAccounted (e ∷ reverse items) players → AreAccounted (reverse (items ++ e ∷ [])) players
one_later items e players all = subst (λ (log : Log). AreAccounted log players) (sym (reverse-append items (e ∷ []))) all

-- one peer's account, once it is known where it stands now and that it has answered all where seconds pass
accounted_on : (log : Log) (e : Event) (p : ℕ) (old new : Player) → new.way ≡ old.way → new.index ≡ old.index → IsAccounted log p old
    → new.seen ≡ seen_after false (heard_of new.way (told_to (e ∷ log) p))
    → (is_plain new.way ≡ true → came (e ∷ log) p ++ new.waiting ≡ answered_to new.way new.index (told_to (e ∷ log) p))
    → ((s : ℕ) → e ≡ Took (Tick s) → is_plain new.way ≡ true → HasAnswered new.way new.index log p)
    → AreFramesAlike (answers_of new.way new.index (told_to (e ∷ log) p)) (came (e ∷ log) p ++ new.waiting)
    → IsAccounted (e ∷ log) p new
accounted_on log e p old new way blocks so seen now ticks alike =
    let was : is_plain new.way ≡ true → is_plain old.way ≡ true = λ plain. ap is_plain (sym way) ∙ plain in
    record {
      seen = seen;
      now = now;
      past = λ plain k. past_at (was plain) plain k;
      ticks = λ plain k s older at. tick_at (was plain) plain k s older at;
      alike = alike;
      alike_past = λ k. alike_at k;
    } where
      alike_at : (k : ℕ) → HasBegunAlike new.way new.index (drop k (e ∷ log)) p
      alike_at zero = begun_alike new.way new.index (e ∷ log) p new.waiting alike
      alike_at (suc k) =
          subst (λ (w : Way). HasBegunAlike w new.index (drop k log) p) (sym way) (subst (λ (b : List Block). HasBegunAlike old.way b (drop k log) p) (sym blocks) (so.alike_past k))

      past_at : is_plain old.way ≡ true → is_plain new.way ≡ true → (k : ℕ) → HasBegun new.way new.index (drop k (e ∷ log)) p
      past_at was plain zero =
          ap (take (length (came (e ∷ log) p))) (sym (now plain)) ∙ take_at (came (e ∷ log) p) new.waiting (length (came (e ∷ log) p)) refl
      past_at was plain (suc k) = subst (λ (w : Way). HasBegun w new.index (drop k log) p) (sym way) (subst (λ (b : List Block). HasBegun old.way b (drop k log) p) (sym blocks) (so.past was k))

      tick_at : is_plain old.way ≡ true → is_plain new.way ≡ true → (k s : ℕ) (older : Log) → drop k (e ∷ log) ≡ Took (Tick s) ∷ older → HasAnswered new.way new.index older p
      tick_at was plain zero s older at = let first : e ≡ Took (Tick s) = cc in let rest : log ≡ older = cc in
          subst (λ (l : Log). HasAnswered new.way new.index l p) rest (ticks s first plain)
      tick_at was plain (suc k) s older at =
          subst (λ (w : Way). HasAnswered w new.index older p) (sym way) (subst (λ (b : List Block). HasAnswered old.way b older p) (sym blocks) (so.ticks was k s older at))

-- an entry that tells p nothing and brings nothing of it
aside : (log : Log) (e : Event) (p : ℕ) (player : Player) → IsAccounted log p player → told_to (e ∷ log) p ≡ told_to log p → came (e ∷ log) p ≡ came log p
    → ((s : ℕ) → e ≡ Took (Tick s) → is_plain player.way ≡ true → HasAnswered player.way player.index log p) → IsAccounted (e ∷ log) p player
aside log e p player so told brought ticks = accounted_on log e p player player refl refl so
    (so.seen ∙ ap (λ (ms : List Msg). seen_after false (heard_of player.way ms)) (sym told))
    (λ plain. ap (λ (s : List ℕ). s ++ player.waiting) brought ∙ so.now plain ∙ ap (answered_to player.way player.index) (sym told))
    ticks
    (subst (λ (s : List ℕ). AreFramesAlike (answers_of player.way player.index (told_to (e ∷ log) p)) (s ++ player.waiting)) (sym brought)
    (subst (λ (ms : List Msg). AreFramesAlike (answers_of player.way player.index ms) (came log p ++ player.waiting)) (sym told) so.alike))

pub all_dialled : (log : Log) (q : PeerNo) (name : List ℕ) (players : List Player) → AreAccounted log players → AreAccounted (Dialled q name ∷ log) players
all_dialled log q name players all = record { each = λ i player at. aside log (Dialled q name) (suc i) player (all.each i player at) refl refl (λ s e. cc) }

pub all_closed : (log : Log) (q : PeerNo) (players : List Player) → AreAccounted log players → AreAccounted (Closed q ∷ log) players
all_closed log q players all = record { each = λ i player at. aside log (Closed q) (suc i) player (all.each i player at) refl refl (λ s e. cc) }

get_within : (xs : List Player) (i : ℕ) (x : Player) → slice_get xs i ≡ Some x → i < length xs
get_within [] i x e = cc
get_within (y ∷ xs) zero x e = omega arith
get_within (y ∷ xs) (suc i) x e = let h = get_within xs i x e in omega (arith, h)

-- seconds pass only where nothing waits
pub all_ticked : (log : Log) (s : ℕ) (players : List Player) → Rest (map shown players) 0 (length (map shown players)) → AreAccounted log players → AreAccounted (Took (Tick s) ∷ log) players
all_ticked log s players rests all = record {
  each = λ i player at. aside log (Took (Tick s)) (suc i) player (all.each i player at) refl refl
      (λ t e plain.
      sym (append-nil (came log (suc i)))
      ∙ ap (λ (w : List ℕ). came log (suc i) ++ w) (sym (rests.each i (shown player) (shown_at players i player at) (omega arith) (let within = get_within players i player at in omega (arith, within, length-map players shown))))
      ∙ (all.each i player at).now plain);
}

-- what was sent to another peer
unsent : (log : Log) (q : PeerNo) (bytes : List ℕ) (p : ℕ) (player : Player) → q.0 ≢ p → IsAccounted log p player → IsAccounted (Sent q bytes ∷ log) p player
unsent log q bytes p player other so =
    aside log (Sent q bytes) p player so
    (ap (λ (b : Bool). if b then told_to log p ++ option_to_list (spelled bytes) else told_to log p) (other_number q.0 p other)) refl (λ s e. cc)

sent : (log : Log) (q : PeerNo) (bytes : List ℕ) (p : ℕ) (old new : Player) → q.0 ≡ p → IsAnswered old (spelled bytes) new → IsAccounted log p old → IsAccounted (Sent q bytes ∷ log) p new
sent log q bytes p old new same is so =
    let e : told_to (Sent q bytes ∷ log) p ≡ told_to log p ++ option_to_list (spelled bytes) =
    ap (λ (b : Bool). if b then told_to log p ++ option_to_list (spelled bytes) else told_to log p) (same_number q.0 p same) in
    accounted_on log (Sent q bytes) p old new is.way is.blocks so
    (answered_seen old new (spelled bytes) (told_to log p) is so.seen ∙ ap (λ (ms : List Msg). seen_after false (heard_of new.way ms)) (sym e))
    (λ plain. answered_text old new (spelled bytes) (told_to log p) (came log p) is so.seen so.now plain ∙ ap (answered_to new.way new.index) (sym e))
    (λ s e. cc)
    (subst (λ (ms : List Msg). AreFramesAlike (answers_of new.way new.index ms) (came log p ++ new.waiting)) (sym e)
    (answered_alike old new (spelled bytes) (told_to log p) (came log p) is so.seen so.alike))

-- a send, of which the peer with this number has heard, if there is one
all_sent_by : (log : Log) (q : PeerNo) (bytes : List ℕ) (old new : List Player) → ((((q.0 ≡ 0) ⊎ (length old < q.0)) × (new ≡ old)) ⊎ HasHeard old q.0 (spelled bytes) new) → AreAccounted log old → AreAccounted (Sent q bytes ∷ log) new
all_sent_by log q bytes old new (inl none) all =
    record {
      each = λ i player at. let before : slice_get old i ≡ Some player = ap (λ (xs : List Player). slice_get xs i) (sym none.1) ∙ at in
          unsent log q bytes (suc i) player (λ same. absurd (nobody (get_within old i player before) same none.0)) (all.each i player before);
    } where
      nobody : {i n l : ℕ} → i < l → n ≡ suc i → (n ≡ 0) ⊎ (l < n) → ⊥
      nobody within same (inl e) = omega (arith, within, same, e)
      nobody within same (inr e) = omega (arith, within, same, e)
all_sent_by log q bytes old new (inr has) all =
    subst (λ (xs : List Player). AreAccounted (Sent q bytes ∷ log) xs) (sym has.new_is)
    (record {
      each = set_each (λ k. IsAccounted log (suc k)) (λ k. IsAccounted (Sent q bytes ∷ log) (suc k)) old has.place has.after
          (λ k x other so. unsent log q bytes (suc k) x (λ same. other (omega (arith, same, has.number))) so)
          (sent log q bytes (suc has.place) has.before has.after has.number has.answered (all.each has.place has.before has.at))
          all.each;
    })

pub all_sent : (log : Log) (q : PeerNo) (bytes : List ℕ) (old new : List Player) → HearsAt old q.0 (spelled bytes) new → AreAccounted log old → AreAccounted (Sent q bytes ∷ log) new
all_sent log q bytes old new hears all = all_sent_by log q bytes old new hears.outcome all

-- ---- a delivery

ungiven : (log : Log) (q : PeerNo) (piece : List ℕ) (p : ℕ) (player : Player) → q.0 ≢ p → IsAccounted log p player → IsAccounted (Took (Got q piece) ∷ log) p player
ungiven log q piece p player other so =
    aside log (Took (Got q piece)) p player so refl
    (ap (λ (b : Bool). if b then came log p ++ piece else came log p) (other_number q.0 p other)) (λ s e. cc)

given : (log : Log) (q : PeerNo) (piece : List ℕ) (p : ℕ) (old : Player) → q.0 ≡ p → piece ≡ front_of old.waiting → IsAccounted log p old
    → IsAccounted (Took (Got q piece) ∷ log) p (record old { waiting = behind_front old.waiting })
given log q piece p old same is so =
    let e : came (Took (Got q piece) ∷ log) p ≡ came log p ++ front_of old.waiting =
    ap (λ (b : Bool). if b then came log p ++ piece else came log p) (same_number q.0 p same) ∙ ap (λ (s : List ℕ). came log p ++ s) is in
    let all : came (Took (Got q piece) ∷ log) p ++ behind_front old.waiting ≡ came log p ++ old.waiting =
    ap (λ (s : List ℕ). s ++ behind_front old.waiting) e
    ∙ append_assoc (came log p) (front_of old.waiting) (behind_front old.waiting)
    ∙ ap (λ (s : List ℕ). came log p ++ s) (take-append-drop (min (length old.waiting) 4096) old.waiting) in
    accounted_on log (Took (Got q piece)) p old (record old { waiting = behind_front old.waiting }) refl refl so so.seen
    (λ plain. all ∙ so.now plain)
    (λ s e. cc)
    (subst (λ (s : List ℕ). AreFramesAlike (answers_of old.way old.index (told_to log p)) s) (sym all) so.alike)

pub all_given : (log : Log) (q : PeerNo) (piece : List ℕ) (old new : List Player) (place : ℕ) → Gives old place piece new → q.0 ≡ suc place → AreAccounted log old
    → AreAccounted (Took (Got q piece) ∷ log) new
all_given log q piece old new place gives number all =
    subst (λ (xs : List Player). AreAccounted (Took (Got q piece) ∷ log) xs) (sym gives.new_is)
    (record {
      each = set_each (λ k. IsAccounted log (suc k)) (λ k. IsAccounted (Took (Got q piece) ∷ log) (suc k)) old place (record gives.before { waiting = behind_front gives.before.waiting })
          (λ k x other so. ungiven log q piece (suc k) x (λ same. other (omega (arith, same, number))) so)
          (given log q piece (suc place) gives.before number gives.piece_is (all.each place gives.before gives.at))
          all.each;
    })

-- ---- the peers as they are shown

unshown : (players : List Player) (i : ℕ) (peer : Peer) → slice_get (map shown players) i ≡ Some peer → (player : Player) × (slice_get players i ≡ Some player) × (shown player ≡ peer)
unshown [] i peer e = cc
unshown (x ∷ xs) zero peer e = let same : shown x ≡ peer = cc in (x, refl, same)
unshown (x ∷ xs) (suc i) peer e = unshown xs i peer e

shown_now : (log : Log) (players : List Player) → AreAccounted log players → (i : ℕ) (peer : Peer) → slice_get (map shown players) i ≡ Some peer → is_plain peer.way ≡ true
    → came log (suc i) ++ peer.waiting ≡ answered_to peer.way peer.blocks (told_to log (suc i))
shown_now log players all i peer e =
    let w = unshown players i peer e in
    subst (λ (s : Peer). is_plain s.way ≡ true → came log (suc i) ++ s.waiting ≡ answered_to s.way s.blocks (told_to log (suc i))) w.2 (all.each i w.0 w.1).now

shown_past : (log : Log) (players : List Player) → AreAccounted log players → (i k : ℕ) (peer : Peer) → slice_get (map shown players) i ≡ Some peer → is_plain peer.way ≡ true
    → HasBegun peer.way peer.blocks (drop k log) (suc i)
shown_past log players all i k peer e =
    let w = unshown players i peer e in
    subst (λ (s : Peer). is_plain s.way ≡ true → HasBegun s.way s.blocks (drop k log) (suc i)) w.2 (λ plain. (all.each i w.0 w.1).past plain k)

shown_ticks : (log : Log) (players : List Player) → AreAccounted log players → (i k s : ℕ) (older : Log) (peer : Peer) → slice_get (map shown players) i ≡ Some peer
    → is_plain peer.way ≡ true → drop k log ≡ Took (Tick s) ∷ older → HasAnswered peer.way peer.blocks older (suc i)
shown_ticks log players all i k s older peer e plain at =
    let w = unshown players i peer e in
    subst (λ (s : Peer). is_plain s.way ≡ true → HasAnswered s.way s.blocks older (suc i)) w.2 (λ h. (all.each i w.0 w.1).ticks h k s older at) plain

shown_alike : (log : Log) (players : List Player) → AreAccounted log players → (i k : ℕ) (peer : Peer) → slice_get (map shown players) i ≡ Some peer
    → HasBegunAlike peer.way peer.blocks (drop k log) (suc i)
shown_alike log players all i k peer e =
    let w = unshown players i peer e in
    subst (λ (s : Peer). HasBegunAlike s.way s.blocks (drop k log) (suc i)) w.2 ((all.each i w.0 w.1).alike_past k)

-- two lists of bytes are the same in one way
same_prop : (a b : List ℕ) → IsProp (a ≡ b)
same_prop a b = hlevel props

pub told_now : (log : Log) (players : List Player) → ∥ AreAccounted log players ∥₁ → (i : ℕ) (peer : Peer) → slice_get (map shown players) i ≡ Some peer → is_plain peer.way ≡ true
    → came log (suc i) ++ peer.waiting ≡ answered_to peer.way peer.blocks (told_to log (suc i))
told_now log players truncated i peer e plain =
    ∥∥₁_elim truncated (same_prop (came log (suc i) ++ peer.waiting) (answered_to peer.way peer.blocks (told_to log (suc i)))) (λ all. shown_now log players all i peer e plain)

pub told_past : (log : Log) (players : List Player) → ∥ AreAccounted log players ∥₁ → (i k : ℕ) (peer : Peer) → slice_get (map shown players) i ≡ Some peer → is_plain peer.way ≡ true
    → HasBegun peer.way peer.blocks (drop k log) (suc i)
told_past log players truncated i k peer e plain =
    ∥∥₁_elim truncated (same_prop (take (length (came (drop k log) (suc i))) (answered_to peer.way peer.blocks (told_to (drop k log) (suc i)))) (came (drop k log) (suc i))) (λ all. shown_past log players all i k peer e plain)

pub told_ticks : (log : Log) (players : List Player) → ∥ AreAccounted log players ∥₁ → (i k s : ℕ) (older : Log) (peer : Peer) → slice_get (map shown players) i ≡ Some peer
    → is_plain peer.way ≡ true → drop k log ≡ Took (Tick s) ∷ older → HasAnswered peer.way peer.blocks older (suc i)
told_ticks log players truncated i k s older peer e plain at =
    ∥∥₁_elim truncated (same_prop (came older (suc i)) (answered_to peer.way peer.blocks (told_to older (suc i)))) (λ all. shown_ticks log players all i k s older peer e plain at)

pub told_alike : (log : Log) (players : List Player) → ∥ AreAccounted log players ∥₁
    → ∥ ((i k : ℕ) (peer : Peer) → slice_get (map shown players) i ≡ Some peer → HasBegunAlike peer.way peer.blocks (drop k log) (suc i)) ∥₁
told_alike log players truncated = ∥∥₁_map truncated (λ all i k peer e. shown_alike log players all i k peer e)

-- ---- the same of a log that is kept the oldest first

pub kept_so : (later items : List Event) (players : List Player) → later ≡ items → ∥ AreAccounted (reverse items) players ∥₁ → ∥ AreAccounted (reverse later) players ∥₁
kept_so later items players is all = subst (λ (es : List Event). ∥ AreAccounted (reverse es) players ∥₁) (sym is) all

later_on : (later items : List Event) (e : Event) (players : List Player) → later ≡ items ++ e ∷ [] → AreAccounted (e ∷ reverse items) players → AreAccounted (reverse later) players
later_on later items e players is all = subst (λ (es : List Event). AreAccounted (reverse es) players) (sym is) (one_later items e players all)

pub dialled_so : (later items : List Event) (q : PeerNo) (name : List ℕ) (players : List Player) → later ≡ items ++ Dialled q name ∷ [] → ∥ AreAccounted (reverse items) players ∥₁
    → ∥ AreAccounted (reverse later) players ∥₁
dialled_so later items q name players is truncated = ∥∥₁_map truncated (λ all. later_on later items (Dialled q name) players is (all_dialled (reverse items) q name players all))

pub closed_so : (later items : List Event) (q : PeerNo) (players : List Player) → later ≡ items ++ Closed q ∷ [] → ∥ AreAccounted (reverse items) players ∥₁ → ∥ AreAccounted (reverse later) players ∥₁
closed_so later items q players is truncated = ∥∥₁_map truncated (λ all. later_on later items (Closed q) players is (all_closed (reverse items) q players all))

pub ticked_so : (later items : List Event) (s : ℕ) (players : List Player) → later ≡ items ++ Took (Tick s) ∷ [] → Rest (map shown players) 0 (length (map shown players)) → ∥ AreAccounted (reverse items) players ∥₁
    → ∥ AreAccounted (reverse later) players ∥₁
ticked_so later items s players is rests truncated = ∥∥₁_map truncated (λ all. later_on later items (Took (Tick s)) players is (all_ticked (reverse items) s players rests all))

pub sent_so : (later items : List Event) (q : PeerNo) (bytes : List ℕ) (old new : List Player) → later ≡ items ++ Sent q bytes ∷ [] → HearsAt old q.0 (spelled bytes) new
    → ∥ AreAccounted (reverse items) old ∥₁ → ∥ AreAccounted (reverse later) new ∥₁
sent_so later items q bytes old new is hears truncated = ∥∥₁_map truncated (λ all. later_on later items (Sent q bytes) new is (all_sent (reverse items) q bytes old new hears all))

pub given_so : (later items : List Event) (q : PeerNo) (piece : List ℕ) (place : ℕ) (old new : List Player) → later ≡ items ++ Took (Got q piece) ∷ [] → Gives old place piece new
    → q.0 ≡ suc place → ∥ AreAccounted (reverse items) old ∥₁ → ∥ AreAccounted (reverse later) new ∥₁
given_so later items q piece place old new is gives number truncated =
    ∥∥₁_map truncated (λ all. later_on later items (Took (Got q piece)) new is (all_given (reverse items) q piece old new place gives number all))

-- ---- a peer more, before anything passed

fresh : (player : Player) → player.seen ≡ false → player.waiting ≡ [] → (p : ℕ) → IsAccounted [] p player
fresh player unseen none p = record {
  seen = unseen ∙ ap (seen_after false) (sym (heard_none player.way));
  now = λ plain. none ∙ sym (nothing player.way player.index);
  past = λ plain k. begun k;
  ticks = λ plain k s older at. absurd (no_entry k at);
  alike = all_alike;
  alike_past = λ k. begun_at k;
} where
  heard_none : (way : Way) → heard_of way [] ≡ []
  heard_none Honest = refl
  heard_none Omits = refl
  heard_none Silent = refl

  all_alike : AreFramesAlike (answers_of player.way player.index []) player.waiting
  all_alike =
      subst (λ (s : List ℕ). AreFramesAlike (answers_of player.way player.index []) s) (sym none)
      (subst (λ (ms : List Msg). AreFramesAlike (replies (pos 0) 0 player.index false ms) []) (sym (heard_none player.way)) no_frames)

  begun_at : (k : ℕ) → HasBegunAlike player.way player.index (drop k []) p
  begun_at zero = begun_alike player.way player.index [] p player.waiting all_alike
  begun_at (suc k) = begun_alike player.way player.index [] p player.waiting all_alike

  nothing : (way : Way) (blocks : List Block) → answered_to way blocks [] ≡ []
  nothing way blocks = ap (frames_from false blocks) (heard_none way) ∙ text-nil

  begun : (k : ℕ) → HasBegun player.way player.index (drop k []) p
  begun zero = refl
  begun (suc k) = refl

  no_entry : (k : ℕ) {e : Event} {older : Log} → drop k [] ≡ e ∷ older → ⊥
  no_entry zero at = cc
  no_entry (suc k) at = cc

at_end : (xs : List Player) (player : Player) → ((p : ℕ) → IsAccounted [] p player) → (n i : ℕ) (other : Player) → slice_get (xs ++ player ∷ []) i ≡ Some other
    → ((k : ℕ) (x : Player) → slice_get xs k ≡ Some x → IsAccounted [] (n + suc k) x) → IsAccounted [] (n + suc i) other
at_end [] player made n zero other at each = let is : player ≡ other = cc in subst (IsAccounted [] (n + 1)) is (made (n + 1))
at_end [] player made n (suc i) other at each = cc
at_end (x ∷ xs) player made n zero other at each = each 0 other at
at_end (x ∷ xs) player made n (suc i) other at each =
    let e : suc n + suc i ≡ n + suc (suc i) = omega arith in
    subst (λ (p : ℕ). IsAccounted [] p other) e
    (at_end xs player made (suc n) i other at (λ k y f. let g : n + suc (suc k) ≡ suc n + suc k = omega arith in subst (λ (p : ℕ). IsAccounted [] p y) g (each (suc k) y f)))

more_accounted : (items : List Event) (players later : List Player) (player : Player) → later ≡ players ++ player ∷ [] → reverse items ≡ [] → player.seen ≡ false → player.waiting ≡ []
    → AreAccounted (reverse items) players → AreAccounted (reverse items) later
more_accounted items players later player is new unseen none all =
    let now : AreAccounted [] players = subst (λ (log : Log). AreAccounted log players) new all in
    let each : (i : ℕ) (other : Player) → slice_get (players ++ player ∷ []) i ≡ Some other → IsAccounted [] (suc i) other = λ i other at.
    let e : 0 + suc i ≡ suc i = omega arith in
    subst (λ (p : ℕ). IsAccounted [] p other) e
    (at_end players player (fresh player unseen none) 0 i other at (λ k x f. let g : suc k ≡ 0 + suc k = omega arith in subst (λ (p : ℕ). IsAccounted [] p x) g (now.each k x f))) in
    let some : AreAccounted [] (players ++ player ∷ []) = record { each = each } in
    subst (λ (log : Log). AreAccounted log later) (sym new) (subst (λ (ps : List Player). AreAccounted [] ps) (sym is) some)

pub added_so : (items : List Event) (players later : List Player) (player : Player) → later ≡ players ++ player ∷ [] → reverse items ≡ [] → player.seen ≡ false → player.waiting ≡ []
    → ∥ AreAccounted (reverse items) players ∥₁ → ∥ AreAccounted (reverse items) later ∥₁
added_so items players later player is new unseen none truncated = ∥∥₁_map truncated (λ all. more_accounted items players later player is new unseen none all)

pub pushed_so : (b : Bool) (items : List Event) (players later : List Player) (player : Player) → later ≡ (if b then players ++ player ∷ [] else players) → reverse items ≡ [] → player.seen ≡ false
    → player.waiting ≡ [] → ∥ AreAccounted (reverse items) players ∥₁ → ∥ AreAccounted (reverse items) later ∥₁
pushed_so true items players later player is new unseen none all = added_so items players later player is new unseen none all
pushed_so false items players later player is new unseen none all = subst (λ (ps : List Player). ∥ AreAccounted (reverse items) ps ∥₁) (sym is) all

-- one delivery more, or none
pub ruleset deliveries_so = (kept_so, ticked_so, given_so)
