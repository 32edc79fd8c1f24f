-- Peers as they are shown, and what tells them.
use Rattle.std.proofs.Common.{◌≡◌, ℕ, zero, suc, ◌+◌, ◌<◌, List, [], ◌∷◌, ◌++◌, length, take, drop, true, Some, None, refl, sym, ◌∙◌, ap, subst, inl, inr, arith}
use Rattle.std.specs.Prelude.{◌≢◌, ◌⊎◌, map, slice_get, Option}
use Rattle.std.proofs.Math.ListN.{set}
use Rattle.std.proofs.Math.Seq.{take-append_seam}
use Rattle.std.proofs.lemmas.List.{map-set}
use Rattle.cf_block.specs.declared.tx.Block.{Block}
use Rattle.cf_chain.specs.Good.{IsGoodChain}
use Rattle.cf_make.specs.Records.{records_of}
use Rattle.cf_msg.specs.declared.msg.Msg.{Msg}
use Rattle.cf_wires.specs.declared.event.Dial.{Dial}
use Rattle.cf_wires.specs.Wires.{Made}
use Rattle.cf_played.specs.declared.kind.Way.{Way}
use Rattle.cf_played.specs.declared.kind.Way.TheVariants.{Honest, Omits, Silent}
use Rattle.cf_played.specs.declared.player.Player.{Player}
use Rattle.cf_played.specs.Peers.{AreGood, HasMore, Peer, dial_to, made_of, made_with, shown, still, way_number}
use Rattle.cf_played.specs.Players.{Gives, HasHeard, HearsAt}
use Rattle.cf_played.specs.Turns.{HasGiven}
use Rattle.cf_played.specs.Waiting.{behind_front}
use Rattle.cf_played.proofs.Checks.{read_again}
use Rattle.cf_played.proofs.TurnLemmas.{shown_at}

-- what a list of the same length leaves of one that it was written to
pub written : (n : ℕ) (new old : List Player) → length new ≡ n → take n (new ++ drop (length new) old) ≡ new
written n new old e = ap (λ (k : ℕ). take k (new ++ drop (length new) old)) (sym e) ∙ take-append_seam new (drop (length new) old)

-- ---- one was put in place of another

set_known : (xs : List Player) (i : ℕ) (x y : Player) → slice_get xs i ≡ Some x → dial_to (shown y) ≡ dial_to (shown x) → map dial_to (map shown (set xs i y)) ≡ map dial_to (map shown xs)
set_known [] i x y at e = cc
set_known (z ∷ zs) zero x y at e = let same : z ≡ x = cc in ap (λ (d : Dial). d ∷ map dial_to (map shown zs)) (e ∙ ap (λ (p : Player). dial_to (shown p)) (sym same))
set_known (z ∷ zs) (suc i) x y at e = ap (λ (ds : List Dial). dial_to (shown z) ∷ ds) (set_known zs i x y at e)

pub gives_known : (old new : List Player) (place : ℕ) (piece : List ℕ) → Gives old place piece new → made_of (map shown new) ≡ made_of (map shown old)
gives_known old new place piece gives =
    ap (λ (xs : List Player). made_of (map shown xs)) gives.new_is
    ∙ ap made_with (set_known old place gives.before (record gives.before { waiting = behind_front gives.before.waiting }) gives.at refl)

pub given_shown : (old new : List Player) (place : ℕ) (piece : List ℕ) → Gives old place piece new → HasGiven (map shown old) place piece (map shown new)
given_shown old new place piece gives = record {
  peer = shown gives.before;
  at = shown_at old place gives.before gives.at;
  piece_is = gives.piece_is;
  new_is = ap (map shown) gives.new_is ∙ map-set shown old place (record gives.before { waiting = behind_front gives.before.waiting });
}

hears_known_by : (old new : List Player) (p : ℕ) (m : Option Msg) → ((((p ≡ 0) ⊎ (length old < p)) × (new ≡ old)) ⊎ HasHeard old p m new) → made_of (map shown new) ≡ made_of (map shown old)
hears_known_by old new p m (inl none) = ap (λ (xs : List Player). made_of (map shown xs)) none.1
hears_known_by old new p m (inr has) =
    ap (λ (xs : List Player). made_of (map shown xs)) has.new_is
    ∙ ap made_with (set_known old has.place has.before has.after has.at (λ i. record { name = way_number (has.answered.way i) ∷ records_of (has.answered.blocks i); answered = true }))

pub hears_known : (old new : List Player) (p : ℕ) (m : Option Msg) → HearsAt old p m new → made_of (map shown new) ≡ made_of (map shown old)
hears_known old new p m hears = hears_known_by old new p m hears.outcome

-- ---- more waits

get_set : (xs : List Peer) (i : ℕ) (x y : Peer) → slice_get xs i ≡ Some x → slice_get (set xs i y) i ≡ Some y
get_set [] i x y at = cc
get_set (z ∷ zs) zero x y at = refl
get_set (z ∷ zs) (suc i) x y at = get_set zs i x y at

get_other : (xs : List Peer) (i k : ℕ) (y : Peer) → k ≢ i → slice_get (set xs i y) k ≡ slice_get xs k
get_other [] i k y other = refl
get_other (z ∷ zs) zero zero y other = absurd (other refl)
get_other (z ∷ zs) zero (suc k) y other = refl
get_other (z ∷ zs) (suc i) zero y other = refl
get_other (z ∷ zs) (suc i) (suc k) y other = get_other zs i k y (λ same. other (ap suc same))

get_within : (xs : List Player) (i : ℕ) (x : Peer) → slice_get (map shown xs) i ≡ Some x → i < length xs
get_within [] i x e = cc
get_within (y ∷ xs) zero x e = omega arith
get_within (y ∷ xs) (suc i) x e = let h = get_within xs i x e in omega (arith, h)

hears_more_by : (old new : List Player) (p : ℕ) (m : Option Msg) → ((((p ≡ 0) ⊎ (length old < p)) × (new ≡ old)) ⊎ HasHeard old p m new) → HasMore (map shown old) p (map shown new)
hears_more_by old new p m (inl none) = record {
  others = λ i other. ap (λ (xs : List Player). slice_get (map shown xs) i) none.1;
  own = λ i peer number at. absurd (nobody (get_within old i peer at) (sym number) none.0);
} where
  nobody : {i n l : ℕ} → i < l → n ≡ suc i → (n ≡ 0) ⊎ (l < n) → ⊥
  nobody within same (inl e) = omega (arith, within, same, e)
  nobody within same (inr e) = omega (arith, within, same, e)
hears_more_by old new p m (inr has) =
    let is : map shown new ≡ set (map shown old) has.place (shown has.after) = ap (map shown) has.new_is ∙ map-set shown old has.place has.after in
    let before : slice_get (map shown old) has.place ≡ Some (shown has.before) = shown_at old has.place has.before has.at in
    let after : shown has.after ≡ record (shown has.before) { waiting = has.before.waiting ++ has.answered.more } =
    λ i. record { blocks = has.answered.blocks i; way = has.answered.way i; waiting = has.answered.joined i } in
    record {
      others = λ i other. ap (λ (xs : List Peer). slice_get xs i) is ∙ get_other (map shown old) has.place i (shown has.after) (λ same. other (ap suc same ∙ sym has.number));
      own = λ i peer number at.
          let here : i ≡ has.place = omega (arith, number, has.number) in
          let e : slice_get (map shown old) has.place ≡ Some peer = subst (λ (k : ℕ). slice_get (map shown old) k ≡ Some peer) here at in
          let it : shown has.before ≡ peer = cc in
          let f : slice_get (map shown new) i ≡ Some (record (shown has.before) { waiting = has.before.waiting ++ has.answered.more }) =
          ap (λ (k : ℕ). slice_get (map shown new) k) here ∙ ap (λ (xs : List Peer). slice_get xs has.place) is ∙ get_set (map shown old) has.place (shown has.before) (shown has.after) before ∙ ap Some after in
          (has.answered.more, subst (λ (q : Peer). slice_get (map shown new) i ≡ Some (record q { waiting = q.waiting ++ has.answered.more })) it f);
    }

pub hears_more : (old new : List Player) (p : ℕ) (m : Option Msg) → HearsAt old p m new → HasMore (map shown old) p (map shown new)
hears_more old new p m hears = hears_more_by old new p m hears.outcome

-- ---- the same, of the peers that were lent and written back

pub known_given : (lent old new now : List Player) (place : ℕ) (piece : List ℕ) → lent ≡ old → Gives lent place piece new → now ≡ new → made_of (map shown now) ≡ made_of (map shown old)
known_given lent old new now place piece same gives is =
    ap (λ (ps : List Player). made_of (map shown ps)) is ∙ gives_known old new place piece (subst (λ (ps : List Player). Gives ps place piece new) same gives)

pub known_heard : (lent old new now : List Player) (p : ℕ) (m : Option Msg) → lent ≡ old → HearsAt lent p m new → now ≡ new → made_of (map shown now) ≡ made_of (map shown old)
known_heard lent old new now p m same hears is =
    ap (λ (ps : List Player). made_of (map shown ps)) is ∙ hears_known old new p m (subst (λ (ps : List Player). HearsAt ps p m new) same hears)

pub more_heard : (lent old new now : List Player) (p : ℕ) (m : Option Msg) → lent ≡ old → HearsAt lent p m new → now ≡ new → HasMore (map shown old) p (map shown now)
more_heard lent old new now p m same hears is =
    subst (λ (ps : List Player). HasMore (map shown old) p (map shown ps)) (sym is) (hears_more old new p m (subst (λ (ps : List Player). HearsAt ps p m new) same hears))

-- ---- what tells the peers

way_same : (a b : Way) → way_number a ≡ way_number b → a ≡ b
way_same Honest Honest e = refl
way_same Honest Omits e = cc
way_same Honest Silent e = cc
way_same Omits Honest e = cc
way_same Omits Omits e = refl
way_same Omits Silent e = cc
way_same Silent Honest e = cc
way_same Silent Omits e = cc
way_same Silent Silent e = refl

blocks_same : (a b : List Block) → IsGoodChain a → IsGoodChain b → records_of a ≡ records_of b → a ≡ b
blocks_same a b good other e =
    let first = read_again a (records_of a) refl good in
    let second = read_again b (records_of a) e other in
    cc

one_same : (x y : Peer) → IsGoodChain x.blocks → IsGoodChain y.blocks → dial_to x ≡ dial_to y → still x ≡ still y
one_same x y good other e =
    let name : (way_number x.way ∷ records_of x.blocks) ≡ (way_number y.way ∷ records_of y.blocks) = ap (λ (d : Dial). d.name) e in
    let number : way_number x.way ≡ way_number y.way = cc in
    let records : records_of x.blocks ≡ records_of y.blocks = cc in
    let way = way_same x.way y.way number in
    let blocks = blocks_same x.blocks y.blocks good other records in
    λ i. record { blocks = blocks i; way = way i; waiting = [] }

all_same : (xs ys : List Peer) → AreGood xs → AreGood ys → map dial_to xs ≡ map dial_to ys → map still xs ≡ map still ys
all_same [] [] good other e = refl
all_same [] (y ∷ ys) good other e = cc
all_same (x ∷ xs) [] good other e = cc
all_same (x ∷ xs) (y ∷ ys) good other e =
    let first : dial_to x ≡ dial_to y = cc in
    let rest : map dial_to xs ≡ map dial_to ys = cc in
    let one = one_same x y (good.each 0 x refl) (other.each 0 y refl) first in
    let more = all_same xs ys (record { each = λ i peer at. good.each (suc i) peer at }) (record { each = λ i peer at. other.each (suc i) peer at }) rest in
    λ i. one i ∷ more i

abbrev dials_in : Option Made → List Dial
dials_in None = []
dials_in (Some made) = made.script.dials

pub same_still : (xs ys : List Peer) → AreGood xs → AreGood ys → made_of xs ≡ made_of ys → map still xs ≡ map still ys
same_still xs ys good other e = let dials : map dial_to xs ≡ map dial_to ys = ap dials_in e in all_same xs ys good other dials

-- one peer more
good_more_by : (n : ℕ) (players : List Player) (i : ℕ) (peer : Peer) → AreGood (map shown (take n players)) → (player : Player) → slice_get players n ≡ Some player → IsGoodChain player.index
    → slice_get (map shown (take (suc n) players)) i ≡ Some peer → IsGoodChain peer.blocks
good_more_by n [] i peer good player here is at = cc
good_more_by zero (x ∷ xs) zero peer good player here is at =
    let same : x ≡ player = cc in let shows : shown x ≡ peer = cc in subst (λ (q : Peer). IsGoodChain q.blocks) (ap shown (sym same) ∙ shows) is
good_more_by zero (x ∷ xs) (suc i) peer good player here is at = cc
good_more_by (suc n) (x ∷ xs) zero peer good player here is at = good.each 0 peer at
good_more_by (suc n) (x ∷ xs) (suc i) peer good player here is at = good_more_by n xs i peer (record { each = λ k q e. good.each (suc k) q e }) player here is at

pub good_more : (n : ℕ) (players : List Player) (player : Player) → AreGood (map shown (take n players)) → slice_get players n ≡ Some player → IsGoodChain player.index → AreGood (map shown (take (n + 1) players))
good_more n players player good here is =
    let e : suc n ≡ n + 1 = omega arith in
    subst (λ (k : ℕ). AreGood (map shown (take k players))) e (record { each = λ i peer at. good_more_by n players i peer good player here is at })
