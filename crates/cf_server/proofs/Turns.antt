-- Each piece is answered before the next one is read.
use Rattle.std.proofs.Common.{◌≡◌, ℕ, ℤ, zero, suc, false, ◌≤◌, List, [], ◌++◌, length, Option, Some, None, Ok, refl, sym, ap, ◌∙◌, subst, append_assoc}
use Rattle.std.specs.Prelude.{IfSome}
use Rattle.std.proofs.lemmas.List.{append_cancel_right}
use Rattle.cf_block.specs.declared.tx.Block.{Block}
use Rattle.cf_frame.specs.Reading.{front_of}
use Rattle.cf_conn.specs.Source.{with_front}
use Rattle.cf_server.specs.declared.answering.Serving.{Serving}
use Rattle.cf_server.specs.declared.outcome.ServeEnd.TheVariants.{Closed}
use Rattle.cf_server.specs.Serving.{Whole}
use Rattle.cf_server.specs.Taking.{Midway}
use Rattle.cf_server.specs.Turns.{IsInTurn, AnswersFirst, most_piece, owed_for}
use Rattle.cf_server.proofs.Steps.{if_some_on, served_so_far, unread}

-- the bytes of a list that is told
abbrev list_of : List ℕ → Option (List ℕ) → List ℕ
list_of bytes None = bytes
list_of bytes (Some x) = x

abbrev IsTold : Option (List ℕ) → Type 0
IsTold None = ⊥
IsTold (Some x) = Unit {0}

-- what was taken is told by what is left
one_taken : (bytes t u : List ℕ) (left : Option (List ℕ)) → Some bytes ≡ with_front t left → Some bytes ≡ with_front u left → t ≡ u
one_taken bytes t u None e f = absurd (subst IsTold e tt)
one_taken bytes t u (Some rest) e f = append_cancel_right t u rest (ap (list_of bytes) (sym e ∙ f))

-- bytes that were read in two parts
twice : (front more : List ℕ) (told : Option (List ℕ)) → with_front front (with_front more told) ≡ with_front (front ++ more) told
twice front more None = refl
twice front more (Some bytes) = ap (λ (x : List ℕ). Some x) (sym (append_assoc front more bytes))

-- two facts of what is told
pub if_two : {X : Type 0} (o : Option X) (P Q R : X → Type 0) → ((x : X) → o ≡ Some x → P x → Q x → R x) → IfSome o P → IfSome o Q → IfSome o R
if_two None P Q R each p q = tt
if_two (Some x) P Q R each p q = each x refl p q

-- while no whole frame waits, all that is owed was written
pub all_written : (blocks : List Block) (now : ℤ) (nonce : ℕ) (bytes : List ℕ) (left : Option (List ℕ)) (k : ℕ) (v : List ℕ) (s : Serving) (o p : Option (List ℕ))
    → Midway blocks (record { time = now; nonce = nonce; seen = false }) bytes left k v s o p → 1 ≤ k → front_of v ≡ Ok None
    → (t : List ℕ) → Some bytes ≡ with_front t left → Whole o p (owed_for now nonce blocks t)
all_written blocks now nonce bytes left k v s o p midway some waits t told =
    let is = served_so_far blocks now nonce bytes [] left left k v s o p p Closed midway (unread left left refl) refl refl some waits (λ stop e. e) (λ a b x whole. whole) in
    subst (λ (x : List ℕ). Whole o p (owed_for now nonce blocks x)) (one_taken bytes is.taken t left is.rest told) is.writes

module _ {C : Type 0} (left written : C → Option (List ℕ)) (owed : List ℕ → List ℕ) where
  -- before the first piece
  pub first_turn : (bytes : List ℕ) (before now : Option (List ℕ)) → now ≡ Some bytes → AnswersFirst left written owed bytes before now
  unfolding IsInTurn
  first_turn bytes before now told = record { pieces = zero; taken = []; told = unread (Some bytes) now told; turns = refl }

  -- one piece more
  pub next_turn : (bytes piece : List ℕ) (before between after : Option (List ℕ)) (at : C) → length piece ≤ most_piece → AnswersFirst left written owed bytes before (left at)
      → ((t : List ℕ) → Some bytes ≡ with_front t (left at) → Whole before (written at) (owed t)) → left at ≡ with_front piece between → after ≡ between
      → AnswersFirst left written owed bytes before after
  unfolding IsInTurn
  next_turn bytes piece before between after at few a whole read same = record {
    pieces = suc a.pieces;
    taken = a.taken ++ piece;
    told = a.told ∙ ap (with_front a.taken) (read ∙ ap (with_front piece) (sym same)) ∙ twice a.taken piece after;
    turns = (a.taken, piece, at, refl, few, a.told, whole a.taken a.told, a.turns);
  }

  -- a read that gave nothing
  pub same_turn : (bytes piece : List ℕ) (before now after : Option (List ℕ)) → AnswersFirst left written owed bytes before now → now ≡ with_front piece after → piece ≡ []
      → AnswersFirst left written owed bytes before after
  same_turn bytes piece before now after a read none =
      subst (λ (x : Option (List ℕ)). AnswersFirst left written owed bytes before x) (read ∙ ap (λ x. with_front x after) none ∙ sym (unread after after refl)) a

-- a read that gave nothing, at the moment that was handed in
pub turn_ends : {C : Type 0} (left written : C → Option (List ℕ)) (told : Option (List ℕ)) (z now : ℤ) (nonce : ℕ) (blocks : List Block) (piece : List ℕ) (before at after : Option (List ℕ)) → z ≡ now
    → IfSome told (λ bytes. AnswersFirst left written (owed_for z nonce blocks) bytes before at) → at ≡ with_front piece after → piece ≡ []
    → IfSome told (λ bytes. AnswersFirst left written (owed_for now nonce blocks) bytes before after)
turn_ends left written told z now nonce blocks piece before at after same turns read none =
    if_some_on told (λ bytes. AnswersFirst left written (owed_for z nonce blocks) bytes before at) (λ bytes. AnswersFirst left written (owed_for now nonce blocks) bytes before after)
    (λ bytes is turn. subst (λ (y : ℤ). AnswersFirst left written (owed_for y nonce blocks) bytes before after) same
    (same_turn left written (owed_for z nonce blocks) bytes piece before at after turn read none)) turns

-- a piece that was answered
pub turn_goes : {C : Type 0} (left written : C → Option (List ℕ)) (told : Option (List ℕ)) (blocks : List Block) (z : ℤ) (nonce : ℕ) (piece : List ℕ) (before between after : Option (List ℕ)) (at : C) (k : ℕ) (v : List ℕ) (s : Serving)
    → length piece ≤ most_piece → IfSome told (λ bytes. Midway blocks (record { time = z; nonce = nonce; seen = false }) bytes (left at) k v s before (written at)) → 1 ≤ k → front_of v ≡ Ok None
    → IfSome told (λ bytes. AnswersFirst left written (owed_for z nonce blocks) bytes before (left at)) → left at ≡ with_front piece between → after ≡ between
    → IfSome told (λ bytes. AnswersFirst left written (owed_for z nonce blocks) bytes before after)
turn_goes left written told blocks z nonce piece before between after at k v s few midway some waits turns read kept =
    if_two told (λ bytes. Midway blocks (record { time = z; nonce = nonce; seen = false }) bytes (left at) k v s before (written at)) (λ bytes. AnswersFirst left written (owed_for z nonce blocks) bytes before (left at))
    (λ bytes. AnswersFirst left written (owed_for z nonce blocks) bytes before after)
    (λ bytes is way turn. next_turn left written (owed_for z nonce blocks) bytes piece before between after at few turn (all_written blocks z nonce bytes (left at) k v s before (written at) way some waits) read kept)
    midway turns
