-- Lists whose items are known by their places.
use Rattle.std.proofs.Common.{◌≡◌, ◌<◌, ◌+◌, ℕ, zero, suc, List, [], ◌∷◌, ◌++◌, Option, Some, Vec, vec_len, length, slice_index_or, ◌⊎◌, inl, inr, sym, refl, ap, ◌∙◌, subst, arith}
use Rattle.std.proofs.Common.{All}
use Rattle.std.specs.Global.{Global}
use Rattle.std.specs.Option.{option_to_list}
use Rattle.crossbeam_channel.specs.Ends.{sends_on}
use Rattle.cf_tasks.specs.declared.ends.Queue.{Queue}
use Rattle.cf_tasks.specs.declared.ends.Sender.{Sender}
use Rattle.cf_outside.specs.declared.entry.EntryKind.{EntryKind}
use Rattle.cf_outside.specs.declared.reader.Reader.{Reader}
use Rattle.cf_hub.specs.Lines.{AllAt, IsNew, Down}

pub below : (k n : ℕ) → k < n + 1 → (k < n) ⊎ (k ≡ n)
below zero zero l = inr refl
below zero (suc n) l = inl (omega arith)
below (suc k) zero l = absurd (omega (arith, l))
below (suc k) (suc n) l = elim (below k n (omega (arith, l))) [ inl h ↦ inl (omega (arith, h)) | inr h ↦ inr (ap suc h) ]

module _ {X : Type 0} where
  pub none_at : (P : ℕ → X → Type 0) (xs : List X) → xs ≡ [] → AllAt P xs
  none_at P xs e = λ k d l. let n = ap length e in absurd (omega (arith, l, n))

  last_at : (xs : List X) (x d : X) → slice_index_or (xs ++ x ∷ []) (length xs) d ≡ x
  last_at [] x d = refl
  last_at (y ∷ ys) x d = last_at ys x d

  front_at : (xs : List X) (x d : X) (k : ℕ) → k < length xs → slice_index_or (xs ++ x ∷ []) k d ≡ slice_index_or xs k d
  front_at [] x d k l = absurd (omega (arith, l))
  front_at (y ∷ ys) x d zero l = refl
  front_at (y ∷ ys) x d (suc k) l = front_at ys x d k (omega (arith, l))

  long : (xs : List X) (x : X) → length (xs ++ x ∷ []) ≡ length xs + 1
  long [] x = refl
  long (y ∷ ys) x = let h = long ys x in omega (arith, h)

  -- the last item, and those before it
  pub popped : (P : ℕ → X → Type 0) (was now : List X) (x : X) → was ≡ now ++ x ∷ [] → AllAt P was → P (length now) x × AllAt P now
  popped P was now x e a =
      let Q : List X → Type 0 = AllAt P in
      let b : AllAt P (now ++ x ∷ []) = subst Q e a in
      let n = long now x in (
        subst (P (length now)) (last_at now x x) (b (length now) x (omega (arith, n))),
        λ k d l. subst (P k) (front_at now x d k l) (b k d (omega (arith, n, l))),
      )

  -- one item more
  pub pushed : (P : ℕ → X → Type 0) (was now : List X) (x : X) → now ≡ was ++ x ∷ [] → AllAt P was → P (length was) x → AllAt P now
  pushed P was now x e a p =
      let Q : List X → Type 0 = AllAt P in
      let n = long was x in
      subst Q (sym e) (λ k d l. elim (below k (length was) (omega (arith, n, l))) [
        | inl h ↦ subst (P k) (sym (front_at was x d k h)) (a k d h)
        | inr h ↦ (let R : ℕ → Type 0 = λ i. P i (slice_index_or (was ++ x ∷ []) i d) in subst R (sym h) (subst (P (length was)) (sym (last_at was x d)) p))
      ])

  -- another fact of each
  pub each_at : (P Q : ℕ → X → Type 0) (xs : List X) → ((k : ℕ) (x : X) → P k x → Q k x) → AllAt P xs → AllAt Q xs
  each_at P Q xs f a = λ k d l. f k (slice_index_or xs k d) (a k d l)

-- what is known of the last of the peers' senders, once it is taken from the others
pub record Popped (q : Queue EntryKind) (was now : Vec (Sender EntryKind) Global) (x : Sender EntryKind) : Type 0 where
  pub rest : Down q now.items
  pub line : sends_on x.line ≡ sends_on q.line
  pub number : x.number + vec_len now ≡ 8
  pub len : vec_len now + 1 ≡ vec_len was

pub down_popped : (q : Queue EntryKind) (was now : Vec (Sender EntryKind) Global) (o : Option (Sender EntryKind)) (x : Sender EntryKind) → o ≡ Some x
    → was.items ≡ now.items ++ option_to_list o → vec_len now + length (option_to_list o) ≡ vec_len was → Down q was.items → Popped q was now x
down_popped q was now o x is items len a =
    let more : List (Sender EntryKind) → List (Sender EntryKind) = λ l. now.items ++ l in
    let p = popped (λ k s. (s.number + k ≡ 8) × IsNew q s) was.items now.items x (items ∙ ap more (ap option_to_list is)) a in
    record {
      rest = p.1;
      line = p.0.1.0;
      number = ap (λ n. x.number + n) now.ok.0 ∙ p.0.0;
      len = ap (λ l. vec_len now + length l) (sym (ap option_to_list is)) ∙ len;
    }

-- one reader more, which sends on the queue's line
pub reading_pushed : {S R : Type 0} (q : Queue EntryKind) (was now : List (Reader S R)) (x : Reader S R) → now ≡ was ++ x ∷ []
    → All (λ b. (sends_on b.sender.line ≡ sends_on q.line) × (0 < b.sender.number)) was → (sends_on x.sender.line ≡ sends_on q.line) × (0 < x.sender.number)
    → All (λ b. (sends_on b.sender.line ≡ sends_on q.line) × (0 < b.sender.number)) now
reading_pushed {S = S} {R = R} q was now x e a p = pushed (λ k (b : Reader S R). (sends_on b.sender.line ≡ sends_on q.line) × (0 < b.sender.number)) was now x e a p

-- the same readers, of a queue with the same line
pub reading_ringed : {S R : Type 0} (q q' : Queue EntryKind) (was now : List (Reader S R)) → now ≡ was → sends_on q'.line ≡ sends_on q.line
    → All (λ b. (sends_on b.sender.line ≡ sends_on q.line) × (0 < b.sender.number)) was → All (λ b. (sends_on b.sender.line ≡ sends_on q'.line) × (0 < b.sender.number)) now
reading_ringed {S = S} {R = R} q q' was now e r a =
    let Q : List (Reader S R) → Type 0 = All (λ b. (sends_on b.sender.line ≡ sends_on q'.line) × (0 < b.sender.number)) in
    subst Q (sym e) (λ k d l. let h = a k d l in (h.0 ∙ sym r, h.1))

any_default : {X : Type 0} (xs : List X) (i : ℕ) (a b : X) → i < length xs → slice_index_or xs i a ≡ slice_index_or xs i b
any_default [] i a b l = absurd (omega (arith, l))
any_default (x ∷ xs) zero a b l = refl
any_default (x ∷ xs) (suc i) a b l = any_default xs i a b (omega (arith, l))

-- a fact of the first items, and of one more
pub one_more : {X : Type 0} (P : X → Type 0) (xs : List X) (i : ℕ) (x : X) → i < length xs → x ≡ slice_index_or xs i x → P x → ((k : ℕ) (d : X) → k < i → P (slice_index_or xs k d))
    → (k : ℕ) (d : X) → k < i + 1 → P (slice_index_or xs k d)
one_more {X = X} P xs i x l e p h k d b = elim (below k i b) [
  | inl q ↦ h k d q
  | inr q ↦ (let Q : ℕ → Type 0 = λ j. P (slice_index_or xs j d) in subst Q (sym q) (subst P (e ∙ any_default xs i x d l) p))
]
