-- One transaction more of those that are walked over.
use Rattle.std.proofs.Common.{◌≡◌, ℕ, ◌==◌, Bool, true, false, List, [], ◌∷◌, ◌++◌, map, length, refl, sym, ap, ◌∙◌, append_assoc}
use Rattle.std.specs.Prelude.{◌||◌}
use Rattle.std.specs.List.{list_any}
use Rattle.std.proofs.lemmas.List.{map-append}
use Rattle.cf_bytes.specs.declared.hash.Hash32.{Hash32}
use Rattle.cf_block.specs.declared.tx.Tx.{Tx}
use Rattle.cf_block.specs.Tx.{tx_spelling, txid_of}
use Rattle.cf_block.specs.Views.{bytes_of}
use Rattle.cf_block.specs.Commitment.{has_64}
use Rattle.cf_view.specs.Walked.{IsWalked}

or_none : (a : Bool) → (a || false) ≡ a
or_none true = refl
or_none false = refl

or_so : (a b c : Bool) → (a || (b || c)) ≡ ((a || b) || c)
or_so true b c = refl
or_so false b c = refl

any_more : (f : List ℕ → Bool) (xs : List (List ℕ)) (x : List ℕ) → list_any f (xs ++ x ∷ []) ≡ (list_any f xs || f x)
any_more f [] x = or_none (f x)
any_more f (y ∷ xs) x = ap (λ (b : Bool). f y || b) (any_more f xs x) ∙ or_so (f y) (list_any f xs) (f x)

pub joined_more : {X : Type 0} (all front left more : List X) (x : X) → all ≡ front ++ left → left ≡ x ∷ more
    → all ≡ (front ++ x ∷ []) ++ more
joined_more {X} all front left more x e f =
    e ∙ ap (λ (l : List X). front ++ l) f ∙ sym (append_assoc front (x ∷ []) more)

pub walked_more : (txs left more : List Tx) (t : Tx) (ids new : List Hash32) (long : Bool) (h : Hash32) (n : ℕ)
    → left ≡ t ∷ more → h.0 ≡ txid_of t → new ≡ ids ++ h ∷ [] → n ≡ length (tx_spelling t)
    → IsWalked txs left ids long → IsWalked txs more new (long || (n == 64))
walked_more txs left more t ids new long h n first hash put size so = record {
  front = so.front ++ t ∷ [];
  joined = joined_more txs so.front left more t so.joined first;
  hashes =
      ap (λ (l : List Hash32). bytes_of l) put
      ∙ map-append (λ (x : Hash32). x.0) ids (h ∷ [])
      ∙ (λ j. so.hashes j ++ hash j ∷ [])
      ∙ sym (map-append txid_of so.front (t ∷ []));
  has =
      ap (λ (k : ℕ). long || (k == 64)) size
      ∙ ap (λ (b : Bool). b || has_64 (tx_spelling t)) so.has
      ∙ sym (any_more has_64 (map tx_spelling so.front) (tx_spelling t))
      ∙ ap (list_any has_64) (sym (map-append tx_spelling so.front (t ∷ [])));
}
