-- With nothing open, all that differ on a fetched block of the best chain were tested, and none omits what it pays.
use Rattle.std.proofs.Common.{◌≡◌, ◌⊎◌, inl, inr, ℕ, zero, suc, drop, ◌-◌, ◌≤◌, List, [], ◌∷◌, ◌++◌, length, sym, ◌∙◌, ap, subst, arith}
use Rattle.std.proofs.lemmas.Bool.{both_ways}
use Rattle.cf_bytes.specs.declared.hash.Hash32.{Hash32}
use Rattle.cf_block.specs.declared.header.Header.{Header}
use Rattle.cf_headers.specs.Chain.{Hash, Chain, lower, IsIn, NoHashClash, IsAbove}
use Rattle.cf_headers.specs.Heights.{hash_at, common_of}
use Rattle.cf_headers.specs.Shown.{IsShown, IsShownSpelling, AreApart}
use Rattle.cf_headers.proofs.Accepting.{drop_valid}
use Rattle.cf_headers.proofs.Commons.{common_own, common_kept}
use Rattle.cf_headers.proofs.Locators.{hash_stands}
use Rattle.cf_headers.proofs.Longest.{same_chain}
use Rattle.cf_headers.proofs.Stacks.{length_lower}
use Rattle.cf_peer.specs.Asking.{lists, hashes_of}
use Rattle.cf_wires.specs.Log.{Log}
use Rattle.cf_peer.specs.Trail.{trail, is_connected, own}
use Rattle.cf_sync.specs.Blame.{AreBlamed}
use Rattle.cf_sync.specs.Fetching.{counted_part, IsConnected, AreBytes, IsFetchedHash, IsDisputed, HasClaimed, IsTestedWith, IsOmitting, IsBest, IsTestedThrough}
use Rattle.cf_sync.specs.Sync.{IsHashed}
use Rattle.cf_sync.proofs.Counted.{own_shown}
use Rattle.cf_sync.proofs.Settles.{shown_hashed, shown_apart}

-- ---- what two peers show together

shown_left : (xs ys : List (List Header)) (h : Header) → IsShown xs h → IsShown (xs ++ ys) h
shown_left [] ys h s = absurd s
shown_left (x ∷ xs) ys h (inl i) = inl i
shown_left (x ∷ xs) ys h (inr s) = inr (shown_left xs ys h s)

shown_right : (xs ys : List (List Header)) (h : Header) → IsShown ys h → IsShown (xs ++ ys) h
shown_right [] ys h s = s
shown_right (x ∷ xs) ys h s = inr (shown_right xs ys h s)

shown_either : (xs ys : List (List Header)) (h : Header) → IsShown (xs ++ ys) h → IsShown xs h ⊎ IsShown ys h
shown_either [] ys h s = inr s
shown_either (x ∷ xs) ys h (inl i) = inl (inl i)
shown_either (x ∷ xs) ys h (inr s) = elim (shown_either xs ys h s) [ inl a ↦ inl (inr a) | inr b ↦ inr b ]

both_hashed : (log : Log) (p q : ℕ) (bytes : List ℕ) → IsShownSpelling (lists (counted_part log p) ++ lists (counted_part log q)) bytes → IsHashed log [] bytes
both_hashed log p q bytes s = elim s.known [
  | inl e ↦ shown_hashed log p [] bytes (record { header = s.header; known = inl e; is = s.is })
  | inr shown ↦ elim (shown_either (lists (counted_part log p)) (lists (counted_part log q)) s.header shown) [
    | inl a ↦ shown_hashed log p [] bytes (record { header = s.header; known = inr a; is = s.is })
    | inr b ↦ shown_hashed log q [] bytes (record { header = s.header; known = inr b; is = s.is })
  ]
]

both_apart : (log : Log) (p q : ℕ) → AreBytes log → NoHashClash (IsHashed log []) → AreApart (lists (counted_part log p) ++ lists (counted_part log q))
both_apart log p q bytes clash = record {
  fit = λ h shown. elim (shown_either (lists (counted_part log p)) (lists (counted_part log q)) h shown) [
    | inl a ↦ (shown_apart log p [] bytes clash).fit h a
    | inr b ↦ (shown_apart log q [] bytes clash).fit h b
  ];
  apart = record {
    apart = λ a b i j e. clash.apart a b (both_hashed log p q a i) (both_hashed log p q b j) e;
    real = λ a i e. clash.real a (both_hashed log p q a i) e;
  };
}

in_dropped : (n : ℕ) (chain : Chain) (h : Header) → IsIn h (drop n chain) → IsIn h chain
in_dropped zero chain h i = i
in_dropped (suc n) [] h i = i
in_dropped (suc n) (x ∷ chain) h i = inr (in_dropped n chain h i)

-- a block that stands in the own chains of two peers stands in what they have in common
shared : (log : Log) (p q : ℕ) → AreBytes log → NoHashClash (IsHashed log []) → (h k : ℕ) → h ≤ length (own (counted_part log p)) → k ≤ length (own (counted_part log q))
    → hash_at (own (counted_part log p)) h ≡ hash_at (own (counted_part log q)) k → h ≤ common_of (own (counted_part log p)) (own (counted_part log q))
shared log p q bytes clash h k hl kl e =
    let mine = own (counted_part log p) in
    let theirs = own (counted_part log q) in
    let a = own_shown (trail log p) in
    let b = own_shown (trail log q) in
    let one : lower h mine ≡ lower k theirs =
    same_chain (lists (counted_part log p) ++ lists (counted_part log q)) (lower h mine) (lower k theirs) (both_apart log p q bytes clash)
    (drop_valid (length mine - h) mine a.valid) (drop_valid (length theirs - k) theirs b.valid)
    (λ x i. shown_left (lists (counted_part log p)) (lists (counted_part log q)) x (a.told x (in_dropped (length mine - h) mine x i)))
    (λ x i. shown_right (lists (counted_part log p)) (lists (counted_part log q)) x (b.told x (in_dropped (length theirs - k) theirs x i))) e in
    let same : h ≡ k = sym (length_lower h mine hl) ∙ ap (λ (c : Chain). length c) one ∙ length_lower k theirs kl in
    let at : lower h mine ≡ lower h theirs = one ∙ ap (λ (n : ℕ). lower n theirs) (sym same) in
    let low : h ≤ length theirs = omega (arith, same, kl) in
    let up = common_kept h theirs mine theirs (sym at) low hl in
    up.1 (omega (arith, common_own theirs, low))

-- none of a peer's blocks above genesis has genesis's hash
above_at : (log : Log) (p h : ℕ) → AreBytes log → NoHashClash (IsHashed log []) → 1 ≤ h → h ≤ length (own (counted_part log p)) → IsAbove (hash_at (own (counted_part log p)) h)
above_at log p h bytes clash some low e =
    let mine = own (counted_part log p) in
    let a = own_shown (trail log p) in
    let one : lower h mine ≡ [] =
    same_chain (lists (counted_part log p)) (lower h mine) [] (shown_apart log p [] bytes clash) (drop_valid (length mine - h) mine a.valid) tt
    (λ x i. a.told x (in_dropped (length mine - h) mine x i)) (λ x i. absurd i) e in
    let none : h ≡ 0 = sym (length_lower h mine low) ∙ ap (λ (c : Chain). length c) one in
    absurd (omega (arith, some, none))

pub are_blamed : (log : Log) (chain : Chain) → AreBytes log → NoHashClash (IsHashed log []) → IsBest log chain → ((p : ℕ) → IsConnected log p → IsTestedThrough log chain p)
    → ((p : ℕ) → IsOmitting log p → ⊥) → AreBlamed log chain
are_blamed log chain bytes clash best through none = record {
  tested = λ block in_best fetched disputed p on in_own hash claimed. elim best.shown [
    | inl q ↦ tested_one log chain bytes clash block p q.0 q.1.1 in_best in_own fetched disputed hash claimed (through p on)
    | inr nobody ↦ absurd (both_ways (is_connected (trail log p)) (nobody.0 p) on)
  ];
  clean = λ block in_best p on hash claimed t omits. none p (record { there = on; block = block; hash = hash; claimed = claimed; tested = t; omits = omits });
} where
  tested_one : (log : Log) (chain : Chain) → AreBytes log → NoHashClash (IsHashed log []) → (block : Hash) (p q : ℕ) → own (counted_part log q) ≡ chain → IsIn block (hashes_of chain)
      → IsIn block (hashes_of (own (counted_part log p))) → IsFetchedHash log block → IsDisputed log block → (hash : Hash32) → HasClaimed log p block hash → IsTestedThrough log chain p → IsTestedWith log block hash
  tested_one log chain bytes clash block p q is in_best in_own fetched disputed hash claimed through =
      let mine = own (counted_part log p) in
      let a = hash_stands mine block in_own in
      let b = hash_stands (own (counted_part log q)) block (subst (λ (c : Chain). IsIn block (hashes_of c)) (sym is) in_best) in
      let low : a.0 ≤ common_of mine (own (counted_part log q)) = shared log p q bytes clash a.0 b.0 a.2 b.2 (sym a.3 ∙ b.3) in
      let here : a.0 ≤ common_of mine chain = subst (λ (c : Chain). a.0 ≤ common_of mine c) is low in
      subst (λ (x : Hash). IsTestedWith log x hash) (sym a.3)
      (through a.0 a.1 here (above_at log p a.0 bytes clash a.1 a.2) (subst (λ (x : Hash). IsFetchedHash log x) a.3 fetched) (subst (λ (x : Hash). IsDisputed log x) a.3 disputed) hash (subst (λ (x : Hash). HasClaimed log p x hash) a.3 claimed))
