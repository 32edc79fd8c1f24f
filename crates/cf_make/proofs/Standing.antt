-- The coins of a made chain: each is an output of a transaction that was made lower.
use Rattle.std.proofs.Common.{◌≡◌, ℕ, suc, ◌+◌, ◌<◌, ◌≤◌, ◌^◌, List, refl, sym, ◌∙◌, ap, subst, arith, ◌⊎◌, inl, inr}
use Rattle.std.specs.FinMap.{insert, remove}
use Rattle.cf_bytes.specs.Hash.{hash_of}
use Rattle.cf_block.specs.declared.tx.OutPoint.{OutPoint}
use Rattle.cf_block.specs.Outpoint.{outpoint}
use Rattle.cf_block.specs.Tx.{tx_spelling, txid_of}
use Rattle.cf_chain.specs.Coins.{CoinMap}
use Rattle.cf_chain.specs.Good.{IsGoodTx}
use Rattle.cf_make.specs.Made.{paid_to, coinbase_of, second_of}
use Rattle.cf_make.proofs.CoinMaps.{Stands, put_keeps, put_was, take_was, take_keeps, none_stands}
use Rattle.cf_make.proofs.Spelled.{coin_of}
use Rattle.cf_make.proofs.Apart.{Apart, Was, new_coinbase, new_second, was_more}

-- a coin's txid is the hash of a transaction that was made lower
pub record Lower (P : List ℕ → Type 0) (coinbases seconds : ℕ) (p : OutPoint) : Type 0 where
  pub text : List ℕ
  pub known : P text
  pub was : Was P coinbases seconds text
  pub hash : p.txid.0 ≡ hash_of text

abbrev pub AllLower : (List ℕ → Type 0) → ℕ → ℕ → CoinMap → Type 0
AllLower P coinbases seconds coins = (p : OutPoint) → Stands coins p → Lower P coinbases seconds p

lower_more : (P : List ℕ → Type 0) (a b c d : ℕ) (p : OutPoint) → a ≤ b → c ≤ d → Lower P a c p → Lower P b d p
lower_more P a b c d p ab cd l = record { text = l.text; known = l.known; was = was_more P a b c d l.text ab cd l.was; hash = l.hash }

pub all_lower_more : (P : List ℕ → Type 0) (a b c d : ℕ) (coins : CoinMap) → a ≤ b → c ≤ d → AllLower P a c coins → AllLower P b d coins
all_lower_more P a b c d coins ab cd all p h = lower_more P a b c d p ab cd (all p h)

-- the coinbase

no_coinbase_stands : (P : List ℕ → Type 0) → Apart P → (coins : CoinMap) (seed height n : ℕ) → height < 2 ^ 32 → AllLower P height n coins → P (tx_spelling (coinbase_of seed height))
    → Stands coins (coin_of seed height) → ⊥
unfolding txid_of
no_coinbase_stands P apart coins seed height n fits all known h =
    let l = all (coin_of seed height) h in
    new_coinbase P seed height n l.text fits l.was (apart (tx_spelling (coinbase_of seed height)) l.text known l.known l.hash)

abbrev pub with_coinbase : CoinMap → ℕ → ℕ → CoinMap
with_coinbase coins seed height = insert coins (coin_of seed height) (paid_to 5000000000 (seed + height))

pub good_coinbase : (P : List ℕ → Type 0) → Apart P → (coins : CoinMap) (seed height n : ℕ) → height < 2 ^ 32 → AllLower P height n coins → P (tx_spelling (coinbase_of seed height))
    → IsGoodTx coins (coinbase_of seed height)
unfolding coinbase_of
good_coinbase P apart coins seed height n fits all known = record {
  inputs = tt;
  fresh = (none_stands coins (coin_of seed height) (no_coinbase_stands P apart coins seed height n fits all known), tt);
}

coinbase_lower : (P : List ℕ → Type 0) (seed height n : ℕ) (p : OutPoint) → height < 2 ^ 32 → P (tx_spelling (coinbase_of seed height)) → p ≡ coin_of seed height → Lower P (suc height) n p
unfolding txid_of
coinbase_lower P seed height n p fits known e = record {
  text = tx_spelling (coinbase_of seed height);
  known = known;
  was = inl (record { seed = seed; height = height; range = fits; low = omega arith; is = refl });
  hash = ap (λ (q : OutPoint). q.txid.0) e;
}

pub lower_with_coinbase : (P : List ℕ → Type 0) (coins : CoinMap) (seed height n : ℕ) → height < 2 ^ 32 → AllLower P height n coins → P (tx_spelling (coinbase_of seed height))
    → AllLower P (suc height) n (with_coinbase coins seed height)
lower_with_coinbase P coins seed height n fits all known p h =
    either (put_was coins (coin_of seed height) (paid_to 5000000000 (seed + height)) p h)
  where
    either : (p ≡ coin_of seed height) ⊎ Stands coins p → Lower P (suc height) n p
    either (inl e) = coinbase_lower P seed height n p fits known e
    either (inr s) = lower_more P height (suc height) n n p (omega arith) (omega arith) (all p s)

-- the second transaction

no_second_stands : (P : List ℕ → Type 0) → Apart P → (coins : CoinMap) (seed below turn n : ℕ) (p : OutPoint) → below < 2 ^ 32 → AllLower P n (suc below) coins
    → P (tx_spelling (coinbase_of seed below)) → P (tx_spelling (second_of (coin_of seed below) turn)) → p.txid.0 ≡ txid_of (second_of (coin_of seed below) turn) → Stands coins p → ⊥
unfolding txid_of
no_second_stands P apart coins seed below turn n p fits all known second is h =
    let l = all p h in
    new_second P apart seed below turn n l.text fits known l.was (apart (tx_spelling (second_of (coin_of seed below) turn)) l.text second l.known (sym is ∙ l.hash))

abbrev pub with_second : CoinMap → ℕ → ℕ → ℕ → CoinMap
with_second coins seed below turn =
    let txid : List ℕ = txid_of (second_of (coin_of seed below) turn) in
    insert (insert (remove coins (coin_of seed below)) (outpoint txid 0) (paid_to 2000000000 (turn + 5))) (outpoint txid 1) (paid_to 3000000000 (turn + 11))

index_apart : (txid : List ℕ) → outpoint txid 1 ≡ outpoint txid 0 → ⊥
index_apart txid e = let n : 1 ≡ 0 = ap (λ (q : OutPoint). q.index) e in absurd (omega (arith, n))

pub good_second : (P : List ℕ → Type 0) → Apart P → (coins : CoinMap) (seed below turn n : ℕ) → below < 2 ^ 32 → AllLower P n (suc below) coins
    → P (tx_spelling (coinbase_of seed below)) → P (tx_spelling (second_of (coin_of seed below) turn)) → Stands coins (coin_of seed below)
    → IsGoodTx coins (second_of (coin_of seed below) turn)
unfolding second_of
good_second P apart coins seed below turn n fits all known second stands =
    let txid : List ℕ = txid_of (second_of (coin_of seed below) turn) in
    let rest : CoinMap = remove coins (coin_of seed below) in
    let none : (i : ℕ) → Stands coins (outpoint txid i) → ⊥ = λ i h. no_second_stands P apart coins seed below turn n (outpoint txid i) fits all known second refl h in
    record {
      inputs = (stands, tt);
      fresh = (
        none_stands rest (outpoint txid 0) (λ h. none 0 (take_was coins (coin_of seed below) (outpoint txid 0) h)),
        (
          none_stands (insert rest (outpoint txid 0) (paid_to 2000000000 (turn + 5))) (outpoint txid 1)
              (λ h. other txid rest (λ g. none 1 (take_was coins (coin_of seed below) (outpoint txid 1) g)) (put_was rest (outpoint txid 0) (paid_to 2000000000 (turn + 5)) (outpoint txid 1) h)),
          tt,
        ),
      );
    }
  where
    other : (txid : List ℕ) (rest : CoinMap) → (Stands rest (outpoint txid 1) → ⊥) → (outpoint txid 1 ≡ outpoint txid 0) ⊎ Stands rest (outpoint txid 1) → ⊥
    other txid rest not (inl e) = index_apart txid e
    other txid rest not (inr g) = not g

second_lower : (P : List ℕ → Type 0) (seed below turn n : ℕ) (p : OutPoint) → below < 2 ^ 32 → P (tx_spelling (coinbase_of seed below)) → P (tx_spelling (second_of (coin_of seed below) turn))
    → p.txid.0 ≡ txid_of (second_of (coin_of seed below) turn) → Lower P n (suc (suc below)) p
unfolding txid_of
second_lower P seed below turn n p fits known second e = record {
  text = tx_spelling (second_of (coin_of seed below) turn);
  known = second;
  was = inr (record { seed = seed; height = below; turn = turn; range = fits; low = omega arith; known = known; is = refl });
  hash = e;
}

pub lower_with_second : (P : List ℕ → Type 0) (coins : CoinMap) (seed below turn n : ℕ) → below < 2 ^ 32 → AllLower P n (suc below) coins
    → P (tx_spelling (coinbase_of seed below)) → P (tx_spelling (second_of (coin_of seed below) turn)) → AllLower P n (suc (suc below)) (with_second coins seed below turn)
lower_with_second P coins seed below turn n fits all known second p h =
    let txid : List ℕ = txid_of (second_of (coin_of seed below) turn) in
    let rest : CoinMap = remove coins (coin_of seed below) in
    last txid rest (put_was (insert rest (outpoint txid 0) (paid_to 2000000000 (turn + 5))) (outpoint txid 1) (paid_to 3000000000 (turn + 11)) p h) refl refl
  where
    first : (txid : List ℕ) (rest : CoinMap) → (p ≡ outpoint txid 0) ⊎ Stands rest p → txid ≡ txid_of (second_of (coin_of seed below) turn) → rest ≡ remove coins (coin_of seed below) → Lower P n (suc (suc below)) p
    first txid rest (inl e) is from = second_lower P seed below turn n p fits known second (ap (λ (q : OutPoint). q.txid.0) e ∙ is)
    first txid rest (inr s) is from =
        lower_more P n n (suc below) (suc (suc below)) p (omega arith) (omega arith) (all p (take_was coins (coin_of seed below) p (subst (λ (m : CoinMap). Stands m p) from s)))

    last : (txid : List ℕ) (rest : CoinMap) → (p ≡ outpoint txid 1) ⊎ Stands (insert rest (outpoint txid 0) (paid_to 2000000000 (turn + 5))) p → txid ≡ txid_of (second_of (coin_of seed below) turn)
        → rest ≡ remove coins (coin_of seed below) → Lower P n (suc (suc below)) p
    last txid rest (inl e) is from = second_lower P seed below turn n p fits known second (ap (λ (q : OutPoint). q.txid.0) e ∙ is)
    last txid rest (inr s) is from = first txid rest (put_was rest (outpoint txid 0) (paid_to 2000000000 (turn + 5)) p s) is from

-- another coin stays when the second transaction spends the one below
pub second_keeps : (coins : CoinMap) (seed below turn : ℕ) (p : OutPoint) → (p ≡ coin_of seed below → ⊥) → Stands coins p → Stands (with_second coins seed below turn) p
second_keeps coins seed below turn p apart h =
    let txid : List ℕ = txid_of (second_of (coin_of seed below) turn) in
    let rest : CoinMap = remove coins (coin_of seed below) in
    put_keeps (insert rest (outpoint txid 0) (paid_to 2000000000 (turn + 5))) (outpoint txid 1) (paid_to 3000000000 (turn + 11)) p
    (put_keeps rest (outpoint txid 0) (paid_to 2000000000 (turn + 5)) p (take_keeps coins (coin_of seed below) p apart h))
