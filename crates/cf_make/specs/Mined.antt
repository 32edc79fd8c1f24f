-- statement: mining: the search for a nonce by which a header's hash meets the target (Bitcoin developer reference, "Proof Of Work").
use Rattle.std.specs.Prelude.{◌≡◌, ◌<◌, ℕ, Bool, true, false, Result, Ok, Err}
use Rattle.cf_block.specs.declared.header.Header.{Header}
use Rattle.cf_block.specs.Header.{block_hash_of}
use Rattle.cf_headers.specs.Rules.{is_within_target}
use Rattle.cf_make.specs.declared.mining.NoNonce.{NoNonce}

-- a header with another nonce
abbrev pub with_nonce : Header → ℕ → Header
with_nonce h nonce = record h { nonce = nonce }

-- the header with this nonce meets the target
abbrev pub is_met : Header → ℕ → Bool
is_met h nonce = is_within_target (block_hash_of (with_nonce h nonce))

-- none of the nonces below a bound meets it
abbrev pub NoneMeets : Header → ℕ → Type 0
NoneMeets h bound = (nonce : ℕ) → nonce < bound → is_met h nonce ≡ false

-- the header with the least nonce that meets it, where that is one of the first tries
pub record IsMined (h : Header) (tries : ℕ) (mined : Header) : Type 0 where
  pub same : mined ≡ with_nonce h mined.nonce
  pub within : mined.nonce < tries
  pub met : is_met h mined.nonce ≡ true
  pub least : NoneMeets h mined.nonce

-- an answer of mining: the header with the least nonce that meets the target, or that none of so many nonces does
abbrev pub Mines : Header → ℕ → Result Header NoNonce → Type 0
Mines h tries (Ok mined) = IsMined h tries mined
Mines h tries (Err e) = NoneMeets h tries
