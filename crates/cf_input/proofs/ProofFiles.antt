-- Hashes in texts, and the file of a proof.
use Rattle.std.proofs.Common.{◌≡◌, ℕ, ◌==◌, Bool, true, false, List, length, refl, sym, ◌∙◌, ap, Option, Some, None}
use Rattle.std.specs.Prelude.{◌↔◌, reverse, option_map, IfSome, IsSome, if◌then◌else◌, Result, Ok, Err}
use Rattle.std.specs.List.{AllPass}
use Rattle.std.proofs.lemmas.Bool.{eqb-true}
use Rattle.std.proofs.lemmas.List.{reverse-reverse}
use Rattle.hex.specs.Hex.{decode_of, is_hex_digit}
use Rattle.hex.specs.declared.error.FromHexError.{FromHexError}
use Rattle.hex.proofs.HexLemmas.{decode_of-ok}
use Rattle.cf_bytes.specs.declared.hash.Hash32.{Hash32}
use Rattle.cf_headers.specs.Rules.{is_within_target}
use Rattle.cf_proof.specs.Checks.{Answers, fault_of}
use Rattle.cf_proof.specs.Proof.{proof_at}
use Rattle.cf_proof.specs.declared.fault.ProofFault.{ProofFault}
use Rattle.cf_proof.specs.declared.proof.Proof.{Proof}
use Rattle.cf_input.specs.Lines.{bytes_of_hex}
use Rattle.cf_input.specs.ProofFile.{worked, unless_fault, block_by, block_of, block_from, tx_in_line, line_of, after_line, proof_file_of}
use Rattle.cf_block.specs.declared.tx.Tx.{Tx}
use Rattle.cf_block.specs.Tx.{tx_spelling}
use Rattle.std.specs.Result.{result_ok}
use Rattle.cf_input.specs.Words.{hash_in}
use Rattle.cf_input.specs.declared.proof_file.ProofCause.{ProofCause}
use Rattle.cf_input.specs.declared.proof_file.ProofCause.TheVariants.{Proof as OfProof, Work}

-- ---- a hash that is read is the one that the text shows

abbrev shown_as : List ℕ → Hash32
shown_as bytes = record { 0 = reverse bytes }

of_length : (t : Bool) (text : List ℕ) → (length text == 64) ≡ t → hash_in text ≡ (if t then option_map (λ bytes. record { 0 = reverse bytes }) (bytes_of_hex text) else None)
of_length t text is = ap (λ (b : Bool). if b then option_map (λ (bytes : List ℕ). shown_as bytes) (bytes_of_hex text) else None) is

some_hash : (text : List ℕ) (h : Hash32) → length text ≡ 64 → decode_of text ≡ Ok (reverse h.0) → Some h ≡ hash_in text
some_hash text h long is =
    sym (of_length true text (ap (λ n. n == 64) long) ∙ ap (λ (r : Result (List ℕ) FromHexError). option_map (λ (bytes : List ℕ). shown_as bytes) (result_ok r)) is
    ∙ ap (λ (l : List ℕ). Some (record { 0 = l })) (reverse-reverse h.0))

none_hash : (text : List ℕ) → ((length text ≡ 64) × AllPass is_hex_digit text → ⊥) → None ≡ hash_in text
none_hash text never = at (length text == 64) refl (decode_of text) refl
  where
    at : (t : Bool) → (length text == 64) ≡ t → (r : Result (List ℕ) FromHexError) → decode_of text ≡ r → None ≡ hash_in text
    at true is (Ok bytes) was = absurd (never (eqb-true (length text) 64 is, (decode_of-ok text bytes was).1))
    at true is (Err e) was = sym (of_length true text is ∙ ap (λ (r : Result (List ℕ) FromHexError). option_map (λ (bytes : List ℕ). shown_as bytes) (result_ok r)) was)
    at false is r was = sym (of_length false text is)

pub hash_read : (text : List ℕ) (r : Option Hash32) → IfSome r (λ h. decode_of text ≡ Ok (reverse h.0)) → (IsSome r ↔ ((length text ≡ 64) × AllPass is_hex_digit text)) → r ≡ hash_in text
hash_read text (Some h) value found = some_hash text h (found.0 refl).0 value
hash_read text None value found = none_hash text (λ h. let some = found.1 h in cc)

-- ---- what a check of a proof answers

pub block_found : (tx bytes : List ℕ) (hash : Hash32) → Answers bytes tx (Ok hash) → is_within_target hash.0 ≡ true → block_of tx bytes ≡ Ok hash
unfolding block_of
block_found tx bytes hash answers within =
    ap (λ r. block_by r tx) answers.1.read ∙ ap (λ o. unless_fault o answers.0) answers.1.fine ∙ ap worked (sym answers.2) ∙ ap (λ t. if t then Ok (record { 0 = hash.0 }) else Err Work) within

pub block_unworked : (tx bytes : List ℕ) (hash : Hash32) → Answers bytes tx (Ok hash) → is_within_target hash.0 ≡ false → block_of tx bytes ≡ Err Work
unfolding block_of
block_unworked tx bytes hash answers over =
    ap (λ r. block_by r tx) answers.1.read ∙ ap (λ o. unless_fault o answers.0) answers.1.fine ∙ ap worked (sym answers.2) ∙ ap (λ t. if t then Ok (record { 0 = hash.0 }) else Err Work) over

refused_by : (r : Result Proof ProofFault) (tx : List ℕ) (fault : ProofFault) → fault_of r tx ≡ Some fault → block_by r tx ≡ Err (OfProof fault)
refused_by (Ok p) tx fault is = ap (λ o. unless_fault o p) is
refused_by (Err e) tx fault is = cc

pub block_refused : (tx bytes : List ℕ) (fault : ProofFault) → fault_of (proof_at bytes) tx ≡ Some fault → block_of tx bytes ≡ Err (OfProof fault)
unfolding block_of
block_refused tx bytes fault is = refused_by (proof_at bytes) tx fault is

-- ---- the second line is refused

pub second_refused : (witness : Bool) (bytes : List ℕ) (t : Tx) (cause : ProofCause) → tx_in_line witness (line_of bytes) ≡ Ok t → block_from (tx_spelling t) (after_line bytes) ≡ Err cause
    → proof_file_of witness bytes ≡ Err (record { cause = cause; place = 2 })
unfolding proof_file_of
second_refused witness bytes t cause first second = rw (first, second) refl
