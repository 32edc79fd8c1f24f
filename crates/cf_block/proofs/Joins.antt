-- Lists that are put together.
use Rattle.std.proofs.Common.{◌≡◌, ℕ, ℤ, List, ◌++◌, length, sym, ap, ◌∙◌, append_assoc}
use Rattle.std.specs.Int.{w32, to_le_bytes, cast_unsigned}
use Rattle.std.specs.List.{flat_map}
use Rattle.cf_bytes.specs.Compact.{compact}
use Rattle.cf_block.specs.declared.tx.TxIn.{TxIn}
use Rattle.cf_block.specs.Output.{Output}
use Rattle.cf_block.specs.Tx.{input_spelling, output_spelling, tx_spelling}

pub appended : (old a b c d e f : List ℕ) → (((((old ++ a) ++ b) ++ c) ++ d) ++ e) ++ f ≡ old ++ (a ++ (b ++ (c ++ (d ++ (e ++ f)))))
appended old a b c d e f = simp append_assoc

pub regrouped : (a b c d e f new : List ℕ) → a ++ (b ++ (c ++ (d ++ (e ++ (f ++ new))))) ≡ (a ++ (b ++ (c ++ (d ++ (e ++ f))))) ++ new
regrouped a b c d e f new = simp append_assoc

pub taken : (b0 b1 b2 b3 b4 b5 new a b c d e f : List ℕ)
    → b0 ≡ a ++ b1 → b1 ≡ b ++ b2 → b2 ≡ c ++ b3 → b3 ≡ d ++ b4 → b4 ≡ e ++ b5 → b5 ≡ f ++ new
    → b0 ≡ (a ++ (b ++ (c ++ (d ++ (e ++ f))))) ++ new
taken b0 b1 b2 b3 b4 b5 new a b c d e f e0 e1 e2 e3 e4 e5 =
    (e0 ∙ ap (λ (x : List ℕ). a ++ x) (e1 ∙ ap (λ (x : List ℕ). b ++ x) (e2 ∙ ap (λ (x : List ℕ). c ++ x) (e3 ∙ ap (λ (x : List ℕ). d ++ x) (e4 ∙ ap (λ (x : List ℕ). e ++ x) e5)))))
    ∙ regrouped a b c d e f new

-- fields that were read one after another are a transaction's
pub tx_taken : {b0 b1 b2 b3 b4 b5 rest : List ℕ} {n m : ℕ} (version : ℤ) (inputs : List TxIn) (outputs : List Output) (lock_time : ℕ)
    → b0 ≡ to_le_bytes w32 (cast_unsigned w32 version) ++ b1
    → b1 ≡ compact n ++ b2 → b2 ≡ flat_map input_spelling inputs ++ b3 → length inputs ≡ n
    → b3 ≡ compact m ++ b4 → b4 ≡ flat_map output_spelling outputs ++ b5 → length outputs ≡ m
    → b5 ≡ to_le_bytes w32 lock_time ++ rest
    → b0 ≡ tx_spelling (record { version = version; inputs = inputs; outputs = outputs; lock_time = lock_time }) ++ rest
unfolding tx_spelling
tx_taken {b0} {b1} {b2} {b3} {b4} {b5} {rest} version inputs outputs lock_time e0 e1 e2 n_is e3 e4 m_is e5 =
    taken b0 b1 b2 b3 b4 b5 rest (to_le_bytes w32 (cast_unsigned w32 version)) (compact (length inputs)) (flat_map input_spelling inputs)
    (compact (length outputs)) (flat_map output_spelling outputs) (to_le_bytes w32 lock_time) e0
    (e1 ∙ ap (λ (k : ℕ). compact k ++ b2) (sym n_is)) e2 (e3 ∙ ap (λ (k : ℕ). compact k ++ b4) (sym m_is)) e4 e5

pub joined : (old a b c d e f s1 s2 s3 s4 s5 s6 a' d' e' f' : List ℕ)
    → s1 ≡ old ++ a → s2 ≡ s1 ++ b → s3 ≡ s2 ++ c → s4 ≡ s3 ++ d → s5 ≡ s4 ++ e → s6 ≡ s5 ++ f
    → a ≡ a' → d ≡ d' → e ≡ e' → f ≡ f'
    → s6 ≡ old ++ (a' ++ (b ++ (c ++ (d' ++ (e' ++ f')))))
joined old a b c d e f s1 s2 s3 s4 s5 s6 a' d' e' f' e1 e2 e3 e4 e5 e6 ea ed ee ef =
    let j : (((((old ++ a') ++ b) ++ c) ++ d') ++ e') ++ f' ≡ old ++ (a' ++ (b ++ (c ++ (d' ++ (e' ++ f'))))) = appended old a' b c d' e' f' in cc
