-- When two entries are the same.
use Rattle.std.proofs.Common.{◌≡◌, ◌∙◌, ℕ, List, Bool, true, refl, ap, subst}
use Rattle.std.specs.Prelude.{◌==◌, ◌&&◌, bytes_eq}
use Rattle.std.specs.Bool.{Decides}
use Rattle.std.proofs.lemmas.Bool.Decides.{Decides-eqb}
use Rattle.std.proofs.lemmas.Bool.{and_parts, and_from}
use Rattle.std.proofs.lemmas.Slice.Eq.{bytes_eq-Decides}
use Rattle.cf_bytes.specs.declared.hash.Hash32.{Hash32}
use Rattle.cf_scan.specs.declared.history.Entry.{Entry}

abbrev are_same : Entry → Entry → Bool
are_same a b =
    a.height == b.height && (bytes_eq a.txid.0 b.txid.0 && (a.received == b.received && (a.spent == b.spent && a.balance == b.balance)))

abbrev entry : ℕ → List ℕ → ℕ → ℕ → ℕ → Entry
entry height txid received spent balance =
    record { height = height; txid = record { 0 = txid }; received = received; spent = spent; balance = balance }

by_fields : (a b : Entry) → a.height ≡ b.height → a.txid.0 ≡ b.txid.0 → a.received ≡ b.received → a.spent ≡ b.spent → a.balance ≡ b.balance → a ≡ b
by_fields a b height txid received spent balance =
    ap (λ (x : ℕ). entry x a.txid.0 a.received a.spent a.balance) height
    ∙ ap (λ (x : List ℕ). entry b.height x a.received a.spent a.balance) txid
    ∙ ap (λ (x : ℕ). entry b.height b.txid.0 x a.spent a.balance) received
    ∙ ap (λ (x : ℕ). entry b.height b.txid.0 b.received x a.balance) spent
    ∙ ap (λ (x : ℕ). entry b.height b.txid.0 b.received b.spent x) balance

same_as_itself : (a : Entry) → are_same a a ≡ true
same_as_itself a =
    and_from _ _ ((Decides-eqb a.height a.height).1 refl)
    (and_from _ _ ((bytes_eq-Decides a.txid.0 a.txid.0).1 refl)
    (and_from _ _ ((Decides-eqb a.received a.received).1 refl)
    (and_from _ _ ((Decides-eqb a.spent a.spent).1 refl) ((Decides-eqb a.balance a.balance).1 refl))))

-- it is tested by their fields
pub same_entries : (a b : Entry) → Decides (are_same a b) (a ≡ b)
same_entries a b = (
  λ all.
      let one = and_parts (a.height == b.height) _ all in
      let two = and_parts (bytes_eq a.txid.0 b.txid.0) _ one.1 in
      let three = and_parts (a.received == b.received) _ two.1 in
      let four = and_parts (a.spent == b.spent) (a.balance == b.balance) three.1 in
      by_fields a b ((Decides-eqb a.height b.height).0 one.0) ((bytes_eq-Decides a.txid.0 b.txid.0).0 two.0)
      ((Decides-eqb a.received b.received).0 three.0) ((Decides-eqb a.spent b.spent).0 four.0) ((Decides-eqb a.balance b.balance).0 four.1),
  λ same. subst (λ (x : Entry). are_same a x ≡ true) same (same_as_itself a),
)
