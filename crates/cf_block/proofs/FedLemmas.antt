-- Texts fed to a hasher or written, one after another.
use Rattle.std.proofs.Common.{◌≡◌, ℕ, ◌+◌, ◌<◌, ◌≤◌, ◌^◌, List, [], ◌∷◌, ◌++◌, refl, subst, append_assoc, arith, lt-ltb, le-ltb}
use Rattle.std.specs.Int.{w16, w32, w64, to_le_bytes}
use Rattle.sha2.specs.declared.Sha256.{Sha256}
use Rattle.sha2.specs.Hashers.{Holds256}
use Rattle.cf_bytes.specs.Compact.{compact}
use Rattle.cf_block.specs.Fed.{Fed}

pub fed_then : (a b c : Sha256) (x y : List ℕ) → Fed a b x → Fed b c y → Fed a c (x ++ y)
fed_then a b c x y f g = record { more = λ m h. subst (Holds256 c) (append_assoc m x y) (g.more (m ++ x) (f.more m h)) }

pub fed_same : (a b : Sha256) (x y : List ℕ) → x ≡ y → Fed a b x → Fed a b y
fed_same a b x y e f = subst (Fed a b) e f

pub compact_1 : (v : ℕ) → v < 253 → v ∷ [] ≡ compact v
unfolding compact
compact_1 v small = rw (lt-ltb v 253 small) refl

pub compact_3 : (v : ℕ) → 253 ≤ v → v < 2 ^ 16 → 253 ∷ to_le_bytes w16 v ≡ compact v
unfolding compact
compact_3 v low small = rw (le-ltb v 253 low, lt-ltb v (2 ^ 16) small) refl

pub compact_5 : (v : ℕ) → 2 ^ 16 ≤ v → v < 2 ^ 32 → 254 ∷ to_le_bytes w32 v ≡ compact v
unfolding compact
compact_5 v low small =
    let more : 253 ≤ v = omega (arith, low) in
    rw (le-ltb v 253 more, le-ltb v (2 ^ 16) low, lt-ltb v (2 ^ 32) small) refl

pub compact_9 : (v : ℕ) → 2 ^ 32 ≤ v → 255 ∷ to_le_bytes w64 v ≡ compact v
unfolding compact
compact_9 v low =
    let more : 253 ≤ v = omega (arith, low) in
    let most : 2 ^ 16 ≤ v = omega (arith, low) in
    rw (le-ltb v 253 more, le-ltb v (2 ^ 16) most, le-ltb v (2 ^ 32) low) refl
