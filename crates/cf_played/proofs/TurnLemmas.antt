-- Peers of whom no bytes wait.
use Rattle.std.proofs.Common.{◌≡◌, ℕ, zero, suc, ◌+◌, ◌<◌, ◌≤◌, List, [], ◌∷◌, Some, sym, ◌∙◌, ap, subst, inl, inr, refl, true, false, nat_lt, arith}
use Rattle.std.proofs.lemmas.Bool.{ltb-true, ltb-false}
use Rattle.std.specs.Prelude.{◌⊎◌, ◌≢◌, map, slice_get}
use Rattle.cf_played.specs.declared.player.Player.{Player}
use Rattle.cf_played.specs.Peers.{Peer, shown}
use Rattle.cf_played.specs.Turns.{IsFirst, Rest}

pub shown_at : (players : List Player) (i : ℕ) (player : Player) → slice_get players i ≡ Some player → slice_get (map shown players) i ≡ Some (shown player)
shown_at [] i player at = cc
shown_at (x ∷ xs) zero player at = let same : x ≡ player = cc in ap (λ (p : Player). Some (shown p)) same
shown_at (x ∷ xs) (suc i) player at = shown_at xs i player at

pub rest_none : (peers : List Peer) (from below : ℕ) → below ≤ from → Rest peers from below
rest_none peers from below none = record { each = λ i peer at low high. absurd (omega (arith, none, low, high)) }

lt_or_eq : (i n : ℕ) → i < n + 1 → (i < n) ⊎ (i ≡ n)
lt_or_eq i n lt =
    elim (nat_lt i n) as (λ b. nat_lt i n ≡ b → (i < n) ⊎ (i ≡ n)) [
      | true ↦ λ e. inl (ltb-true i n e)
      | false ↦ λ e. inr (omega (arith, lt, ltb-false i n e))
    ] refl

pub rest_more : (players : List Player) (from below : ℕ) (player : Player) → Rest (map shown players) from below → slice_get players below ≡ Some player → player.waiting ≡ [] → Rest (map shown players) from (below + 1)
rest_more players from below player rest here none = record { each = λ i other at low high. by i other at low high } where
  by : (i : ℕ) (other : Peer) → slice_get (map shown players) i ≡ Some other → from ≤ i → i < below + 1 → other.waiting ≡ []
  by i other at low high = by_place (lt_or_eq i below high) where
    by_place : (i < below) ⊎ (i ≡ below) → other.waiting ≡ []
    by_place (inl less) = rest.each i other at low less
    by_place (inr same) =
        let e : slice_get (map shown players) below ≡ Some other = subst (λ (k : ℕ). slice_get (map shown players) k ≡ Some other) same at in
        let f : slice_get (map shown players) below ≡ Some (shown player) = shown_at players below player here in
        let is : shown player ≡ other = cc in ap (λ (p : Peer). p.waiting) (sym is) ∙ none

pub first_here : (players : List Player) (from place : ℕ) (player : Player) → slice_get players place ≡ Some player → from ≤ place → player.waiting ≢ [] → Rest (map shown players) from place
    → IsFirst (map shown players) from place
first_here players from place player at behind some none = record { peer = shown player; at = shown_at players place player at; behind = behind; some = some; none = none }
