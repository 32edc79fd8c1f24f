-- The best chain of what was seen is that of the log; and what a tracker wishes of a peer is called for by the log.
use Rattle.std.proofs.Common.{◌≡◌, ◌⊎◌, inl, inr, ℕ, ◌+◌, ◌<◌, List, [], length, get_or, Option, Some, None, Bool, true, false, if◌then◌else◌, refl, sym, ◌∙◌, ap, subst, arith}
use Rattle.std.specs.Prelude.{unwrap_or}
use Rattle.std.proofs.lemmas.Bool.{both_ways, cases_Bool}
use Rattle.std.proofs.lemmas.Option.{none-some, same_Some}
use Rattle.cf_bytes.specs.declared.peer.PeerNo.{PeerNo}
use Rattle.cf_headers.specs.Chain.{Chain}
use Rattle.cf_headers.specs.Heights.{common_of}
use Rattle.cf_headers.specs.Store.{rank, IsBest as IsBestOf}
use Rattle.cf_msg.specs.declared.msg.Msg.{Msg}
use Rattle.cf_peer.specs.declared.mode.Mode.{Mode}
use Rattle.cf_peer.specs.declared.peer.Peer.{Peer}
use Rattle.cf_wires.specs.Log.{Log}
use Rattle.cf_peer.specs.Trail.{Trail, Part, part_of, trail, is_connected, own, is_heard_out_in}
use Rattle.cf_peer.specs.Asking.{SameUse}
use Rattle.cf_sync.specs.Fetching.{AreShorterBefore, IsConnected, IsBest, Rule, counted_part}
use Rattle.cf_holds.specs.Due.{IsInTurn, Puts}
use Rattle.cf_sync.proofs.Counted.{same_use}
use Rattle.cf_tracker.specs.Seen.{Seen}
use Rattle.cf_hear.specs.Tracks.{Tracks, chain_kept}
use Rattle.cf_seek.specs.declared.spans.Wish.{Wish}
use Rattle.cf_seek.specs.Spans.{IsWish, GoesFar}
use Rattle.cf_seek.specs.Testing.{IsTrying}
use Rattle.cf_seek.specs.Tracking.{IsBestChain}
use Rattle.cf_place.specs.declared.place.Place.{Place}
use Rattle.cf_place.specs.declared.place.Place.TheVariants.{Here, Lost}
use Rattle.cf_place.specs.Places.{Keeps, Fits, nobody, PlacesStand}
use Rattle.cf_client.specs.Settled.{chain_at}

-- ---- a connected peer

kept_by : (b : Bool) (own chain : Chain) → (if b then Some own else None) ≡ Some chain → (b ≡ true) × (own ≡ chain)
kept_by true own chain e = (refl, same_Some own chain e)
kept_by false own chain e = absurd (none-some chain e)

off_by : (b : Bool) (own : Chain) → (if b then Some own else None) ≡ None → b ≡ false
off_by true own e = absurd (none-some own (sym e))
off_by false own e = refl

pub on_kept : (t : Trail) → is_connected t ≡ true → chain_kept t ≡ Some (own t)
on_kept t on = ap (λ b. if b then Some (own t) else None) on

pub here_of : (place : Place) (part : Part) → Fits place part → is_connected part.trail ≡ true → (peer : Peer) × (place ≡ Here peer) × Keeps peer part
here_of (Here peer) part keeps on = (peer, refl, keeps)
here_of (Lost end) part lost on = absurd (both_ways (is_connected part.trail) lost.off on)

-- all that it said counts
use_of : (places : List Place) (log : Log) (p : ℕ) → PlacesStand places log → IsConnected log p → SameUse (trail log p)
use_of places log p stand on =
    let here = here_of (get_or places p nobody) (part_of log p) (stand.each p) on in
    same_use (trail log p) on here.2.holds.clean

-- ---- the best chain

pub best_is : (places : List Place) (log : Log) (s : Seen) (chain : Chain) → PlacesStand places log → Tracks s log → IsBestChain s.chains chain → IsBest log chain
best_is places log s chain stand tracks (inl best) = record {
  longest = λ p on.
      let mine : rank (s.chains p) ≡ length (own (trail log p)) + 1 = ap rank (tracks.kept p ∙ on_kept (trail log p) on) in
      let most : rank (s.chains best.0.0) ≡ length chain + 1 = ap rank best.2 in
      let same : length (own (counted_part log p)) ≡ length (own (trail log p)) = ap (λ (c : Chain). length c) (use_of places log p stand on).chain in
      omega (arith, mine, most, same, best.1.1 p);
  shown = (
      let both = kept_by (is_connected (trail log best.0.0)) (own (trail log best.0.0)) chain (sym (tracks.kept best.0.0) ∙ best.2) in
      inl (
        best.0.0,
        (
          both.0,
          (use_of places log best.0.0 stand both.0).chain ∙ both.1,
          (λ q lt on.
              let here : rank (s.chains q) ≡ length (own (trail log q)) + 1 = ap rank (tracks.kept q ∙ on_kept (trail log q) on) in
              let most : rank (s.chains best.0.0) ≡ length chain + 1 = ap rank best.2 in
              let same : length (own (counted_part log q)) ≡ length (own (trail log q)) = ap (λ (c : Chain). length c) (use_of places log q stand on).chain in
              omega (arith, here, most, same, best.1.2 q lt)),
        ),
      ));
}
best_is places log s chain stand tracks (inr none) = record {
  longest = λ p on. absurd (none-some (own (trail log p)) (sym (none.0 p) ∙ tracks.kept p ∙ on_kept (trail log p) on));
  shown = inr (λ p. off_by (is_connected (trail log p)) (own (trail log p)) (sym (tracks.kept p) ∙ none.0 p), none.1);
}

-- and what is the best of the log is the best of what is kept
kept_rank : (places : List Place) (log : Log) (s : Seen) (p : ℕ) → PlacesStand places log → Tracks s log → IsConnected log p → rank (s.chains p) ≡ length (own (counted_part log p)) + 1
kept_rank places log s p stand tracks on =
    let mine : rank (s.chains p) ≡ length (own (trail log p)) + 1 = ap rank (tracks.kept p ∙ on_kept (trail log p) on) in
    let same : length (own (counted_part log p)) ≡ length (own (trail log p)) = ap (λ (c : Chain). length c) (use_of places log p stand on).chain in
    omega (arith, mine, same)

off_rank : (log : Log) (s : Seen) (p : ℕ) → Tracks s log → is_connected (trail log p) ≡ false → rank (s.chains p) ≡ 0
off_rank log s p tracks off = ap rank (tracks.kept p ∙ ap (λ b. if b then Some (own (trail log p)) else None) off)

pub best_back : (places : List Place) (log : Log) (s : Seen) (chain : Chain) → PlacesStand places log → Tracks s log → IsBest log chain → IsBestChain s.chains chain
best_back places log s chain stand tracks best = by best.shown where
  by : ((p : ℕ) × (IsConnected log p × (own (counted_part log p) ≡ chain) × AreShorterBefore log chain p)) ⊎ (((p : ℕ) → is_connected (trail log p) ≡ false) × (chain ≡ []))
      → IsBestChain s.chains chain
  by (inl w) =
      let high : rank (s.chains w.0) ≡ length chain + 1 = kept_rank places log s w.0 stand tracks w.1.0 ∙ ap (λ (c : Chain). length c + 1) w.1.1 in
      inl (
        record { 0 = w.0 },
        (
          omega (arith, high),
          λ q. elim (cases_Bool (is_connected (trail log q))) [
            | inl on ↦ (let mine = kept_rank places log s q stand tracks on in let most = best.longest q on in omega (arith, high, mine, most))
            | inr off ↦ (let none = off_rank log s q tracks off in omega (arith, high, none))
          ],
          λ q lt. elim (cases_Bool (is_connected (trail log q))) [
            | inl on ↦ (let mine = kept_rank places log s q stand tracks on in let less = w.1.2 q lt on in omega (arith, high, mine, less))
            | inr off ↦ (let none = off_rank log s q tracks off in omega (arith, high, none))
          ],
        ),
        tracks.kept w.0 ∙ on_kept (trail log w.0) w.1.0 ∙ ap (λ (c : Chain). Some c) (sym (use_of places log w.0 stand w.1.0).chain ∙ w.1.1),
      )
  by (inr none) = inr ((λ q. tracks.kept q ∙ ap (λ b. if b then Some (own (trail log q)) else None) (none.0 q)), none.1)

-- ---- what is called for

-- what a client of this mode goes by that has seen this
abbrev pub rule_in : Mode → Seen → Rule
rule_in mode s = record { watch = s.watch; mode = mode }

-- a question goes as far as it may within what a peer's chain shares with the best one
pub record Furthest (s : Seen) (i common : ℕ) (wish : Wish) : Type 0 where
  pub best : PeerNo
  pub is : IsBestOf s.chains (Some best)
  pub shared : common ≡ common_of (chain_at s i) (chain_at s best.0)
  pub far : GoesFar s.table s.claims s.verdicts s.opens i (chain_at s i) common wish

-- what is to be tested is asked for in its turn
abbrev pub Tries : Seen → ℕ → ℕ → Wish → Type 0
Tries s i common wish = IsTrying s.table s.claims s.trials.told i (chain_at s i) common wish

some_chain : (o : Option Chain) → 0 < rank o → o ≡ Some (unwrap_or o [])
some_chain None low = absurd (omega (arith, low))
some_chain (Some own) low = refl

-- what a tracker wishes of a peer that was heard out it is its turn to be asked
pub in_turn : (mode : Mode) (places : List Place) (log : Log) (s : Seen) (i common : ℕ) (wish : Wish) (m : Msg) → PlacesStand places log → Tracks s log → chain_at s i ≡ own (trail log i) → is_heard_out_in mode (trail log i) ≡ true
    → Furthest s i common wish → Tries s i common wish → IsWish s.table s.claims s.verdicts s.opens i (chain_at s i) common wish → Puts wish m → IsInTurn (rule_in mode s) log i m
in_turn mode places log s i common wish m stand tracks mine ended far tries wished puts =
    let chain : Chain = chain_at s far.best.0 in
    let low : 0 < rank (s.chains far.best.0) = (let some = far.is.0 in omega (arith, some)) in
    record {
      heard_out = ended;
      chain = chain;
      best = best_is places log s chain stand tracks (inl (far.best, far.is, some_chain (s.chains far.best.0) low));
      extracts = s.table;
      tables = s.claims;
      verdicts = s.verdicts;
      fetched = tracks.fetched;
      claimed = tracks.claimed;
      opens = s.opens;
      given = tracks.given;
      opened = tracks.opened;
      wish = wish;
      wished = subst (λ (c : Chain). IsWish s.table s.claims s.verdicts s.opens i c (common_of c chain) wish) mine (subst (λ (n : ℕ). IsWish s.table s.claims s.verdicts s.opens i (chain_at s i) n wish) far.shared wished);
      far = subst (λ (c : Chain). GoesFar s.table s.claims s.verdicts s.opens i c (common_of c chain) wish) mine (subst (λ (n : ℕ). GoesFar s.table s.claims s.verdicts s.opens i (chain_at s i) n wish) far.shared far.far);
      puts = puts;
      told = s.trials.told;
      tested = tracks.trials.told;
      tries = subst (λ (c : Chain). IsTrying s.table s.claims s.trials.told i c (common_of c chain) wish) mine
          (subst (λ (n : ℕ). IsTrying s.table s.claims s.trials.told i (chain_at s i) n wish) far.shared tries);
    }
