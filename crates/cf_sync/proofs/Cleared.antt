-- The run of two peers that ends where a filter clears the block: all premises of the sync theorem are met.
use Rattle.std.proofs.Common.{◌≡◌, inr, ℕ, List, [], ◌∷◌, Some, None, true, refl, sym, ◌∙◌, ap}
use Rattle.std.specs.Prelude.{option_map}
use Rattle.cf_bytes.specs.declared.hash.Hash32.{Hash32}
use Rattle.cf_dispute.specs.declared.claim.Claim.{Claim}
use Rattle.cf_dispute.specs.Claims.{Table}
use Rattle.cf_filter.specs.Filter.{match_of}
use Rattle.cf_match.specs.Verdicts.{is_miss}
use Rattle.cf_headers.specs.Chain.{IsIn}
use Rattle.cf_peer.specs.Asking.{filter_of, claims, hash_claimed, given_filters, counted}
use Rattle.cf_wires.specs.Log.{Log}
use Rattle.cf_peer.specs.declared.mode.Mode.TheVariants.{Once}
use Rattle.cf_peer.specs.Trail.{Trail, part_of, is_connected, trail}
use Rattle.cf_scan.specs.Watching.{IsWatch}
use Rattle.cf_sync.specs.Example.{only_header, only_hash, cleared_run, other_watch, only_filter, only_filter_hash}
use Rattle.cf_sync.specs.Fetching.{IsCleared, IsFetchedHash}
use Rattle.cf_sync.specs.Sync.{HasAsked}
use Rattle.cf_sync.proofs.Answered.{came_given}
use Rattle.cf_sync.proofs.Filters.{only_filter_hash_is, only_misses}
use Rattle.cf_sync.proofs.Computed.{name_is}
use Rattle.cf_sync.proofs.Written.{at_rest}
use Rattle.cf_sync.proofs.TwoPeers.{t_11, part_18, u_7, other_20, of_part, AreOfTwo, all_of_two, at_each, of_cleared, only_claim, none_fetched, cleared_right, counts_11, given_11, same_other, cleared_bytes, WasHeard, asked_all, heard_it, off_heard, other_heard}

-- ---- the run in which the block is cleared

abbrev pub AgreesWithIt : Trail → Type 0
AgreesWithIt t = (hash : Hash32) → hash_claimed (claims (counted t)) only_hash.0 ≡ Some hash → hash ≡ record { 0 = only_filter_hash }

-- one that claims the honest peer's filter does, and one that claims nothing
pub its_agrees : (t : Trail) → claims (counted t) only_hash.0 ≡ Some only_claim → AgreesWithIt t
its_agrees t claimed hash e =
    let f : Some (record { 0 = only_filter_hash }) ≡ Some hash = sym (ap (λ o. option_map (λ (c : Claim). c.hash) o) claimed) ∙ e in
    let g : record { 0 = only_filter_hash } ≡ hash = cc in
    sym g

pub silent_agrees : (t : Trail) → claims (counted t) only_hash.0 ≡ None → AgreesWithIt t
silent_agrees t none hash e = absurd (let f : None ≡ Some hash = sym (ap (λ o. option_map (λ (c : Claim). c.hash) o) none) ∙ e in cc)

-- a log in which the honest peer gave its filter, all agree with it, and the block wasn't fetched
pub cleared_by : (log : Log) (t : Trail) → part_of log 1 ≡ at_rest t → is_connected t ≡ true → claims (counted t) only_hash.0 ≡ Some only_claim
    → IsIn (filter_of only_hash only_filter) (given_filters (counted t)) → ((p : ℕ) → AgreesWithIt (trail log p))
    → (IsFetchedHash log only_hash.0 → ⊥) → IsCleared other_watch log only_hash.0
cleared_by log t here on claimed gave agree unfetched = record {
  hash = record { 0 = only_filter_hash };
  agreed = record {
    who = 1;
    there = of_part (λ u. is_connected u ≡ true) (part_of log 1) t here on;
    claims = of_part (λ u. hash_claimed (claims (counted u)) only_hash.0 ≡ Some (record { 0 = only_filter_hash })) (part_of log 1) t here
        (ap (λ o. option_map (λ (c : Claim). c.hash) o) claimed);
    alone = λ p hash on is. agree p hash is;
  };
  filter = filter_of only_hash only_filter;
  given = came_given log 1 (filter_of only_hash only_filter)
      (of_part (λ u. IsIn (filter_of only_hash only_filter) (given_filters (counted u))) (part_of log 1) t here gave) unfetched;
  of_block = refl;
  this = only_filter_hash_is;
  verdict = ap (λ (x : List ℕ). is_miss (match_of x other_watch only_filter)) name_is ∙ ap is_miss only_misses;
}

-- so it is of a log of the two peers
pub cleared_of_two : (log : Log) (other : Trail) → part_of log 1 ≡ at_rest t_11 → part_of log 2 ≡ at_rest other → AreOfTwo log → AgreesWithIt other
    → (IsFetchedHash log only_hash.0 → ⊥) → IsCleared other_watch log only_hash.0
cleared_of_two log other one two both silent =
    cleared_by log t_11 one refl counts_11.claimed given_11
    (λ p. at_each AgreesWithIt log t_11 other p one two both (its_agrees t_11 counts_11.claimed) silent (silent_agrees [] refl))

cleared : IsCleared other_watch cleared_run only_hash.0
cleared =
    cleared_of_two cleared_run u_7 part_18 other_20 all_of_two.1.1
    (silent_agrees u_7 (ap (λ (c : Table). c only_hash.0) same_other.claiming)) (λ got. none_fetched got.0 got.1)

watch_fits : IsWatch other_watch
watch_fits = refl

pub cleared_asked : HasAsked other_watch 1 only_hash [] cleared_run
cleared_asked =
    asked_all Once other_watch [] cleared_run t_11 part_18 refl counts_11.chain refl watch_fits cleared_bytes cleared_right
    (record { blocks = record { header = only_header; txs = [] } ∷ []; taken = (inr ((λ got. none_fetched got.0 got.1), refl), tt); history = refl })
    (λ p. of_cleared (WasHeard Once) p (heard_it Once t_11 counts_11.chain counts_11.claimed counts_11.heard_out) other_heard (off_heard Once [] refl))
    (inr cleared) (λ block got disputed. none_fetched got.0 got.1)
