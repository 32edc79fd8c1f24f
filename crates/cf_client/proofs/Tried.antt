-- What was tested, where nothing that a peer claims is left to be.
use Rattle.std.proofs.Common.{◌≡◌, ℕ, ◌≤◌, List, [], ◌∷◌, length, Option, Some, None, Bool, true, false, refl, sym, ◌∙◌, ap, subst, arith}
use Rattle.std.specs.Prelude.{IsSome, option_map}
use Rattle.cf_bytes.specs.declared.hash.Hash32.{Hash32}
use Rattle.cf_dispute.specs.declared.claim.At.TheVariants.{Differ}
use Rattle.cf_dispute.specs.Claims.{IsAt}
use Rattle.cf_headers.specs.Chain.{Hash, Chain, tip_hash}
use Rattle.cf_headers.specs.Heights.{hash_at, common_of}
use Rattle.cf_wires.specs.Log.{Log}
use Rattle.cf_peer.specs.Trail.{own}
use Rattle.cf_scan.specs.declared.extracts.TxExtract.{TxExtract}
use Rattle.cf_headers.proofs.Commons.{common_low}
use Rattle.cf_headers.proofs.Found.{back_ends, found_low}
use Rattle.cf_sync.specs.Fetching.{counted_part, IsAbove, IsConnected, IsDisputed, IsFetchedHash, IsTestedThrough, IsTestedWith}
use Rattle.cf_holds.proofs.Kept.{by_claims}
use Rattle.cf_tracker.specs.Seen.{Seen}
use Rattle.cf_hear.specs.Tracks.{Tracks}
use Rattle.cf_client.specs.Settled.{IsTriedThrough}

differ_in : (s : Seen) (log : Log) (block : Hash) → Tracks s log → IsDisputed log block → IsAt s.claims block Differ
differ_in s log block tracks d = (
  d.one,
  (
    d.other,
    (
      d.mine,
      (
        d.yours,
        (
          by_claims log s.claims tracks.claimed d.one block d.mine d.there.0 d.claims.0,
          by_claims log s.claims tracks.claimed d.other block d.yours d.there.1 d.claims.1,
          d.apart,
        ),
      ),
    ),
  ),
)

extract_in : (s : Seen) (log : Log) (block : Hash) → Tracks s log → IsFetchedHash log block → IsSome (s.table block)
extract_in s log block tracks got = by (s.table block) refl where
  by : (o : Option (List TxExtract)) → s.table block ≡ o → IsSome (s.table block)
  by None e = absurd (tracks.fetched.complete block e got)
  by (Some x) e = subst IsSome (sym e) refl

some_part : (block : Hash) (part : Chain) → tip_hash part ≡ block → IsAbove block → 1 ≤ length part
some_part block [] tip above = absurd (above (sym tip))
some_part block (h ∷ below) tip above = omega arith

-- what a connected peer claims of the fetched blocks on which they differ was tested
pub tested_by : (s : Seen) (log : Log) (chain : Chain) (p : ℕ) → Tracks s log → IsConnected log p
    → IsTriedThrough s p (own (counted_part log p)) (common_of (own (counted_part log p)) chain)
    → IsTestedThrough log chain p
tested_by s log chain p tracks on none height up low above got disputed hash claimed =
    by (s.trials.told block hash.0) refl where
      mine : Chain
      mine = own (counted_part log p)

      block : Hash
      block = hash_at mine height

      by : (o : Option Bool) → s.trials.told block hash.0 ≡ o → IsTestedWith log block hash
      by (Some true) e = (tracks.trials.told.lacking block hash e).0
      by (Some false) e = tracks.trials.told.holding block hash e
      by None e =
          let within = (common_low mine chain).0 in
          let found = found_low block mine height (omega (arith, low, within)) refl in
          let c = by_claims log s.claims tracks.claimed p block hash on claimed in
          absurd (none block (length found.0) (record {
            stands = ap (λ (o : Option Chain). option_map length o) found.1;
            above = some_part block found.0 (back_ends block mine found.0 found.1) above;
            low = omega (arith, found.2, low);
            wanted = record {
              fetched = extract_in s log block tracks got;
              disputed = differ_in s log block tracks disputed;
              claim = c.0;
              mine = c.1;
              untested = ap (λ (x : Hash32). s.trials.told block x.0) c.2 ∙ e;
            };
          }))
