-- An omission in the planned log is one in the actual log.
use Rattle.std.proofs.Common.{◌≡◌, inl, inr, ℕ, List, ◌∷◌, Some, true, false, subst}
use Rattle.std.proofs.lemmas.Bool.{both_ways}
use Rattle.cf_block.specs.declared.tx.Block.{Block}
use Rattle.cf_headers.specs.Chain.{IsIn}
use Rattle.cf_match.specs.declared.job.Job.{Job}
use Rattle.cf_wires.specs.declared.event.Event.{Event}
use Rattle.cf_peer.specs.Asking.{counted, claims, hash_claimed}
use Rattle.cf_wires.specs.Log.{Log}
use Rattle.cf_peer.specs.Trail.{Part, trail, part_of, is_connected}
use Rattle.cf_sync.specs.Fetching.{IsNoPiece, IsSameFetched, IsTest, IsTested, IsOmitting}
use Rattle.cf_sync.specs.Planned.{Alike}
use Rattle.cf_sync.proofs.Answered.{only_pieces_answer}

-- what isn't a piece tests nothing
pub only_pieces_test : (e : Event) (log : Log) (job : Job) → IsNoPiece e → IsTested (e ∷ log) job → IsTested log job
only_pieces_test = only_pieces_answer IsTest

-- the two logs agree in p's part, in what was fetched and in what was tested
pub omits_alike : (planned log : Log) (p : ℕ) → Alike (part_of planned p) (part_of log p) → IsSameFetched planned log → ((job : Job) → IsTested planned job → IsTested log job)
    → IsOmitting planned p → IsOmitting log p
omits_alike planned log p (inl same) fetched tests o = record {
  there = subst (λ (x : Part). is_connected x.trail ≡ true) same o.there;
  block = o.block;
  hash = o.hash;
  claimed = subst (λ (x : Part). hash_claimed (claims (counted x.trail)) o.block ≡ Some o.hash) same o.claimed;
  tested = record { filter = o.tested.filter; tested = tests o.tested.filter o.tested.tested; of_block = o.tested.of_block; this = o.tested.this };
  omits = record {
    body = o.omits.body;
    fetched = (o.omits.fetched.0, subst (λ (bs : List Block). IsIn o.omits.body bs) (fetched o.omits.fetched.0) o.omits.fetched.1);
    of_block = o.omits.of_block;
    lacking = o.omits.lacking;
  };
}
omits_alike planned log p (inr off) fetched tests o = absurd (both_ways (is_connected (trail planned p)) off.0 o.there)

-- who is cut off omits nothing
pub off_omits_nothing : (log : Log) (p : ℕ) → is_connected (trail log p) ≡ false → IsOmitting log p → ⊥
off_omits_nothing log p off o = both_ways (is_connected (trail log p)) off o.there
