-- What is kept of claims and filters says what is settled and what is to be asked for.
use Rattle.std.proofs.Common.{◌≡◌, ◌≢◌, inl, inr, ℕ, List, Option, Some, None, Bool, true, false, if◌then◌else◌, refl, sym, ◌∙◌, ap, subst}
use Rattle.std.specs.Prelude.{IsSome, option_map}
use Rattle.cf_bytes.specs.declared.hash.Hash32.{Hash32}
use Rattle.cf_dispute.specs.declared.claim.At.{At}
use Rattle.cf_dispute.specs.declared.claim.At.TheVariants.{Nobody, One, Differ}
use Rattle.cf_dispute.specs.declared.claim.Claim.{Claim}
use Rattle.cf_dispute.specs.Claims.{Tables, Claims, IsAt, no_claims}
use Rattle.cf_headers.specs.Chain.{Hash}
use Rattle.cf_match.specs.declared.job.Job.{Job}
use Rattle.cf_match.specs.declared.job.Verdict.{Verdict}
use Rattle.cf_match.specs.declared.job.Verdict.TheVariants.{Miss, Hit}
use Rattle.cf_match.specs.Verdicts.{Verdicts, misses, verdict_of}
use Rattle.cf_peer.specs.Asking.{claims, counted}
use Rattle.cf_wires.specs.Log.{Log}
use Rattle.cf_peer.specs.Trail.{Trail, trail, is_connected}
use Rattle.cf_scan.specs.declared.extracts.TxExtract.{TxExtract}
use Rattle.cf_tables.specs.Known.{ExtractTable}
use Rattle.cf_sync.specs.Fetching.{counted_part, IsConnected, IsAgreed, IsDisputed, IsJudged, IsSettled, IsFilterWanted, IsBlockWanted}
use Rattle.cf_holds.specs.Known.{HoldsFetched, HoldsClaims, HoldsGiven}
use Rattle.cf_sync.specs.Fetching as log
use Rattle.cf_tables.specs.Wanting.{IsDone, IsUnjudged, IsToFetch}

-- who claims something by the tables is connected, and claims it by the log; and the other way round
there_by : (b : Bool) (t : Trail) (block : Hash) (claim : Claim) → (if b then claims (counted t) else no_claims) block ≡ Some claim → (b ≡ true) × (claims (counted t) block ≡ Some claim)
there_by true t block claim e = (refl, e)
there_by false t block claim e = cc

pub claims_by : (l : Log) (tables : Tables) → HoldsClaims l tables → (p : ℕ) (block : Hash) (hash : Hash32) → Claims tables p block hash → IsConnected l p × log.HasClaimed l p block hash
claims_by l tables h p block hash c =
    let w = there_by (is_connected (trail l p)) (trail l p) block c.0 (sym (h p block) ∙ c.1) in
    (w.0, ap (λ (o : Option Claim). option_map (λ (x : Claim). x.hash) o) w.1 ∙ ap (λ (x : Hash32). Some x) c.2)

mapped : (o : Option Claim) (hash : Hash32) → option_map (λ (c : Claim). c.hash) o ≡ Some hash → (claim : Claim) × (o ≡ Some claim) × (claim.hash ≡ hash)
mapped None hash e = cc
mapped (Some c) hash e = (c, refl, (let one : c.hash ≡ hash = cc in one))

pub by_claims : (l : Log) (tables : Tables) → HoldsClaims l tables → (p : ℕ) (block : Hash) (hash : Hash32) → IsConnected l p → log.HasClaimed l p block hash → Claims tables p block hash
by_claims l tables h p block hash on c =
    let w = mapped (claims (counted_part l p) block) hash c in
    (w.0, h p block ∙ ap (λ (b : Bool). (if b then claims (counted_part l p) else no_claims) block) on ∙ w.1, w.2)

agreed_by : (l : Log) (tables : Tables) → HoldsClaims l tables → (block : Hash) (hash : Hash32) → IsAt tables block (One hash) → IsAgreed l block hash
agreed_by l tables h block hash at =
    let w = claims_by l tables h at.0.0 block hash at.0.1 in
    record { who = at.0.0; there = w.0; claims = w.1; alone = λ p other on c. at.1 p other (by_claims l tables h p block other on c) }

pub disputed_by : (l : Log) (tables : Tables) → HoldsClaims l tables → (block : Hash) → IsAt tables block Differ → IsDisputed l block
disputed_by l tables h block at =
    let a = claims_by l tables h at.0 block at.1.1.0 at.1.1.1.1.0 in
    let b = claims_by l tables h at.1.0 block at.1.1.1.0 at.1.1.1.1.1 in
    record { one = at.0; other = at.1.0; there = (a.0, b.0); mine = at.1.1.0; yours = at.1.1.1.0; claims = (a.1, b.1); apart = at.1.1.1.1.2 }

miss_where : (b : Bool) → Miss ≡ (if b then Miss else Hit) → b ≡ true
miss_where true e = refl
miss_where false e = cc

hit_where : (b : Bool) → Hit ≡ (if b then Miss else Hit) → b ≡ false
hit_where true e = cc
hit_where false e = refl

judged_by : (watch : List (List ℕ)) (l : Log) (tables : Tables) (verdicts : Verdicts) → HoldsClaims l tables → HoldsGiven watch l verdicts → (block : Hash) (hash : Hash32) (v : Verdict) (miss : Bool)
    → ((job : Job) → v ≡ verdict_of watch job → misses watch job ≡ miss) → IsAt tables block (One hash) → verdicts block hash.0 ≡ Some v → IsJudged watch l block miss
judged_by watch l tables verdicts h g block hash v miss reads at e =
    let w = g.sound block hash.0 v e in
    record { hash = hash; agreed = agreed_by l tables h block hash at; filter = w.0; given = w.1; of_block = w.2; this = w.3; verdict = reads w.0 w.4 }

pub some_is : (o : Option (List TxExtract)) → IsSome o → (e : List TxExtract) × (o ≡ Some e)
some_is None s = cc s
some_is (Some e) s = (e, refl)

-- what is done by what is kept is settled by the log
pub settled_by : (watch : List (List ℕ)) (l : Log) (extracts : ExtractTable) (tables : Tables) (verdicts : Verdicts) → HoldsFetched watch l extracts → HoldsClaims l tables → HoldsGiven watch l verdicts
    → (block : Hash) → IsDone extracts tables verdicts block → IsSettled watch l block
settled_by watch l extracts tables verdicts f h g block (inl there) = (
    let e = some_is (extracts block) there in
    let w = f.sound block e.0 e.1 in
    inl (w.0, w.1, w.2)
    )
settled_by watch l extracts tables verdicts f h g block (inr done) =
    inr (judged_by watch l tables verdicts h g block done.0 Miss true (λ job e. miss_where (misses watch job) e) done.1 done.2)

-- what is to be asked for by what is kept is wanted by the log
pub filter_by : (watch : List (List ℕ)) (l : Log) (extracts : ExtractTable) (tables : Tables) (verdicts : Verdicts) → HoldsFetched watch l extracts → HoldsClaims l tables → HoldsGiven watch l verdicts
    → (p : ℕ) (block : Hash32) (claim : Claim) → IsUnjudged extracts tables verdicts block.0 → tables p block.0 ≡ Some claim → IsFilterWanted l p block.0
filter_by watch l extracts tables verdicts f h g p block claim is mine =
    let one : claim.hash ≡ is.1.0 = is.1.1.1 p claim.hash (claim, mine, refl) in
    let w = claims_by l tables h p block.0 is.1.0 (claim, mine, one) in
    (f.complete block.0 is.0, (is.1.0, (agreed_by l tables h block.0 is.1.0 is.1.1, w.1, g.complete block is.1.0 is.1.2)))

pub block_by : (watch : List (List ℕ)) (l : Log) (extracts : ExtractTable) (tables : Tables) (verdicts : Verdicts) → HoldsFetched watch l extracts → HoldsClaims l tables → HoldsGiven watch l verdicts
    → (block : Hash) → IsToFetch extracts tables verdicts block → IsBlockWanted watch l block
block_by watch l extracts tables verdicts f h g block (none, inl differ) = (f.complete block none, inl (disputed_by l tables h block differ))
block_by watch l extracts tables verdicts f h g block (none, inr hit) =
    (f.complete block none, inr (judged_by watch l tables verdicts h g block hit.0 Hit false (λ job e. hit_where (misses watch job) e) hit.1 hit.2))

-- a block that somebody claims, and that is neither to be judged nor to be fetched, is done
pub done_else : (extracts : ExtractTable) (tables : Tables) (verdicts : Verdicts) (block : Hash) (at : At) → IsAt tables block at → at ≢ Nobody
    → (IsUnjudged extracts tables verdicts block → ⊥) → (IsToFetch extracts tables verdicts block → ⊥) → IsDone extracts tables verdicts block
done_else extracts tables verdicts block at is some judged fetched = by_extract (extracts block) refl where
  by_verdict : (hash : Hash32) → IsAt tables block (One hash) → extracts block ≡ None → (o : Option Verdict) → verdicts block hash.0 ≡ o → IsDone extracts tables verdicts block
  by_verdict hash one none None e = absurd (judged (none, (hash, one, e)))
  by_verdict hash one none (Some Miss) e = inr (hash, one, e)
  by_verdict hash one none (Some Hit) e = absurd (fetched (none, inr (hash, one, e)))

  by_at : (at : At) → IsAt tables block at → at ≢ Nobody → extracts block ≡ None → IsDone extracts tables verdicts block
  by_at Nobody is some none = absurd (some refl)
  by_at (One hash) is some none = by_verdict hash is none (verdicts block hash.0) refl
  by_at Differ is some none = absurd (fetched (none, inl is))

  by_extract : (o : Option (List TxExtract)) → extracts block ≡ o → IsDone extracts tables verdicts block
  by_extract (Some e) is1 = inl (subst IsSome (sym is1) refl)
  by_extract None is1 = by_at at is some is1
