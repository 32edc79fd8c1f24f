-- Making the records of a chain, a block at a time.
use Rattle.std.proofs.Common.{◌≡◌, ℕ, ◌+◌, ◌<◌, Bool, List, [], ◌∷◌, ◌++◌, refl, sym, ◌∙◌, ap, arith}
use Rattle.std.specs.Prelude.{Some, Err}
use Rattle.std.specs.List.{flat_map}
use Rattle.std.proofs.lemmas.Grind.{flat_map-append}
use Rattle.std.proofs.lemmas.List.{append-nil}
use Rattle.cf_bytes.specs.declared.hash.Hash32.{Hash32}
use Rattle.cf_block.specs.declared.tx.Block.{Block}
use Rattle.cf_block.specs.declared.tx.OutPoint.{OutPoint}
use Rattle.cf_block.specs.Header.{block_hash_of}
use Rattle.cf_bytes.specs.declared.memory.Refused.{Refused}
use Rattle.cf_bytes.specs.declared.memory.Refused.TheVariants.{No, NoMemory}
use Rattle.cf_make.specs.declared.tipped.AtHeight.{AtHeight}
use Rattle.cf_make.specs.declared.tipped.Tip.{Tip}
use Rattle.cf_make.specs.Made.{IsMadeBlock, StopsAt, first_coin, genesis_tip, made_header, max_tries, tip_of}
use Rattle.cf_make.specs.Mined.{NoneMeets}
use Rattle.cf_make.specs.Records.{made_record}
use Rattle.cf_make.specs.Streamed.{AreRecordsOf, AreRecordsTo, StopsFor}
use Rattle.cf_make.specs.Tipping.{MakesTipped}
use Rattle.cf_make.proofs.Blocks.{one_more, stops, tip_append}

pub none_yet : (w : Bool) (seed : ℕ) → AreRecordsTo w seed 0 genesis_tip []
none_yet w seed = record { whole = []; made = record { more = []; joined = refl; count = refl; made = tt }; spelled = refl; top = refl }

flat_map_one : (w : Bool) (bs : List Block) (b : Block) → flat_map (made_record w) (bs ++ b ∷ []) ≡ flat_map (made_record w) bs ++ made_record w b
flat_map_one w bs b = flat_map-append (made_record w) bs (b ∷ []) ∙ ap (λ (s : List ℕ). flat_map (made_record w) bs ++ s) (append-nil (made_record w b))

-- a block more
pub record_more : (w : Bool) (seed n : ℕ) (t next : Tip) (bytes : List ℕ) (b : Block) → AreRecordsTo w seed n t bytes → IsMadeBlock seed (n + 1) t b → next ≡ tip_of b
    → AreRecordsTo w seed (n + 1) next (bytes ++ made_record w b)
record_more w seed n t next bytes b so one is = record {
  whole = so.whole ++ b ∷ [];
  made = one_more [] so.whole seed n n t b so.made (omega arith) so.top one;
  spelled = ap (λ (s : List ℕ). s ++ made_record w b) so.spelled ∙ sym (flat_map_one w so.whole b);
  top = is ∙ sym (tip_append genesis_tip so.whole (b ∷ []));
}

-- no nonce for the next
pub stops_next : (w : Bool) (seed i n h : ℕ) (t : Tip) (bytes : List ℕ) → AreRecordsTo w seed i t bytes → i < n → h ≡ i + 1 → NoneMeets (made_header seed (i + 1) t) max_tries
    → StopsAt [] seed n h
stops_next w seed i n h t bytes so lt is none = stops [] so.whole seed i n i h t so.made lt (omega arith) so.top is none

pub stops_for : (w : Bool) (seed i n : ℕ) (t : Tip) (bytes : List ℕ) → AreRecordsTo w seed i t bytes → i < n → (e : Refused AtHeight) → MakesTipped seed (i + 1) t (Err e) → StopsFor seed n e
stops_for w seed i n t bytes so lt (No e) makes = stops_next w seed i n e.height t bytes so lt makes.0 makes.1
stops_for w seed i n t bytes so lt NoMemory makes = tt

-- all of them
pub all_made : (w : Bool) (seed n : ℕ) (t : Tip) (bytes : List ℕ) → AreRecordsTo w seed n t bytes → AreRecordsOf w seed n bytes
all_made w seed n t bytes so = record { whole = so.whole; made = so.made; spelled = so.spelled }

-- what the next block needs, by the hash and the coin
pub tip_is : (b : Block) (hash : Hash32) (coin : OutPoint) → hash.0 ≡ block_hash_of b.header → Some coin ≡ first_coin b.txs
    → record { hash = hash; coin = Some coin } ≡ tip_of b
tip_is b hash coin h c = λ i. record { hash = record { 0 = h i }; coin = c i }
