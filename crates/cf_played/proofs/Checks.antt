-- The check of a chain's records.
use Rattle.std.proofs.Common.{◌≡◌, ℕ, ◌≤◌, Bool, List, [], ◌∷◌, ◌++◌, Ok, Err, Result, length, refl, sym, ◌∙◌, ap, subst, arith}
use Rattle.std.specs.Prelude.{IfOk}
use Rattle.std.specs.List.{flat_map, AllByRecursion}
use Rattle.std.specs.FinMap.{empty}
use Rattle.std.proofs.lemmas.List.{append-nil}
use Rattle.cf_bytes.specs.declared.memory.Refused.{Refused}
use Rattle.cf_bytes.specs.declared.memory.Refused.TheVariants.{No, NoMemory}
use Rattle.cf_block.specs.declared.tx.Block.{Block}
use Rattle.cf_chain.specs.Coins.{CoinMap, after_block}
use Rattle.cf_chain.specs.Good.{AreGoodBlocks, IsGoodChain}
use Rattle.cf_walk.specs.declared.cause.BadBlock.{BadBlock}
use Rattle.cf_walk.specs.Files.{IsGoodFile, Answers, blocks_at}
use Rattle.cf_walk.specs.Records.{record_with, max_record, record_spelling}
use Rattle.cf_walk.proofs.FileLaws.{plain, good_of, taken}
use Rattle.cf_make.specs.Records.{record_of, records_of, text_of, made_record, made_records_of}
use Rattle.cf_make.proofs.Witnessed.{all_stored, text_size}
use Rattle.cf_server.proofs.Lists.{flat_map-same}
use Rattle.cf_played.specs.Told.{IfRefused}

one_record : (b : Block) → record_of b ≡ record_spelling b
unfolding record_of record_spelling
one_record b = refl

pub read_again : (chain : List Block) (bytes : List ℕ) → bytes ≡ records_of chain → IsGoodChain chain → blocks_at bytes ≡ Ok chain
read_again chain bytes is good =
    ap blocks_at is ∙ ap blocks_at (flat_map-same record_of record_spelling chain one_record)
    ∙ ap blocks_at (sym (append-nil (flat_map record_spelling chain)))
    ∙ taken (flat_map record_spelling chain ++ []) chain (plain chain 0 good)

pub read_same : (chain : List Block) (bytes : List ℕ) (r : Result (List Block) (Refused BadBlock)) → bytes ≡ records_of chain → Answers (blocks_at bytes) r
    → IfOk r (λ blocks. IsGoodChain chain → blocks ≡ chain)
read_same chain bytes (Ok blocks) is answers = λ good. let e = read_again chain bytes is good in cc
read_same chain bytes (Err e) is answers = tt

pub read_bad : (chain : List Block) (bytes : List ℕ) (r : Result (List Block) (Refused BadBlock)) → bytes ≡ records_of chain → Answers (blocks_at bytes) r → IfRefused r (¬ (IsGoodChain chain))
read_bad chain bytes (Ok blocks) is answers = tt
read_bad chain bytes (Err (No bad)) is answers = λ good. let e = read_again chain bytes is good in cc
read_bad chain bytes (Err NoMemory) is answers = tt

-- ---- files that are made

texts_short : (witness : Bool) (coins : CoinMap) (blocks : List Block) → AreGoodBlocks coins blocks
    → AllByRecursion (λ b. length (text_of witness b) ≤ max_record) blocks
texts_short witness coins [] good = tt
texts_short witness coins (b ∷ bs) good =
    let first : length (text_of witness b) ≤ max_record = omega (arith, text_size witness b, good.0.spelled.short) in
    (first, texts_short witness (after_block coins b) bs good.1)

one_made : (witness : Bool) (b : Block) → made_record witness b ≡ record_with (text_of witness b)
unfolding made_record
one_made witness b = refl

pub made_good : (witness : Bool) (blocks : List Block) → IsGoodChain blocks
    → IsGoodFile (made_records_of witness blocks) blocks
made_good witness blocks good =
    let same : made_records_of witness blocks ≡ flat_map (λ b. record_with (text_of witness b)) blocks =
    flat_map-same (made_record witness) (λ b. record_with (text_of witness b)) blocks (one_made witness) in
    let stored = all_stored witness empty blocks good.each in
    let short = texts_short witness empty blocks good.each in
    subst (λ (bytes : List ℕ). IsGoodFile bytes blocks) (sym same) (good_of (text_of witness) blocks good stored short)
