-- Good files are read as their blocks.
use Rattle.std.proofs.Common.{◌≡◌, ℕ, zero, suc, ◌≤◌, ◌==◌, Bool, true, false, ◌&&◌, ◌⊎◌, inl, inr, nat_lt, Option, Some, None, List, [], ◌∷◌, ◌++◌, map, length, get_or, take, drop, replicate, refl, sym, ◌∙◌, ap, subst, arith, append_assoc, bytes_eq, Result, Ok, Err}
use Rattle.std.specs.Prelude.{if◌then◌else◌, IfOk}
use Rattle.std.specs.List.{flat_map, AllByRecursion}
use Rattle.std.specs.FinMap.{empty}
use Rattle.std.proofs.lemmas.List.{append-nil}
use Rattle.std.proofs.lemmas.Slice.Eq.{bytes_eq-Decides}
use Rattle.std.proofs.lemmas.Bool.Decides.{nat_tests}
use Rattle.cf_bytes.specs.Cut.{◌>>=◌}
use Rattle.cf_bytes.specs.declared.cut.CutFault.TheVariants.{Short}
use Rattle.cf_bytes.specs.declared.memory.Refused.{Refused}
use Rattle.cf_bytes.specs.declared.memory.Refused.TheVariants.{No, NoMemory}
use Rattle.cf_bytes.proofs.Codecs.{value_of}
use Rattle.cf_bytes.specs.Magic.{magic}
use Rattle.cf_block.specs.declared.header.Header.{Header}
use Rattle.cf_block.specs.declared.tx.Block.{Block}
use Rattle.cf_block.specs.Genesis.{first_block}
use Rattle.cf_block.specs.Header.{IsHeader, header_at, genesis_header, block_hash_of}
use Rattle.cf_block.specs.Tx.{IsBlock, block_spelling}
use Rattle.cf_block.specs.Stored.{IsStored, stored_block_at}
use Rattle.cf_block.proofs.StoredLaws.{block_stored_again, one_stored, plain_stored}
use Rattle.cf_block.proofs.GenesisLaws.{block_is}
use Rattle.cf_block.proofs.HeaderLaws.{header_again, genesis_fits}
use Rattle.cf_headers.specs.Rules.{same, is_worked, is_timely}
use Rattle.cf_headers.specs.Chain.{past_of}
use Rattle.cf_chain.specs.Coins.{CoinMap, after_block}
use Rattle.cf_chain.specs.Good.{AreGoodBlocks, IsGoodChain}
use Rattle.cf_walk.specs.declared.cause.BadBlock.{BadBlock}
use Rattle.cf_walk.specs.declared.cause.RecordCause.TheVariants.{Cut, Magic}
use Rattle.cf_walk.specs.Records.{Taken, record_with, max_record, record_spelling, IsRecordOf, AreRecords, records_text, HasRecords, cut_off, is_magic, magic_at, length_at, head_at, text_at, record_at}
use Rattle.cf_walk.specs.Files.{HasFirst, HasGenesis, IsGoodFile, StopsAt, IsBadFile, IfBad, all_zeros, in_block, put_on, next_at, blocks_from, block_here, is_first, behind_first, after_genesis, blocks_after, blocks_at}
use Rattle.cf_walk.specs.Progress.{HasRecord, IsRecordsOf}
use Rattle.cf_walk.proofs.Growing.{MayStand, part_stands, no_cause}
use Rattle.cf_walk.proofs.RecordLaws.{record_again}
use Rattle.cf_walk.proofs.FileSteps.{ends, one_more, bad_here, next_is}
use Rattle.cf_walk.proofs.GenesisHash.{first_byte, previous_byte, first_length}

zeros_are : (n : ℕ) → all_zeros (replicate n 0) ≡ true
zeros_are zero = refl
zeros_are (suc n) = zeros_are n

pub both : (a b : Bool) → (a && b) ≡ true → (a ≡ true) × (b ≡ true)
both true true h = (refl, refl)
both true false h = cc
both false b h = cc

pub is_zero : (n : ℕ) → (n == 0) ≡ true → n ≡ 0
is_zero n h = grind (arith, nat_tests)

pub are_zeros : (bytes : List ℕ) → all_zeros bytes ≡ true → bytes ≡ replicate (length bytes) 0
are_zeros [] z = refl
are_zeros (b ∷ bytes) z =
    let parts = both (b == 0) (all_zeros bytes) z in
    let rest : bytes ≡ replicate (length bytes) 0 = are_zeros bytes parts.1 in
    let first : b ≡ 0 = is_zero b parts.0 in
    ap (λ (x : ℕ). x ∷ bytes) first ∙ ap (λ l. 0 ∷ l) rest

-- a record of a block
starts : (b : Block) (front rest : List ℕ) → IsRecordOf front b → all_zeros (front ++ rest) ≡ false
starts b front rest is = ap (λ (l : List ℕ). all_zeros (l ++ rest)) is.spelled

text_again : (b : Block) (front rest : List ℕ) → (is : IsRecordOf front b) → record_at (front ++ rest) ≡ Ok (is.text, rest)
text_again b front rest is = ap (λ (l : List ℕ). record_at (l ++ rest)) is.spelled ∙ record_again is.text rest is.short

next_again : (blocks : List Block) (b : Block) (front rest : List ℕ) → IsRecordOf front b → MayStand blocks b → next_at blocks (front ++ rest) ≡ Ok (blocks ++ b ∷ [], rest)
next_again blocks b front rest is m =
    next_is blocks (front ++ rest) is.text rest b (text_again b front rest is) (ap in_block (block_stored_again is.text b is.stored))
    ∙ ap (λ c. put_on c blocks b >>= λ more. Ok (more, rest)) (no_cause blocks b m)

-- the blocks of a good chain are read, and then what stands after their records
runs_to : (before : ℕ) (blocks bs : List Block) (records : List (List ℕ)) (rest : List ℕ) → AreRecords records bs → IsGoodChain (blocks ++ bs)
    → blocks_from before zero blocks (records_text records ++ rest) ≡ blocks_from before zero (blocks ++ bs) rest
runs_to before blocks [] [] rest each g = ap (λ l. blocks_from before zero l rest) (sym (append-nil blocks))
runs_to before blocks [] (r ∷ rs) rest each g = absurd each
runs_to before blocks (b ∷ bs) [] rest each g = absurd each
runs_to before blocks (b ∷ bs) (r ∷ rs) rest each g =
    let others : List ℕ = records_text rs ++ rest in
    let all : List Block = blocks ++ b ∷ [] in
    let longer : all ++ bs ≡ blocks ++ (b ∷ bs) = append_assoc blocks (b ∷ []) bs in
    let has : HasRecord blocks all (r ++ others) others = record { block = b; added = refl; front = r; is = each.0; spelled = refl } in
    ap (blocks_from before zero blocks) (append_assoc r (records_text rs) rest)
    ∙ one_more before blocks all (r ++ others) others (starts b r others each.0) (next_again blocks b r others each.0 (part_stands blocks b bs g)) has
    ∙ runs_to before all bs rs rest each.1 (subst IsGoodChain (sym longer) g)
    ∙ ap (λ l. blocks_from before zero l rest) longer

runs : (before zeros : ℕ) (blocks : List Block) (bytes : List ℕ) → HasRecords bytes blocks (replicate zeros 0) → IsGoodChain blocks → blocks_from before zero [] bytes ≡ Ok blocks
runs before zeros blocks bytes h g =
    ap (blocks_from before zero []) h.spelled ∙ runs_to before [] blocks h.records (replicate zeros 0) h.each g ∙ ends before blocks (replicate zeros 0) (zeros_are zeros)

stops : (bytes : List ℕ) (before : ℕ) (bad : BadBlock) → StopsAt bytes before bad → blocks_from before zero [] bytes ≡ Err bad
stops bytes before bad s =
    ap (blocks_from before zero []) s.spelled.spelled ∙ runs_to before [] s.blocks s.spelled.records s.rest s.spelled.each s.good
    ∙ bad_here before s.blocks s.rest bad.cause s.some s.cause
    ∙ (λ i. Err (record { number = sym s.number i; cause = bad.cause }))

-- ---- genesis's record

pub read_from : (bytes : List ℕ) (more : Option (List ℕ)) → after_genesis bytes ≡ more → blocks_at bytes ≡ blocks_after bytes more
unfolding blocks_at
read_from bytes more e = ap (blocks_after bytes) e

here_again : (text more : List ℕ) (b : Block) → length text ≤ max_record → IsStored text b → block_here (record_with text ++ more) ≡ Ok (b, more)
unfolding block_here
here_again text more b short stored =
    ap (λ r. r >>= λ t. in_block (stored_block_at t.0) >>= λ c. Ok (c, t.1)) (record_again text more short)
    ∙ ap (λ r. in_block r >>= λ c. Ok (c, more)) (block_stored_again text b stored)

first_is_first : is_first first_block ≡ true
first_is_first = (bytes_eq-Decides (block_spelling first_block) (block_spelling first_block)).1 refl

after_first : (bytes more : List ℕ) → HasFirst bytes more → after_genesis bytes ≡ Some more
unfolding after_genesis
after_first bytes more h =
    ap (λ (l : List ℕ). behind_first (block_here l)) (h.spelled ∙ ap (λ (l : List ℕ). l ++ more) h.is.spelled)
    ∙ ap behind_first (here_again h.is.text more first_block h.is.short h.is.stored)
    ∙ ap (λ (x : Bool). if x then Some more else None) first_is_first

-- a block with genesis's bytes is the genesis block
first_of : (b : Block) → IsBlock b → is_first b ≡ true → b ≡ first_block
first_of b fits e =
    let same : block_spelling b ≡ block_spelling first_block = (bytes_eq-Decides (block_spelling b) (block_spelling first_block)).0 e in
    one_stored (block_spelling b) b first_block (plain_stored b fits) (subst (λ (l : List ℕ). IsStored l first_block) (sym same) (plain_stored first_block block_is))

pub begins_first : (bytes text rest : List ℕ) (b : Block) → bytes ≡ record_with text ++ rest → length text ≤ max_record → IsStored text b → is_first b ≡ true → HasFirst bytes rest
begins_first bytes text rest b e short stored is = record {
  front = record_with text;
  is = record { text = text; stored = subst (IsStored text) (first_of b stored.block is) stored; short = short; spelled = refl };
  spelled = e;
}

-- genesis is no block above genesis, since its previous hash is another one
same_is : (a b : List ℕ) → same a b ≡ true → a ≡ b
unfolding same
same_is a b e = (bytes_eq-Decides a b).0 e

header_of_text : (text : List ℕ) (a b : Block) → IsStored text a → IsHeader b.header → text ≡ block_spelling b → a.header ≡ b.header
unfolding block_spelling
header_of_text text a b stored fits e =
    ap (λ p. p.0) (value_of _ _ (header_at text) (ap header_at stored.spelled ∙ header_again a.header _ stored.block.header) (ap header_at e ∙ header_again b.header _ fits))

first_header : first_block.header ≡ genesis_header
unfolding first_block
first_header = refl

not_first : (text : List ℕ) (b : Block) → MayStand [] b → IsStored text b → text ≡ block_spelling first_block → ⊥
not_first text b m stored e =
    let genesis : IsHeader first_block.header = subst IsHeader (sym first_header) genesis_fits in
    let header : b.header ≡ genesis_header = header_of_text text b first_block stored genesis e ∙ first_header in
    let linked : b.header.previous.0 ≡ block_hash_of genesis_header = same_is b.header.previous.0 (block_hash_of genesis_header) (both (same b.header.previous.0 (block_hash_of genesis_header)) (is_worked b.header && is_timely (past_of []) b.header) m.fit).0 in
    let byte : get_or genesis_header.previous.0 0 0 ≡ get_or (block_hash_of genesis_header) 0 0 =
    ap (λ (h : Header). get_or h.previous.0 0 0) (sym header) ∙ ap (λ l. get_or l 0 0) linked in
    omega (arith, byte, first_byte, previous_byte)

is_none : (b : Bool) → (b ≡ true → ⊥) → b ≡ false
is_none true h = absurd (h refl)
is_none false h = refl

other_block : (b : Block) → MayStand [] b → IsBlock b → is_first b ≡ false
other_block b m fits =
    is_none (is_first b)
    (λ e. not_first (block_spelling b) b m (plain_stored b fits) ((bytes_eq-Decides (block_spelling b) (block_spelling first_block)).0 e))

no_magic : (tail : List ℕ) → bytes_eq (take 4 (0 ∷ tail)) magic ≡ false
no_magic tail =
    is_none (bytes_eq (take 4 (0 ∷ tail)) magic)
    (λ e. let first : 0 ≡ 250 = ap (λ (l : List ℕ). get_or l 0 0) ((bytes_eq-Decides (take 4 (0 ∷ tail)) magic).0 e) in omega (arith, first))

-- reading gives no value
abbrev Fails : {X : Type 0} → Taken X → Type 0
Fails (Ok x) = ⊥
Fails (Err cause) = Unit {0}

bound_fails : {X Y : Type 0} (r : Taken X) (f : X × List ℕ → Taken Y) → Fails r → Fails (r >>= f)
bound_fails (Ok x) f h = absurd h
bound_fails (Err cause) f h = tt

none_behind : (r : Taken Block) → Fails r → behind_first r ≡ None
none_behind (Ok x) h = absurd h
none_behind (Err cause) h = refl

-- no record begins with a zero
magic_fails : (tail : List ℕ) → Fails (magic_at (0 ∷ tail))
unfolding magic_at
magic_fails tail =
    elim (nat_lt (length (0 ∷ tail)) 4) as (λ x. Fails (cut_off {X = List ℕ} (if x then Err (Short, 0 ∷ tail) else Ok (take 4 (0 ∷ tail), drop 4 (0 ∷ tail))) >>= is_magic)) [
      | true ↦ tt
      | false ↦ subst (λ (x : Bool). Fails {X = List ℕ} (if x then Ok (take 4 (0 ∷ tail), drop 4 (0 ∷ tail)) else Err Magic)) (sym (no_magic tail)) tt
    ]

head_fails : (tail : List ℕ) → Fails (head_at (0 ∷ tail))
unfolding head_at
head_fails tail =
    elim (nat_lt (length (0 ∷ tail)) 8) as (λ x. Fails {X = ℕ} (if x then Err Cut else magic_at (0 ∷ tail) >>= λ m. length_at m.1)) [
      | true ↦ tt
      | false ↦ bound_fails (magic_at (0 ∷ tail)) (λ m. length_at m.1) (magic_fails tail)
    ]

record_fails : (tail : List ℕ) → Fails (record_at (0 ∷ tail))
unfolding record_at
record_fails tail = bound_fails (head_at (0 ∷ tail)) (λ n. text_at n.0 n.1) (head_fails tail)

pub none_at_zero : (tail : List ℕ) → behind_first (block_here (0 ∷ tail)) ≡ None
unfolding block_here
none_at_zero tail =
    none_behind (block_here (0 ∷ tail))
    (bound_fails {Y = Block} (record_at (0 ∷ tail)) (λ text. in_block (stored_block_at text.0) >>= λ b. Ok (b, text.1)) (record_fails tail))

none_in_zeros : (zeros : ℕ) → after_genesis (replicate zeros 0) ≡ None
unfolding after_genesis block_here record_at head_at
none_in_zeros zero = refl
none_in_zeros (suc n) = none_at_zero (replicate n 0)

not_genesis : (zeros : ℕ) (blocks : List Block) (records : List (List ℕ)) → AreRecords records blocks → IsGoodChain blocks → after_genesis (records_text records ++ replicate zeros 0) ≡ None
unfolding after_genesis
not_genesis zeros [] [] each g = none_in_zeros zeros
not_genesis _ [] (r ∷ rs) each g = absurd each
not_genesis _ (b ∷ bs) [] each g = absurd each
not_genesis zeros (b ∷ bs) (r ∷ rs) each g =
    let m : MayStand [] b = part_stands [] b bs g in
    let is : IsRecordOf r b = each.0 in
    let others : List ℕ = records_text rs ++ replicate zeros 0 in
    let whole : records_text (r ∷ rs) ++ replicate zeros 0 ≡ record_with is.text ++ others =
    append_assoc r (records_text rs) (replicate zeros 0) ∙ ap (λ (l : List ℕ). l ++ others) is.spelled in
    ap (λ (l : List ℕ). behind_first (block_here l)) whole
    ∙ ap behind_first (here_again is.text others b is.short is.stored)
    ∙ ap (λ (x : Bool). if x then Some others else None) (other_block b m is.stored.block)

taken_by : (bytes : List ℕ) (zeros : ℕ) (blocks : List Block) → IsGoodChain blocks
    → HasRecords bytes blocks (replicate zeros 0) ⊎ HasGenesis bytes blocks (replicate zeros 0) → blocks_at bytes ≡ Ok blocks
taken_by bytes zeros blocks g (inl h) =
    read_from bytes None (ap after_genesis h.spelled ∙ not_genesis zeros blocks h.records h.each g) ∙ runs 0 zeros blocks bytes h g
taken_by bytes zeros blocks g (inr h) = read_from bytes (Some h.more) (after_first bytes h.more h.first) ∙ runs 1 zeros blocks h.more h.others g

pub taken : (bytes : List ℕ) (blocks : List Block) → IsGoodFile bytes blocks → blocks_at bytes ≡ Ok blocks
taken bytes blocks g = taken_by bytes g.file.zeros blocks g.chain g.file.spelled

pub refused : (bytes : List ℕ) (bad : BadBlock) → IsBadFile bytes bad → blocks_at bytes ≡ Err bad
refused bytes bad (inl x) = read_from bytes None x.0 ∙ stops bytes 0 bad x.1
refused bytes bad (inr x) = read_from bytes (Some x.0) x.1 ∙ stops x.0 1 bad x.2

pub apart : (bytes : List ℕ) (blocks : List Block) (bad : BadBlock) → IsGoodFile bytes blocks → IsBadFile bytes bad → ⊥
apart bytes blocks bad g b = (let is : blocks_at bytes ≡ Ok blocks = taken bytes blocks g in let not : blocks_at bytes ≡ Err bad = refused bytes bad b in cc)

pub one : (bytes : List ℕ) (a b : List Block) → IsGoodFile bytes a → IsGoodFile bytes b → a ≡ b
one bytes a b ga gb = value_of a b (blocks_at bytes) (taken bytes a ga) (taken bytes b gb)

-- records without witnesses
plain_each : (coins : CoinMap) (blocks : List Block) → AreGoodBlocks coins blocks → AreRecords (map record_spelling blocks) blocks
unfolding record_spelling
plain_each coins [] g = tt
plain_each coins (b ∷ bs) g =
    let short : length (block_spelling b) ≤ max_record = omega (arith, g.0.spelled.short) in
    (record { text = block_spelling b; stored = plain_stored b g.0.spelled; short = short; spelled = refl }, plain_each (after_block coins b) bs g.1)

each_joined : (f : Block → List ℕ) (blocks : List Block) → flat_map f blocks ≡ records_text (map f blocks)
each_joined f [] = refl
each_joined f (b ∷ bs) = ap (λ (l : List ℕ). f b ++ l) (each_joined f bs)

plain_records : (blocks : List Block) (rest : List ℕ) → IsGoodChain blocks
    → HasRecords (flat_map record_spelling blocks ++ rest) blocks rest
plain_records blocks rest g = record {
  records = map record_spelling blocks;
  each = plain_each empty blocks g.each;
  spelled = ap (λ (l : List ℕ). l ++ rest) (each_joined record_spelling blocks);
}

pub plain : (blocks : List Block) (zeros : ℕ) → IsGoodChain blocks
    → IsGoodFile (flat_map record_spelling blocks ++ replicate zeros 0) blocks
plain blocks zeros g = record {
  file = record { zeros = zeros; spelled = inl (plain_records blocks (replicate zeros 0) g) };
  chain = g;
}

pub after_stored_record : (text : List ℕ) (blocks : List Block) (zeros : ℕ) → IsGoodChain blocks → IsStored text first_block → length text ≤ max_record
    → IsGoodFile (record_with text ++ (flat_map record_spelling blocks ++ replicate zeros 0)) blocks
after_stored_record text blocks zeros g stored short = record {
  file = record {
    zeros = zeros;
    spelled = inr (record {
      more = flat_map record_spelling blocks ++ replicate zeros 0;
      first = record {
        front = record_with text;
        is = record { text = text; stored = stored; short = short; spelled = refl };
        spelled = refl;
      };
      others = plain_records blocks (replicate zeros 0) g;
    });
  };
  chain = g;
}

pub after_first_record : (blocks : List Block) (zeros : ℕ) → IsGoodChain blocks
    → IsGoodFile (record_spelling first_block ++ (flat_map record_spelling blocks ++ replicate zeros 0)) blocks
unfolding record_spelling
after_first_record blocks zeros g =
    after_stored_record (block_spelling first_block) blocks zeros g (plain_stored first_block block_is) (omega (arith, first_length))

-- records of any bytes that store the blocks
each_of : (text : Block → List ℕ) (blocks : List Block) → AllByRecursion (λ b. IsStored (text b) b) blocks
    → AllByRecursion (λ b. length (text b) ≤ max_record) blocks → AreRecords (map (λ b. record_with (text b)) blocks) blocks
each_of text [] stored short = tt
each_of text (b ∷ bs) stored short =
    (record { text = text b; stored = stored.0; short = short.0; spelled = refl }, each_of text bs stored.1 short.1)

pub good_of : (text : Block → List ℕ) (blocks : List Block) → IsGoodChain blocks → AllByRecursion (λ b. IsStored (text b) b) blocks
    → AllByRecursion (λ b. length (text b) ≤ max_record) blocks → IsGoodFile (flat_map (λ b. record_with (text b)) blocks) blocks
good_of text blocks g stored short =
    let f : Block → List ℕ = λ b. record_with (text b) in
    let records : List (List ℕ) = map f blocks in
    let spelled : flat_map f blocks ≡ records_text records ++ [] = each_joined f blocks ∙ sym (append-nil (records_text records)) in
    let has : HasRecords (flat_map f blocks) blocks [] =
    record { records = records; each = each_of text blocks stored short; spelled = spelled } in
    record { file = record { zeros = 0; spelled = inl has }; chain = g }

-- what was read is a good file
pub good_alone : (bytes : List ℕ) (r : Result (List Block) (Refused BadBlock)) → IfOk r (λ blocks. IsGoodChain blocks) → IfOk r (λ blocks. IsRecordsOf bytes blocks) → IfOk r (λ blocks. IsGoodFile bytes blocks)
good_alone bytes (Ok blocks) g h =
    let spelled : HasRecords bytes blocks (replicate (length h.rest) 0) = subst (HasRecords bytes blocks) (are_zeros h.rest h.zeros) h.spelled in
    record { file = record { zeros = length h.rest; spelled = inl spelled }; chain = g }
good_alone bytes (Err e) g h = tt

pub good_after : (bytes rest : List ℕ) (r : Result (List Block) (Refused BadBlock)) → HasFirst bytes rest
    → IfOk r (λ blocks. IsGoodChain blocks) → IfOk r (λ blocks. IsRecordsOf rest blocks) → IfOk r (λ blocks. IsGoodFile bytes blocks)
good_after bytes rest (Ok blocks) first g h =
    let others : HasRecords rest blocks (replicate (length h.rest) 0) = subst (HasRecords rest blocks) (are_zeros h.rest h.zeros) h.spelled in
    record { file = record { zeros = length h.rest; spelled = inr (record { more = rest; first = first; others = others }) }; chain = g }
good_after bytes rest (Err e) first g h = tt

-- what was refused is a bad file
pub bad_alone : (bytes : List ℕ) (r : Result (List Block) (Refused BadBlock)) → after_genesis bytes ≡ None → IfBad r (λ bad. StopsAt bytes 0 bad) → IfBad r (λ bad. IsBadFile bytes bad)
bad_alone bytes (Ok blocks) e h = tt
bad_alone bytes (Err (No bad)) e h = inl (e, h)
bad_alone bytes (Err NoMemory) e h = tt

pub bad_after : (bytes rest : List ℕ) (r : Result (List Block) (Refused BadBlock)) → after_genesis bytes ≡ Some rest → IfBad r (λ bad. StopsAt rest 1 bad) → IfBad r (λ bad. IsBadFile bytes bad)
bad_after bytes rest (Ok blocks) e h = tt
bad_after bytes rest (Err (No bad)) e h = inr (rest, e, h)
bad_after bytes rest (Err NoMemory) e h = tt
