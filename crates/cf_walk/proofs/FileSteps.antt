-- Reading a file, a record at a time.
use Rattle.std.proofs.Common.{◌≡◌, ℕ, zero, suc, ◌+◌, ◌-◌, ◌<◌, Bool, true, false, List, [], ◌∷◌, ◌++◌, length, drop, refl, sym, ◌∙◌, ap, subst, arith, append_assoc, length-append, Ok, Err}
use Rattle.std.specs.Prelude.{if◌then◌else◌}
use Rattle.std.proofs.lemmas.List.{drop_at, append-nil}
use Rattle.cf_bytes.specs.Cut.{◌>>=◌}
use Rattle.cf_block.specs.declared.tx.Block.{Block}
use Rattle.cf_block.specs.Stored.{stored_block_at}
use Rattle.cf_walk.specs.declared.cause.RecordCause.{RecordCause}
use Rattle.cf_walk.specs.Records.{Taken, record_with, IsRecordOf, AreRecords, records_text, HasRecords, record_at}
use Rattle.cf_walk.specs.Files.{all_zeros, in_block, put_on, cause_on, next_at, numbered, blocks_from}
use Rattle.cf_walk.specs.Progress.{HasRecord, IsRecordsOf}

skip : (before k : ℕ) (blocks : List Block) (bytes : List ℕ) → blocks_from before k blocks bytes ≡ blocks_from before zero blocks (drop k bytes)
unfolding blocks_from
skip before zero blocks bytes = refl
skip before (suc k) blocks [] = refl
skip before (suc k) blocks (b ∷ bytes) = skip before k blocks bytes

pub ends : (before : ℕ) (blocks : List Block) (bytes : List ℕ) → all_zeros bytes ≡ true → blocks_from before zero blocks bytes ≡ Ok blocks
unfolding blocks_from
ends before blocks [] z = refl
ends before blocks (b ∷ bytes) z =
    ap (λ (t : Bool). if t then Ok blocks else numbered (suc (before + length blocks)) (next_at blocks (b ∷ bytes)) >>= λ x. blocks_from before (length bytes - length x.1) x.0 bytes) z

-- a record's first byte is none of the zeros at the end
more_by : (before : ℕ) (blocks more : List Block) (a : ℕ) (tail front rest : List ℕ) → tail ≡ front ++ rest → all_zeros (a ∷ tail) ≡ false → next_at blocks (a ∷ tail) ≡ Ok (more, rest)
    → blocks_from before zero blocks (a ∷ tail) ≡ blocks_from before zero more rest
unfolding blocks_from
more_by before blocks more a tail front rest e z is =
    let size : length tail - length rest ≡ length front = omega (arith, ap length e, length-append front rest) in
    ap (λ (t : Bool). if t then Ok blocks else numbered (suc (before + length blocks)) (next_at blocks (a ∷ tail)) >>= λ x. blocks_from before (length tail - length x.1) x.0 tail) z
    ∙ ap (λ (r : Taken (List Block)). numbered (suc (before + length blocks)) r >>= λ x. blocks_from before (length tail - length x.1) x.0 tail) is
    ∙ skip before (length tail - length rest) more tail
    ∙ ap (λ (n : ℕ). blocks_from before zero more (drop n tail)) size
    ∙ ap (λ (l : List ℕ). blocks_from before zero more (drop (length front) l)) e
    ∙ ap (blocks_from before zero more) (drop_at front rest (length front) refl)

tail_is : (a : ℕ) (tail rest text : List ℕ) → a ∷ tail ≡ record_with text ++ rest → tail ≡ drop 1 (record_with text) ++ rest
tail_is a tail rest text e = ap (λ (l : List ℕ). drop 1 l) e

pub one_more : (before : ℕ) (blocks more : List Block) (bytes rest : List ℕ) → all_zeros bytes ≡ false → next_at blocks bytes ≡ Ok (more, rest) → HasRecord blocks more bytes rest
    → blocks_from before zero blocks bytes ≡ blocks_from before zero more rest
one_more before blocks more [] rest z is has = cc
one_more before blocks more (a ∷ tail) rest z is has =
    more_by before blocks more a tail (drop 1 (record_with has.is.text)) rest
    (tail_is a tail rest has.is.text (has.spelled ∙ ap (λ (l : List ℕ). l ++ rest) has.is.spelled)) z is

pub bad_here : (before : ℕ) (blocks : List Block) (bytes : List ℕ) (cause : RecordCause) → all_zeros bytes ≡ false → next_at blocks bytes ≡ Err cause
    → blocks_from before zero blocks bytes ≡ Err (record { number = suc (before + length blocks); cause = cause })
unfolding blocks_from
bad_here before blocks [] cause z is = cc
bad_here before blocks (a ∷ tail) cause z is =
    ap (λ (t : Bool). if t then Ok blocks else numbered (suc (before + length blocks)) (next_at blocks (a ∷ tail)) >>= λ x. blocks_from before (length tail - length x.1) x.0 tail) z
    ∙ ap (λ (r : Taken (List Block)). numbered (suc (before + length blocks)) r >>= λ x. blocks_from before (length tail - length x.1) x.0 tail) is

-- ---- the next record

pub no_block : (blocks : List Block) (bytes text rest : List ℕ) (cause : RecordCause) → record_at bytes ≡ Ok (text, rest) → in_block (stored_block_at text) ≡ Err cause → next_at blocks bytes ≡ Err cause
unfolding next_at
no_block blocks bytes text rest cause h e =
    ap (λ r. r >>= λ text. in_block (stored_block_at text.0) >>= λ b. put_on (cause_on blocks b) blocks b >>= λ more. Ok (more, text.1)) h
    ∙ ap (λ r. r >>= λ b. put_on (cause_on blocks b) blocks b >>= λ more. Ok (more, rest)) e

pub next_is : (blocks : List Block) (bytes text rest : List ℕ) (b : Block) → record_at bytes ≡ Ok (text, rest) → in_block (stored_block_at text) ≡ Ok b
    → next_at blocks bytes ≡ (put_on (cause_on blocks b) blocks b >>= λ more. Ok (more, rest))
unfolding next_at
next_is blocks bytes text rest b h e =
    ap (λ r. r >>= λ text. in_block (stored_block_at text.0) >>= λ b. put_on (cause_on blocks b) blocks b >>= λ more. Ok (more, text.1)) h
    ∙ ap (λ r. r >>= λ b. put_on (cause_on blocks b) blocks b >>= λ more. Ok (more, rest)) e

-- ---- the bytes so far

-- none were read yet
pub none_read : (bytes rest : List ℕ) (blocks : List Block) → rest ≡ bytes → blocks ≡ [] → HasRecords bytes blocks rest
none_read bytes rest blocks same none =
    subst (λ (l : List ℕ). HasRecords bytes blocks l) (sym same)
    (subst (λ (bs : List Block). HasRecords bytes bs bytes) (sym none) (record { records = []; each = tt; spelled = refl }))

-- all were read
pub all_read : (bytes rest : List ℕ) (blocks told : List Block) → HasRecords bytes blocks rest → told ≡ blocks → all_zeros rest ≡ true → IsRecordsOf bytes told
all_read bytes rest blocks told h same zeros = record { rest = rest; spelled = subst (λ (bs : List Block). HasRecords bytes bs rest) (sym same) h; zeros = zeros }

each_more : (records : List (List ℕ)) (blocks : List Block) (r : List ℕ) (b : Block) → AreRecords records blocks → IsRecordOf r b → AreRecords (records ++ r ∷ []) (blocks ++ b ∷ [])
each_more [] [] r b each is = (is, tt)
each_more [] (x ∷ xs) r b each is = absurd each
each_more (x ∷ xs) [] r b each is = absurd each
each_more (x ∷ xs) (c ∷ cs) r b each is = (each.0, each_more xs cs r b each.1 is)

joined_more : (records : List (List ℕ)) (r : List ℕ) → records_text (records ++ r ∷ []) ≡ records_text records ++ r
joined_more [] r = append-nil r
joined_more (x ∷ xs) r = ap (λ (l : List ℕ). x ++ l) (joined_more xs r) ∙ sym (append_assoc x (records_text xs) r)

pub spelled_more : (all bytes rest : List ℕ) (blocks more : List Block) → HasRecords all blocks bytes → HasRecord blocks more bytes rest → HasRecords all more rest
spelled_more all bytes rest blocks more so_far has = record {
  records = so_far.records ++ has.front ∷ [];
  each = subst (AreRecords (so_far.records ++ has.front ∷ [])) (sym has.added) (each_more so_far.records blocks has.front has.block so_far.each has.is);
  spelled =
      so_far.spelled
      ∙ ap (λ (l : List ℕ). records_text so_far.records ++ l) has.spelled
      ∙ sym (append_assoc (records_text so_far.records) has.front rest)
      ∙ ap (λ (l : List ℕ). l ++ rest) (sym (joined_more so_far.records has.front));
}

some_bytes : (text : List ℕ) → 0 < length (record_with text)
some_bytes text = omega arith

pub fewer : (blocks more : List Block) (bytes rest : List ℕ) → HasRecord blocks more bytes rest → length rest < length bytes
fewer blocks more bytes rest has = omega (arith, ap length has.spelled, length-append has.front rest, ap length has.is.spelled, some_bytes has.is.text)
