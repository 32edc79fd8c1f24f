-- What is read of the bytes that came is so whatever follows, but where they were cut off.
use Rattle.std.proofs.Common.{◌≡◌, ℕ, Bool, true, false, List, ◌++◌, length, nat_lt, Option, Some, None, Result, Ok, Err, refl, sym, ap, subst, arith, inl, inr, le-ltb, lt-ltb, length-append}
use Rattle.std.specs.Prelude.{if◌then◌else◌}
use Rattle.std.specs.Int.{w32}
use Rattle.std.specs.Str.{bytes_eq}
use Rattle.std.proofs.lemmas.Bool.{cases_lt}
use Rattle.cf_bytes.specs.declared.cut.CutFault.{CutFault}
use Rattle.cf_bytes.specs.Cut.{Read, bytes_at, number_at, ◌>>=◌}
use Rattle.cf_bytes.proofs.Stable.{IsStable, bytes_stable, number_stable}
use Rattle.cf_bytes.specs.Magic.{magic}
use Rattle.cf_block.specs.declared.tx.Block.{Block}
use Rattle.cf_block.specs.Stored.{stored_block_at}
use Rattle.cf_walk.specs.declared.cause.RecordCause.{RecordCause}
use Rattle.cf_walk.specs.declared.cause.RecordCause.TheVariants.{Cut, Magic, TooLong}
use Rattle.cf_walk.specs.declared.judge.Judge.{Judge}
use Rattle.cf_walk.specs.Records.{Taken, max_record, cut_off, is_magic, is_short, magic_at, length_at, head_at, text_at, record_at}
use Rattle.cf_walk.specs.Files.{in_block, block_here}
use Rattle.cf_walk.specs.Judging.{Firm, IsFirm, cause_by, block_unless, next_by}

field_case : {X : Type 0} (bytes more : List ℕ) (r s : Read X CutFault) → ((x : X × List ℕ) → r ≡ Ok x → s ≡ Ok (x.0, x.1 ++ more)) → Firm (cut_off r) more (cut_off s)
field_case bytes more (Ok x) s h = ap cut_off (h x refl)
field_case bytes more (Err e) s h = λ never. absurd (never refl)

field_firm : {X : Type 0} (item : List ℕ → Read X CutFault) → IsStable item → IsFirm (λ bytes. cut_off (item bytes))
field_firm item stable bytes more = field_case bytes more (item bytes) (item (bytes ++ more)) (λ x e. stable bytes more x e)

bind_case : {X Y : Type 0} (next : X → List ℕ → Taken Y) → ((x : X) → IsFirm (next x)) → (more : List ℕ) (r s : Taken X) → Firm r more s → Firm (r >>= λ x. next x.0 x.1) more (s >>= λ x. next x.0 x.1)
bind_case {X} {Y} next rest more (Ok x) s h =
    let P : Taken X → Type 0 = λ t. Firm (next x.0 x.1) more (t >>= λ y. next y.0 y.1) in
    subst P (sym h) (rest x.0 x.1 more)
bind_case next rest more (Err c) s h = λ never. ap (λ t. t >>= λ y. next y.0 y.1) (h never)

bind_firm : {X Y : Type 0} (item : List ℕ → Taken X) (next : X → List ℕ → Taken Y) → IsFirm item → ((x : X) → IsFirm (next x)) → IsFirm (λ bytes. item bytes >>= λ x. next x.0 x.1)
bind_firm item next first rest bytes more = bind_case next rest more (item bytes) (item (bytes ++ more)) (first bytes more)

magic_case : (b : Bool) (m rest more : List ℕ) → Firm {X = List ℕ} (if b then Ok (m, rest) else Err Magic) more (if b then Ok (m, rest ++ more) else Err Magic)
magic_case true m rest more = refl
magic_case false m rest more = λ never. refl

short_case : (b : Bool) (n : ℕ) (rest more : List ℕ) → Firm {X = ℕ} (if b then Err TooLong else Ok (n, rest)) more (if b then Err TooLong else Ok (n, rest ++ more))
short_case true n rest more = λ never. refl
short_case false n rest more = refl

magic_firm : IsFirm magic_at
unfolding magic_at
magic_firm = bind_firm (λ bytes. cut_off (bytes_at 4 bytes)) (λ m rest. is_magic (m, rest)) (field_firm (bytes_at 4) (bytes_stable 4)) (λ m rest more. magic_case (bytes_eq m magic) m rest more)

length_firm : IsFirm length_at
unfolding length_at
length_firm = bind_firm (λ bytes. cut_off (number_at w32 bytes)) (λ n rest. is_short (n, rest)) (field_firm (number_at w32) (number_stable w32)) (λ n rest more. short_case (nat_lt max_record n) n rest more)

head_case : (bytes more : List ℕ) (a b : Bool) → nat_lt (length bytes) 8 ≡ a → nat_lt (length (bytes ++ more)) 8 ≡ b
    → Firm {X = ℕ} (if a then Err Cut else (magic_at bytes >>= λ m. length_at m.1)) more (if b then Err Cut else (magic_at (bytes ++ more) >>= λ m. length_at m.1))
head_case bytes more true b ea eb = λ never. absurd (never refl)
head_case bytes more false false ea eb = bind_firm magic_at (λ m rest. length_at rest) magic_firm (λ m. length_firm) bytes more
head_case bytes more false true ea eb = absurd (elim (cases_lt (length (bytes ++ more)) 8) [
  | inl few ↦ let short : nat_lt (length bytes) 8 ≡ true = lt-ltb (length bytes) 8 (omega (arith, few, length-append bytes more)) in cc
  | inr many ↦ let whole : nat_lt (length (bytes ++ more)) 8 ≡ false = le-ltb (length (bytes ++ more)) 8 many in cc
])

head_firm : IsFirm head_at
unfolding head_at
head_firm bytes more = head_case bytes more (nat_lt (length bytes) 8) (nat_lt (length (bytes ++ more)) 8) refl refl

pub record_firm : IsFirm record_at
unfolding record_at
record_firm = bind_firm head_at text_at head_firm (λ n. field_firm (bytes_at n) (bytes_stable n))

passed_firm : (o : Option RecordCause) (b : Block) → IsFirm (block_unless o b)
passed_firm None b rest more = refl
passed_firm (Some cause) b rest more = λ never. refl

block_firm : (cause : Block → Option RecordCause) (r : Result Block RecordCause) → IsFirm (λ rest. r >>= λ b. block_unless (cause b) b rest)
block_firm cause (Ok b) rest more = passed_firm (cause b) b rest more
block_firm cause (Err c) rest more = λ never. refl

-- the step of a walk over the bytes that came
pub next_firm : (j : Judge) → IsFirm (next_by j)
unfolding next_by
next_firm j =
    bind_firm record_at (λ text rest. in_block (stored_block_at text) >>= λ b. block_unless (cause_by j.tip.0 j.past j.height j.coins b) b rest) record_firm
    (λ text. block_firm (cause_by j.tip.0 j.past j.height j.coins) (in_block (stored_block_at text)))

-- the block of the record that stands first
pub here_firm : IsFirm block_here
unfolding block_here
here_firm =
    bind_firm {Y = Block} record_at (λ text rest. in_block (stored_block_at text) >>= λ b. Ok (b, rest)) record_firm
    (λ text. block_firm (λ b. None) (in_block (stored_block_at text)))
