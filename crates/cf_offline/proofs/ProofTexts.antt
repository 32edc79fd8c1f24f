-- What `prove` writes of a good chain is read again, and passes.
use Rattle.std.proofs.Common.{◌≡◌, ℕ, zero, suc, ◌-◌, ◌<◌, ◌≤◌, ◌==◌, Bool, true, false, not, List, [], ◌∷◌, ◌++◌, length, get_or, refl, sym, ◌∙◌, ap, subst, arith, Option, Some, None}
use Rattle.std.specs.Prelude.{codes, if◌then◌else◌, Ok, Err, IfSome}
use Rattle.std.specs.FinMap as finite
use Rattle.std.specs.Result.{result_ok}
use Rattle.std.specs.List.{flat_map, list_all, AllByRecursion}
use Rattle.std.proofs.lemmas.Bool.{and_parts, eqb-true, le-ltb}
use Rattle.std.proofs.lemmas.List.{append_assoc, append-nil, length-append}
use Rattle.std.proofs.lemmas.List.Sums.{list_all-from_AllPass}
use Rattle.std.proofs.Math.Seq.{get_or-append_seam}
use Rattle.hex.specs.Hex.{encode_lower, lower_digits, is_hex_digit, IsBytes}
use Rattle.hex.proofs.HexLemmas.{length-encode_with, decode_of-encode_lower, decode_of-ok}
use Rattle.cf_bytes.specs.Files.{Named}
use Rattle.cf_block.specs.declared.header.Header.{Header}
use Rattle.cf_block.specs.declared.tx.Tx.{Tx}
use Rattle.cf_block.specs.declared.tx.Block.{Block}
use Rattle.cf_block.specs.Header.{header_spelling, block_hash_of}
use Rattle.cf_bytes.specs.Compact.{compact}
use Rattle.cf_block.specs.Reading.{tx_at}
use Rattle.cf_block.specs.Tx.{IsTx, IsBlock, tx_spelling, txid_of, block_spelling}
use Rattle.cf_block.proofs.Again.{tx_again}
use Rattle.cf_headers.specs.Chain.{Chain, past_of, fits}
use Rattle.cf_headers.specs.Rules.{same, is_worked, is_within_target, is_timely}
use Rattle.cf_chain.specs.Good.{IsGoodChain}
use Rattle.cf_proof.specs.Checks.{parts_fault}
use Rattle.cf_proof.specs.Made.{IsProofOf}
use Rattle.cf_proof.specs.Proof.{proof_at}
use Rattle.cf_proof.specs.declared.proof.Proof.{Proof}
use Rattle.cf_proof.proofs.Again.{made_passes, made_short}
use Rattle.cf_index.specs.Finding.{first_place, StandsAt}
use Rattle.cf_index.proofs.Finding.{block_txs_few}
use Rattle.cf_walk.proofs.Growing.{MayStand, part_stands}
use Rattle.cf_input.specs.Lines.{bytes_of_hex}
use Rattle.cf_input.specs.LineLaws.{IsLine}
use Rattle.cf_input.specs.ProofFile.{bytes_after, whole_tx, as_tx, tx_of, tx_in_line, worked, unless_fault, block_by, block_of, block_told, block_in_line, block_from, line_of, after_line, proven, proof_file_of}
use Rattle.cf_input.specs.declared.proof_file.ProofCause.TheVariants.{BadLine, Work}
use Rattle.cf_input.specs.declared.proof_file.Proven.{Proven}
use Rattle.cf_input.proofs.LineSteps.{before_true, before_false, after_true, after_false}
use Rattle.cf_answers.specs.declared.status.Status.{Status}
use Rattle.cf_answers.specs.declared.status.Status.TheVariants.{Done, NoMemory, Usage, BadFile, FileFault, OutFault, NoPeers, Tired, Ended, LinkFault, NoNonce, NoHeight, NotThere, NotInChain, NotAddress}
use Rattle.cf_offline.specs.Proving.{proof_text, IsTextAt, IsProofText, in_text, Checks, IsOfCheck, Takes, TakesAlone, TakesWhatIsProved}
use Rattle.cf_offline.specs.Reading.{IsOfScan}
use Rattle.cf_answers.specs.Writing.{named_line, IsWritten}
use Rattle.cf_loading.specs.Verdicts.{IsJudged, Good, proof_verdict}

-- ---- lines of hexadecimal digits

pub not_lf : (t : Bool) → (t ≡ true → ⊥) → not t ≡ true
not_lf true never = absurd (never refl)
not_lf false never = refl

pub isnt : (t : Bool) → not t ≡ true → t ≡ false
isnt true h = cc
isnt false h = refl

digit_line : (b : ℕ) → is_hex_digit b ≡ true → not (b == 10) ≡ true
digit_line b is = not_lf (b == 10) (λ e. absurd_digit (subst (λ n. is_hex_digit n ≡ true) (eqb-true b 10 e) is))
  where
    absurd_digit : is_hex_digit 10 ≡ true → ⊥
    absurd_digit h = cc

digits_line : (text : List ℕ) → list_all is_hex_digit text ≡ true → IsLine text
digits_line [] h = refl
digits_line (b ∷ text) h =
    let both = and_parts (is_hex_digit b) (list_all is_hex_digit text) h in
    rw (isnt (b == 10) (digit_line b both.0)) (digits_line text both.1)

pub hex_line : (bytes : List ℕ) → IsBytes bytes → IsLine (encode_lower bytes)
hex_line bytes are = digits_line (encode_lower bytes) (list_all-from_AllPass is_hex_digit (encode_lower bytes) (decode_of-ok (encode_lower bytes) bytes (decode_of-encode_lower bytes are)).1)

pub hex_read : (bytes : List ℕ) → IsBytes bytes → bytes_of_hex (encode_lower bytes) ≡ Some bytes
hex_read bytes are = ap result_ok (decode_of-encode_lower bytes are)

first_line : (line rest : List ℕ) → IsLine line → line_of (line ++ 10 ∷ rest) ≡ line
first_line [] rest h = before_true (λ b. b == 10) 10 rest refl
first_line (b ∷ line) rest h =
    let both = and_parts (not (b == 10)) (list_all (λ x. not (x == 10)) line) h in
    before_false (λ x. x == 10) b (line ++ 10 ∷ rest) (isnt (b == 10) both.0) ∙ ap (λ l. b ∷ l) (first_line line rest both.1)

later_lines : (line rest : List ℕ) → IsLine line → after_line (line ++ 10 ∷ rest) ≡ rest
later_lines [] rest h = after_true (λ b. b == 10) 10 rest refl
later_lines (b ∷ line) rest h =
    let both = and_parts (not (b == 10)) (list_all (λ x. not (x == 10)) line) h in
    after_false (λ x. x == 10) b (line ++ 10 ∷ rest) (isnt (b == 10) both.0) ∙ later_lines line rest both.1

-- ---- the two lines

tx_word : (hex rest : List ℕ) → named_line (codes "tx") hex ++ rest ≡ (codes "tx " ++ hex) ++ 10 ∷ rest
tx_word hex rest = ap (λ l. codes "tx " ++ l) (append_assoc hex (10 ∷ []) rest)

after_tx : (hex : List ℕ) → bytes_after (codes "tx ") (codes "tx " ++ hex) ≡ bytes_of_hex hex
after_tx hex = refl

after_proof : (hex : List ℕ) → bytes_after (codes "proof ") (codes "proof " ++ hex) ≡ bytes_of_hex hex
after_proof hex = refl

tx_again_line : (t : Tx) → IsTx t → IsBytes (tx_spelling t) → tx_in_line false (codes "tx " ++ encode_lower (tx_spelling t)) ≡ Ok t
tx_again_line t is are =
    let read : tx_at (tx_spelling t) ≡ Ok (t, []) = ap tx_at (sym (append-nil (tx_spelling t))) ∙ tx_again t [] is in
    ap (tx_of false) (after_tx (encode_lower (tx_spelling t)) ∙ hex_read (tx_spelling t) are) ∙ ap (λ r. as_tx (whole_tx r)) read

proof_again_line : (tx proof : List ℕ) → IsBytes proof → block_from tx (named_line (codes "proof") (encode_lower proof)) ≡ block_of tx proof
proof_again_line tx proof are =
    let plain : IsLine (codes "proof " ++ encode_lower proof) = hex_line proof are in
    let one : line_of (named_line (codes "proof") (encode_lower proof)) ≡ codes "proof " ++ encode_lower proof = first_line (codes "proof " ++ encode_lower proof) [] plain in
    let end : after_line (named_line (codes "proof") (encode_lower proof)) ≡ [] = later_lines (codes "proof " ++ encode_lower proof) [] plain in
    ap (λ (l : List ℕ). if length l == 0 then block_in_line tx (line_of (named_line (codes "proof") (encode_lower proof))) else Err BadLine) end
    ∙ ap (block_in_line tx) one ∙ ap (block_told tx) (after_proof (encode_lower proof) ∙ hex_read proof are)

-- ---- the proof of a block's transaction

passes : (b : Block) (place : ℕ) (t : Tx) (proof : List ℕ) (at : IsProofOf b place proof) → (p : Proof) → proof_at proof ≡ Ok p → parts_fault p (tx_spelling t) ≡ None → p.header ≡ b.header → is_within_target (block_hash_of b.header) ≡ true
    → block_of (tx_spelling t) proof ≡ Ok (record { 0 = block_hash_of b.header })
unfolding block_of
passes b place t proof at p read fine same within =
    ap (λ r. block_by r (tx_spelling t)) read ∙ ap (λ o. unless_fault o p) fine ∙ ap (λ h. worked (block_hash_of h)) same
    ∙ ap (λ x. if x then Ok (record { 0 = block_hash_of b.header }) else Err Work) within

tx_fits : (ts : List Tx) (i : ℕ) (t : Tx) → AllByRecursion IsTx ts → i < length ts → t ≡ get_or ts i t → IsTx t
tx_fits [] i t all lt is = absurd (omega arith)
tx_fits (x ∷ ts) zero t all lt is = subst IsTx (sym is) all.0
tx_fits (x ∷ ts) (suc i) t all lt is = tx_fits ts i t all.1 (omega arith) is

within_of : (h : Header) (chain : Chain) → fits h chain ≡ true → is_within_target (block_hash_of h) ≡ true
unfolding is_worked
within_of h chain fit = (and_parts (h.bits == 0x207fffff) (is_within_target (block_hash_of h)) (and_parts (is_worked h) (is_timely (past_of chain) h) (and_parts (same h.previous.0 _) _ fit).1).0).1

pub stands_good : (txid : List ℕ) (blocks : List Block) (height place : ℕ) → IsGoodChain blocks → (s : StandsAt txid blocks height place) → MayStand s.lower s.block
stands_good txid blocks height place good s = part_stands s.lower s.block s.higher (subst IsGoodChain s.chain good)

read_again : (b : Block) (place : ℕ) (text : List ℕ) → IsBlock b → (at : IsTextAt b place text) → place < length b.txs → is_within_target (block_hash_of b.header) ≡ true
    → (p : Proof) → proof_at at.proof ≡ Ok p → parts_fault p (tx_spelling at.tx) ≡ None → p.header ≡ b.header
    → proof_file_of false text ≡ Ok (proven at.tx (record { 0 = block_hash_of b.header }))
unfolding proof_file_of
read_again b place text is at there within p read fine same =
    let tx : List ℕ = tx_spelling at.tx in
    let rest : List ℕ = named_line (codes "proof") (encode_lower at.proof) in
    let split : text ≡ (codes "tx " ++ encode_lower tx) ++ 10 ∷ rest = at.spelled ∙ tx_word (encode_lower tx) rest in
    let plain : IsLine (codes "tx " ++ encode_lower tx) = hex_line tx at.tx_bytes in
    let one : line_of text ≡ codes "tx " ++ encode_lower tx = ap line_of split ∙ first_line (codes "tx " ++ encode_lower tx) rest plain in
    let more : after_line text ≡ rest = ap after_line split ∙ later_lines (codes "tx " ++ encode_lower tx) rest plain in
    let first : tx_in_line false (line_of text) ≡ Ok at.tx = ap (tx_in_line false) one ∙ tx_again_line at.tx (tx_fits b.txs place at.tx is.txs there at.tx_is) at.tx_bytes in
    let second : block_from tx (after_line text) ≡ Ok (record { 0 = block_hash_of b.header }) =
    ap (block_from tx) more ∙ proof_again_line tx at.proof at.proof_bytes ∙ passes b place at.tx at.proof at.made p read fine same within in
    rw (first, second) refl

-- ---- how long the text is

txs_long : (ts : List Tx) (i : ℕ) (t : Tx) → i < length ts → t ≡ get_or ts i t → length (tx_spelling t) ≤ length (flat_map tx_spelling ts)
txs_long [] i t lt is = absurd (omega arith)
txs_long (x ∷ ts) zero t lt is =
    let same : length (tx_spelling t) ≡ length (tx_spelling x) = ap (λ y. length (tx_spelling y)) is in
    omega (arith, same, length-append (tx_spelling x) (flat_map tx_spelling ts))
txs_long (x ∷ ts) (suc i) t lt is = omega (arith, txs_long ts i t (omega arith) is, length-append (tx_spelling x) (flat_map tx_spelling ts))

tx_short : (b : Block) (i : ℕ) (t : Tx) → IsBlock b → i < length b.txs → t ≡ get_or b.txs i t → length (tx_spelling t) ≤ 1000000
unfolding block_spelling
tx_short b i t is lt at =
    let z : List ℕ = flat_map tx_spelling b.txs in
    let short : length (block_spelling b) ≤ 1000000 = is.short in
    omega (arith, short, txs_long b.txs i t lt at, length-append (header_spelling b.header) (compact (length b.txs) ++ z), length-append (compact (length b.txs)) z)

text_short : (tx proof text : List ℕ) → text ≡ proof_text tx proof → length tx ≤ 1000000 → length proof ≤ 600000 → length text ≤ 4000000
text_short tx proof text is short few =
    let one : length (named_line (codes "tx") (encode_lower tx)) ≡ suc (suc (suc (length (encode_lower tx ++ 10 ∷ [])))) = refl in
    let two : length (named_line (codes "proof") (encode_lower proof)) ≡ suc (suc (suc (suc (suc (suc (length (encode_lower proof ++ 10 ∷ []))))))) = refl in
    let all : length text ≡ length (proof_text tx proof) = ap length is in
    omega (
      arith,
      all,
      one,
      two,
      length-append (named_line (codes "tx") (encode_lower tx)) (named_line (codes "proof") (encode_lower proof)),
      length-append (encode_lower tx) (10 ∷ []),
      length-append (encode_lower proof) (10 ∷ []),
      length-encode_with lower_digits tx,
      length-encode_with lower_digits proof,
    )

-- ---- together

abbrev as_proven : List ℕ → List ℕ → Proven
as_proven block txid = record { block = record { 0 = block }; txid = record { 0 = txid } }

-- what is written of a good chain is a good file of a proof
pub record IsGoodText (text : List ℕ) (p : Proven) : Type 0 where
  pub read : proof_file_of false text ≡ Ok p
  pub short : length text ≤ 4000000

pub good_text : (txid : List ℕ) (blocks : List Block) (text : List ℕ) → IsGoodChain blocks → (made : IsProofText txid blocks text)
    → IsGoodText text (record { block = record { 0 = block_hash_of made.stands.block.header }; txid = record { 0 = txid } })
good_text txid blocks text good made =
    let s = made.stands in
    let may = stands_good txid blocks made.height made.place good s in
    let b : Block = s.block in
    let at = made.lines in
    let is : IsBlock b = may.at.spelled in
    let few : length b.txs ≤ 16666 = block_txs_few b is in
    let within = within_of b.header _ may.fit in
    let pass = made_passes b made.place at.proof at.tx may.at.committed is.header few s.there at.tx_is at.made in
    let hash : txid_of at.tx ≡ txid = ap txid_of at.tx_is ∙ s.hash_is at.tx in
    record {
      read = read_again b made.place text is at s.there within pass.0 pass.1.read pass.1.fine pass.2 ∙ ap (λ (h : List ℕ). Ok (as_proven (block_hash_of b.header) h)) hash;
      short = text_short (tx_spelling at.tx) at.proof text at.spelled (tx_short b made.place at.tx is s.there at.tx_is) (made_short b made.place at.proof may.at.committed.some is.header few at.made);
    }

takes_by : (status : Status) (before after : Option (List ℕ)) (p : Proven) → IsJudged Good status → IsWritten status before after (in_text p) → Takes status before after (in_text p)
takes_by Done before after p judged written = written
takes_by NoMemory before after p judged written = written
takes_by Usage before after p judged written = written
takes_by (BadFile which place cause) before after p judged written = absurd judged
takes_by FileFault before after p judged written = written
takes_by OutFault before after p judged written = written
takes_by (NoPeers ends) before after p judged written = written
takes_by Tired before after p judged written = written
takes_by Ended before after p judged written = written
takes_by LinkFault before after p judged written = absurd written
takes_by (NoNonce height) before after p judged written = written
takes_by (NoHeight tip) before after p judged written = written
takes_by (NotThere txid) before after p judged written = written
takes_by (NotInChain block) before after p judged written = written
takes_by (NotAddress cause) before after p judged written = written

good_verdict : (bytes : List ℕ) (p : Proven) → IsGoodText bytes p → proof_verdict false (Some bytes) ≡ Good
good_verdict bytes p is = rw (le-ltb 4000000 (length bytes) is.short, is.read) refl

takes_bytes : (status : Status) (before after : Option (List ℕ)) (bytes : List ℕ) → IsJudged (proof_verdict false (Some bytes)) status → Checks status (proof_file_of false bytes) before after → TakesWhatIsProved status bytes before after
takes_bytes status before after bytes judged checks txid blocks good made =
    let is = good_text txid blocks bytes good made in
    let p : Proven = record { block = record { 0 = block_hash_of made.stands.block.header }; txid = record { 0 = txid } } in
    takes_by status before after p (subst (λ v. IsJudged v status) (good_verdict bytes p is) judged) (subst (λ r. Checks status r before after) is.read checks)

takes_under : (status : Status) (before after o : Option (List ℕ)) → IsJudged (proof_verdict false o) status → IfSome o (λ b. Checks status (proof_file_of false b) before after) → IfSome o (λ b. TakesWhatIsProved status b before after)
takes_under status before after None judged checks = tt
takes_under status before after (Some bytes) judged checks = takes_bytes status before after bytes judged checks

pub takes : (status : Status) (before after : Option (List ℕ)) (files : Option Named) (file : List ℕ) → IfSome files (λ m. IsJudged (proof_verdict false (finite.get m file)) status)
    → IfSome files (λ m. IfSome (finite.get m file) (λ b. Checks status (proof_file_of false b) before after)) → IfSome files (λ m. IfSome (finite.get m file) (λ b. TakesWhatIsProved status b before after))
takes status before after None file judged checks = tt
takes status before after (Some m) file judged checks = takes_under status before after (finite.get m file) judged checks

-- where no file of blocks is named, and the transaction has no witnesses
pub takes_alone : (witness : Bool) (status : Status) (before after : Option (List ℕ)) (files : Option Named) (file : List ℕ)
    → IfSome files (λ m. IsJudged (proof_verdict witness (finite.get m file)) status) → IfSome files (λ m. IfSome (finite.get m file) (λ b. Checks status (proof_file_of witness b) before after))
    → IfSome files (λ m. IfSome (finite.get m file) (λ b. TakesAlone status witness b None before after))
takes_alone false status before after files file judged checks = takes status before after files file judged checks
takes_alone true status before after None file judged checks = tt
takes_alone true status before after (Some m) file judged checks = nothing (finite.get m file) where
  nothing : (o : Option (List ℕ)) → IfSome o (λ b. TakesAlone status true b None before after)
  nothing None = tt
  nothing (Some b) = tt

-- with a file of blocks nothing more is asked
pub takes_in : (witness : Bool) (status : Status) (chain : List ℕ) (before after : Option (List ℕ)) (files : Option Named) (file : List ℕ)
    → IfSome files (λ m. IfSome (finite.get m file) (λ b. TakesAlone status witness b (Some chain) before after))
takes_in witness status chain before after None file = tt
takes_in witness status chain before after (Some m) file = nothing witness (finite.get m file) where
  nothing : (w : Bool) (o : Option (List ℕ)) → IfSome o (λ b. TakesAlone status w b (Some chain) before after)
  nothing w None = tt
  nothing false (Some b) = tt
  nothing true (Some b) = tt

-- the answers to the file of a proof are answers of `check`
pub scanned_checked : (status : Status) (before after : Option (List ℕ)) → IsOfScan status before after → IsOfCheck status before after
scanned_checked Done before after is = is
scanned_checked NoMemory before after is = is
scanned_checked Usage before after is = is
scanned_checked (BadFile which place cause) before after is = is
scanned_checked FileFault before after is = is
scanned_checked OutFault before after is = is
scanned_checked (NoPeers ends) before after is = is
scanned_checked Tired before after is = is
scanned_checked Ended before after is = is
scanned_checked LinkFault before after is = is
scanned_checked (NoNonce height) before after is = is
scanned_checked (NoHeight tip) before after is = is
scanned_checked (NotThere txid) before after is = is
scanned_checked (NotInChain block) before after is = absurd is
scanned_checked (NotAddress cause) before after is = is

-- ---- the block at a height

pub block_there : (txid : List ℕ) (blocks : List Block) (height place : ℕ) (d : Block) → (s : StandsAt txid blocks height place) → get_or blocks (length s.lower) d ≡ s.block
block_there txid blocks height place d s = ap (λ l. get_or l (length s.lower) d) s.chain ∙ get_or-append_seam s.lower s.block s.higher d

pub height_low : (txid : List ℕ) (blocks : List Block) (height place : ℕ) (s : StandsAt txid blocks height place) → (1 ≤ height) × (height ≤ length blocks)
height_low txid blocks height place s =
    let long : length blocks ≡ length (s.lower ++ s.block ∷ s.higher) = ap length s.chain in
    let is : height ≡ suc (length s.lower) = s.height_is in
    (omega arith, omega (arith, long, length-append s.lower (s.block ∷ s.higher)))

pub block_is : (txid : List ℕ) (blocks : List Block) (height place i : ℕ) (b : Block) → (s : StandsAt txid blocks height place) → i ≡ height - 1 → b ≡ get_or blocks i b → b ≡ s.block
block_is txid blocks height place i b s at is =
    let up : height ≡ suc (length s.lower) = s.height_is in
    let low : i ≡ length s.lower = omega arith in
    is ∙ ap (λ n. get_or blocks n b) low ∙ block_there txid blocks height place b s

pub few_there : (txid : List ℕ) (blocks : List Block) (height place i : ℕ) (b : Block) → IsGoodChain blocks → StandsAt txid blocks height place → i ≡ height - 1 → b ≡ get_or blocks i b → length b.txs ≤ 16666
few_there txid blocks height place i b good s at is =
    subst (λ x. length x.txs ≤ 16666) (sym (block_is txid blocks height place i b s at is)) (block_txs_few s.block (stands_good txid blocks height place good s).at.spelled)

pub text_told : (txid : List ℕ) (blocks : List Block) (height place i : ℕ) (b : Block) (text : List ℕ) → first_place txid blocks ≡ Some (height, place) → (s : StandsAt txid blocks height place) → i ≡ height - 1 → b ≡ get_or blocks i b → IsTextAt b place text
    → IsProofText txid blocks text
text_told txid blocks height place i b text first s at is lines = record {
  height = height;
  place = place;
  first = first;
  stands = s;
  lines = subst (λ x. IsTextAt x place text) (block_is txid blocks height place i b s at is) lines;
}
