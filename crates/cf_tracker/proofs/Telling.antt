-- The history that is written stands for its blocks.
use Rattle.std.proofs.Common.{◌≡◌, ℕ, suc, ◌+◌, ◌<◌, Bool, true, false, get_or, List, [], ◌∷◌, ◌++◌, length, reverse, Option, Some, None, refl, sym, ◌∙◌, ap, subst, arith}
use Rattle.std.proofs.Math.Logic.{∥∥₁_elim, ∥∥₁_map}
use Rattle.std.proofs.Props.{props}
use Rattle.std.specs.Prelude.{is_some, fold, unwrap_or, Result, Ok, Err, OnOk, OnErr, if◌then◌else◌}
use Rattle.std.proofs.lemmas.List.{reverse-append, reverse-reverse}
use Rattle.cf_bytes.specs.declared.hash.Hash32.{Hash32}
use Rattle.cf_bytes.specs.declared.memory.NoMemory.{NoMemory}
use Rattle.cf_block.specs.declared.header.Header.{Header}
use Rattle.cf_block.specs.Header.{block_hash_of}
use Rattle.cf_headers.specs.Chain.{Hash}
use Rattle.cf_headers.specs.Rules.{same}
use Rattle.cf_scan.specs.declared.book.Book.{Book}
use Rattle.cf_scan.specs.declared.extracts.Placed.{Placed}
use Rattle.cf_scan.specs.declared.extracts.TxExtract.{TxExtract}
use Rattle.cf_scan.specs.declared.history.Entry.{Entry}
use Rattle.cf_scan.specs.Book.{Stands}
use Rattle.cf_scan.specs.Extracts.{after_placed, history_of}
use Rattle.cf_scan.specs.Scan.{Scanned, unscanned}
use Rattle.cf_tracker.specs.declared.account.Account.{Account}
use Rattle.cf_tracker.specs.declared.account.Written.{Written}
use Rattle.cf_tracker.specs.Account.{IsAccountOf, IsBookOf}
use Rattle.cf_tables.specs.Extracts.{with_extract}
use Rattle.cf_tables.specs.Tables.{IsSameTable, placed_by, placed_one}
use Rattle.cf_tables.specs.Known.{ExtractTable}
use Rattle.cf_tracker.specs.Written.{IsWrittenAs, KeepsExtracts, extract_where, placed_written, written_as, written_at}

-- ---- extracts that are kept

pub keeps_self : (table : ExtractTable) → KeepsExtracts table table
keeps_self table hash e is = is

kept_if : (b : Bool) (o : Option (List TxExtract)) (x e : List TxExtract) → o ≡ Some e
    → (if b then Some (unwrap_or o x) else o) ≡ Some e
kept_if true o x e is = ap (λ (y : Option (List TxExtract)). Some (unwrap_or y x)) is
kept_if false o x e is = is

-- an extract is put where none stands, or there is no memory
pub keeps_put : (extracts more : ExtractTable) (at : Hash) (x : List TxExtract) (result : Result (Unit {0}) NoMemory)
    → OnOk result (IsSameTable more (with_extract at x extracts)) → OnErr result (IsSameTable more extracts)
    → KeepsExtracts extracts more
keeps_put extracts more at x (Ok u) ok err hash e is = ok hash ∙ kept_if (same at hash) (extracts hash) x e is
keeps_put extracts more at x (Err n) ok err hash e is = err hash ∙ is

-- an account stays one where no extract changes
pub account_later : (before after : ExtractTable) (a : Account) → KeepsExtracts before after → ∥ IsAccountOf before a ∥₁
    → ∥ IsAccountOf after a ∥₁
account_later before after a keeps t = ∥∥₁_map t (λ stands later more. stands later (λ hash e is. more hash e (keeps hash e is)))

-- ---- one block more

extract_next : (table later : ExtractTable) (hash : Hash) → KeepsExtracts table later
    → extract_where (is_some (table hash)) (later hash) ≡ unwrap_or (table hash) []
extract_next table later hash keeps = by (table hash) refl where
  by : (o : Option (List TxExtract)) → table hash ≡ o → extract_where (is_some o) (later hash) ≡ unwrap_or o []
  by None e = refl
  by (Some x) e = ap (extract_where true) (keeps hash x e)

abbrev placed_next : ExtractTable → ℕ → Written → Placed
placed_next table height w = record { height = height; extract = extract_where w.has_extract (table w.hash.0) }

placed_more : (table : ExtractTable) (height : ℕ) (ws : List Written) (w : Written)
    → placed_written table height (ws ++ w ∷ []) ≡ placed_written table height ws ++ placed_next table (height + length ws) w ∷ []
placed_more table height [] w = (let n : height ≡ height + 0 = omega arith in ap (λ (k : ℕ). placed_next table k w ∷ []) n)
placed_more table height (x ∷ ws) w =
    let n : suc height + length ws ≡ height + suc (length ws) = omega arith in
    ap (λ (l : List Placed). placed_next table height x ∷ l) (placed_more table (suc height) ws w ∙ ap (λ (k : ℕ). placed_written table (suc height) ws ++ placed_next table k w ∷ []) n)

newest : (table : ExtractTable) (ws : List Written) (w : Written)
    → reverse (placed_written table 1 (ws ++ w ∷ [])) ≡ placed_next table (1 + length ws) w ∷ reverse (placed_written table 1 ws)
newest table ws w = ap reverse (placed_more table 1 ws w) ∙ reverse-append (placed_written table 1 ws) (placed_next table (1 + length ws) w ∷ [])

-- what is written of a block
pub written_is : (table : ExtractTable) (hash : Hash32) (kept : Bool) (ws now : List Written) → kept ≡ is_some (table hash.0)
    → now ≡ ws ++ record { hash = hash; has_extract = kept } ∷ [] → now ≡ ws ++ written_as table hash.0 ∷ []
written_is table hash kept ws now has is = is ∙ ap (λ (b : Bool). ws ++ block b ∷ []) has where
  block : Bool → Written
  block b = record { hash = hash; has_extract = b }

-- a block is written
pub book_more : (table : ExtractTable) (before after : Book) (ws now : List Written) (height : ℕ) (hash : Hash)
    → height ≡ length ws + 1 → now ≡ ws ++ written_as table hash ∷ []
    → ((blocks : List Placed) → Stands before blocks
    → Stands after (record { height = height; extract = unwrap_or (table hash) [] } ∷ blocks))
    → IsBookOf table before ws → IsBookOf table after now
book_more table before after ws now height hash high is pushed was later keeps =
    let n : height ≡ 1 + length ws = omega (arith, high) in
    let w = written_as table hash in
    let block : ◌≡◌ {A = Placed} (record { height = height; extract = unwrap_or (table hash) [] }) (placed_next later (1 + length ws) w) =
    λ i. record { height = n i; extract = sym (extract_next table later hash keeps) i } in
    subst (λ (xs : List Written). Stands after (reverse (placed_written later 1 xs))) (sym is)
    (subst (Stands after) (sym (newest later ws w))
    (subst (λ (b : Placed). Stands after (b ∷ reverse (placed_written later 1 ws))) block
    (pushed (reverse (placed_written later 1 ws)) (was later keeps))))

-- a block is taken away
pub book_less : (table : ExtractTable) (before after : Book) (ws now : List Written) (w : Written) → ws ≡ now ++ w ∷ []
    → ((block : Placed) (blocks : List Placed) → Stands before (block ∷ blocks) → Stands after blocks)
    → IsBookOf table before ws → IsBookOf table after now
book_less table before after ws now w is popped was later keeps =
    popped (placed_next later (1 + length now) w) (reverse (placed_written later 1 now))
    (subst (Stands before) (newest later now w)
    (subst (λ (xs : List Written). Stands before (reverse (placed_written later 1 xs))) is (was later keeps)))

-- ---- what the history says

-- an empty extract tells nothing
tells_nothing : (s : Scanned) (height : ℕ) → after_placed s (record { height = height; extract = [] }) ≡ s
unfolding after_placed
tells_nothing s height = refl

-- a block that has its extract exactly where there is one
extract_one : (table : ExtractTable) (hash : Hash) (w : Written) (height : ℕ) (s : Scanned) (xs ys : List Placed)
    → IsWrittenAs table hash w
    → ((n : Scanned) → fold after_placed n xs ≡ fold after_placed n ys) → (o : Option (List TxExtract)) → table hash ≡ o
    → fold after_placed s (placed_next table height w ∷ xs) ≡ fold after_placed s (placed_one height o ++ ys)
extract_one table hash w height s xs ys here later None e =
    let none : extract_where w.has_extract (table w.hash.0) ≡ [] = ap (λ (b : Bool). extract_where b (table w.hash.0)) (here.has_extract ∙ ap is_some e) in
    ap (λ (x : List TxExtract). fold after_placed (after_placed s (record { height = height; extract = x })) xs) none
    ∙ ap (λ (n : Scanned). fold after_placed n xs) (tells_nothing s height)
    ∙ later s
extract_one table hash w height s xs ys here later (Some x) e =
    let some : extract_where w.has_extract (table w.hash.0) ≡ x = ap (λ (b : Bool). extract_where b (table w.hash.0)) (here.has_extract ∙ ap is_some e) ∙ ap (λ (g : Hash). unwrap_or (table g) []) here.is
    ∙ ap (λ (o : Option (List TxExtract)). unwrap_or o []) e in
    ap (λ (y : List TxExtract). fold after_placed (after_placed s (record { height = height; extract = y })) xs) some
    ∙ later (after_placed s (record { height = height; extract = x }))

extracts_along : (table : ExtractTable) (headers : List Header) (ws : List Written) (height : ℕ) (s : Scanned)
    → length ws ≡ length headers
    → ((k : ℕ) (d : Header) → k < length headers → IsWrittenAs table (block_hash_of (get_or headers k d)) (written_at ws k))
    → fold after_placed s (placed_written table height ws) ≡ fold after_placed s (placed_by table height headers)
extracts_along table [] [] height s long each = refl
extracts_along table [] (w ∷ ws) height s long each = absurd (omega (arith, long))
extracts_along table (h ∷ headers) [] height s long each = absurd (omega (arith, long))
extracts_along table (h ∷ headers) (w ∷ ws) height s long each =
    extract_one table (block_hash_of h) w height s (placed_written table (suc height) ws) (placed_by table (suc height) headers) (each 0 h (omega arith))
    (λ n. extracts_along table headers ws (suc height) n (omega (arith, long)) (λ k d lt. each (suc k) d (omega (arith, lt)))) (table (block_hash_of h)) refl

pub history_along : (table : ExtractTable) (headers : List Header) (ws : List Written) → length ws ≡ length headers
    → ((k : ℕ) (d : Header) → k < length headers → IsWrittenAs table (block_hash_of (get_or headers k d)) (written_at ws k))
    → history_of (placed_written table 1 ws) ≡ history_of (placed_by table 1 headers)
history_along table headers ws long each = ap (λ (n : Scanned). n.entries) (extracts_along table headers ws 1 unscanned long each)

entries_prop : (a b : List Entry) → IsProp (a ≡ b)
entries_prop a b = hlevel props

-- the book's history
pub history_by : (table : ExtractTable) (a : Account) (entries : List Entry)
    → ((blocks : List Placed) → Stands a.book blocks → entries ≡ history_of (reverse blocks)) → IsAccountOf table a
    → entries ≡ history_of (placed_written table 1 a.written.items)
history_by table a entries tells is =
    tells (reverse (placed_written table 1 a.written.items)) (is table (keeps_self table)) ∙ ap history_of (reverse-reverse (placed_written table 1 a.written.items))

-- the same where it is known only that there is such a book
pub history_opened : (table : ExtractTable) (a : Account) (entries : List Entry)
    → (IsAccountOf table a → entries ≡ history_of (placed_written table 1 a.written.items)) → ∥ IsAccountOf table a ∥₁
    → entries ≡ history_of (placed_written table 1 a.written.items)
history_opened table a entries is t = ∥∥₁_elim t (entries_prop entries (history_of (placed_written table 1 a.written.items))) is

-- the book stands for what is written
pub stands_now : (table : ExtractTable) (a : Account) → ∥ IsAccountOf table a ∥₁
    → ∥ Stands a.book (reverse (placed_written table 1 a.written.items)) ∥₁
stands_now table a t = ∥∥₁_map t (λ is. is table (keeps_self table))
