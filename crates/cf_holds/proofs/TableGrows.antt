-- A table that holds what was fetched, with the extracts of more blocks.
use Rattle.std.proofs.Common.{◌≡◌, ◌⊎◌, inl, inr, ℕ, List, [], ◌∷◌, ◌++◌, Option, Some, None, false, ◌==◌, refl, sym, ◌∙◌, ap, subst}
use Rattle.std.specs.Prelude.{unwrap_or}
use Rattle.std.proofs.lemmas.Bool.{cases_Bool, eqb-true}
use Rattle.cf_bytes.specs.declared.peer.PeerNo.{PeerNo}
use Rattle.cf_block.specs.declared.tx.Block.{Block}
use Rattle.cf_block.specs.Header.{block_hash_of}
use Rattle.cf_headers.specs.Rules.{same}
use Rattle.cf_headers.specs.Chain.{Hash, IsIn}
use Rattle.cf_wires.specs.declared.event.Delivery.TheVariants.{Got}
use Rattle.cf_wires.specs.declared.event.Event.{Event}
use Rattle.cf_wires.specs.declared.event.Event.TheVariants.{Took}
use Rattle.cf_wires.specs.Log.{Log}
use Rattle.cf_peer.specs.Trail.{Part}
use Rattle.cf_peer.specs.Asking.{counted, fetched_blocks}
use Rattle.cf_scan.specs.declared.extracts.TxExtract.{TxExtract}
use Rattle.cf_scan.specs.Extract.{extract_of}
use Rattle.cf_tables.specs.Tables.{with_blocks, IsSameTable}
use Rattle.cf_tables.specs.Known.{ExtractTable}
use Rattle.cf_sync.specs.Fetching.{counted_part, IsFetched, IsNoPiece, IsSameFetched}
use Rattle.cf_holds.specs.Known.{HoldsFetched}
use Rattle.cf_sync.proofs.Listed.{in_left, in_right, in_either}
use Rattle.cf_sync.proofs.Chains.{cases_same}
use Rattle.cf_sync.proofs.SameFetched.{no_piece_brings, piece_of_another, same_fetched, same_fetched_back, same_fetched_hash}

-- the same was fetched
pub same_holds : (watch : List (List ℕ)) (a b : Log) (table : ExtractTable) → IsSameFetched a b → HoldsFetched watch a table → HoldsFetched watch b table
same_holds watch a b table same holds = record {
  sound = λ hash e is. let w = holds.sound hash e is in (w.0, same_fetched a b same w.0 w.1, w.2, w.3);
  complete = λ hash is got. holds.complete hash is (same_fetched_hash b a (same_fetched_back a b same) hash got);
}

-- an extract with its block, one of these
abbrev IsOfOne : List (List ℕ) → List Block → Hash → List TxExtract → Type 0
IsOfOne watch blocks hash e = (b : Block) × IsIn b blocks × (block_hash_of b.header ≡ hash) × (e ≡ extract_of b watch)

-- the first of two extracts is kept
kept_first : (o : Option (List TxExtract)) (x e : List TxExtract) → Some (unwrap_or o x) ≡ Some e → (x ≡ e) ⊎ (o ≡ Some e)
kept_first None x e is = inl (let y : x ≡ e = cc in y)
kept_first (Some y) x e is = inr is

or_later : (watch : List (List ℕ)) (b : Block) (blocks : List Block) (table : ExtractTable) (hash : Hash) (e : List TxExtract) → IsOfOne watch blocks hash e ⊎ (table hash ≡ Some e)
    → IsOfOne watch (b ∷ blocks) hash e ⊎ (table hash ≡ Some e)
or_later watch b blocks table hash e (inl w) = inl (w.0, inr w.1, w.2, w.3)
or_later watch b blocks table hash e (inr old) = inr old

found_in : (watch : List (List ℕ)) (blocks : List Block) (table : ExtractTable) (hash : Hash) (e : List TxExtract) → with_blocks watch blocks table hash ≡ Some e
    → IsOfOne watch blocks hash e ⊎ (table hash ≡ Some e)
found_in watch [] table hash e is = inr is
found_in watch (b ∷ blocks) table hash e is = elim (cases_same (block_hash_of b.header) hash) [
  | inl here ↦ (
      let x = rw here.1 at is in
      elim (kept_first (with_blocks watch blocks table hash) (extract_of b watch) e x) [
        | inl fresh ↦ inl (b, inl refl, here.0, sym fresh)
        | inr kept ↦ or_later watch b blocks table hash e (found_in watch blocks table hash e kept)
      ]
      )
  | inr off ↦ (let x = rw off.0 at is in or_later watch b blocks table hash e (found_in watch blocks table hash e x))
]

missing_in : (watch : List (List ℕ)) (blocks : List Block) (table : ExtractTable) (hash : Hash) → with_blocks watch blocks table hash ≡ None
    → (table hash ≡ None) × ((b : Block) → IsIn b blocks → block_hash_of b.header ≡ hash → ⊥)
missing_in watch [] table hash is = (is, λ b i e. i)
missing_in watch (c ∷ blocks) table hash is = elim (cases_same (block_hash_of c.header) hash) [
  | inl here ↦ (let x = rw here.1 at is in cc)
  | inr off ↦ (
      let x = rw off.0 at is in
      let w = missing_in watch blocks table hash x in
      (w.0, λ b i e. elim i [ inl one ↦ off.1 (sym (ap (λ (y : Block). block_hash_of y.header) one) ∙ e) | inr more ↦ w.1 b more e ])
      )
]

-- where a later log has these blocks more of one peer, and of the others the same, the table is to get their extracts
pub grown_holds : (watch : List (List ℕ)) (log later : Log) (p : ℕ) (news : List Block) (before after : ExtractTable) → fetched_blocks (counted_part later p) ≡ news ++ fetched_blocks (counted_part log p)
    → ((q : ℕ) → (p == q) ≡ false → fetched_blocks (counted_part later q) ≡ fetched_blocks (counted_part log q)) → IsSameTable after (with_blocks watch news before)
    → HoldsFetched watch log before → HoldsFetched watch later after
grown_holds watch log later p news before after brings others same holds = record {
  sound = λ hash e is. elim (found_in watch news before hash e (sym (same hash) ∙ is)) [
    | inl w ↦ (w.0, (p, subst (λ (bs : List Block). IsIn w.0 bs) (sym brings) (in_left w.0 news (fetched_blocks (counted_part log p)) w.1)), w.2, w.3)
    | inr old ↦ (let w = holds.sound hash e old in (w.0, stays w.0 w.1, w.2, w.3))
  ];
  complete = λ hash is got.
      let w = missing_in watch news before hash (sym (same hash) ∙ is) in
      elim (comes got.0 got.1) [
        | inl old ↦ holds.complete hash w.0 (got.0, old, got.2)
        | inr new ↦ w.1 got.0 new got.2
      ];
} where
  stays : (b : Block) → IsFetched log b → IsFetched later b
  stays b got = elim (cases_Bool (p == got.0)) [
    | inl is ↦ (
        let mine : IsIn b (fetched_blocks (counted_part log p)) = subst (λ (k : ℕ). IsIn b (fetched_blocks (counted_part log k))) (sym (eqb-true p got.0 is)) got.1 in
        (p, subst (λ (bs : List Block). IsIn b bs) (sym brings) (in_right b news (fetched_blocks (counted_part log p)) mine))
        )
    | inr off ↦ (got.0, subst (λ (bs : List Block). IsIn b bs) (sym (others got.0 off)) got.1)
  ]

  comes : (b : Block) → IsFetched later b → IsFetched log b ⊎ IsIn b news
  comes b got = elim (cases_Bool (p == got.0)) [
    | inl is ↦ (
        let mine : IsIn b (fetched_blocks (counted_part later p)) = subst (λ (k : ℕ). IsIn b (fetched_blocks (counted_part later k))) (sym (eqb-true p got.0 is)) got.1 in
        elim (in_either b news (fetched_blocks (counted_part log p)) (subst (λ (bs : List Block). IsIn b bs) brings mine)) [ inl new ↦ inr new | inr old ↦ inl (p, old) ]
        )
    | inr off ↦ inl (got.0, subst (λ (bs : List Block). IsIn b bs) (others got.0 off) got.1)
  ]

-- an entry that is no piece
pub holds_without : (watch : List (List ℕ)) (e : Event) (log : Log) (table : ExtractTable) → IsNoPiece e → HoldsFetched watch log table → HoldsFetched watch (e ∷ log) table
holds_without watch e log table none holds = same_holds watch log (e ∷ log) table (same_fetched_back (e ∷ log) log (no_piece_brings e log none)) holds

-- a piece
pub holds_after_piece : (watch : List (List ℕ)) (p : PeerNo) (piece : List ℕ) (log : Log) (news : List Block) (before after : ExtractTable)
    → fetched_blocks (counted_part (Took (Got p piece) ∷ log) p.0) ≡ news ++ fetched_blocks (counted_part log p.0) → IsSameTable after (with_blocks watch news before)
    → HoldsFetched watch log before → HoldsFetched watch (Took (Got p piece) ∷ log) after
holds_after_piece watch p piece log news before after brings same holds =
    grown_holds watch log (Took (Got p piece) ∷ log) p.0 news before after brings
    (λ q off. ap (λ (part : Part). fetched_blocks (counted part.trail)) (piece_of_another p piece log q off)) same holds
