-- At each moment at rest the last text is that of the plain scan of the chain that a growing peer told of last.
use Rattle.std.proofs.Common.{◌≡◌, ℕ, List, [], ◌∷◌, length, take, Bool, true, false, if◌then◌else◌, refl, sym, ◌∙◌, ap, subst}
use Rattle.std.specs.Prelude.{bytes_eq}
use Rattle.std.proofs.lemmas.Slice.Eq.{bytes_eq-Decides}
use Rattle.cf_bytes.specs.declared.hash.Hash32.{Hash32}
use Rattle.cf_block.specs.declared.tx.Block.{Block}
use Rattle.cf_chain.specs.Grow.{top_hash}
use Rattle.cf_headers.specs.Chain.{NoHashClash}
use Rattle.cf_wires.specs.Log.{Log}
use Rattle.cf_peer.specs.Trail.{trail}
use Rattle.cf_scan.specs.declared.history.Entry.{Entry}
use Rattle.cf_scan.specs.HistoryText.{history_text}
use Rattle.cf_scan.specs.Scan.{scan_of}
use Rattle.cf_sync.specs.Fetching.{IsConnected, IsQuiet}
use Rattle.cf_sync.specs.Growing.{IsGrowing, IsTold, OthersShowNone}
use Rattle.cf_sync.specs.Putting.{put, PutsAt, EndsWith}
use Rattle.cf_sync.specs.Sync.{IsHashed, IsHistoryOf}
use Rattle.cf_sync.proofs.Follows.{follow_theorem_of}

put_ends : (text : List ℕ) (texts : List (List ℕ)) → EndsWith text (put text texts)
put_ends text [] = ([], refl)
put_ends text (last ∷ more) = by_same (bytes_eq text last) refl where
  by_same : (b : Bool) → bytes_eq text last ≡ b → EndsWith text (if b then last ∷ more else text ∷ last ∷ more)
  by_same true is = (more, ap (λ (x : List ℕ). x ∷ more) (sym ((bytes_eq-Decides text last).0 is)))
  by_same false is = (last ∷ more, refl)

same_text : (watch : List (List ℕ)) (blocks : List Block) (height : ℕ) (hash : Hash32) (entries : List Entry)
    → IsHistoryOf watch blocks height hash entries
    → history_text entries height hash.0 ≡ history_text (scan_of blocks watch) (length blocks) (top_hash blocks)
same_text watch blocks height hash entries is =
    ap (λ (es : List Entry). history_text es height hash.0) is.history
    ∙ ap (λ (n : ℕ). history_text (scan_of blocks watch) n hash.0) is.height_is
    ∙ ap (λ (x : List ℕ). history_text (scan_of blocks watch) (length blocks) x) is.tip_is

pub last_text : (watch : List (List ℕ)) (log : Log) (before now : List (List ℕ)) → PutsAt watch log before now
    → (p : ℕ) (blocks : List Block) (first top : ℕ) → NoHashClash (IsHashed log blocks)
    → IsGrowing log p blocks first → IsTold blocks first (trail log p) top → OthersShowNone log p (take top blocks)
    → IsConnected log p → IsQuiet log
    → EndsWith (history_text (scan_of (take top blocks) watch) (length (take top blocks)) (top_hash (take top blocks)))
    now
last_text watch log before now puts p blocks first top clash peer told none on quiet =
    let w = puts.at_rest (record { quiet = quiet; who = p; there = on }) in
    let height = w.0 in
    let hash = w.1.0 in
    let entries = w.1.1.0 in
    let theorem = follow_theorem_of watch height hash entries log w.1.1.1.0 in
    let is = theorem.exact p blocks first top clash peer told none quiet in
    subst (λ (x : List ℕ). EndsWith x now) (same_text watch (take top blocks) height hash entries is)
    (subst (λ (xs : List (List ℕ)). EndsWith (history_text entries height hash.0) xs) (sym w.1.1.1.1)
    (put_ends (history_text entries height hash.0) before))
