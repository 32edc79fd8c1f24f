-- Counts of a log by the lines of its trace.
use Rattle.std.proofs.Common.{◌≡◌, ℕ, ◌+◌, Bool, cond, List, [], ◌∷◌, reverse, Some, refl, sym, ◌∙◌, ap, arith}
use Rattle.std.specs.List.{count_by}
use Rattle.std.specs.Str.{bytes_eq}
use Rattle.std.proofs.lemmas.List.{reverse-append}
use Rattle.std.proofs.lemmas.List.Recursion.{is_count_by}
use Rattle.std.proofs.lemmas.List.Sums.{sum_by-cons, sum_by_push}
use Rattle.cf_msg.specs.Command.{getdata_command}
use Rattle.cf_msg.specs.Message.{command_of}
use Rattle.cf_msg.specs.declared.msg.Msg.{Msg}
use Rattle.cf_msg.specs.declared.msg.Msg.TheVariants.{Version, Verack, Ping, Pong, GetHeaders, Headers, GetData, Inv, Block, GetCfilters, Cfilter, GetCfheaders, Cfheaders, GetCfcheckpt, Cfcheckpt, Other}
use Rattle.cf_wires.specs.declared.event.Event.TheVariants.{Dialled, NotDialled, Sent, SendFailed, Closed, Took}
use Rattle.cf_peer.specs.Asking.{MayAsk}
use Rattle.cf_wires.specs.Log.{Log}
use Rattle.cf_peer.specs.Trail.{Trail, trail, spelled}
use Rattle.cf_run.specs.Run.{IsTraceOf}
use Rattle.cf_run.specs.declared.trace.TraceLine.{TraceLine}
use Rattle.cf_run.specs.declared.trace.TraceLine.TheVariants.{Sent as SentLine, Closed as ClosedLine}
use Rattle.cf_sync.specs.Fetching.{Rightly}
use Rattle.cf_demo.specs.Demo.{is_getdata, is_fetch, is_close, is_fetch_line, is_close_line}

-- ---- counts by recursion

abbrev how_many : {X : Type 0} → (X → Bool) → List X → ℕ
how_many p [] = 0
how_many p (x ∷ xs) = cond (p x) (1 + how_many p xs) (how_many p xs)

how_many_is : {X : Type 0} (p : X → Bool) (xs : List X) → how_many p xs ≡ count_by p xs
how_many_is p xs = is_count_by (how_many p) p refl (λ _ _. refl) xs

count_reverse : {X : Type 0} (p : X → Bool) (xs : List X) → count_by p (reverse xs) ≡ count_by p xs
count_reverse p [] = refl
count_reverse p (x ∷ xs) =
    let first = sum_by-cons (λ y. cond (p y) 1 0) x xs in
    let last = sum_by_push (λ y. cond (p y) 1 0) (reverse xs) x in
    ap (count_by p) (reverse-append (x ∷ []) xs) ∙ omega (arith, first, last, count_reverse p xs)

one_more : (x y : Bool) (a b : ℕ) → x ≡ y → a ≡ b → cond x (1 + a) a ≡ cond y (1 + b) b
one_more x y a b is same = ap (λ (t : Bool). cond t (1 + a) a) is ∙ ap (λ (n : ℕ). cond y (1 + n) n) same

-- ---- a message that may be sent asks for blocks exactly where its command says so

asks : (t : Trail) (m : Msg) → MayAsk t m → bytes_eq (command_of m) getdata_command ≡ is_getdata (Some m)
asks t (Version version services time to from nonce agent height relay) may = refl
asks t Verack may = refl
asks t (Ping n) may = refl
asks t (Pong n) may = refl
asks t (GetHeaders version locator stop) may = refl
asks t (Headers hs) may = refl
asks t (GetData entries) may = refl
asks t (Inv entries) may = refl
asks t (Block b) may = refl
asks t (GetCfilters filter start stop) may = refl
asks t (Cfilter filter block bytes) may = refl
asks t (GetCfheaders filter start stop) may = refl
asks t (Cfheaders filter stop previous hashes) may = refl
asks t (GetCfcheckpt filter stop) may = refl
asks t (Cfcheckpt filter stop headers) may = refl
asks t (Other command payload) may = absurd may

same_fetches : (log : Log) (lines : List TraceLine) → Rightly log → IsTraceOf log lines → how_many is_fetch_line lines ≡ how_many is_fetch log
same_fetches [] [] right traced = refl
same_fetches [] (line ∷ lines) right traced = absurd traced
same_fetches (Sent p bytes ∷ log) [] right traced = absurd traced
same_fetches (Sent p bytes ∷ log) (SentLine q command ∷ lines) right traced =
    let m : Msg = right.0.0 in
    let both : Some traced.0.1.0 ≡ Some m = sym traced.0.1.1 ∙ right.0.1 in
    let same : traced.0.1.0 ≡ m = cc in
    let told : bytes_eq command getdata_command ≡ is_getdata (spelled bytes) =
    ap (λ (c : List ℕ). bytes_eq c getdata_command) (traced.0.1.2 ∙ ap command_of same) ∙ asks (trail log p.0) m right.0.2.of_its_part ∙ ap is_getdata (sym right.0.1) in
    one_more (bytes_eq command getdata_command) (is_getdata (spelled bytes)) (how_many is_fetch_line lines) (how_many is_fetch log) told (same_fetches log lines right.1 traced.1)
same_fetches (Sent p bytes ∷ log) (ClosedLine q cause ∷ lines) right traced = absurd traced.0
same_fetches (Closed p ∷ log) [] right traced = absurd traced
same_fetches (Closed p ∷ log) (SentLine q command ∷ lines) right traced = absurd traced.0
same_fetches (Closed p ∷ log) (ClosedLine q cause ∷ lines) right traced = same_fetches log lines right.1 traced.1
same_fetches (Dialled p name ∷ log) lines right traced = same_fetches log lines right traced
same_fetches (NotDialled p name ∷ log) lines right traced = same_fetches log lines right traced
same_fetches (SendFailed p ∷ log) lines right traced = same_fetches log lines right traced
same_fetches (Took d ∷ log) lines right traced = same_fetches log lines right.1 traced

same_closes : (log : Log) (lines : List TraceLine) → IsTraceOf log lines → how_many is_close_line lines ≡ how_many is_close log
same_closes [] [] traced = refl
same_closes [] (line ∷ lines) traced = absurd traced
same_closes (Sent p bytes ∷ log) [] traced = absurd traced
same_closes (Sent p bytes ∷ log) (SentLine q command ∷ lines) traced = same_closes log lines traced.1
same_closes (Sent p bytes ∷ log) (ClosedLine q cause ∷ lines) traced = absurd traced.0
same_closes (Closed p ∷ log) [] traced = absurd traced
same_closes (Closed p ∷ log) (SentLine q command ∷ lines) traced = absurd traced.0
same_closes (Closed p ∷ log) (ClosedLine q cause ∷ lines) traced = ap (λ (n : ℕ). 1 + n) (same_closes log lines traced.1)
same_closes (Dialled p name ∷ log) lines traced = same_closes log lines traced
same_closes (NotDialled p name ∷ log) lines traced = same_closes log lines traced
same_closes (SendFailed p ∷ log) lines traced = same_closes log lines traced
same_closes (Took d ∷ log) lines traced = same_closes log lines traced

pub fetches_are : (lines : List TraceLine) (log : Log) → Rightly log → IsTraceOf log (reverse lines) → count_by is_fetch_line lines ≡ count_by is_fetch log
fetches_are lines log right traced =
    sym (count_reverse is_fetch_line lines) ∙ sym (how_many_is is_fetch_line (reverse lines)) ∙ same_fetches log (reverse lines) right traced ∙ how_many_is is_fetch log

pub closes_are : (lines : List TraceLine) (log : Log) → IsTraceOf log (reverse lines) → count_by is_close_line lines ≡ count_by is_close log
closes_are lines log traced =
    sym (count_reverse is_close_line lines) ∙ sym (how_many_is is_close_line (reverse lines)) ∙ same_closes log (reverse lines) traced ∙ how_many_is is_close log
