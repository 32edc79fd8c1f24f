-- A record of a run reads as what passed.
use Rattle.std.proofs.Common.{◌≡◌, ℕ, ◌+◌, ◌<◌, ◌≤◌, ◌==◌, ◌^◌, Bool, true, false, not, List, [], ◌∷◌, ◌++◌, length, map, refl, sym, ◌∙◌, ap, subst, arith, Some, None}
use Rattle.std.specs.Prelude.{codes, if◌then◌else◌, nat_le, Option, Result, Ok, Err}
use Rattle.std.specs.Fmt.{decimal}
use Rattle.std.specs.List.{flat_map, list_all}
use Rattle.std.proofs.lemmas.Bool.{and_parts, and_from, eqb-true, le-leb, leb-true}
use Rattle.std.proofs.lemmas.List.{append_assoc, append-nil, length-append, map-append}
use Rattle.hex.specs.Hex.{encode_lower}
use Rattle.cf_bytes.specs.Cut.{◌>>=◌}
use Rattle.cf_bytes.specs.declared.peer.PeerNo.{PeerNo}
use Rattle.cf_wires.specs.declared.event.Delivery.{Delivery}
use Rattle.cf_wires.specs.declared.event.Delivery.TheVariants.{Got, Gone, Tick, Ended}
use Rattle.cf_wires.specs.declared.event.Dial.{Dial}
use Rattle.cf_wires.specs.declared.event.Event.TheVariants.{Dialled, NotDialled, Sent, SendFailed, Closed, Took}
use Rattle.cf_wires.specs.Log.{Log, dials}
use Rattle.cf_wires.specs.Session.{dial_word, dial_line, delivery_line, delivery_lines, gone_line, session_text}
use Rattle.cf_wires.specs.Wires.{WireScript}
use Rattle.cf_input.specs.Lines.{lines_of, read_lines, bytes_of_hex}
use Rattle.cf_input.specs.LineLaws.{IsLine, AreLines, ended}
use Rattle.cf_input.specs.Name.{is_name, is_printable}
use Rattle.cf_input.specs.Number.{is_digit, number_within}
use Rattle.cf_input.specs.SessionFile.{word_of, rest_of, dial_of, peer_of, known, got_bytes, got_of, ticked, delivery_of, with_line_by, at_place, line_after, lines_in, dialled, session_of}
use Rattle.cf_input.specs.declared.session.SessionCause.{SessionCause}
use Rattle.cf_input.specs.declared.session.SessionCause.TheVariants.{ManyDials, BadLine}
use Rattle.cf_input.specs.declared.session.SessionFault.{SessionFault}
use Rattle.cf_input.proofs.LineLawLemmas.{lines_again}
use Rattle.cf_input.proofs.LineSteps.{before_true, before_false, after_true, after_false}
use Rattle.cf_input.proofs.NumberLaws.{decimal_is_number}
use Rattle.cf_cli_laws.specs.Retelling.{told_deliveries, told_script, AreNames, IsOfSession, AreOfSession, IsRetold}
use Rattle.cf_offline.proofs.ProofTexts.{not_lf, isnt, hex_line, hex_read}

-- ---- the text as lines

abbrev dial_row : Dial → List ℕ
dial_row d = dial_word d.answered ++ d.name

abbrev row_of : Delivery → List ℕ
row_of (Got p piece) = codes "got " ++ (decimal p.0 ++ (32 ∷ encode_lower piece))
row_of (Gone p) = codes "gone " ++ decimal p.0
row_of (Tick s) = codes "tick " ++ decimal s
row_of Ended = []

dials_ended : (ds : List Dial) → flat_map dial_line ds ≡ ended (map dial_row ds)
dials_ended [] = refl
dials_ended (d ∷ ds) = ap (λ l. l ++ flat_map dial_line ds) (sym (append_assoc (dial_word d.answered) d.name (10 ∷ []))) ∙ ap (λ r. (dial_row d ++ 10 ∷ []) ++ r) (dials_ended ds)

ended_more : (xs : List (List ℕ)) (l : List ℕ) → ended (xs ++ l ∷ []) ≡ ended xs ++ (l ++ 10 ∷ [])
ended_more [] l = append-nil (l ++ 10 ∷ [])
ended_more (x ∷ xs) l = ap (λ r. (x ++ 10 ∷ []) ++ r) (ended_more xs l) ∙ sym (append_assoc (x ++ 10 ∷ []) (ended xs) (l ++ 10 ∷ []))

ended_append : (xs ys : List (List ℕ)) → ended (xs ++ ys) ≡ ended xs ++ ended ys
ended_append [] ys = refl
ended_append (x ∷ xs) ys = ap (λ r. (x ++ 10 ∷ []) ++ r) (ended_append xs ys) ∙ sym (append_assoc (x ++ 10 ∷ []) (ended xs) (ended ys))

rows_more : (ds : List Delivery) (d : Delivery) → ended (map row_of (ds ++ d ∷ [])) ≡ ended (map row_of ds) ++ (row_of d ++ 10 ∷ [])
rows_more ds d = ap ended (map-append row_of ds (d ∷ [])) ∙ ended_more (map row_of ds) (row_of d)

got_ended : (p : PeerNo) (piece : List ℕ) → delivery_line (Got p piece) ≡ row_of (Got p piece) ++ 10 ∷ []
got_ended p piece = ap (λ l. codes "got " ++ l) (sym (append_assoc (decimal p.0) (32 ∷ encode_lower piece) (10 ∷ [])))

one_more : (before line : List ℕ) (ds : List Delivery) (d : Delivery) → before ≡ ended (map row_of ds) → line ≡ row_of d ++ 10 ∷ [] → before ++ line ≡ ended (map row_of (ds ++ d ∷ []))
one_more before line ds d is same = ap (λ l. l ++ line) is ∙ ap (λ l. ended (map row_of ds) ++ l) same ∙ sym (rows_more ds d)

deliveries_ended : (log : Log) → delivery_lines log ≡ ended (map row_of (told_deliveries log))
deliveries_ended [] = refl
deliveries_ended (Took (Got p piece) ∷ log) = one_more (delivery_lines log) (delivery_line (Got p piece)) (told_deliveries log) (Got p piece) (deliveries_ended log) (got_ended p piece)
deliveries_ended (Took (Gone p) ∷ log) = one_more (delivery_lines log) (delivery_line (Gone p)) (told_deliveries log) (Gone p) (deliveries_ended log) refl
deliveries_ended (Took (Tick s) ∷ log) = one_more (delivery_lines log) (delivery_line (Tick s)) (told_deliveries log) (Tick s) (deliveries_ended log) refl
deliveries_ended (Took Ended ∷ log) = append-nil (delivery_lines log) ∙ deliveries_ended log
deliveries_ended (SendFailed p ∷ log) = one_more (delivery_lines log) (gone_line p.0) (told_deliveries log) (Gone p) (deliveries_ended log) refl
deliveries_ended (Dialled p name ∷ log) = append-nil (delivery_lines log) ∙ deliveries_ended log
deliveries_ended (NotDialled p name ∷ log) = append-nil (delivery_lines log) ∙ deliveries_ended log
deliveries_ended (Sent p bytes ∷ log) = append-nil (delivery_lines log) ∙ deliveries_ended log
deliveries_ended (Closed p ∷ log) = append-nil (delivery_lines log) ∙ deliveries_ended log

abbrev all_rows : Log → List (List ℕ)
all_rows log = map dial_row (dials log) ++ map row_of (told_deliveries log)

text_ended : (log : Log) → session_text log ≡ ended (all_rows log) ++ []
text_ended log =
    ap (λ l. l ++ delivery_lines log) (dials_ended (dials log)) ∙ ap (λ l. ended (map dial_row (dials log)) ++ l) (deliveries_ended log)
    ∙ sym (ended_append (map dial_row (dials log)) (map row_of (told_deliveries log))) ∙ sym (append-nil (ended (all_rows log)))

-- ---- no line has an LF

weaker : (p q : ℕ → Bool) → ((b : ℕ) → p b ≡ true → q b ≡ true) → (xs : List ℕ) → list_all p xs ≡ true → list_all q xs ≡ true
weaker p q each [] h = refl
weaker p q each (x ∷ xs) h = let both = and_parts (p x) (list_all p xs) h in and_from (q x) (list_all q xs) (each x both.0) (weaker p q each xs both.1)

no_digit : is_digit 10 ≡ true → ⊥
no_digit h = cc

digit_plain : (b : ℕ) → is_digit b ≡ true → not (b == 10) ≡ true
digit_plain b is = not_lf (b == 10) (λ e. no_digit (subst (λ n. is_digit n ≡ true) (eqb-true b 10 e) is))

no_letter : is_printable 10 ≡ true → ⊥
no_letter h = cc

letter_plain : (b : ℕ) → is_printable b ≡ true → not (b == 10) ≡ true
letter_plain b is = not_lf (b == 10) (λ e. no_letter (subst (λ n. is_printable n ≡ true) (eqb-true b 10 e) is))

no_space : is_digit 32 ≡ true → ⊥
no_space h = cc

digit_word : (b : ℕ) → is_digit b ≡ true → (b == 32) ≡ false
digit_word b is = isnt (b == 32) (not_lf (b == 32) (λ e. no_space (subst (λ n. is_digit n ≡ true) (eqb-true b 32 e) is)))

digits_of : (n : ℕ) → n < 2 ^ 64 → list_all is_digit (decimal n) ≡ true
digits_of n small = (and_parts (list_all is_digit (decimal n)) _ (decimal_is_number n small).0).0

decimal_line : (n : ℕ) → n < 2 ^ 64 → IsLine (decimal n)
decimal_line n small = weaker is_digit (λ b. not (b == 10)) digit_plain (decimal n) (digits_of n small)

line_append : (xs ys : List ℕ) → IsLine xs → IsLine ys → IsLine (xs ++ ys)
line_append [] ys h k = k
line_append (x ∷ xs) ys h k =
    let both = and_parts (not (x == 10)) (list_all (λ b. not (b == 10)) xs) h in
    and_from (not (x == 10)) (list_all (λ b. not (b == 10)) (xs ++ ys)) both.0 (line_append xs ys both.1 k)

name_line : (name : List ℕ) → is_name name ≡ true → IsLine name
name_line name is = weaker is_printable (λ b. not (b == 10)) letter_plain name (and_parts (list_all is_printable name) _ is).0

dial_plain : (answered : Bool) (name : List ℕ) → IsLine name → IsLine (dial_word answered ++ name)
dial_plain true name h = h
dial_plain false name h = h

dials_plain : (ds : List Dial) (rest : List (List ℕ)) → AreNames ds → AreLines rest → AreLines (map dial_row ds ++ rest)
dials_plain [] rest names more = more
dials_plain (d ∷ ds) rest names more = (dial_plain d.answered d.name (name_line d.name names.0), dials_plain ds rest names.1 more)

row_plain : (peers : ℕ) (d : Delivery) → peers ≤ 8 → IsOfSession peers d → IsLine (row_of d)
row_plain peers (Got p piece) few is = line_append (decimal p.0) (32 ∷ encode_lower piece) (decimal_line p.0 (omega (arith, few, is.1))) (hex_line piece is.3)
row_plain peers (Gone p) few is = decimal_line p.0 (omega (arith, few, is.1))
row_plain peers (Tick s) few is = decimal_line s (omega (arith, is.1))
row_plain peers Ended few is = absurd is

rows_plain : (peers : ℕ) (ds : List Delivery) → peers ≤ 8 → AreOfSession peers ds → AreLines (map row_of ds)
rows_plain peers [] few are = tt
rows_plain peers (d ∷ ds) few are = (row_plain peers d few are.0, rows_plain peers ds few are.1)

-- ---- one line

dial_again : (answered : Bool) (name : List ℕ) → is_name name ≡ true → dial_of (dial_word answered ++ name) ≡ Some (record { name = name; answered = answered })
dial_again true name h = ap (λ (t : Bool). if t then Some (record { name = name; answered = true }) else None) h
dial_again false name h = ap (λ (t : Bool). if t then Some (record { name = name; answered = false }) else None) h

no_dial : (d : Delivery) → (peers : ℕ) → IsOfSession peers d → dial_of (row_of d) ≡ None
no_dial (Got p piece) peers is = refl
no_dial (Gone p) peers is = refl
no_dial (Tick s) peers is = refl
no_dial Ended peers is = absurd is

number_again : (n most : ℕ) → n < 2 ^ 64 → 1 ≤ n → n ≤ most → number_within most (decimal n) ≡ Some n
number_again n most small one few = let is = decimal_is_number n small in rw (is.0, is.1, le-leb 1 n one, le-leb n most few) refl

peer_again : (peers : ℕ) (p : PeerNo) → peers ≤ 8 → 1 ≤ p.0 → p.0 ≤ peers → peer_of peers (decimal p.0) ≡ Ok p
peer_again peers p few one within =
    let small : p.0 < 2 ^ 64 = omega (arith, few, within) in
    ap (λ (t : Bool). if t then known (number_within peers (decimal p.0)) else Err BadLine) (decimal_is_number p.0 small).0 ∙ ap known (number_again p.0 peers small one within)

word_again : (xs rest : List ℕ) → list_all is_digit xs ≡ true → word_of (xs ++ 32 ∷ rest) ≡ xs
word_again [] rest h = before_true (λ b. b == 32) 32 rest refl
word_again (x ∷ xs) rest h =
    let both = and_parts (is_digit x) (list_all is_digit xs) h in
    before_false (λ b. b == 32) x (xs ++ 32 ∷ rest) (digit_word x both.0) ∙ ap (λ l. x ∷ l) (word_again xs rest both.1)

rest_again : (xs rest : List ℕ) → list_all is_digit xs ≡ true → rest_of (xs ++ 32 ∷ rest) ≡ rest
rest_again [] rest h = after_true (λ b. b == 32) 32 rest refl
rest_again (x ∷ xs) rest h =
    let both = and_parts (is_digit x) (list_all is_digit xs) h in
    after_false (λ b. b == 32) x (xs ++ 32 ∷ rest) (digit_word x both.0) ∙ rest_again xs rest both.1

got_again : (peers : ℕ) (p : PeerNo) (piece : List ℕ) → peers ≤ 8 → IsOfSession peers (Got p piece) → got_of peers (decimal p.0 ++ (32 ∷ encode_lower piece)) ≡ Ok (Got p piece)
got_again peers p [] few is = absurd (let some = is.2 in omega (arith, some))
got_again peers p (b ∷ piece) few is =
    let small : p.0 < 2 ^ 64 = omega (arith, few, is.1) in
    let hex = encode_lower (b ∷ piece) in
    let line = decimal p.0 ++ (32 ∷ hex) in
    ap (λ (w : List ℕ). got_bytes (peer_of peers w) (bytes_of_hex (rest_of line))) (word_again (decimal p.0) hex (digits_of p.0 small))
    ∙ ap (λ (r : List ℕ). got_bytes (peer_of peers (decimal p.0)) (bytes_of_hex r)) (rest_again (decimal p.0) hex (digits_of p.0 small))
    ∙ ap (λ (o : Option (List ℕ)). got_bytes (peer_of peers (decimal p.0)) o) (hex_read (b ∷ piece) is.3)
    ∙ ap (λ (r : Result PeerNo SessionCause). got_bytes r (Some (b ∷ piece))) (peer_again peers p few is.0 is.1)

delivery_again : (peers : ℕ) (d : Delivery) → peers ≤ 8 → IsOfSession peers d → delivery_of peers (row_of d) ≡ Ok d
delivery_again peers (Got p piece) few is = got_again peers p piece few is
delivery_again peers (Gone p) few is = ap (λ (r : Result PeerNo SessionCause). r >>= λ q. Ok (Gone q)) (peer_again peers p few is.0 is.1)
delivery_again peers (Tick s) few is = ap ticked (number_again s 86400 (omega (arith, is.1)) is.0 is.1)
delivery_again peers Ended few is = absurd is

-- ---- all lines

abbrev script : List Dial → List Delivery → WireScript
script ds es = record { dials = ds; deliveries = es }

read_on : (before after : WireScript) (line : List ℕ) (lines : List (List ℕ)) → line_after before line ≡ Ok after → read_lines line_after before (line ∷ lines) ≡ read_lines line_after after lines
unfolding read_lines
read_on before after line lines e = ap (λ (r : Result WireScript SessionFault). r >>= λ next. read_lines line_after next lines) e

isnt_full : (n : ℕ) → n < 8 → nat_le 8 n ≡ false
isnt_full n lt = by (nat_le 8 n) refl where
  by : (t : Bool) → nat_le 8 n ≡ t → nat_le 8 n ≡ false
  by true is = absurd (let le = leb-true 8 n is in omega (arith, le, lt))
  by false is = is

dial_step : (done : List Dial) (d : Dial) → length done < 8 → is_name d.name ≡ true → line_after (script done []) (dial_row d) ≡ Ok (script (done ++ d ∷ []) [])
dial_step done d room named =
    ap (λ (o : Option Dial). at_place (lines_in (script done []) + 1) (with_line_by (script done []) (dial_row d) o)) (dial_again d.answered d.name named)
    ∙ ap (λ (t : Bool). at_place (lines_in (script done []) + 1) (if t then Err ManyDials else Ok (script (done ++ d ∷ []) []))) (isnt_full (length done) room)

read_dials : (done ds : List Dial) (rest : List (List ℕ)) → length done + length ds ≤ 8 → AreNames ds
    → read_lines line_after (script done []) (map dial_row ds ++ rest) ≡ read_lines line_after (script (done ++ ds) []) rest
read_dials done [] rest few names = ap (λ (x : List Dial). read_lines line_after (script x []) rest) (sym (append-nil done))
read_dials done (d ∷ ds) rest few names =
    let longer : length (done ++ d ∷ []) ≡ length done + 1 = length-append done (d ∷ []) in
    read_on (script done []) (script (done ++ d ∷ []) []) (dial_row d) (map dial_row ds ++ rest) (dial_step done d (omega (arith, few)) names.0)
    ∙ read_dials (done ++ d ∷ []) ds rest (omega (arith, few, longer)) names.1 ∙ ap (λ (x : List Dial). read_lines line_after (script x []) rest) (append_assoc done (d ∷ []) ds)

delivery_step : (d : Dial) (ds : List Dial) (done : List Delivery) (e : Delivery) → length (d ∷ ds) ≤ 8 → IsOfSession (length (d ∷ ds)) e
    → line_after (script (d ∷ ds) done) (row_of e) ≡ Ok (script (d ∷ ds) (done ++ e ∷ []))
delivery_step d ds done e few is =
    let s = script (d ∷ ds) done in
    ap (λ (o : Option Dial). at_place (lines_in s + 1) (with_line_by s (row_of e) o)) (no_dial e (length (d ∷ ds)) is)
    ∙ ap (λ (r : Result Delivery SessionCause). at_place (lines_in s + 1) (r >>= λ x. Ok (script (d ∷ ds) (done ++ x ∷ [])))) (delivery_again (length (d ∷ ds)) e few is)

read_deliveries : (d : Dial) (ds : List Dial) (done more : List Delivery) → length (d ∷ ds) ≤ 8 → AreOfSession (length (d ∷ ds)) more
    → read_lines line_after (script (d ∷ ds) done) (map row_of more) ≡ Ok (script (d ∷ ds) (done ++ more))
unfolding read_lines
read_deliveries d ds done [] few are = none (script (d ∷ ds) done) ∙ ap (λ (x : List Delivery). Ok (script (d ∷ ds) x)) (sym (append-nil done)) where
  none : (s : WireScript) → read_lines line_after s [] ≡ Ok s
  none s = refl
read_deliveries d ds done (e ∷ more) few are =
    read_on (script (d ∷ ds) done) (script (d ∷ ds) (done ++ e ∷ [])) (row_of e) (map row_of more) (delivery_step d ds done e few are.0)
    ∙ read_deliveries d ds (done ++ e ∷ []) more few are.1 ∙ ap (λ (x : List Delivery). Ok (script (d ∷ ds) x)) (append_assoc done (e ∷ []) more)

read_all : (ds : List Dial) (es : List Delivery) → 0 < length ds → length ds ≤ 8 → AreNames ds → AreOfSession (length ds) es
    → (read_lines line_after (script [] []) (map dial_row ds ++ map row_of es) >>= dialled) ≡ Ok (script ds es)
read_all [] es some few names are = absurd (omega (arith, some))
read_all (d ∷ ds) es some few names are =
    ap (λ (r : Result WireScript SessionFault). r >>= dialled) (read_dials [] (d ∷ ds) (map row_of es) (omega (arith, few)) names ∙ read_deliveries d ds [] es few are)

pub retold : (log : Log) → IsRetold log → session_of (session_text log) ≡ Ok (told_script log)
retold log is =
    let rows = all_rows log in
    let plain : AreLines rows = dials_plain (dials log) (map row_of (told_deliveries log)) is.names (rows_plain (length (dials log)) (told_deliveries log) is.few is.delivered) in
    ap (λ (ls : List (List ℕ)). read_lines line_after (script [] []) ls >>= dialled) (ap lines_of (text_ended log) ∙ lines_again rows [] plain refl ∙ append-nil rows)
    ∙ read_all (dials log) (told_deliveries log) is.some is.few is.names is.delivered
