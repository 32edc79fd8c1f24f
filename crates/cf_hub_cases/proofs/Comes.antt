-- What comes over a hub whose outside tells all that it gives.
use Rattle.std.proofs.Common.{◌≡◌, ◌==◌, add-one, ◌+◌, inl, inr, ℕ, Bool, true, false, not, ◌||◌, true≢false, List, [], ◌∷◌, ◌++◌, Option, Some, None, All, map, length, sym, refl, ap, ◌∙◌, append_assoc, append-nil, slice_index_or, arith}
use Rattle.std.proofs.lemmas.Grind.{common_steps}
use Rattle.std.specs.List.{list_any}
use Rattle.std.specs.Option.{ForSome}
use Rattle.std.specs.List.{slice_get}
use Rattle.std.specs.Prelude.{slice_set, is_some}
use Rattle.cf_bytes.specs.Outside.{HasRisen, with_more}
use Rattle.cf_bytes.specs.Plan.{Calls, counted, is_refused}
use Rattle.cf_conn.specs.SliceSource.{Lent, given, after_read}
use Rattle.cf_tasks.specs.Queue.{IsStart}
use Rattle.cf_wires.specs.declared.event.Delivery.{Delivery}
use Rattle.cf_wires.specs.declared.event.Delivery.TheVariants as gives
use Rattle.cf_wires.specs.declared.event.Event.TheVariants.{Took, Sent}
use Rattle.cf_wires.specs.Log.{Log, Told, deliveries, with_delivery, tell, longer}
use Rattle.cf_hub.specs.Finish.{Read, Beat, whose, pulse_in}
use Rattle.cf_hub.specs.Gives.{piece_in, pieces_of, is_gone_of, has_gone, tick_in, ticks_of}
use Rattle.cf_hub.specs.Shown.{Shows, ShowsTicks}
use Rattle.cf_hub.specs.Threads.{Moves}
use Rattle.cf_hub.specs.Writers.{Adds, text_in, texts}
use Rattle.cf_bytes.specs.declared.peer.PeerNo.{PeerNo}
use Rattle.cf_hub_cases.specs.declared.outside.PlannedWriter.{PlannedWriter}
use Rattle.cf_hub_cases.specs.Telling.{up_to, Coming, HasText, Keeps}

-- no call is refused where none is to fail
not_refused : (c : Calls) → c.failing ≡ [] → is_refused c true ≡ false
not_refused c e = ap (λ l. not true || list_any (λ call. call == counted c.calls) l) e

pub no_plan_after : (s : Lent) (room : ℕ) → s.plan.failing ≡ [] → (after_read s room).plan.failing ≡ []
no_plan_after s room e = grind (arith, common_steps, not_refused s.plan e, e)

pub calm_after : (s : Lent) (room : ℕ) → s.plan.failing ≡ [] → s.plan.faults ≡ 0 → (after_read s room).plan.faults ≡ 0
calm_after s room e z = grind (arith, common_steps, not_refused s.plan e, z)

pub up_more : (n : ℕ) → up_to (n + 1) ≡ up_to n ++ (n + 1) ∷ []
up_more n = rw add-one refl

-- one delivery more
pieces_more : (p : ℕ) (ds : List Delivery) (d : Delivery) → pieces_of p (ds ++ d ∷ []) ≡ pieces_of p ds ++ piece_in p d
pieces_more p [] d = append-nil (piece_in p d)
pieces_more p (x ∷ ds) d = ap (λ l. piece_in p x ++ l) (pieces_more p ds d) ∙ sym (append_assoc (piece_in p x) (pieces_of p ds) (piece_in p d))

ticks_more : (ds : List Delivery) (d : Delivery) → ticks_of (ds ++ d ∷ []) ≡ ticks_of ds ++ tick_in d
ticks_more [] d = append-nil (tick_in d)
ticks_more (x ∷ ds) d = ap (λ l. tick_in x ++ l) (ticks_more ds d) ∙ sym (append_assoc (tick_in x) (ticks_of ds) (tick_in d))

or_assoc : (a b c : Bool) → a || (b || c) ≡ (a || b) || c
or_assoc true b c = refl
or_assoc false b c = refl

or_false : (a : Bool) → a || false ≡ a
or_false true = refl
or_false false = refl

gone_more : (p : ℕ) (ds : List Delivery) (d : Delivery) → has_gone p (ds ++ d ∷ []) ≡ has_gone p ds || is_gone_of p d
gone_more p [] d = or_false (is_gone_of p d)
gone_more p (x ∷ ds) d = ap (λ b. is_gone_of p x || b) (gone_more p ds d) ∙ or_assoc (is_gone_of p x) (has_gone p ds) (is_gone_of p d)

pieces_with : (d : Delivery) (ds : List Delivery) → pieces_of 1 (with_delivery d ds) ≡ pieces_of 1 ds ++ piece_in 1 d
pieces_with (gives.Got p b) ds = pieces_more 1 ds (gives.Got p b)
pieces_with (gives.Gone p) ds = pieces_more 1 ds (gives.Gone p)
pieces_with (gives.Tick s) ds = pieces_more 1 ds (gives.Tick s)
pieces_with gives.Ended ds = sym (append-nil (pieces_of 1 ds))

gone_with : (d : Delivery) (ds : List Delivery) → has_gone 1 (with_delivery d ds) ≡ has_gone 1 ds || is_gone_of 1 d
gone_with (gives.Got p b) ds = gone_more 1 ds (gives.Got p b)
gone_with (gives.Gone p) ds = gone_more 1 ds (gives.Gone p)
gone_with (gives.Tick s) ds = gone_more 1 ds (gives.Tick s)
gone_with gives.Ended ds = sym (or_false (has_gone 1 ds))

ticks_with : (d : Delivery) (ds : List Delivery) → ticks_of (with_delivery d ds) ≡ ticks_of ds ++ tick_in d
ticks_with (gives.Got p b) ds = ticks_more ds (gives.Got p b)
ticks_with (gives.Gone p) ds = ticks_more ds (gives.Gone p)
ticks_with (gives.Tick s) ds = ticks_more ds (gives.Tick s)
ticks_with gives.Ended ds = sym (append-nil (ticks_of ds))

-- what is kept goes on with each delivery that is put
pub keeps_more : (d : Delivery) (t t' : Told) (c c' : Coming) → t' ≡ tell (Took d) t → Keeps t c → c'.bytes ≡ c.bytes ++ piece_in 1 d → c'.gone ≡ c.gone || is_gone_of 1 d → c'.ticks ≡ c.ticks ++ tick_in d → Keeps t' c'
keeps_more d t t' c c' e k b g s = (
  Took d ∷ k.0,
  ap (λ (z : Told). z.log) e ∙ ap (longer (Took d)) k.1,
  (
    b ∙ ap (λ l. l ++ piece_in 1 d) k.2.0 ∙ sym (pieces_with d (deliveries k.0)),
    g ∙ ap (λ x. x || is_gone_of 1 d) k.2.1 ∙ sym (gone_with d (deliveries k.0)),
    s ∙ ap (λ l. l ++ tick_in d) k.2.2 ∙ sym (ticks_with d (deliveries k.0)),
  ),
)

-- what is sent is no delivery
pub keeps_sent : (p : PeerNo) (bytes : List ℕ) (t t' : Told) (c : Coming) → t' ≡ tell (Sent p bytes) t → Keeps t c → Keeps t' c
keeps_sent p bytes t t' c q k = (Sent p bytes ∷ k.0, ap (λ (z : Told). z.log) q ∙ ap (longer (Sent p bytes)) k.1, k.2)

abbrev written : PlannedWriter → Option (List ℕ)
written w = Some w.sink.bytes

abbrev lift : Option (Option PlannedWriter) → Option (Option (Option (List ℕ)))
lift None = None
lift (Some o) = Some (text_in written o)

abbrev inner_text : Option (Option (Option (List ℕ))) → List ℕ
inner_text (Some (Some (Some bytes))) = bytes
inner_text (Some (Some None)) = []
inner_text (Some None) = []
inner_text None = []

-- all that was sent is written behind nothing
pub text_more : (ws ws' : List (Option PlannedWriter)) (bytes : List ℕ) → Adds written (λ (w : PlannedWriter). w.shut) 1 bytes ws ws' → HasText ws [] → HasText ws' bytes
text_more ws ws' bytes a h = ap (λ xs. slice_get (texts written xs) 1) a.3 ∙ second ws a.0 a.1 a.2 h a.4
  where
    second : (ws : List (Option PlannedWriter)) (w w' : PlannedWriter) → slice_get ws 1 ≡ Some (Some w) → HasText ws [] → written w' ≡ with_more (written w) bytes → slice_get (texts written (slice_set ws 1 (Some w'))) 1 ≡ Some (Some (Some bytes))
    second [] w w' at h t = absurd (true≢false (ap is_some (sym at)))
    second (x ∷ []) w w' at h t = absurd (true≢false (ap is_some (sym at)))
    second (x ∷ y ∷ ws) w w' at h t = ap (λ (o : Option (List ℕ)). Some (Some o)) (t ∙ ap (λ (l : List ℕ). Some (l ++ bytes)) (ap inner_text (sym (ap lift at) ∙ h)))

-- the pulse that waited runs, where none waits any more
pub moved : {P : Type 0} (w w' r r' : Option P) (p : P) → Moves w w' r r' → w' ≡ None → w ≡ Some p → r' ≡ Some p
moved w w' r r' p (inl h) none some = cc
moved w w' r r' p (inr h) none some = h.3 ∙ sym h.1 ∙ some

-- one source under a number
abbrev lone : {S : Type 0} → S → ℕ → List (ℕ × S)
lone s n = (n, s) ∷ []

-- the first that was dialled is the one that is read
pub first_dialled : {S : Type 0} (ts ts' : List (ℕ × S)) (p : ℕ) (s : S) (dials : ℕ) → ts' ≡ ts ++ (p, s) ∷ [] → ts ≡ [] → p ≡ dials + 1 → dials ≡ 0 → ts' ≡ (1, s) ∷ []
first_dialled ts ts' p s d e n q z =
    let one : p ≡ 1 = omega arith in
    e ∙ ap (λ l. l ++ lone s p) n ∙ ap (lone s) one

-- the one source that was read
only_one : {S : Type 0} (P : Read S → Type 0) (js : List (Read S)) (s : S) → map whose js ≡ (1, s) ∷ [] → All P js → (j : Read S) × (j.number ≡ 1) × (j.before ≡ s) × P j
only_one P [] s e a = absurd (omega (arith, ap length e))
only_one {S = S} P (j ∷ []) s e a = (j, ap (λ l. (slice_index_or {A = ℕ × S} l 0 (1, s)).0) e, ap (λ l. (slice_index_or {A = ℕ × S} l 0 (1, s)).1) e, a 0 j (omega arith))
only_one P (j ∷ i ∷ js) s e a = absurd (omega (arith, ap length e))

-- the log that is kept is the one whose deliveries were given
pub same_log : (o : Option Log) (log : Log) (ds : List Delivery) → o ≡ Some log → ForSome o (λ l. deliveries l ≡ ds) → deliveries log ≡ ds
same_log o log ds e h = h log e

module _ {S : Type 0} (left : S → Option (List ℕ)) (faults : S → ℕ) (ended : S → Bool) where
  pub first_came : (js : List (Read S)) (s : S) (ds : List Delivery) (xs bytes : List ℕ) → map whose js ≡ (1, s) ∷ [] → All (Shows left faults ended ds) js → left s ≡ Some xs → bytes ≡ pieces_of 1 ds → IsStart bytes xs
  first_came js s ds xs bytes e a l b =
      let o = only_one (Shows left faults ended ds) js s e a in
      let st = o.3.first xs (ap left o.2 ∙ l) in
      (st.0, st.1 ∙ ap (λ n. pieces_of n ds ++ st.0) o.1 ∙ ap (λ z. z ++ st.0) (sym b))

  pub whole_came : (js : List (Read S)) (s : S) (ds : List Delivery) (xs bytes : List ℕ) → map whose js ≡ (1, s) ∷ [] → All (Shows left faults ended ds) js → ((t : S) → faults t ≡ 0) → left s ≡ Some xs → bytes ≡ pieces_of 1 ds → has_gone 1 ds ≡ true → bytes ≡ xs
  whole_came js s ds xs bytes e a calm l b g =
      let o = only_one (Shows left faults ended ds) js s e a in
      let none : ¬ HasRisen (faults o.0.before) (faults o.0.after) = λ r. (let x = calm o.0.before in let y = calm o.0.after in absurd (omega (arith, r, x, y))) in
      b ∙ ap (λ n. pieces_of n ds) (sym o.1) ∙ o.3.whole xs (ap left o.2 ∙ l) (ap (λ n. has_gone n ds) o.1 ∙ g) none

module _ {P : Type 0} (answers : P → Option (List ℕ)) where
  -- the ticks that came are the first of the pulse's answers
  pub ticks_came : (o : Option (Beat P)) (p : P) (given ds : List Delivery) (ticks : List ℕ) (told : P → List ℕ) → ((q : P) → answers q ≡ Some (told q)) → pulse_in (λ b. b.before) o ≡ Some p → given ≡ ds → ForSome o (ShowsTicks answers ds) → told p ≡ [] → ticks ≡ ticks_of given → (q : P) × IsStart ticks (told q)
  ticks_came None p given ds ticks told all e same h z t = absurd (true≢false (ap is_there (sym e)))
    where
      is_there : Option P → Bool
      is_there None = false
      is_there (Some q) = true
  ticks_came (Some b) p given ds ticks told all e same h z t =
      let before : b.before ≡ p = ap inner e in
      let st = h b refl [] (told b.after) (ap answers before ∙ all p ∙ ap (λ l. Some l) z) (all b.after) in
      (b.after, (st.0, st.1 ∙ ap (λ l. l ++ st.0) (sym (t ∙ ap ticks_of same))))
    where
      inner : Option P → P
      inner None = p
      inner (Some q) = q

-- what a read leaves of the plan
pub ruleset after_reads = (no_plan_after, calm_after)
