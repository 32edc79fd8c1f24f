-- What is stored is read, and what is read was stored.
use Rattle.std.proofs.Common.{◌≡◌, inl, inr, ℕ, zero, suc, ◌≤◌, ◌^◌, ◌==◌, Bool, true, false, List, [], ◌∷◌, ◌++◌, length, map, nat_lt, Ok, Err, refl, sym, ap, ◌∙◌, append_assoc, arith, lt-ltb, le-ltb, subst}
use Rattle.std.proofs.lemmas.Bool.{cases_lt, and_parts, eqb-true}
use Rattle.std.proofs.lemmas.Bool.Decides.{nat_tests}
use Rattle.std.proofs.lemmas.List.{append-nil}
use Rattle.std.specs.Bool.{if◌then◌else◌}
use Rattle.std.specs.Int.{w16, w32, w64, to_le_bytes, cast_unsigned}
use Rattle.std.specs.List.{flat_map, AllByRecursion}
use Rattle.cf_bytes.specs.Cut.{Read, bytes_at, int_at}
use Rattle.cf_bytes.specs.Compact.{compact, compact_at}
use Rattle.cf_bytes.specs.Lists.{list_at, counted_bytes}
use Rattle.cf_bytes.proofs.Codecs.{IsBytes, Takes, Codec, bind_ok, bind_is, value_of, list_again, list_taken, bytes_codec}
use Rattle.cf_block.specs.declared.fault.BlockFaultKind.{BlockFaultKind}
use Rattle.cf_block.specs.declared.fault.BlockFaultKind.TheVariants.{NoInput, NoOutput, NoTx}
use Rattle.cf_block.specs.declared.tx.Tx.{Tx}
use Rattle.cf_block.specs.declared.tx.Block.{Block}
use Rattle.cf_block.specs.Header.{header_at, header_spelling}
use Rattle.cf_block.specs.Tx.{IsInput, IsOutput, IsTx, IsBlock, max_count, max_block, input_spelling, output_spelling, tx_spelling, block_spelling}
use Rattle.cf_block.specs.Reading.{of_cut, of_header, u32_at, script_at, input_at, output_at, count_at, tx_fields_at, to_end, placed}
use Rattle.cf_block.specs.Stored.{Stack, IsStack, stack_spelling, has_item, extended_spelling, IsStoredTx, AreStored, IsStored, skip, is_extended, begins_marked, stack_at, some_item, witness_at, extended_at, stored_tx_at, short_stored, stored_fields_at, stored_block_at}
use Rattle.cf_block.proofs.Again.{count_again, tx_fields_again}
use Rattle.cf_block.proofs.HeaderLaws.{header_again}
use Rattle.cf_block.proofs.HeaderTaken.{header_taken}
use Rattle.cf_block.proofs.Taken.{field_codec, i32_field, u32_field, compact_field, script_field, input_codec, output_codec, tx_codec, count_taken, recounted, placed_ok, header_ok, all_read}

-- ---- stacks

stack_of : (n rest : List ℕ) (count : ℕ) (items : Stack) (bytes : List ℕ) → of_cut (compact_at bytes) ≡ Ok (count, n) → list_at script_at count n ≡ Ok (items, rest) → stack_at bytes ≡ Ok (items, rest)
unfolding stack_at
stack_of n rest count items bytes a b = bind_is (of_cut (compact_at bytes)) (count, n) _ a ∙ b

stack_again : (s : Stack) (more : List ℕ) → IsStack s → stack_at (stack_spelling s ++ more) ≡ Ok (s, more)
unfolding stack_spelling
stack_again s more fits =
    ap stack_at (append_assoc (compact (length s)) (flat_map counted_bytes s) more)
    ∙ stack_of (flat_map counted_bytes s ++ more) more (length s) s (compact (length s) ++ (flat_map counted_bytes s ++ more))
    (compact_field.again (length s) (flat_map counted_bytes s ++ more) fits.0)
    (list_again script_at counted_bytes (λ text. length text ≤ max_count) script_field s more fits.1)

stack_taken : (bytes : List ℕ) (s : Stack) (rest : List ℕ) → IsBytes bytes → stack_at bytes ≡ Ok (s, rest) → Takes bytes (stack_spelling s) rest × IsStack s
unfolding stack_at stack_spelling
stack_taken bytes s rest fits e =
    let n = bind_ok (of_cut (compact_at bytes)) _ (s, rest) e in
    let tn = compact_field.taken bytes n.0.0 n.0.1 fits n.1 in
    let tl = list_taken script_at counted_bytes (λ text. length text ≤ max_count) script_field n.0.0 n.0.1 s rest tn.0.rest n.2 in
    let joined : bytes ≡ compact (length s) ++ (flat_map counted_bytes s ++ rest) =
    recounted bytes n.0.1 n.0.0 (length s) tl.2 tn.0.joined ∙ ap (λ t. compact (length s) ++ t) tl.0.joined in (
      record { joined = joined ∙ sym (append_assoc (compact (length s)) (flat_map counted_bytes s) rest); rest = tl.0.rest },
      (omega (arith, tl.2, tn.1), tl.1),
    )

stack_codec : Codec stack_at stack_spelling IsStack
stack_codec = record { again = stack_again; taken = stack_taken }

some_so : (bytes rest : List ℕ) (stacks : List Stack) → has_item stacks ≡ true → some_item bytes (stacks, rest) ≡ Ok (stacks, rest)
some_so bytes rest stacks some = rw some refl

witness_again : (stacks : List Stack) (more : List ℕ) → AllByRecursion IsStack stacks → has_item stacks ≡ true
    → witness_at (length stacks) (flat_map stack_spelling stacks ++ more) ≡ Ok (stacks, more)
unfolding witness_at
witness_again stacks more each some =
    bind_is (list_at stack_at (length stacks) (flat_map stack_spelling stacks ++ more)) (stacks, more) (some_item (flat_map stack_spelling stacks ++ more)) (list_again stack_at stack_spelling IsStack stack_codec stacks more each)
    ∙ some_so (flat_map stack_spelling stacks ++ more) more stacks some

record IsFound (found stacks : List Stack) (after rest : List ℕ) : Type 0 where
  pub some : has_item stacks ≡ true
  pub same : found ≡ stacks
  pub left : after ≡ rest

some_taken : (bytes after rest : List ℕ) (found stacks : List Stack) (b : Bool) → has_item found ≡ b → some_item bytes (found, after) ≡ Ok (stacks, rest) → IsFound found stacks after rest
some_taken bytes after rest found stacks true is h =
    let made : some_item bytes (found, after) ≡ Ok (found, after) = rw is refl in
    let both = value_of (found, after) (stacks, rest) (some_item bytes (found, after)) made h in
    record { some = subst (λ (x : List Stack). has_item x ≡ true) (ap (λ p. p.0) both) is; same = ap (λ p. p.0) both; left = ap (λ p. p.1) both }
some_taken bytes after rest found stacks false is h = (let g = rw is at h in cc)

witness_taken : (n : ℕ) (bytes : List ℕ) (stacks : List Stack) (rest : List ℕ) → IsBytes bytes → witness_at n bytes ≡ Ok (stacks, rest)
    → Takes bytes (flat_map stack_spelling stacks) rest × AllByRecursion IsStack stacks × (length stacks ≡ n) × (has_item stacks ≡ true)
unfolding witness_at
witness_taken n bytes stacks rest fits e =
    let x = bind_ok (list_at stack_at n bytes) (some_item bytes) (stacks, rest) e in
    let s = some_taken bytes x.0.1 rest x.0.0 stacks (has_item x.0.0) refl x.2 in
    let same : list_at stack_at n bytes ≡ Ok (stacks, rest) = x.1 ∙ (λ i. Ok (s.same i, s.left i)) in
    let t = list_taken stack_at stack_spelling IsStack stack_codec n bytes stacks rest fits same in
    (t.0, t.1, t.2, s.some)

-- ---- the form with witnesses

eight : (a b c d e f g h more : List ℕ) → (a ++ (b ++ (c ++ (d ++ (e ++ (f ++ (g ++ h))))))) ++ more ≡ a ++ (b ++ (c ++ (d ++ (e ++ (f ++ (g ++ (h ++ more)))))))
eight a b c d e f g h more = simp append_assoc

extended_of : (t : Tx) (stacks : List Stack) (b0 b1 b2 b3 b4 b5 b6 b7 b8 : List ℕ) (m : List ℕ) → of_cut (int_at w32 b0) ≡ Ok (t.version, b1) → of_cut (bytes_at 2 b1) ≡ Ok (m, b2)
    → count_at NoInput b2 ≡ Ok (length t.inputs, b3) → list_at input_at (length t.inputs) b3 ≡ Ok (t.inputs, b4)
    → count_at NoOutput b4 ≡ Ok (length t.outputs, b5) → list_at output_at (length t.outputs) b5 ≡ Ok (t.outputs, b6)
    → witness_at (length t.inputs) b6 ≡ Ok (stacks, b7) → u32_at b7 ≡ Ok (t.lock_time, b8) → extended_at b0 ≡ Ok (t, b8)
unfolding extended_at
extended_of t stacks b0 b1 b2 b3 b4 b5 b6 b7 b8 m e0 e1 e2 e3 e4 e5 e6 e7 =
    bind_is (of_cut (int_at w32 b0)) (t.version, b1) _ e0 ∙ bind_is (skip (of_cut (bytes_at 2 b1))) (tt, b2) _ (ap skip e1)
    ∙ bind_is (count_at NoInput b2) (length t.inputs, b3) _ e2 ∙ bind_is (list_at input_at (length t.inputs) b3) (t.inputs, b4) _ e3
    ∙ bind_is (count_at NoOutput b4) (length t.outputs, b5) _ e4 ∙ bind_is (list_at output_at (length t.outputs) b5) (t.outputs, b6) _ e5
    ∙ bind_is (skip (witness_at (length t.inputs) b6)) (tt, b7) _ (ap skip e6) ∙ bind_is (u32_at b7) (t.lock_time, b8) _ e7

extended_again : (t : Tx) (stacks : List Stack) (more : List ℕ) → IsTx t → length stacks ≡ length t.inputs → AllByRecursion IsStack stacks → has_item stacks ≡ true
    → (extended_at (extended_spelling t stacks ++ more) ≡ Ok (t, more)) × (is_extended (extended_spelling t stacks ++ more) ≡ true)
unfolding extended_spelling
extended_again t stacks more fits count each some =
    let b7 : List ℕ = to_le_bytes w32 t.lock_time ++ more in
    let b6 : List ℕ = flat_map stack_spelling stacks ++ b7 in
    let b5 : List ℕ = flat_map output_spelling t.outputs ++ b6 in
    let b4 : List ℕ = compact (length t.outputs) ++ b5 in
    let b3 : List ℕ = flat_map input_spelling t.inputs ++ b4 in
    let b2 : List ℕ = compact (length t.inputs) ++ b3 in
    let b1 : List ℕ = (0 ∷ 1 ∷ []) ++ b2 in
    let b0 : List ℕ = to_le_bytes w32 (cast_unsigned w32 t.version) ++ b1 in
    let whole = eight (to_le_bytes w32 (cast_unsigned w32 t.version)) (0 ∷ 1 ∷ []) (compact (length t.inputs)) (flat_map input_spelling t.inputs) (compact (length t.outputs)) (flat_map output_spelling t.outputs) (flat_map stack_spelling stacks) (to_le_bytes w32 t.lock_time) more in
    let marked : is_extended b0 ≡ true = refl in (
      ap extended_at whole
          ∙ extended_of t stacks b0 b1 b2 b3 b4 b5 b6 b7 more (0 ∷ 1 ∷ []) (i32_field.again t.version b1 fits.version)
          (ap of_cut ((bytes_codec 2).again (0 ∷ 1 ∷ []) b2 refl))
          (count_again NoInput (length t.inputs) b3 fits.some_inputs fits.few_inputs) (list_again input_at input_spelling IsInput input_codec t.inputs b4 fits.inputs)
          (count_again NoOutput (length t.outputs) b5 fits.some_outputs fits.few_outputs) (list_again output_at output_spelling IsOutput output_codec t.outputs b6 fits.outputs)
          (ap (λ n. witness_at n b6) (sym count) ∙ witness_again stacks b7 each some)
          (u32_field.again t.lock_time more fits.lock_time),
      ap is_extended whole ∙ marked,
    )

-- what a marked transaction begins with
marker_is : (bytes m rest : List ℕ) → begins_marked bytes ≡ true → of_cut (bytes_at 2 bytes) ≡ Ok (m, rest) → m ≡ 0 ∷ 1 ∷ []
marker_is [] m rest marked e = cc
marker_is (a ∷ []) m rest marked e = cc
marker_is (a ∷ b ∷ more) m rest marked e =
    let both = and_parts (a == 0) (b == 1) marked in
    let first : a ≡ 0 = eqb-true a 0 both.0 in
    let second : b ≡ 1 = eqb-true b 1 both.1 in
    let made : of_cut (bytes_at 2 (a ∷ b ∷ more)) ≡ Ok (a ∷ b ∷ [], more) = rw (le-ltb (length (a ∷ b ∷ more)) 2 (omega arith)) refl in
    let same : (a ∷ b ∷ [], more) ≡ (m, rest) = value_of (a ∷ b ∷ [], more) (m, rest) (of_cut (bytes_at 2 (a ∷ b ∷ more))) made e in
    sym (ap (λ p. p.0) same) ∙ (λ i. first i ∷ second i ∷ [])

-- the version has four bytes
marked_after : (bytes v rest : List ℕ) → length v ≡ 4 → bytes ≡ v ++ rest → is_extended bytes ≡ true → begins_marked rest ≡ true
marked_after bytes [] rest len is marked = absurd (omega (arith, len))
marked_after bytes (a ∷ []) rest len is marked = absurd (omega (arith, len))
marked_after bytes (a ∷ b ∷ []) rest len is marked = absurd (omega (arith, len))
marked_after bytes (a ∷ b ∷ c ∷ []) rest len is marked = absurd (omega (arith, len))
marked_after bytes (a ∷ b ∷ c ∷ d ∷ []) rest len is marked = sym (ap is_extended is) ∙ marked
marked_after bytes (a ∷ b ∷ c ∷ d ∷ x ∷ xs) rest len is marked = absurd (omega (arith, len))

-- what was passed over was read
was_passed : {X E : Type 0} (r : Read X E) (after : Unit {0} × List ℕ) → skip r ≡ Ok after → (x : X) × (r ≡ Ok (x, after.1))
was_passed {X} {E} (Ok x) after h =
    let made : Read (Unit {0}) E = Ok (tt, x.1) in
    let same : (tt, x.1) ≡ after = value_of (tt, x.1) after made refl h in
    (x.0, (λ i. Ok (x.0, (same i).1)))
was_passed (Err e) after h = cc

-- what was read of a transaction
record IsRead (bytes : List ℕ) (t : Tx) (rest : List ℕ) : Type 0 where
  pub text : List ℕ
  pub stored : IsStoredTx text t
  pub takes : Takes bytes text rest
  pub fits : IsTx t

joins : (b0 b1 b2 b3 b4 b5 b6 b7 new a b c d e f g h : List ℕ)
    → b0 ≡ a ++ b1 → b1 ≡ b ++ b2 → b2 ≡ c ++ b3 → b3 ≡ d ++ b4 → b4 ≡ e ++ b5 → b5 ≡ f ++ b6 → b6 ≡ g ++ b7 → b7 ≡ h ++ new
    → b0 ≡ (a ++ (b ++ (c ++ (d ++ (e ++ (f ++ (g ++ h))))))) ++ new
joins b0 b1 b2 b3 b4 b5 b6 b7 new a b c d e f g h e0 e1 e2 e3 e4 e5 e6 e7 =
    (e0 ∙ ap (λ x. a ++ x) (e1 ∙ ap (λ x. b ++ x) (e2 ∙ ap (λ x. c ++ x) (e3 ∙ ap (λ x. d ++ x) (e4 ∙ ap (λ x. e ++ x) (e5 ∙ ap (λ x. f ++ x) (e6 ∙ ap (λ x. g ++ x) e7)))))))
    ∙ sym (eight a b c d e f g h new)

some_of_these : (a b : ℕ) → a ≡ b → 1 ≤ b → 1 ≤ a
some_of_these a b e h = subst (λ (n : ℕ). 1 ≤ n) (sym e) h

few_of_these : (a b : ℕ) → a ≡ b → b ≤ max_count → a ≤ max_count
few_of_these a b e h = subst (λ (n : ℕ). n ≤ max_count) (sym e) h

-- the fields in turn
record Fields (b0 : List ℕ) (t : Tx) (rest : List ℕ) : Type 0 where
  pub b1 : List ℕ
  pub version : of_cut (int_at w32 b0) ≡ Ok (t.version, b1)
  pub mark : List ℕ
  pub b2 : List ℕ
  pub marker : of_cut (bytes_at 2 b1) ≡ Ok (mark, b2)
  pub n : ℕ
  pub b3 : List ℕ
  pub in_count : count_at NoInput b2 ≡ Ok (n, b3)
  pub b4 : List ℕ
  pub inputs : list_at input_at n b3 ≡ Ok (t.inputs, b4)
  pub m : ℕ
  pub b5 : List ℕ
  pub out_count : count_at NoOutput b4 ≡ Ok (m, b5)
  pub b6 : List ℕ
  pub outputs : list_at output_at m b5 ≡ Ok (t.outputs, b6)
  pub stacks : List Stack
  pub b7 : List ℕ
  pub witness : witness_at n b6 ≡ Ok (stacks, b7)
  pub lock : u32_at b7 ≡ Ok (t.lock_time, rest)

fields_of : (bytes : List ℕ) (t : Tx) (rest : List ℕ) → extended_at bytes ≡ Ok (t, rest) → Fields bytes t rest
unfolding extended_at
fields_of bytes t rest e =
    let v = bind_ok (of_cut (int_at w32 bytes)) _ (t, rest) e in
    let k0 = bind_ok (skip (of_cut (bytes_at 2 v.0.1))) _ (t, rest) v.2 in
    let k = was_passed (of_cut (bytes_at 2 v.0.1)) k0.0 k0.1 in
    let n = bind_ok (count_at NoInput k0.0.1) _ (t, rest) k0.2 in
    let i = bind_ok (list_at input_at n.0.0 n.0.1) _ (t, rest) n.2 in
    let m = bind_ok (count_at NoOutput i.0.1) _ (t, rest) i.2 in
    let o = bind_ok (list_at output_at m.0.0 m.0.1) _ (t, rest) m.2 in
    let w0 = bind_ok (skip (witness_at n.0.0 o.0.1)) _ (t, rest) o.2 in
    let w = was_passed (witness_at n.0.0 o.0.1) w0.0 w0.1 in
    let l = bind_ok (u32_at w0.0.1) _ (t, rest) w0.2 in
    let read : Tx = record { version = v.0.0; inputs = i.0.0; outputs = o.0.0; lock_time = l.0.0 } in
    let made : Read Tx BlockFaultKind = Ok (read, l.0.1) in
    let both = value_of (read, l.0.1) (t, rest) made refl l.2 in
    let P : Tx × List ℕ → Type 0 = λ q. Fields bytes q.0 q.1 in
    subst P both (record {
      b1 = v.0.1;
      version = v.1;
      mark = k.0;
      b2 = k0.0.1;
      marker = k.1;
      n = n.0.0;
      b3 = n.0.1;
      in_count = n.1;
      b4 = i.0.1;
      inputs = i.1;
      m = m.0.0;
      b5 = m.0.1;
      out_count = m.1;
      b6 = o.0.1;
      outputs = o.1;
      stacks = w.0;
      b7 = w0.0.1;
      witness = w.1;
      lock = l.1;
    })

-- what each field takes
record Taken (b0 : List ℕ) (t : Tx) (rest : List ℕ) (f : Fields b0 t rest) : Type 0 where
  pub version : b0 ≡ to_le_bytes w32 (cast_unsigned w32 t.version) ++ f.b1
  pub marker : f.b1 ≡ (0 ∷ 1 ∷ []) ++ f.b2
  pub in_count : f.b2 ≡ compact (length t.inputs) ++ f.b3
  pub inputs : f.b3 ≡ flat_map input_spelling t.inputs ++ f.b4
  pub out_count : f.b4 ≡ compact (length t.outputs) ++ f.b5
  pub outputs : f.b5 ≡ flat_map output_spelling t.outputs ++ f.b6
  pub witness : f.b6 ≡ flat_map stack_spelling f.stacks ++ f.b7
  pub lock : f.b7 ≡ to_le_bytes w32 t.lock_time ++ rest
  pub each : AllByRecursion IsStack f.stacks
  pub count : length f.stacks ≡ length t.inputs
  pub some : has_item f.stacks ≡ true
  pub fits : IsTx t
  pub rest_fits : IsBytes rest

fields_taken : (b0 : List ℕ) (t : Tx) (rest : List ℕ) → IsBytes b0 → is_extended b0 ≡ true → (f : Fields b0 t rest) → Taken b0 t rest f
fields_taken b0 t rest fits marked f =
    let tv = i32_field.taken b0 t.version f.b1 fits f.version in
    let begins = marked_after b0 (to_le_bytes w32 (cast_unsigned w32 t.version)) f.b1 refl tv.0.joined marked in
    let two = marker_is f.b1 f.mark f.b2 begins f.marker in
    let tk = (field_codec (bytes_at 2) (λ text. text) (λ text. length text ≡ 2) (bytes_codec 2)).taken f.b1 f.mark f.b2 tv.0.rest f.marker in
    let tn = count_taken NoInput f.b2 f.n f.b3 tk.0.rest f.in_count in
    let ti = list_taken input_at input_spelling IsInput input_codec f.n f.b3 t.inputs f.b4 tn.0.rest f.inputs in
    let tm = count_taken NoOutput f.b4 f.m f.b5 ti.0.rest f.out_count in
    let to = list_taken output_at output_spelling IsOutput output_codec f.m f.b5 t.outputs f.b6 tm.0.rest f.outputs in
    let tw = witness_taken f.n f.b6 f.stacks f.b7 to.0.rest f.witness in
    let tl = u32_field.taken f.b7 t.lock_time rest tw.0.rest f.lock in
    record {
      version = tv.0.joined;
      marker = tk.0.joined ∙ ap (λ x. x ++ f.b2) two;
      in_count = recounted f.b2 f.b3 f.n (length t.inputs) ti.2 tn.0.joined;
      inputs = ti.0.joined;
      out_count = recounted f.b4 f.b5 f.m (length t.outputs) to.2 tm.0.joined;
      outputs = to.0.joined;
      witness = tw.0.joined;
      lock = tl.0.joined;
      each = tw.1;
      count = tw.2 ∙ sym ti.2;
      some = tw.3;
      fits = record {
        version = tv.1;
        some_inputs = some_of_these (length t.inputs) f.n ti.2 tn.1;
        few_inputs = few_of_these (length t.inputs) f.n ti.2 tn.2;
        inputs = ti.1;
        some_outputs = some_of_these (length t.outputs) f.m to.2 tm.1;
        few_outputs = few_of_these (length t.outputs) f.m to.2 tm.2;
        outputs = to.1;
        lock_time = tl.1;
      };
      rest_fits = tl.0.rest;
    }

whole_taken : (b0 : List ℕ) (t : Tx) (rest : List ℕ) (f : Fields b0 t rest) → Taken b0 t rest f → IsRead b0 t rest
unfolding extended_spelling
whole_taken b0 t rest f k = record {
  text = extended_spelling t f.stacks;
  stored = inr (record { stacks = f.stacks; count = k.count; each = k.each; some = k.some; spelled = refl });
  takes = record {
    joined = joins b0 f.b1 f.b2 f.b3 f.b4 f.b5 f.b6 f.b7 rest
        (to_le_bytes w32 (cast_unsigned w32 t.version)) (0 ∷ 1 ∷ []) (compact (length t.inputs)) (flat_map input_spelling t.inputs) (compact (length t.outputs)) (flat_map output_spelling t.outputs)
        (flat_map stack_spelling f.stacks) (to_le_bytes w32 t.lock_time)
        k.version k.marker k.in_count k.inputs k.out_count k.outputs k.witness k.lock;
    rest = k.rest_fits;
  };
  fits = k.fits;
}

extended_taken : (bytes : List ℕ) (t : Tx) (rest : List ℕ) → IsBytes bytes → is_extended bytes ≡ true → extended_at bytes ≡ Ok (t, rest) → IsRead bytes t rest
extended_taken bytes t rest fits marked e = let f = fields_of bytes t rest e in whole_taken bytes t rest f (fields_taken bytes t rest fits marked f)

-- ---- both forms

-- a count of some inputs doesn't begin with a zero byte
not_zero : (a b : ℕ) (rest : List ℕ) → 1 ≤ a → begins_marked (a ∷ b ∷ rest) ≡ false
not_zero a b rest some = let no : (a == 0) ≡ false = grind (arith, nat_tests) in rw no refl

one_not_zero : (a : ℕ) (rest : List ℕ) → 1 ≤ a → begins_marked (a ∷ rest) ≡ false
one_not_zero a [] some = refl
one_not_zero a (b ∷ rest) some = not_zero a b rest some

begins_by : (n : ℕ) (rest : List ℕ) (one two four : Bool) → 1 ≤ n
    → begins_marked ((if one then n ∷ [] else if two then 253 ∷ to_le_bytes w16 n else if four then 254 ∷ to_le_bytes w32 n else 255 ∷ to_le_bytes w64 n) ++ rest) ≡ false
begins_by n rest true two four some = one_not_zero n rest some
begins_by n rest false true four some = one_not_zero 253 (to_le_bytes w16 n ++ rest) (omega arith)
begins_by n rest false false true some = one_not_zero 254 (to_le_bytes w32 n ++ rest) (omega arith)
begins_by n rest false false false some = one_not_zero 255 (to_le_bytes w64 n ++ rest) (omega arith)

begins_some : (n : ℕ) (rest : List ℕ) → 1 ≤ n → begins_marked (compact n ++ rest) ≡ false
unfolding compact
begins_some n rest some = begins_by n rest (nat_lt n 253) (nat_lt n (2 ^ 16)) (nat_lt n (2 ^ 32)) some

plain_unmarked : (t : Tx) (more : List ℕ) → IsTx t → is_extended (tx_spelling t ++ more) ≡ false
unfolding tx_spelling
plain_unmarked t more fits =
    let tail = flat_map input_spelling t.inputs ++ (compact (length t.outputs) ++ (flat_map output_spelling t.outputs ++ to_le_bytes w32 t.lock_time)) in
    ap begins_marked (append_assoc (compact (length t.inputs)) tail more) ∙ begins_some (length t.inputs) (tail ++ more) fits.some_inputs

pub stored_again : (text : List ℕ) (t : Tx) (more : List ℕ) → IsTx t → IsStoredTx text t → stored_tx_at (text ++ more) ≡ Ok (t, more)
unfolding stored_tx_at
stored_again text t more fits (inl plain) =
    let none : is_extended (text ++ more) ≡ false = ap (λ (s : List ℕ). is_extended (s ++ more)) plain ∙ plain_unmarked t more fits in
    rw none (ap (λ (s : List ℕ). tx_fields_at (s ++ more)) plain ∙ tx_fields_again t more fits)
stored_again text t more fits (inr x) =
    let both = extended_again t x.stacks more fits x.count x.each x.some in
    let marked : is_extended (text ++ more) ≡ true = ap (λ (s : List ℕ). is_extended (s ++ more)) x.spelled ∙ both.1 in
    rw marked (ap (λ (s : List ℕ). extended_at (s ++ more)) x.spelled ∙ both.0)

stored_by : (b : Bool) (bytes : List ℕ) (t : Tx) (rest : List ℕ) → IsBytes bytes → is_extended bytes ≡ b → (if b then extended_at bytes else tx_fields_at bytes) ≡ Ok (t, rest) → IsRead bytes t rest
stored_by true bytes t rest fits is e = extended_taken bytes t rest fits is e
stored_by false bytes t rest fits is e = let x = tx_codec.taken bytes t rest fits e in record { text = tx_spelling t; stored = inl refl; takes = x.0; fits = x.1 }

stored_taken : (bytes : List ℕ) (t : Tx) (rest : List ℕ) → IsBytes bytes → stored_tx_at bytes ≡ Ok (t, rest) → IsRead bytes t rest
unfolding stored_tx_at
stored_taken bytes t rest fits e = stored_by (is_extended bytes) bytes t rest fits refl e

-- ---- lists

abbrev pub joined_texts : List (List ℕ) → List ℕ
joined_texts texts = flat_map (λ text. text) texts

all_again : (texts : List (List ℕ)) (ts : List Tx) (more : List ℕ) → AllByRecursion IsTx ts → AreStored texts ts → list_at stored_tx_at (length ts) (joined_texts texts ++ more) ≡ Ok (ts, more)
unfolding list_at
all_again [] [] more fits all = refl
all_again [] (t ∷ ts) more fits all = absurd all
all_again (text ∷ texts) [] more fits all = absurd all
all_again (text ∷ texts) (t ∷ ts) more fits all =
    let one : stored_tx_at (joined_texts (text ∷ texts) ++ more) ≡ Ok (t, joined_texts texts ++ more) =
    ap stored_tx_at (append_assoc text (joined_texts texts) more) ∙ stored_again text t (joined_texts texts ++ more) fits.0 all.0 in
    rw (one, all_again texts ts more fits.1 all.1) refl

record AreRead (n : ℕ) (bytes : List ℕ) (ts : List Tx) (rest : List ℕ) : Type 0 where
  pub texts : List (List ℕ)
  pub stored : AreStored texts ts
  pub takes : Takes bytes (joined_texts texts) rest
  pub fits : AllByRecursion IsTx ts
  pub count : length ts ≡ n

all_taken : (n : ℕ) (bytes : List ℕ) (ts : List Tx) (rest : List ℕ) → IsBytes bytes → list_at stored_tx_at n bytes ≡ Ok (ts, rest) → AreRead n bytes ts rest
unfolding list_at
all_taken zero bytes ts rest fits h =
    let both = value_of ([], bytes) (ts, rest) (list_at stored_tx_at zero bytes) refl h in
    let P : List Tx × List ℕ → Type 0 = λ p. AreRead 0 bytes p.0 p.1 in
    subst P both (record { texts = []; stored = tt; takes = record { joined = refl; rest = fits }; fits = tt; count = refl })
all_taken (suc n) bytes ts rest fits h =
    let first = bind_ok (stored_tx_at bytes) _ _ h in
    let x = first.0 in
    let others = bind_ok (list_at stored_tx_at n x.1) _ _ first.2 in
    let ys = others.0 in
    let both : (x.0 ∷ ys.0, ys.1) ≡ (ts, rest) = value_of (x.0 ∷ ys.0, ys.1) (ts, rest) _ refl others.2 in
    let one = stored_taken bytes x.0 x.1 fits first.1 in
    let more = all_taken n x.1 ys.0 ys.1 one.takes.rest others.1 in
    let P : List Tx × List ℕ → Type 0 = λ p. AreRead (suc n) bytes p.0 p.1 in
    subst P both (record {
      texts = one.text ∷ more.texts;
      stored = (one.stored, more.stored);
      takes = record { joined = one.takes.joined ∙ ap (λ t. one.text ++ t) more.takes.joined ∙ sym (append_assoc one.text (joined_texts more.texts) ys.1); rest = more.takes.rest };
      fits = (one.fits, more.fits);
      count = ap suc more.count;
    })

-- ---- blocks

short_is : (bytes rest : List ℕ) (b : Block) → length (block_spelling b) ≤ max_block → short_stored bytes (b, rest) ≡ to_end (b, rest)
short_is bytes rest b few = rw (le-ltb max_block (length (block_spelling b)) few) refl

stored_of : (b : Block) (b0 b1 b2 : List ℕ) → of_header (header_at b0) ≡ Ok (b.header, b1) → count_at NoTx b1 ≡ Ok (length b.txs, b2)
    → list_at stored_tx_at (length b.txs) b2 ≡ Ok (b.txs, []) → length (block_spelling b) ≤ max_block → stored_fields_at b0 ≡ Ok (b, [])
unfolding stored_fields_at
stored_of b b0 b1 b2 e0 e1 e2 few =
    bind_is (of_header (header_at b0)) (b.header, b1) _ e0 ∙ bind_is (count_at NoTx b1) (length b.txs, b2) _ e1
    ∙ bind_is (list_at stored_tx_at (length b.txs) b2) (b.txs, []) _ e2 ∙ short_is b0 [] b few

-- what is stored is read
pub block_stored_again : (bytes : List ℕ) (b : Block) → IsStored bytes b → stored_block_at bytes ≡ Ok (b, [])
unfolding stored_block_at
block_stored_again bytes b s =
    let b2 : List ℕ = joined_texts s.texts in
    let b1 : List ℕ = compact (length b.txs) ++ b2 in
    ap (placed bytes) (ap stored_fields_at s.spelled
    ∙ stored_of b (header_spelling b.header ++ b1) b1 b2 (ap of_header (header_again b.header b1 s.block.header))
    (count_again NoTx (length b.txs) b2 s.block.some_txs s.block.few_txs)
    (ap (list_at stored_tx_at (length b.txs)) (sym (append-nil b2)) ∙ all_again s.texts b.txs [] s.block.txs s.txs) s.block.short)

short_taken : (bytes after rest : List ℕ) (c b : Block) → short_stored bytes (c, after) ≡ Ok (b, rest) → (to_end (c, after) ≡ Ok (b, rest)) × (length (block_spelling c) ≤ max_block)
short_taken bytes after rest c b h = elim (cases_lt max_block (length (block_spelling c))) [
  | inl more ↦ absurd (let g = rw (lt-ltb max_block (length (block_spelling c)) more) at h in cc)
  | inr few ↦ (rw (le-ltb max_block (length (block_spelling c)) few) at h, few)
]

-- what is read was stored
pub block_stored_taken : (bytes : List ℕ) (b : Block) (rest : List ℕ) → IsBytes bytes → stored_block_at bytes ≡ Ok (b, rest) → IsStored bytes b × (rest ≡ [])
unfolding stored_block_at stored_fields_at
block_stored_taken bytes b rest fits h =
    let e = placed_ok bytes (stored_fields_at bytes) (b, rest) h in
    let x = bind_ok (of_header (header_at bytes)) _ (b, rest) e in
    let n = bind_ok (count_at NoTx x.0.1) _ (b, rest) x.2 in
    let l = bind_ok (list_at stored_tx_at n.0.0 n.0.1) _ (b, rest) n.2 in
    let th = header_taken bytes x.0.0 x.0.1 fits (header_ok (header_at bytes) x.0 x.1) in
    let tn = count_taken NoTx x.0.1 n.0.0 n.0.1 th.0.rest n.1 in
    let tl = all_taken n.0.0 n.0.1 l.0.0 l.0.1 tn.0.rest l.1 in
    let read : Block = record { header = x.0.0; txs = l.0.0 } in
    let short = short_taken bytes l.0.1 rest read b l.2 in
    let end = all_read read b l.0.1 rest short.0 in
    let texts = joined_texts tl.texts in
    let listed : n.0.1 ≡ texts = tl.takes.joined ∙ ap (λ t. texts ++ t) end.1 ∙ append-nil texts in
    let whole : IsStored bytes read = record {
      texts = tl.texts;
      txs = tl.stored;
      spelled = th.0.joined ∙ ap (λ t. header_spelling x.0.0 ++ t) (recounted x.0.1 n.0.1 n.0.0 (length l.0.0) tl.count tn.0.joined ∙ ap (λ t. compact (length l.0.0) ++ t) listed);
      block = record { header = th.1; some_txs = some_of_these (length l.0.0) n.0.0 tl.count tn.1; few_txs = few_of_these (length l.0.0) n.0.0 tl.count tn.2; txs = tl.fits; short = short.1 };
    } in
    (subst (IsStored bytes) end.0 whole, end.2)

pub fields_stored : (bytes rest : List ℕ) (b : Block) → IsBytes bytes → stored_fields_at bytes ≡ Ok (b, rest) → IsStored bytes b
unfolding stored_block_at
fields_stored bytes rest b fits e = (block_stored_taken bytes b rest fits (ap (placed bytes) e)).0

pub one_stored : (bytes : List ℕ) (a b : Block) → IsStored bytes a → IsStored bytes b → a ≡ b
one_stored bytes a b sa sb = ap (λ p. p.0) (value_of (a, []) (b, []) (stored_block_at bytes) (block_stored_again bytes a sa) (block_stored_again bytes b sb))

-- ---- no witness at all

pub plain_each : (ts : List Tx) → AreStored (map tx_spelling ts) ts
plain_each [] = tt
plain_each (t ∷ ts) = (inl refl, plain_each ts)

pub plain_joined : (ts : List Tx) → joined_texts (map tx_spelling ts) ≡ flat_map tx_spelling ts
plain_joined [] = refl
plain_joined (t ∷ ts) = ap (λ l. tx_spelling t ++ l) (plain_joined ts)

pub plain_stored : (b : Block) → IsBlock b → IsStored (block_spelling b) b
unfolding block_spelling
plain_stored b fits = record {
  texts = map tx_spelling b.txs;
  txs = plain_each b.txs;
  spelled = ap (λ l. header_spelling b.header ++ (compact (length b.txs) ++ l)) (sym (plain_joined b.txs));
  block = fits;
}
