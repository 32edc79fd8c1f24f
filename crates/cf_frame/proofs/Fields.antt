-- What a frame's front says of the bytes.
use Rattle.std.proofs.Common.{◌≡◌, ℕ, ◌+◌, ◌≤◌, ◌<◌, List, [], ◌++◌, length, take, drop, Option, Some, None, Result, Ok, Err, Bool, true, false, refl, sym, ap, ◌∙◌, arith, inl, inr, le-ltb, lt-ltb, length-drop, subst}
use Rattle.std.proofs.lemmas.Bool.{cases_lt}
use Rattle.std.specs.Int.{w32, from_le_bytes}
use Rattle.std.specs.Str.{bytes_eq}
use Rattle.cf_bytes.specs.declared.cut.CutFault.{CutFault}
use Rattle.cf_bytes.specs.declared.cut.CutFault.TheVariants.{Short}
use Rattle.cf_bytes.specs.Cut.{Read, bytes_at, number_at, ◌>>=◌}
use Rattle.cf_frame.specs.declared.frame.Frame.{Frame}
use Rattle.cf_frame.specs.declared.frame.FrameFault.{FrameFault}
use Rattle.cf_frame.specs.declared.header.Header.{Header}
use Rattle.cf_frame.specs.Frame.{checksum}
use Rattle.cf_frame.specs.Reading.{Front, header_at, header_fault, front_of, header_front, judged_front, payload_front}
use Rattle.cf_bytes.proofs.Codecs.{bind_is, value_of, number_bytes}
use Rattle.cf_bytes.proofs.Stable.{bytes_stable}
use Rattle.cf_frame.proofs.Stays.{tested, header_stable}

-- a reader takes so many bytes at least
abbrev pub Falls : {X E : Type 0} → (List ℕ → Read X E) → ℕ → Type 0
Falls {X} item k = (bytes : List ℕ) (x : X × List ℕ) → item bytes ≡ Ok x → length x.1 + k ≤ length bytes

bytes_falls : (n : ℕ) → Falls (bytes_at n) n
bytes_falls n bytes x h = elim (cases_lt (length bytes) n) [
  | inl few ↦ absurd (let short : bytes_at n bytes ≡ Err (Short, bytes) = rw (lt-ltb (length bytes) n few) refl in cc)
  | inr whole ↦
      let all : bytes_at n bytes ≡ Ok (take n bytes, drop n bytes) = rw (le-ltb (length bytes) n whole) refl in
      let P : List ℕ × List ℕ → Type 0 = λ p. length p.1 + n ≤ length bytes in
      subst P (value_of (take n bytes, drop n bytes) x (bytes_at n bytes) all h) (omega (arith, length-drop n bytes))
]

falls_case : {X Y E : Type 0} (item : List ℕ → Read X E) (next : X → List ℕ → Read Y E) (k j : ℕ) → Falls item k → ((x : X) → Falls (next x) j)
    → (bytes : List ℕ) (y : Y × List ℕ) (r : Read X E) → item bytes ≡ r → (r >>= λ x. next x.0 x.1) ≡ Ok y → length y.1 + (k + j) ≤ length bytes
falls_case item next k j first rest bytes y (Ok x) e g = omega (arith, first bytes x e, rest x.0 x.1 y g)
falls_case item next k j first rest bytes y (Err f) e g = cc

bind_falls : {X Y E : Type 0} (item : List ℕ → Read X E) (next : X → List ℕ → Read Y E) (k j : ℕ) → Falls item k → ((x : X) → Falls (next x) j)
    → Falls (λ bytes. item bytes >>= λ x. next x.0 x.1) (k + j)
bind_falls item next k j first rest bytes y h = falls_case item next k j first rest bytes y (item bytes) refl h

pure_falls : {X E : Type 0} (x : X) → Falls {X = X} {E = E} (λ bytes. Ok (x, bytes)) 0
pure_falls {X} {E} x bytes y h =
    let made : Read X E = Ok (x, bytes) in
    let P : X × List ℕ → Type 0 = λ p. length p.1 + 0 ≤ length bytes in
    subst P (value_of (x, bytes) y made refl h) (omega arith)

u32_falls : Falls (number_at w32) 4
u32_falls bytes x h =
    bind_falls (bytes_at 4) (λ b rest. Ok (from_le_bytes w32 b, rest)) 4 0 (bytes_falls 4) (λ b. pure_falls (from_le_bytes w32 b)) bytes x (sym (number_bytes w32 bytes) ∙ h)

pub header_falls : Falls header_at 24
unfolding header_at
header_falls =
    bind_falls (bytes_at 4) _ 4 20 (bytes_falls 4) (λ m.
    bind_falls (bytes_at 12) _ 12 8 (bytes_falls 12) (λ c.
    bind_falls (number_at w32) _ 4 4 u32_falls (λ n.
    bind_falls (bytes_at 4) (λ k rest. Ok (record { magic = m; command = c; len = n; checksum = k }, rest)) 4 0 (bytes_falls 4) (λ k.
    pure_falls (record { magic = m; command = c; len = n; checksum = k })))))

pub some_of : {X E : Type 0} (x y : X) (r : Result (Option X) E) → r ≡ Ok (Some x) → r ≡ Ok (Some y) → x ≡ y
some_of x y r a b = cc

-- how the frame at the front was read
pub record FrontParts (bytes : List ℕ) (f : Frame) (more : List ℕ) : Type 0 where
  pub header : Header
  pub after : List ℕ
  pub payload : List ℕ
  pub read : header_at bytes ≡ Ok (header, after)
  pub good : header_fault header ≡ None
  pub taken : bytes_at header.len after ≡ Ok (payload, more)
  pub right : bytes_eq header.checksum (checksum payload) ≡ true
  pub same : f ≡ record { command = header.command; payload = payload }

test_parts : (bytes : List ℕ) (f : Frame) (more : List ℕ) (h : Header) (after p rest : List ℕ) → header_at bytes ≡ Ok (h, after) → header_fault h ≡ None → bytes_at h.len after ≡ Ok (p, rest)
    → (b : Bool) → bytes_eq h.checksum (checksum p) ≡ b → tested b h p rest ≡ Ok (Some (f, more)) → FrontParts bytes f more
test_parts bytes f more h after p rest read good taken true right e =
    let made : Frame = record { command = h.command; payload = p } in
    let both = some_of (made, rest) (f, more) (tested true h p rest) refl e in
    let P : Frame × List ℕ → Type 0 = λ x. FrontParts bytes x.0 x.1 in
    subst P both (record { header = h; after = after; payload = p; read = read; good = good; taken = taken; right = right; same = refl })
test_parts bytes f more h after p rest read good taken false right e = cc

payload_parts : (bytes : List ℕ) (f : Frame) (more : List ℕ) (h : Header) (after : List ℕ) → header_at bytes ≡ Ok (h, after) → header_fault h ≡ None
    → (r : Read (List ℕ) CutFault) → bytes_at h.len after ≡ r → payload_front h r ≡ Ok (Some (f, more)) → FrontParts bytes f more
payload_parts bytes f more h after read good (Err x) taken e = cc
payload_parts bytes f more h after read good (Ok p) taken e = test_parts bytes f more h after p.0 p.1 read good taken (bytes_eq h.checksum (checksum p.0)) refl e

judged_parts : (bytes : List ℕ) (f : Frame) (more : List ℕ) (h : Header) (after : List ℕ) → header_at bytes ≡ Ok (h, after) → (o : Option FrameFault) → header_fault h ≡ o
    → judged_front o h after ≡ Ok (Some (f, more)) → FrontParts bytes f more
judged_parts bytes f more h after read (Some x) good e = cc
judged_parts bytes f more h after read None good e = payload_parts bytes f more h after read good (bytes_at h.len after) refl e

header_parts : (bytes : List ℕ) (f : Frame) (more : List ℕ) (r : Read Header CutFault) → header_at bytes ≡ r → header_front r ≡ Ok (Some (f, more)) → FrontParts bytes f more
header_parts bytes f more (Err x) read e = cc
header_parts bytes f more (Ok h) read e = judged_parts bytes f more h.0 h.1 read (header_fault h.0) refl e

pub front_parts : (bytes : List ℕ) (f : Frame) (more : List ℕ) → front_of bytes ≡ Ok (Some (f, more)) → FrontParts bytes f more
unfolding front_of
front_parts bytes f more e = header_parts bytes f more (header_at bytes) refl e

-- and back
pub parts_front : (bytes : List ℕ) (f : Frame) (more : List ℕ) → FrontParts bytes f more → front_of bytes ≡ Ok (Some (f, more))
unfolding front_of
parts_front bytes f more p =
    let right : payload_front p.header (Ok (p.payload, more)) ≡ Ok (Some (record { command = p.header.command; payload = p.payload }, more)) = rw p.right refl in
    let whole : Front = Ok (Some (f, more)) in
    let renamed : payload_front p.header (Ok (p.payload, more)) ≡ whole = right ∙ ap (λ (x : Frame). Ok (Some (x, more))) (sym p.same) in
    ap header_front p.read ∙ ap (λ o. judged_front o p.header p.after) p.good ∙ ap (payload_front p.header) p.taken ∙ renamed

-- a frame takes bytes
pub front_shorter : (bytes : List ℕ) (f : Frame) (more : List ℕ) → front_of bytes ≡ Ok (Some (f, more)) → length more < length bytes
front_shorter bytes f more e =
    let p = front_parts bytes f more e in
    omega (arith, header_falls bytes (p.header, p.after) p.read, bytes_falls p.header.len p.after (p.payload, more) p.taken)

-- what follows a frame changes nothing
pub grows : (bytes : List ℕ) (f : Frame) (more end : List ℕ) → front_of bytes ≡ Ok (Some (f, more)) → front_of (bytes ++ end) ≡ Ok (Some (f, more ++ end))
grows bytes f more end e =
    let p = front_parts bytes f more e in
    parts_front (bytes ++ end) f (more ++ end) (record {
      header = p.header;
      after = p.after ++ end;
      payload = p.payload;
      read = header_stable bytes end (p.header, p.after) p.read;
      good = p.good;
      taken = bytes_stable p.header.len p.after end (p.payload, more) p.taken;
      right = p.right;
      same = p.same;
    })

pub front_none : front_of [] ≡ Ok None
unfolding front_of header_at
front_none = refl

-- 24 bytes are a header
pub header_ready : (bytes : List ℕ) → 24 ≤ length bytes → (h : Header) × (rest : List ℕ) × (header_at bytes ≡ Ok (h, rest)) × (length rest + 24 ≡ length bytes)
unfolding header_at
header_ready bytes whole =
    let after_magic = drop 4 bytes in
    let after_command = drop 12 after_magic in
    let after_len = drop 4 after_command in
    let rest = drop 4 after_len in
    let long_1 : length after_magic + 4 ≡ length bytes = omega (arith, length-drop 4 bytes, whole) in
    let long_2 : length after_command + 12 ≡ length after_magic = omega (arith, length-drop 12 after_magic, long_1, whole) in
    let long_3 : length after_len + 4 ≡ length after_command = omega (arith, length-drop 4 after_command, long_1, long_2, whole) in
    let long_4 : length rest + 4 ≡ length after_len = omega (arith, length-drop 4 after_len, long_1, long_2, long_3, whole) in
    let made : Header = record { magic = take 4 bytes; command = take 12 after_magic; len = from_le_bytes w32 (take 4 after_command); checksum = take 4 after_len } in
    let read : header_at bytes ≡ Ok (made, rest) =
    bind_is (bytes_at 4 bytes) (take 4 bytes, after_magic) _ (rw (le-ltb (length bytes) 4 (omega arith)) refl)
    ∙ bind_is (bytes_at 12 after_magic) (take 12 after_magic, after_command) _ (rw (le-ltb (length after_magic) 12 (omega arith)) refl)
    ∙ bind_is (number_at w32 after_command) (from_le_bytes w32 (take 4 after_command), after_len) _ (rw (le-ltb (length after_command) 4 (omega arith)) refl)
    ∙ bind_is (bytes_at 4 after_len) (take 4 after_len, rest) _ (rw (le-ltb (length after_len) 4 (omega arith)) refl)
    in (made, rest, read, omega arith)
