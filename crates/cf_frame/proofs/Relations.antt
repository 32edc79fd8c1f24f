-- Reading and the definitions of frames, faults and streams say the same.
use Rattle.std.proofs.Common.{◌≡◌, ◌↔◌, ℕ, zero, suc, ◌≤◌, ◌<◌, List, [], ◌∷◌, ◌++◌, length, take, drop, Option, Some, None, Result, Ok, Err, Bool, true, false, not, if◌then◌else◌, nat_lt, refl, sym, ap, ◌∙◌, arith, inl, inr, append_assoc, le-ltb, lt-ltb, subst}
use Rattle.std.proofs.lemmas.List.{append-nil}
use Rattle.std.proofs.lemmas.Bool.{cases_lt}
use Rattle.std.proofs.lemmas.Slice.Eq.{bytes_eq-Decides}
use Rattle.std.specs.Int.{w32, to_le_bytes}
use Rattle.std.specs.Str.{bytes_eq}
use Rattle.std.specs.List.{flat_map}
use Rattle.cf_bytes.specs.declared.cut.CutFault.{CutFault}
use Rattle.cf_bytes.specs.Cut.{IsBytes, Read, bytes_at, number_at}
use Rattle.cf_bytes.proofs.Codecs.{bind_ok, value_of, bytes_again, bytes_taken, u32_taken}
use Rattle.cf_bytes.specs.Magic.{magic}
use Rattle.cf_frame.specs.declared.frame.Frame.{Frame}
use Rattle.cf_frame.specs.declared.frame.FrameFault.{FrameFault}
use Rattle.cf_frame.specs.declared.frame.FrameFault.TheVariants.{Magic, Command, Oversize, Checksum}
use Rattle.cf_frame.specs.declared.header.Header.{Header}
use Rattle.cf_frame.specs.Frame.{is_command, checksum, spelling, IsFrame}
use Rattle.cf_frame.specs.Reading.{Begins, Front, header_at, header_fault, front_of, header_front, judged_front, payload_front}
use Rattle.cf_frame.specs.Stream.{HasNoFrame, HasHeader, HasOtherSum, FailsFirst, IsBad, IsStreamOf, StreamRead, read_stream}
use Rattle.cf_frame.proofs.Again.{again, header_again, none_begins}
use Rattle.cf_frame.proofs.Stays.{tested}
use Rattle.cf_frame.proofs.Suffix.{made}
use Rattle.cf_frame.proofs.Fields.{front_parts, front_shorter, header_ready, some_of}
use Rattle.cf_frame.proofs.Streams.{stream_frame, stream_waits, stream_bad}

-- tests

some_is : {X : Type 0} (x y : X) → Some x ≡ Some y → x ≡ y
some_is x y e = cc

err_is : {X E : Type 0} (x y : E) (r : Result X E) → r ≡ Err x → r ≡ Err y → x ≡ y
err_is x y r a b = cc

is_false : {P : Type 0} (b : Bool) → (b ≡ true → P) → ¬ P → b ≡ false
is_false true tells never = absurd (never (tells refl))
is_false false tells never = refl

bytes_differ : (xs ys : List ℕ) → ¬ (xs ≡ ys) → bytes_eq xs ys ≡ false
bytes_differ xs ys never = is_false (bytes_eq xs ys) (bytes_eq-Decides xs ys).0 never

do_differ : (xs ys : List ℕ) → bytes_eq xs ys ≡ false → ¬ (xs ≡ ys)
do_differ xs ys e same = let known = (bytes_eq-Decides xs ys).1 same in cc

-- a header as the tests see it
abbrev Good : Header → Type 0
Good h = (h.magic ≡ magic) × (is_command h.command ≡ true) × (h.len ≤ 4000000)

abbrev judged : Bool → Bool → Bool → Option FrameFault
judged a b c = if not a then Some Magic else if not b then Some Command else if c then Some Oversize else None

none_good : (h : Header) (a b c : Bool) → bytes_eq h.magic magic ≡ a → is_command h.command ≡ b → nat_lt 4000000 h.len ≡ c → judged a b c ≡ None → Good h
none_good h true true false ea eb ec e = ((bytes_eq-Decides h.magic magic).0 ea, eb, elim (cases_lt 4000000 h.len) [ inl more ↦ absurd (let known = lt-ltb 4000000 h.len more in cc) | inr few ↦ few ])
none_good h true true true ea eb ec e = cc
none_good h true false c ea eb ec e = cc
none_good h false b c ea eb ec e = cc

header_good : (h : Header) → header_fault h ≡ None → Good h
unfolding header_fault
header_good h e = none_good h (bytes_eq h.magic magic) (is_command h.command) (nat_lt 4000000 h.len) refl refl refl e

some_fails : (h : Header) (after : List ℕ) (fault : FrameFault) (a b c : Bool) → bytes_eq h.magic magic ≡ a → is_command h.command ≡ b → nat_lt 4000000 h.len ≡ c
    → judged a b c ≡ Some fault → FailsFirst h after fault
some_fails h after fault true true false ea eb ec e = cc
some_fails h after fault true true true ea eb ec e =
    let long : 4000000 < h.len = elim (cases_lt 4000000 h.len) [ inl more ↦ more | inr few ↦ absurd (let known = le-ltb 4000000 h.len few in cc) ] in
    subst (FailsFirst h after) (some_is Oversize fault e) ((bytes_eq-Decides h.magic magic).0 ea, eb, long)
some_fails h after fault true false c ea eb ec e = subst (FailsFirst h after) (some_is Command fault e) ((bytes_eq-Decides h.magic magic).0 ea, eb)
some_fails h after fault false b c ea eb ec e = subst (FailsFirst h after) (some_is Magic fault e) (do_differ h.magic magic ea)

header_fails : (h : Header) (after : List ℕ) (fault : FrameFault) → header_fault h ≡ Some fault → FailsFirst h after fault
unfolding header_fault
header_fails h after fault e = some_fails h after fault (bytes_eq h.magic magic) (is_command h.command) (nat_lt 4000000 h.len) refl refl refl e

-- a header that was read stands there

header_taken : (bytes : List ℕ) (h : Header) (rest : List ℕ) → IsBytes bytes → header_at bytes ≡ Ok (h, rest) → HasHeader bytes h rest × IsBytes rest
unfolding header_at
header_taken bytes h rest fits e =
    let m = bind_ok (bytes_at 4 bytes) _ _ e in
    let c = bind_ok (bytes_at 12 m.0.1) _ _ m.2 in
    let n = bind_ok (number_at w32 c.0.1) _ _ c.2 in
    let k = bind_ok (bytes_at 4 n.0.1) _ _ n.2 in
    let tm = bytes_taken 4 bytes m.0.0 m.0.1 fits m.1 in
    let tc = bytes_taken 12 m.0.1 c.0.0 c.0.1 tm.0.rest c.1 in
    let tn = u32_taken c.0.1 n.0.0 n.0.1 tc.0.rest n.1 in
    let tk = bytes_taken 4 n.0.1 k.0.0 k.0.1 tn.0.rest k.1 in
    let read : Header = record { magic = m.0.0; command = c.0.0; len = n.0.0; checksum = k.0.0 } in
    let both = value_of (read, k.0.1) (h, rest) _ refl k.2 in
    let P : Header × List ℕ → Type 0 = λ p. HasHeader bytes p.0 p.1 × IsBytes p.1 in
    subst P both (
      record {
        joined = tm.0.joined ∙ ap (λ t. m.0.0 ++ t) (tc.0.joined ∙ ap (λ t. c.0.0 ++ t) (tn.0.joined ∙ ap (λ t. to_le_bytes w32 n.0.0 ++ t) tk.0.joined));
        four = tm.1;
        twelve = tc.1;
        len = tn.1;
        sum = tk.1;
      },
      tk.0.rest,
    )

-- frames

pub begins_of : (bytes : List ℕ) (f : Frame) (more : List ℕ) → IsBytes bytes → front_of bytes ≡ Ok (Some (f, more)) → Begins bytes f more × IsBytes more
begins_of bytes f more fits e =
    let p = front_parts bytes f more e in
    let h = header_taken bytes p.header p.after fits p.read in
    let t = bytes_taken p.header.len p.after p.payload more h.1 p.taken in
    let good = header_good p.header p.good in
    let sum : not (bytes_eq p.header.checksum (checksum p.payload)) ≡ false = rw p.right refl in
    let read : Begins bytes (record { command = p.header.command; payload = p.payload }) more =
    made bytes more p.header.magic p.header.command p.header.checksum p.payload p.after p.header.len h.0.joined t.0.joined t.1 good.0 good.1 h.0.twelve good.2 sum in
    let P : Frame → Type 0 = λ x. Begins bytes x more in
    (subst P (sym p.same) read, t.0.rest)

-- faults

test_bad : (bytes : List ℕ) (fault : FrameFault) (h : Header) (after p rest : List ℕ) → HasHeader bytes h after → Good h → after ≡ p ++ rest → length p ≡ h.len
    → (b : Bool) → bytes_eq h.checksum (checksum p) ≡ b → tested b h p rest ≡ Err fault → IsBad bytes fault
test_bad bytes fault h after p rest has good joined len true is e = cc
test_bad bytes fault h after p rest has good joined len false is e =
    let same : Checksum ≡ fault = err_is Checksum fault (tested false h p rest) refl e in
    let other : HasOtherSum h after = record { payload = p; more = rest; joined = joined; len = len; differs = do_differ h.checksum (checksum p) is } in
    subst (IsBad bytes) same (record { header = h; after = after; has = has; fails = (good.0, good.1, good.2, other) })

payload_bad : (bytes : List ℕ) (fault : FrameFault) (h : Header) (after : List ℕ) → HasHeader bytes h after → IsBytes after → Good h
    → (r : Read (List ℕ) CutFault) → bytes_at h.len after ≡ r → payload_front h r ≡ Err fault → IsBad bytes fault
payload_bad bytes fault h after has fits good (Err x) is e = cc
payload_bad bytes fault h after has fits good (Ok p) is e =
    let t = bytes_taken h.len after p.0 p.1 fits is in
    test_bad bytes fault h after p.0 p.1 has good t.0.joined t.1 (bytes_eq h.checksum (checksum p.0)) refl e

judged_bad : (bytes : List ℕ) (fault : FrameFault) (h : Header) (after : List ℕ) → HasHeader bytes h after → IsBytes after → (o : Option FrameFault) → header_fault h ≡ o
    → judged_front o h after ≡ Err fault → IsBad bytes fault
judged_bad bytes fault h after has fits (Some x) is e =
    let same : x ≡ fault = err_is x fault (judged_front (Some x) h after) refl e in
    record { header = h; after = after; has = has; fails = subst (FailsFirst h after) same (header_fails h after x is) }
judged_bad bytes fault h after has fits None is e = payload_bad bytes fault h after has fits (header_good h is) (bytes_at h.len after) refl e

header_bad : (bytes : List ℕ) (fault : FrameFault) → IsBytes bytes → (r : Read Header CutFault) → header_at bytes ≡ r → header_front r ≡ Err fault → IsBad bytes fault
header_bad bytes fault fits (Err x) is e = cc
header_bad bytes fault fits (Ok h) is e =
    let t = header_taken bytes h.0 h.1 fits is in
    judged_bad bytes fault h.0 h.1 t.0 t.1 (header_fault h.0) refl e

pub bad_of : (bytes : List ℕ) (fault : FrameFault) → IsBytes bytes → front_of bytes ≡ Err fault → IsBad bytes fault
unfolding front_of
bad_of bytes fault fits e = header_bad bytes fault fits (header_at bytes) refl e

fails_front : (h : Header) (after : List ℕ) (fault : FrameFault) → FailsFirst h after fault → judged_front (header_fault h) h after ≡ Err fault
unfolding header_fault
fails_front h after Magic fails = rw (bytes_differ h.magic magic fails) refl
fails_front h after Command fails = rw ((bytes_eq-Decides h.magic magic).1 fails.0, fails.1) refl
fails_front h after Oversize fails = rw ((bytes_eq-Decides h.magic magic).1 fails.0, fails.1, lt-ltb 4000000 h.len fails.2) refl
fails_front h after Checksum fails =
    let other = fails.3 in
    let taken : bytes_at h.len after ≡ Ok (other.payload, other.more) = ap (bytes_at h.len) other.joined ∙ bytes_again h.len other.payload other.more other.len in
    let good : header_fault h ≡ None = rw ((bytes_eq-Decides h.magic magic).1 fails.0, fails.1, le-ltb 4000000 h.len fails.2) refl in
    let wrong : payload_front h (Ok (other.payload, other.more)) ≡ Err Checksum = rw (bytes_differ h.checksum (checksum other.payload) other.differs) refl in
    ap (λ o. judged_front o h after) good ∙ ap (payload_front h) taken ∙ wrong

pub front_bad : (bytes : List ℕ) (fault : FrameFault) → IsBad bytes fault → front_of bytes ≡ Err fault
unfolding front_of
front_bad bytes fault bad =
    let h = bad.header in
    let read : header_at bytes ≡ Ok (h, bad.after) =
    ap header_at bad.has.joined ∙ header_again h.magic h.command h.checksum bad.after h.len bad.has.four bad.has.twelve bad.has.len bad.has.sum in
    ap header_front read ∙ fails_front h bad.after fault bad.fails

-- what waits is short

payload_few : (h : Header) (after : List ℕ) → h.len ≤ 4000000 → (r : Read (List ℕ) CutFault) → bytes_at h.len after ≡ r → payload_front h r ≡ Ok None → length after < 4000000
payload_few h after small (Err x) is e = elim (cases_lt (length after) h.len) [
  | inl few ↦ omega arith
  | inr whole ↦ absurd (let all : bytes_at h.len after ≡ Ok (take h.len after, drop h.len after) = rw (le-ltb (length after) h.len whole) refl in cc)
]
payload_few h after small (Ok p) is e = absurd (untested (bytes_eq h.checksum (checksum p.0)) h p.0 p.1 e) where
  untested : (b : Bool) (h : Header) (p rest : List ℕ) → tested b h p rest ≡ Ok None → ⊥
  untested true h p rest e = cc
  untested false h p rest e = cc

judged_few : (h : Header) (after : List ℕ) (o : Option FrameFault) → header_fault h ≡ o → judged_front o h after ≡ Ok None → length after < 4000000
judged_few h after (Some x) is e = cc
judged_few h after None is e = payload_few h after (header_good h is).2 (bytes_at h.len after) refl e

-- bytes in which no frame is whole yet are few
pub waits_few : (bytes : List ℕ) → front_of bytes ≡ Ok None → length bytes < 4000024
unfolding front_of
waits_few bytes e = elim (cases_lt (length bytes) 24) [
  | inl few ↦ omega arith
  | inr whole ↦
      let h = header_ready bytes whole in
      omega (arith, h.3, judged_few h.0 h.1 (header_fault h.0) refl (sym (ap header_front h.2) ∙ e))
]

-- prefixes

pub no_prefix : (f g : Frame) (more : List ℕ) → IsFrame f → IsFrame g → spelling g ≡ spelling f ++ more → (g ≡ f) × (more ≡ [])
no_prefix f g more hf hg e =
    let one : front_of (spelling g) ≡ Ok (Some (g, [])) = ap front_of (sym (append-nil (spelling g))) ∙ again g [] hg in
    let two : front_of (spelling g) ≡ Ok (Some (f, more)) = ap front_of e ∙ again f more hf in
    let both = some_of (g, []) (f, more) (front_of (spelling g)) one two in
    (ap (λ p. p.0) both, ap (λ p. p.1) (sym both))

-- streams

whole_case : (bytes : List ℕ) (r : Front) → front_of bytes ≡ r → IsBytes bytes
    → ((more : List ℕ) → length more < length bytes → IsBytes more → IsStreamOf more (read_stream more).frames (read_stream more).rest)
    → IsStreamOf bytes (read_stream bytes).frames (read_stream bytes).rest
whole_case bytes (Ok (Some x)) e fits on =
    let b = begins_of bytes x.0 x.1 fits e in
    let s = on x.1 (front_shorter bytes x.0 x.1 e) b.1 in
    let P : StreamRead → Type 0 = λ read. IsStreamOf bytes read.frames read.rest in
    subst P (sym (stream_frame bytes x.0 x.1 e)) (record {
      joined = b.0.spelled ∙ ap (λ t. spelling x.0 ++ t) s.joined ∙ sym (append_assoc (spelling x.0) (flat_map spelling (read_stream x.1).frames) (read_stream x.1).rest);
      each = (b.0.frame, s.each);
      ends = s.ends;
    })
whole_case bytes (Ok None) e fits on =
    let P : StreamRead → Type 0 = λ read. IsStreamOf bytes read.frames read.rest in
    subst P (sym (stream_waits bytes e)) (record { joined = refl; each = tt; ends = λ f more b. none_begins bytes f more e b })
whole_case bytes (Err fault) e fits on =
    let P : StreamRead → Type 0 = λ read. IsStreamOf bytes read.frames read.rest in
    subst P (sym (stream_bad bytes fault e)) (record { joined = refl; each = tt; ends = λ f more b. let good = ap front_of b.spelled ∙ again f more b.frame in cc })

whole_within : (n : ℕ) (bytes : List ℕ) → length bytes < n → IsBytes bytes → IsStreamOf bytes (read_stream bytes).frames (read_stream bytes).rest
whole_within zero bytes few fits = absurd (omega arith)
whole_within (suc n) bytes few fits = whole_case bytes (front_of bytes) refl fits (λ more less good. whole_within n more (omega arith) good)

pub stream_whole : (bytes : List ℕ) → IsBytes bytes → IsStreamOf bytes (read_stream bytes).frames (read_stream bytes).rest
stream_whole bytes fits = whole_within (suc (length bytes)) bytes (omega arith) fits

abbrev IsReadAs : List ℕ → List Frame → List ℕ → Type 0
IsReadAs bytes frames rest = ((read_stream bytes).frames ≡ frames) × ((read_stream bytes).rest ≡ rest)

ends_case : (rest : List ℕ) (r : Front) → front_of rest ≡ r → IsBytes rest → HasNoFrame rest → IsReadAs rest [] rest
ends_case rest (Ok (Some x)) e fits ends = absurd (ends x.0 x.1 (begins_of rest x.0 x.1 fits e).0)
ends_case rest (Ok None) e fits ends = (ap (λ read. read.frames) (stream_waits rest e), ap (λ read. read.rest) (stream_waits rest e))
ends_case rest (Err fault) e fits ends = (ap (λ read. read.frames) (stream_bad rest fault e), ap (λ read. read.rest) (stream_bad rest fault e))

pub stream_only : (bytes : List ℕ) (frames : List Frame) (rest : List ℕ) → IsBytes bytes → IsStreamOf bytes frames rest → IsReadAs bytes frames rest
stream_only bytes [] rest fits s =
    let P : List ℕ → Type 0 = λ b. IsBytes b → IsReadAs b [] rest in
    subst P (sym s.joined) (λ good. ends_case rest (front_of rest) refl good s.ends) fits
stream_only bytes (f ∷ fs) rest fits s =
    let tail = flat_map spelling fs ++ rest in
    let split : bytes ≡ spelling f ++ tail = s.joined ∙ append_assoc (spelling f) (flat_map spelling fs) rest in
    let front : front_of bytes ≡ Ok (Some (f, tail)) = ap front_of split ∙ again f tail s.each.0 in
    let others = stream_only tail fs rest (begins_of bytes f tail fits front).1 (record { joined = refl; each = s.each.1; ends = s.ends }) in
    let step = stream_frame bytes f tail front in
    (ap (λ read. read.frames) step ∙ ap (λ (gs : List Frame). f ∷ gs) others.0, ap (λ read. read.rest) step ∙ others.1)

abbrev TellsFault : FrameFault → StreamRead → Type 0
TellsFault fault read = (read.fault ≡ Some fault) ↔ IsBad read.rest fault

bad_case : (bytes : List ℕ) (fault : FrameFault) (r : Front) → front_of bytes ≡ r → IsBytes bytes
    → ((more : List ℕ) → length more < length bytes → IsBytes more → TellsFault fault (read_stream more)) → TellsFault fault (read_stream bytes)
bad_case bytes fault (Ok (Some x)) e fits on =
    subst (TellsFault fault) (sym (stream_frame bytes x.0 x.1 e)) (on x.1 (front_shorter bytes x.0 x.1 e) (begins_of bytes x.0 x.1 fits e).1)
bad_case bytes fault (Ok None) e fits on =
    subst (TellsFault fault) (sym (stream_waits bytes e)) (λ h. cc, λ bad. let known = front_bad bytes fault bad in cc)
bad_case bytes fault (Err g) e fits on =
    subst (TellsFault fault) (sym (stream_bad bytes g e))
    (λ h. bad_of bytes fault fits (e ∙ ap Err (some_is g fault h)), λ bad. ap Some (err_is g fault (front_of bytes) e (front_bad bytes fault bad)))

bad_within : (n : ℕ) (bytes : List ℕ) (fault : FrameFault) → length bytes < n → IsBytes bytes → TellsFault fault (read_stream bytes)
bad_within zero bytes fault few fits = absurd (omega arith)
bad_within (suc n) bytes fault few fits = bad_case bytes fault (front_of bytes) refl fits (λ more less good. bad_within n more fault (omega arith) good)

pub stream_fault : (bytes : List ℕ) (fault : FrameFault) → IsBytes bytes → ((read_stream bytes).fault ≡ Some fault) ↔ IsBad (read_stream bytes).rest fault
stream_fault bytes fault fits = bad_within (suc (length bytes)) bytes fault (omega arith) fits
