-- What is lent, and how many bytes of a piece are taken.
use Rattle.std.proofs.Common.{◌≡◌, ◌↔◌, ◌⊎◌, ℕ, zero, suc, ◌+◌, ◌-◌, ◌≤◌, ◌<◌, min, List, [], ◌∷◌, ◌++◌, length, take, drop, Option, Some, None, Result, Ok, Err, Bool, true, false, refl, sym, ap, ◌∙◌, arith, inl, inr, le-ltb, lt-ltb, length-take, length-drop, length-append, append_assoc, subst}
use Rattle.std.proofs.lemmas.Bool.{cases_lt}
use Rattle.std.proofs.lemmas.List.{append-nil, take_all, take_rest}
use Rattle.std.proofs.Math.Seq.{take-add}
use Rattle.std.specs.Prelude.{IfOk, IfSome}
use Rattle.std.specs.Str.{bytes_eq}
use Rattle.cf_bytes.specs.declared.cut.CutFault.{CutFault}
use Rattle.cf_bytes.specs.declared.cut.CutFault.TheVariants.{Short}
use Rattle.cf_bytes.specs.Cut.{Read, bytes_at}
use Rattle.cf_frame.specs.declared.frame.Frame.{Frame}
use Rattle.cf_frame.specs.declared.frame.FrameFault.{FrameFault}
use Rattle.cf_frame.specs.declared.header.Header.{Header}
use Rattle.cf_frame.specs.Frame.{checksum}
use Rattle.cf_frame.specs.Reading.{Begins, header_at, header_fault, front_of, header_front, judged_front, payload_front}
use Rattle.cf_frame.specs.Lending.{HasFrame, IsEndOf, Takes, Lends, behind, after_frame, is_frame, lacks_payload, lacks_by, lacks, IsFilled}
use Rattle.cf_frame.proofs.Suffix.{next_rest}
use Rattle.cf_frame.proofs.Stays.{tested, header_stable, stays}
use Rattle.cf_frame.proofs.Fields.{grows, header_falls, header_ready}
use Rattle.cf_frame.specs.Stream.{read_stream, with_frame, no_frames}
use Rattle.cf_frame.proofs.Relations.{waits_few}
use Rattle.cf_frame.proofs.Streams.{stream_frame, stream_bad}

-- ---- what is lent

pub lends : (bytes new : List ℕ) (r : Result (Option Frame) FrameFault) → Takes r bytes new → Lends r bytes
lends bytes new (Ok (Some f)) e =
    let P : List ℕ → Type 0 = λ rest. front_of bytes ≡ Ok (Some (f, rest)) in
    subst P (sym (ap (behind bytes) e)) e
lends bytes new (Ok None) e = e
lends bytes new (Err fault) e = e

pub has_frame : (bytes new : List ℕ) (f : Frame) → front_of bytes ≡ Ok (Some (f, new)) → HasFrame bytes
has_frame bytes new f e = ap is_frame e

pub lends_frame : (bytes new : List ℕ) (r : Result (Option Frame) FrameFault) → Takes r bytes new
    → IfOk r (λ o. IfSome o (λ f. HasFrame bytes))
lends_frame bytes new (Ok (Some f)) e = ap is_frame e
lends_frame bytes new (Ok None) e = tt
lends_frame bytes new (Err fault) e = tt

pub begins_so : (bytes new : List ℕ) (r : Result (Option Frame) FrameFault) → Takes r bytes new
    → IfOk r (λ o. IfSome o (λ f. Begins bytes f new))
    → IfOk r (λ o. IfSome o (λ f. Begins bytes f (after_frame bytes)))
begins_so bytes new (Ok (Some f)) e b =
    let P : List ℕ → Type 0 = λ rest. Begins bytes f rest in subst P (sym (ap (behind bytes) e)) b
begins_so bytes new (Ok None) e b = tt
begins_so bytes new (Err fault) e b = tt

pub behind_parts : (bytes a b c d mid p rest : List ℕ) → bytes ≡ a ++ (b ++ (c ++ (d ++ mid))) → mid ≡ p ++ rest
    → IsEndOf bytes rest
behind_parts bytes a b c d mid p rest e f = record {
  text = a ++ (b ++ (c ++ (d ++ p)));
  joined = e ∙ ap (λ (l : List ℕ). a ++ (b ++ (c ++ (d ++ l)))) f ∙ regrouped a b c d p rest;
}
  where
    regrouped : (a b c d p rest : List ℕ)
        → a ++ (b ++ (c ++ (d ++ (p ++ rest)))) ≡ (a ++ (b ++ (c ++ (d ++ p)))) ++ rest
    regrouped a b c d p rest = simp append_assoc

-- what waits once so much was dropped
pub end_rest : (items : List ℕ) (start : ℕ) (rest : List ℕ) → IsEndOf (drop start items) rest
    → drop (length items - length rest) items ≡ rest
end_rest items start rest ends = next_rest items start ends.text rest (take_rest items start ∙ ends.joined)

pub end_few : (items : List ℕ) (start : ℕ) (rest : List ℕ) → IsEndOf (drop start items) rest
    → length rest ≤ length items
end_few items start rest ends =
    omega (arith, ap length ends.joined, length-append ends.text rest, length-drop start items)

-- ---- how many bytes lack

no_header : (bytes : List ℕ) (e : CutFault × List ℕ) → header_at bytes ≡ Err e → length bytes < 24
no_header bytes e is = elim (cases_lt (length bytes) 24) [
  | inl few ↦ few
  | inr whole ↦ absurd (let h = header_ready bytes whole in let read = h.2 in cc)
]

short_header : (bytes : List ℕ) (r : Read Header CutFault) → header_at bytes ≡ r → length bytes < 24
    → header_front r ≡ Ok None
short_header bytes (Err e) is few = refl
short_header bytes (Ok h) is few = absurd (omega (arith, header_falls bytes h is))

-- a whole payload is judged
judged_whole : (b : Bool) (h : Header) (p rest : List ℕ) → tested b h p rest ≡ Ok None → ⊥
judged_whole true h p rest e = cc
judged_whole false h p rest e = cc

payload_whole : (h : Header) (rest : List ℕ) → h.len ≤ length rest → payload_front h (bytes_at h.len rest) ≡ Ok None → ⊥
payload_whole h rest whole e =
    let all : bytes_at h.len rest ≡ Ok (take h.len rest, drop h.len rest) =
    rw (le-ltb (length rest) h.len whole) refl in
    judged_whole (bytes_eq h.checksum (checksum (take h.len rest))) h (take h.len rest) (drop h.len rest)
    (sym (ap (payload_front h) all) ∙ e)

judged_some : (o : Option FrameFault) (h : Header) (rest : List ℕ) → lacks_payload o h rest ≡ 0
    → judged_front o h rest ≡ Ok None → ⊥
judged_some (Some fault) h rest none e = cc
judged_some None h rest none e = payload_whole h rest (omega (arith, none)) e

lacks_none_by : (bytes : List ℕ) (r : Read Header CutFault) → header_at bytes ≡ r → lacks_by r bytes ≡ 0
    → header_front r ≡ Ok None → ⊥
lacks_none_by bytes (Err e) is none front = omega (arith, no_header bytes e is, none)
lacks_none_by bytes (Ok h) is none front = judged_some (header_fault h.0) h.0 h.1 none front

-- where none lack, the front is a whole frame or at fault
pub lacks_none : (bytes : List ℕ) → lacks bytes ≡ 0 → front_of bytes ≡ Ok None → ⊥
unfolding lacks front_of
lacks_none bytes none front = lacks_none_by bytes (header_at bytes) refl none front

payload_short : (h : Header) (rest : List ℕ) → length rest < h.len → payload_front h (bytes_at h.len rest) ≡ Ok None
payload_short h rest few =
    ap (payload_front h) (let short : bytes_at h.len rest ≡ Err (Short, rest) =
    rw (lt-ltb (length rest) h.len few) refl in short)

judged_short : (o : Option FrameFault) (h : Header) (rest more : List ℕ) → length more < lacks_payload o h rest
    → judged_front o h (rest ++ more) ≡ Ok None
judged_short (Some fault) h rest more few = absurd (omega (arith, few))
judged_short None h rest more few = payload_short h (rest ++ more) (omega (arith, few, length-append rest more))

lacks_more_by : (bytes more : List ℕ) (r : Read Header CutFault) → header_at bytes ≡ r → length more < lacks_by r bytes
    → header_front (header_at (bytes ++ more)) ≡ Ok None
lacks_more_by bytes more (Err e) is few =
    short_header (bytes ++ more) (header_at (bytes ++ more)) refl (omega (arith, few, length-append bytes more))
lacks_more_by bytes more (Ok h) is few =
    ap header_front (header_stable bytes more h is) ∙ judged_short (header_fault h.0) h.0 h.1 more few

-- with fewer than lack the front is no whole frame, and not at fault
pub lacks_more : (bytes more : List ℕ) → length more < lacks bytes → front_of (bytes ++ more) ≡ Ok None
unfolding lacks front_of
lacks_more bytes more few = lacks_more_by bytes more (header_at bytes) refl few

payload_full : (o : Option FrameFault) (h : Header) (rest more : List ℕ) → lacks_payload o h rest ≤ length more
    → lacks_payload o h (rest ++ more) ≡ 0
payload_full (Some fault) h rest more all = refl
payload_full None h rest more all = omega (arith, all, length-append rest more)

-- once a header stands there, as many as lack are enough
lacks_full_by : (bytes more : List ℕ) (h : Header × List ℕ) → header_at bytes ≡ Ok h
    → lacks_by (Ok h) bytes ≤ length more → lacks_by (header_at (bytes ++ more)) (bytes ++ more) ≡ 0
lacks_full_by bytes more h is all =
    ap (λ (r : Read Header CutFault). lacks_by r (bytes ++ more)) (header_stable bytes more h is)
    ∙ payload_full (header_fault h.0) h.0 h.1 more all

lacks_full : (bytes more : List ℕ) → 24 ≤ length bytes → lacks bytes ≤ length more → lacks (bytes ++ more) ≡ 0
unfolding lacks
lacks_full bytes more whole all =
    let h = header_ready bytes whole in
    lacks_full_by bytes more (h.0, h.1) h.2
    (omega (arith, all, ap (λ (r : Read Header CutFault). lacks_by r bytes) h.2))

-- as many as lack make a header at least
header_full_by : (bytes more : List ℕ) (r : Read Header CutFault) → header_at bytes ≡ r → lacks_by r bytes ≤ length more
    → 24 ≤ length (bytes ++ more)
header_full_by bytes more (Err e) is all = omega (arith, all, length-append bytes more)
header_full_by bytes more (Ok h) is all = omega (arith, header_falls bytes h is, length-append bytes more)

header_full : (bytes more : List ℕ) → lacks bytes ≤ length more → 24 ≤ length (bytes ++ more)
unfolding lacks
header_full bytes more all = header_full_by bytes more (header_at bytes) refl all

-- ---- a piece, in two parts

-- the parts of a piece that are taken, joined
pub two_parts : (bytes piece : List ℕ) (n m : ℕ)
    → (bytes ++ take n piece) ++ take m (drop n piece) ≡ bytes ++ take (n + m) piece
two_parts bytes piece n m = append_assoc bytes (take n piece) (take m (drop n piece))
    ∙ ap (λ (l : List ℕ). bytes ++ l) (sym (take-add n m piece))

part_before : (bytes piece : List ℕ) (n k : ℕ) → n ≤ lacks bytes → k < n → front_of (bytes ++ take k piece) ≡ Ok None
part_before bytes piece n k within less =
    lacks_more bytes (take k piece) (omega (arith, length-take k piece, within, less))

both_before : (bytes piece : List ℕ) (n m k : ℕ) → n ≤ lacks bytes → m ≤ lacks (bytes ++ take n piece) → k < n + m
    → front_of (bytes ++ take k piece) ≡ Ok None
both_before bytes piece n m k one two less = elim (cases_lt k n) [
  | inl early ↦ part_before bytes piece n k one early
  | inr late ↦
      let j = k - n in
      let there : n + j ≡ k = omega (arith, late) in
      let P : ℕ → Type 0 = λ i. front_of (bytes ++ take i piece) ≡ Ok None in
      subst P there (sym (ap front_of (two_parts bytes piece n j))
      ∙ part_before (bytes ++ take n piece) (drop n piece) m j two (omega (arith, late, less)))
]

both_end : (bytes piece : List ℕ) (n m : ℕ) → n ≡ lacks bytes → n ≤ length piece → m ≡ lacks (bytes ++ take n piece)
    → m ≤ length (drop n piece) → front_of (bytes ++ take (n + m) piece) ≡ Ok None → ⊥
both_end bytes piece n m one few two less front =
    let first = take n piece in
    let second = take m (drop n piece) in
    let whole = header_full bytes first (omega (arith, one, few, length-take n piece)) in
    let full = lacks_full (bytes ++ first) second whole (omega (arith, two, less, length-take m (drop n piece))) in
    lacks_none ((bytes ++ first) ++ second) full (ap front_of (two_parts bytes piece n m) ∙ front)

pub filled : (bytes piece : List ℕ) (n m : ℕ) → n ≡ min (lacks bytes) (length piece)
    → m ≡ min (lacks (bytes ++ take n piece)) (length (drop n piece)) → IsFilled bytes piece (n + m)
filled bytes piece n m one two = record {
  within = omega (arith, one, two, length-drop n piece);
  before = λ k less. both_before bytes piece n m k (omega (arith, one)) (omega (arith, two)) less;
  ends = λ more front. both_end bytes piece n m (omega (arith, one, two, more, length-drop n piece))
      (omega (arith, one)) (omega (arith, one, two, more, length-drop n piece)) (omega (arith, two)) front;
}

-- ---- what is taken of a piece

none_taken : (bytes piece : List ℕ) → front_of (bytes ++ take 0 piece) ≡ Ok None → front_of bytes ≡ Ok None
none_taken bytes piece e = ap front_of (sym (append-nil bytes)) ∙ e

taken_none : (bytes piece : List ℕ) → front_of bytes ≡ Ok None → front_of (bytes ++ take 0 piece) ≡ Ok None
taken_none bytes piece e = ap front_of (append-nil bytes) ∙ e

is_none : (bytes piece : List ℕ) (n : ℕ) → IsFilled bytes piece n → n ≡ 0
    → (piece ≡ []) ⊎ (front_of bytes ≡ Ok None → ⊥)
is_none bytes [] n so zeroed = inl refl
is_none bytes (x ∷ xs) n so zeroed =
    inr (λ front. so.ends (omega (arith, zeroed))
    (let P : ℕ → Type 0 = λ k. front_of (bytes ++ take k (x ∷ xs)) ≡ Ok None in
    subst P (sym zeroed) (taken_none bytes (x ∷ xs) front)))

none_is : (bytes piece : List ℕ) (n : ℕ) → IsFilled bytes piece n → (piece ≡ []) ⊎ (front_of bytes ≡ Ok None → ⊥)
    → n ≡ 0
none_is bytes piece n so (inl empty) = omega (arith, so.within, ap length empty)
none_is bytes piece zero so (inr never) = refl
none_is bytes piece (suc k) so (inr never) = absurd (never (none_taken bytes piece (so.before 0 (omega arith))))

pub filled_none : (bytes piece : List ℕ) (n : ℕ) → IsFilled bytes piece n
    → (n ≡ 0) ↔ ((piece ≡ []) ⊎ (front_of bytes ≡ Ok None → ⊥))
filled_none bytes piece n so = (is_none bytes piece n so, none_is bytes piece n so)

pub filled_few : (bytes piece : List ℕ) (n : ℕ) → IsFilled bytes piece n → 0 < n
    → length (bytes ++ take n piece) ≤ 4000024
filled_few bytes piece zero so some = absurd (omega (arith, some))
filled_few bytes piece (suc k) so some =
    let few = waits_few (bytes ++ take k piece) (so.before k (omega arith)) in
    omega (
      arith,
      few,
      length-append bytes (take k piece),
      length-take k piece,
      length-append bytes
          (take (suc k) piece),
      length-take (suc k) piece,
    )

pub filled_one : (bytes piece : List ℕ) (n m : ℕ) → IsFilled bytes piece n → IsFilled bytes piece m → n ≡ m
filled_one bytes piece n m a b = elim (cases_lt n m) [
  | inl less ↦ absurd (a.ends (omega (arith, less, b.within)) (b.before n less))
  | inr some ↦ elim (cases_lt m n) [
    | inl more ↦ absurd (b.ends (omega (arith, more, a.within)) (a.before m more))
    | inr same ↦ omega (arith, some, same)
  ]
]

-- ---- the stream that is read so

pub leads_on : (bytes new more : List ℕ) (f : Frame) → front_of bytes ≡ Ok (Some (f, new))
    → read_stream (bytes ++ more) ≡ with_frame f (read_stream (new ++ more))
leads_on bytes new more f e = stream_frame (bytes ++ more) f (new ++ more) (grows bytes f new more e)

pub stops_on : (bytes more : List ℕ) (fault : FrameFault) → front_of bytes ≡ Err fault
    → read_stream (bytes ++ more) ≡ no_frames (bytes ++ more) (Some fault)
stops_on bytes more fault e = stream_bad (bytes ++ more) fault (stays bytes more fault e)

pub all_taken : (bytes piece : List ℕ) (n : ℕ) → IsFilled bytes piece n → front_of (bytes ++ take n piece) ≡ Ok None
    → take n piece ≡ piece
all_taken bytes piece n so front = elim (cases_lt n (length piece)) [
  | inl less ↦ absurd (so.ends less front)
  | inr whole ↦ take_all n piece whole
]
