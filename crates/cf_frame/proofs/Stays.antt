-- A fault stays, whatever follows.
use Rattle.std.proofs.Common.{◌≡◌, ℕ, List, ◌++◌, Option, Some, None, Ok, Err, Bool, true, false, refl, not, if◌then◌else◌}
use Rattle.std.specs.Int.{w32}
use Rattle.cf_bytes.specs.declared.cut.CutFault.{CutFault}
use Rattle.cf_bytes.specs.Cut.{Read, bytes_at, number_at}
use Rattle.cf_bytes.proofs.Stable.{IsStable, bytes_stable, number_stable, bind_stable, pure_stable}
use Rattle.cf_frame.specs.declared.header.Header.{Header}
use Rattle.std.specs.Str.{bytes_eq}
use Rattle.cf_frame.specs.declared.frame.FrameFault.{FrameFault}
use Rattle.cf_frame.specs.declared.frame.FrameFault.TheVariants.{Checksum}
use Rattle.cf_frame.specs.Reading.{Front, header_at, header_fault, front_of, header_front, judged_front, payload_front}
use Rattle.cf_frame.specs.Frame.{checksum}

-- the checksum's test
abbrev pub tested : Bool → Header → List ℕ → List ℕ → Front
tested b h p rest = if not b then Err Checksum else Ok (Some (record { command = h.command; payload = p }, rest))

pub header_stable : IsStable header_at
unfolding header_at
header_stable =
    bind_stable (bytes_at 4) _ (bytes_stable 4) (λ m.
    bind_stable (bytes_at 12) _ (bytes_stable 12) (λ c.
    bind_stable (number_at w32) _ (number_stable w32) (λ n.
    bind_stable (bytes_at 4) (λ k rest. Ok (record { magic = m; command = c; len = n; checksum = k }, rest)) (bytes_stable 4) (λ k.
    pure_stable (record { magic = m; command = c; len = n; checksum = k })))))

same_test : (b : Bool) (h : Header) (p rest more : List ℕ) (e : FrameFault) → tested b h p rest ≡ Err e → tested b h p (rest ++ more) ≡ Err e
same_test true h p rest more e bad = cc
same_test false h p rest more e bad = bad

payload_stays : (h : Header) (bytes more : List ℕ) (e : FrameFault) (r : Read (List ℕ) CutFault) → bytes_at h.len bytes ≡ r → payload_front h r ≡ Err e → payload_front h (bytes_at h.len (bytes ++ more)) ≡ Err e
payload_stays h bytes more e (Err f) is bad = cc
payload_stays h bytes more e (Ok p) is bad = rw (bytes_stable h.len bytes more p is) (same_test (bytes_eq h.checksum (checksum p.0)) h p.0 p.1 more e bad)

judged_stays : (o : Option FrameFault) (h : Header) (rest more : List ℕ) (e : FrameFault) → judged_front o h rest ≡ Err e → judged_front o h (rest ++ more) ≡ Err e
judged_stays (Some fault) h rest more e bad = bad
judged_stays None h rest more e bad = payload_stays h rest more e (bytes_at h.len rest) refl bad

header_stays : (bytes more : List ℕ) (e : FrameFault) (r : Read Header CutFault) → header_at bytes ≡ r → header_front r ≡ Err e → header_front (header_at (bytes ++ more)) ≡ Err e
header_stays bytes more e (Err f) is bad = cc
header_stays bytes more e (Ok h) is bad = rw (header_stable bytes more h is) (judged_stays (header_fault h.0) h.0 h.1 more e bad)

-- a fault stays, whatever follows
pub stays : (bytes more : List ℕ) (e : FrameFault) → front_of bytes ≡ Err e → front_of (bytes ++ more) ≡ Err e
unfolding front_of
stays bytes more e bad = header_stays bytes more e (header_at bytes) refl bad
