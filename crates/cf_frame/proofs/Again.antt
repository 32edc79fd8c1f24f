-- What is spelled is read, whatever follows.
use Rattle.std.proofs.Common.{◌≡◌, ℕ, ◌<◌, ◌^◌, List, ◌++◌, length, Some, None, Ok, refl, sym, ap, ◌∙◌, arith, le-ltb, length-take}
use Rattle.std.proofs.lemmas.Slice.Eq.{bytes_eq-Decides}
use Rattle.std.specs.Int.{w32, to_le_bytes}
use Rattle.cf_bytes.specs.Hash.{hash_of}
use Rattle.cf_bytes.specs.Cut.{bytes_at, number_at}
use Rattle.cf_bytes.proofs.Codecs.{bind_is, bytes_again, u32_again}
use Rattle.cf_bytes.proofs.HashLemmas.{length-hash_of}
use Rattle.cf_bytes.specs.Magic.{magic}
use Rattle.cf_frame.specs.declared.frame.Frame.{Frame}
use Rattle.cf_frame.specs.declared.header.Header.{Header}
use Rattle.cf_frame.specs.Frame.{checksum, spelling, IsFrame}
use Rattle.cf_frame.specs.Reading.{header_at, header_fault, front_of, header_front, judged_front, payload_front, Begins}
use Rattle.cf_frame.proofs.Suffix.{regroup}

length-checksum : (payload : List ℕ) → length (checksum payload) ≡ 4
length-checksum payload = omega (arith, length-take 4 (hash_of payload), length-hash_of payload)

-- the parts of a header, read again
pub header_again : (m c k rest : List ℕ) (n : ℕ) → length m ≡ 4 → length c ≡ 12 → n < 2 ^ 32 → length k ≡ 4
    → header_at (m ++ (c ++ (to_le_bytes w32 n ++ (k ++ rest)))) ≡ Ok (record { magic = m; command = c; len = n; checksum = k }, rest)
unfolding header_at
header_again m c k rest n lm lc small lk =
    let after_len = k ++ rest in
    let after_command = to_le_bytes w32 n ++ after_len in
    let after_magic = c ++ after_command in
    bind_is (bytes_at 4 (m ++ after_magic)) (m, after_magic) _ (bytes_again 4 m after_magic lm)
    ∙ bind_is (bytes_at 12 after_magic) (c, after_command) _ (bytes_again 12 c after_command lc)
    ∙ bind_is (number_at w32 after_command) (n, after_len) _ (u32_again n after_len small)
    ∙ bind_is (bytes_at 4 after_len) (k, rest) _ (bytes_again 4 k rest lk)

pub again : (f : Frame) (more : List ℕ) → IsFrame f → front_of (spelling f ++ more) ≡ Ok (Some (f, more))
unfolding front_of header_fault
again f more h =
    let made : Header = record { magic = magic; command = f.command; len = length f.payload; checksum = checksum f.payload } in
    let read = header_again magic f.command (checksum f.payload) (f.payload ++ more) (length f.payload) refl h.twelve (omega (arith, h.payload)) (length-checksum f.payload) in
    let good : header_fault made ≡ None = rw (h.command, le-ltb 4000000 (length f.payload) h.payload) refl in
    let taken : bytes_at (length f.payload) (f.payload ++ more) ≡ Ok (f.payload, more) = bytes_again (length f.payload) f.payload more refl in
    let right : payload_front made (Ok (f.payload, more)) ≡ Ok (Some (f, more)) = rw ((bytes_eq-Decides (checksum f.payload) (checksum f.payload)).1 refl) refl in
    ap front_of (sym (regroup f more)) ∙ ap header_front read ∙ ap (λ o. judged_front o made (f.payload ++ more)) good ∙ ap (payload_front made) taken ∙ right

-- so where none is read, none begins the bytes
pub none_begins : (bytes : List ℕ) (f : Frame) (more : List ℕ) → front_of bytes ≡ Ok None → Begins bytes f more → ⊥
none_begins bytes f more none b = let same : front_of bytes ≡ Ok (Some (f, more)) = ap front_of b.spelled ∙ again f more b.frame in cc
