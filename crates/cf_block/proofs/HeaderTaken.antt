-- What is read as a header was spelled so.
use Rattle.std.proofs.Common.{◌≡◌, ℕ, ℤ, FitsSigned, ◌<◌, ◌^◌, List, ◌++◌, Ok, Err, refl, sym, ap, ◌∙◌, subst}
use Rattle.std.proofs.lemmas.Int.{of_z-to_z}
use Rattle.std.proofs.Math.Facts.{sfits_to_z}
use Rattle.std.specs.Int.{Width, w32, w64, to_le_bytes, cast_signed, cast_unsigned}
use Rattle.cf_bytes.specs.declared.cut.CutFault.{CutFault}
use Rattle.cf_bytes.specs.declared.hash.Hash32.{Hash32}
use Rattle.cf_bytes.specs.Cut.{Read, bytes_at, number_at, int_at}
use Rattle.cf_bytes.proofs.Codecs.{IsBytes, Takes, Codec, bind_ok, value_of, int_number, bytes_taken, u32_taken, u64_taken, i32_again, i64_again}
use Rattle.cf_block.specs.declared.header.Header.{Header}
use Rattle.cf_block.specs.declared.fault.BlockFault.{BlockFault}
use Rattle.cf_block.specs.Header.{IsHash, IsHeader, hash_at, header_at, header_fields_at, header_spelling, whole_header}
use Rattle.cf_block.proofs.HeaderLaws.{hash_again}
use Rattle.cf_block.proofs.Joins.{taken}

-- signed numbers

int_taken : (w : Width) (limit : ℕ) → ((bytes : List ℕ) (n : ℕ) (rest : List ℕ) → IsBytes bytes → number_at w bytes ≡ Ok (n, rest) → Takes bytes (to_le_bytes w n) rest × (n < limit))
    → ((n : ℕ) → n < limit → cast_unsigned w (cast_signed w n) ≡ n) → ((n : ℕ) → n < limit → FitsSigned w (cast_signed w n))
    → (bytes : List ℕ) (z : ℤ) (rest : List ℕ) → IsBytes bytes → int_at w bytes ≡ Ok (z, rest) → Takes bytes (to_le_bytes w (cast_unsigned w z)) rest × FitsSigned w z
int_taken w limit numbers back ranged bytes z rest fits h =
    let first = bind_ok (number_at w bytes) (λ x. Ok (cast_signed w x.0, x.1)) (z, rest) (sym (int_number w bytes) ∙ h) in
    let n = first.0 in
    let t = numbers bytes n.0 n.1 fits first.1 in
    let made : Read ℤ CutFault = Ok (cast_signed w n.0, n.1) in
    let both = value_of (cast_signed w n.0, n.1) (z, rest) made refl first.2 in
    let P : ℤ × List ℕ → Type 0 = λ p. Takes bytes (to_le_bytes w (cast_unsigned w p.0)) p.1 × FitsSigned w p.0 in
    subst P both (
      record { joined = t.0.joined ∙ ap (λ m. to_le_bytes w m ++ n.1) (sym (back n.0 t.1)); rest = t.0.rest },
      ranged n.0 t.1,
    )

pub i32_codec : Codec (int_at w32) (λ z. to_le_bytes w32 (cast_unsigned w32 z)) (λ z. FitsSigned w32 z)
i32_codec = record { again = λ z more h. i32_again z more h; taken = λ bytes z rest fits h. int_taken w32 (2 ^ 32) u32_taken (of_z-to_z w32) (λ n small. sfits_to_z (record { fits = small })) bytes z rest fits h }

pub i64_codec : Codec (int_at w64) (λ z. to_le_bytes w64 (cast_unsigned w64 z)) (λ z. FitsSigned w64 z)
i64_codec = record { again = λ z more h. i64_again z more h; taken = λ bytes z rest fits h. int_taken w64 (2 ^ 64) u64_taken (of_z-to_z w64) (λ n small. sfits_to_z (record { fits = small })) bytes z rest fits h }

-- hashes and headers

hash_taken : (bytes : List ℕ) (x : Hash32) (rest : List ℕ) → IsBytes bytes → hash_at bytes ≡ Ok (x, rest) → Takes bytes x.0 rest × IsHash x
hash_taken bytes x rest fits h =
    let first = bind_ok (bytes_at 32 bytes) _ _ h in
    let t = bytes_taken 32 bytes first.0.0 first.0.1 fits first.1 in
    let made : Hash32 = record { 0 = first.0.0 } in
    let both = value_of (made, first.0.1) (x, rest) _ refl first.2 in
    let P : Hash32 × List ℕ → Type 0 = λ p. Takes bytes p.0.0 p.1 × IsHash p.0 in
    subst P both t

pub hash_codec : Codec hash_at (λ h. h.0) IsHash
hash_codec = record { again = hash_again; taken = hash_taken }

fields_taken : (bytes : List ℕ) (h : Header) (rest : List ℕ) → IsBytes bytes → header_fields_at bytes ≡ Ok (h, rest) → Takes bytes (header_spelling h) rest × IsHeader h
unfolding header_fields_at header_spelling
fields_taken bytes h rest fits e =
    let v = bind_ok (int_at w32 bytes) _ _ e in
    let p = bind_ok (hash_at v.0.1) _ _ v.2 in
    let r = bind_ok (hash_at p.0.1) _ _ p.2 in
    let t = bind_ok (number_at w32 r.0.1) _ _ r.2 in
    let b = bind_ok (number_at w32 t.0.1) _ _ t.2 in
    let n = bind_ok (number_at w32 b.0.1) _ _ b.2 in
    let tv = i32_codec.taken bytes v.0.0 v.0.1 fits v.1 in
    let tp = hash_taken v.0.1 p.0.0 p.0.1 tv.0.rest p.1 in
    let tr = hash_taken p.0.1 r.0.0 r.0.1 tp.0.rest r.1 in
    let tt = u32_taken r.0.1 t.0.0 t.0.1 tr.0.rest t.1 in
    let tb = u32_taken t.0.1 b.0.0 b.0.1 tt.0.rest b.1 in
    let tn = u32_taken b.0.1 n.0.0 n.0.1 tb.0.rest n.1 in
    let read : Header = record { version = v.0.0; previous = p.0.0; root = r.0.0; time = t.0.0; bits = b.0.0; nonce = n.0.0 } in
    let both = value_of (read, n.0.1) (h, rest) _ refl n.2 in
    let P : Header × List ℕ → Type 0 = λ q. Takes bytes (header_spelling q.0) q.1 × IsHeader q.0 in
    subst P both (
      record {
        joined = taken bytes v.0.1 p.0.1 r.0.1 t.0.1 b.0.1 n.0.1
            (to_le_bytes w32 (cast_unsigned w32 v.0.0)) p.0.0.0 r.0.0.0 (to_le_bytes w32 t.0.0) (to_le_bytes w32 b.0.0) (to_le_bytes w32 n.0.0)
            tv.0.joined tp.0.joined tr.0.joined tt.0.joined tb.0.joined tn.0.joined;
        rest = tn.0.rest;
      },
      record { version = tv.1; previous = tp.1; root = tr.1; time = tt.1; bits = tb.1; nonce = tn.1 },
    )

whole_ok : (bytes : List ℕ) (r : Read Header CutFault) (x : Header × List ℕ) → whole_header bytes r ≡ Ok x → r ≡ Ok x
whole_ok bytes (Ok y) x h = let made : Read Header BlockFault = Ok y in ap Ok (value_of y x made refl h)
whole_ok bytes (Err e) x h = cc

pub header_taken : (bytes : List ℕ) (h : Header) (rest : List ℕ) → IsBytes bytes → header_at bytes ≡ Ok (h, rest) → Takes bytes (header_spelling h) rest × IsHeader h
unfolding header_at
header_taken bytes h rest fits e = fields_taken bytes h rest fits (whole_ok bytes (header_fields_at bytes) (h, rest) e)

pub header_read : (bytes : List ℕ) (h : Header) (rest : List ℕ) → IsBytes bytes → header_at bytes ≡ Ok (h, rest) → (bytes ≡ header_spelling h ++ rest) × IsHeader h
header_read bytes h rest fits e = let t = header_taken bytes h rest fits e in (t.0.joined, t.1)
