-- Each field and each row of the table: what is spelled is read again, and what is read was spelled so.
use Rattle.std.proofs.Common.{◌≡◌, ℕ, zero, suc, ◌<◌, ◌≤◌, ◌^◌, List, [], ◌∷◌, ◌++◌, nat_lt, true, Result, Ok, Err, refl, sym, ap, ◌∙◌, append_assoc, arith, inl, inr, lt-ltb, le-ltb, subst}
use Rattle.std.proofs.lemmas.List.{places}
use Rattle.std.proofs.lemmas.Bool.{cases_lt}
use Rattle.std.proofs.lemmas.Nat.{be_bytes_2, from_be_bytes-to_be_bytes_2}
use Rattle.std.proofs.Math.Dec.{eqb-suc-zero}
use Rattle.std.specs.Int.{w16, w64, to_le_bytes, to_be_bytes, from_be_bytes}
use Rattle.cf_bytes.specs.declared.cut.CutFault.{CutFault}
use Rattle.cf_bytes.specs.Cut.{Read, bytes_at, number_at}
use Rattle.cf_bytes.specs.Compact.{compact, compact_at}
use Rattle.cf_bytes.proofs.Codecs.{IsBytes, Takes, Codec, bind_ok, bind_is, reworded_codec, value_of, bytes_taken, bytes_again, u64_codec, u64_taken, compact_codec}
use Rattle.cf_block.specs.declared.header.Header.{Header}
use Rattle.cf_block.specs.declared.fault.BlockFault.{BlockFault}
use Rattle.cf_block.specs.Header.{IsHash, IsHeader, hash_at, header_at, header_spelling}
use Rattle.cf_block.proofs.HeaderLaws.{header_again}
use Rattle.cf_block.proofs.HeaderTaken.{hash_codec, header_taken}
use Rattle.cf_msg.specs.declared.msg.NetAddress.{NetAddress}
use Rattle.cf_msg.specs.declared.msg.Cause.{Cause}
use Rattle.cf_msg.specs.declared.msg.Cause.TheVariants.{NotZero}
use Rattle.cf_msg.specs.Message.{IsAddress, address_spelling, hash_spelling, item_spelling}
use Rattle.cf_msg.specs.Reading.{of_cut, port_at, address_at, limited, count_at, hash_item_at, of_header, past_zero, header_item_at}

pub err_ok : {X E : Type 0} (e : E) (x : X) (r : Result X E) → r ≡ Err e → r ≡ Ok x → ⊥
err_ok e x r a b = cc

-- a reader whose fault is put into a cause

of_cut_ok : {X : Type 0} (r : Read X CutFault) (x : X × List ℕ) → of_cut r ≡ Ok x → r ≡ Ok x
of_cut_ok {X} (Ok y) x h = let made : Read X Cause = Ok y in ap Ok (value_of y x made refl h)
of_cut_ok (Err e) x h = cc

pub of_cut_codec : {X : Type 0} (item : List ℕ → Read X CutFault) (spell : X → List ℕ) (Fits : X → Type 0) → Codec item spell Fits → Codec (λ bytes. of_cut (item bytes)) spell Fits
of_cut_codec item spell Fits = reworded_codec of_cut item spell Fits (λ x. refl) of_cut_ok

regroup_3 : (a b c more : List ℕ) → (a ++ (b ++ c)) ++ more ≡ a ++ (b ++ (c ++ more))
regroup_3 a b c more = simp append_assoc

-- addresses

port_again : (n : ℕ) (more : List ℕ) → n < 2 ^ 16 → port_at (to_be_bytes w16 n ++ more) ≡ Ok (n, more)
port_again n more small =
    let text = to_be_bytes w16 n ++ more in
    bind_is (bytes_at 2 text) (to_be_bytes w16 n, more) (λ x. Ok (from_be_bytes w16 x.0, x.1)) (bytes_again 2 (to_be_bytes w16 n) more refl)
    ∙ ap (λ (v : ℕ). Ok (v, more)) (from_be_bytes-to_be_bytes_2 n small)

small_port : (bytes : List ℕ) → IsBytes bytes → from_be_bytes w16 bytes < 2 ^ 16
small_port bytes fits = omega (arith, fits 0, fits 1)

port_taken : (bytes : List ℕ) (n : ℕ) (rest : List ℕ) → IsBytes bytes → port_at bytes ≡ Ok (n, rest) → Takes bytes (to_be_bytes w16 n) rest × (n < 2 ^ 16)
port_taken bytes n rest fits h =
    let first = bind_ok (bytes_at 2 bytes) (λ x. Ok (from_be_bytes w16 x.0, x.1)) (n, rest) h in
    let x = first.0 in
    let t = bytes_taken 2 bytes x.0 x.1 fits first.1 in
    let made : Read ℕ CutFault = Ok (from_be_bytes w16 x.0, x.1) in
    let both = value_of (from_be_bytes w16 x.0, x.1) (n, rest) made refl first.2 in
    let known : IsBytes x.0 = λ i. grind (arith, places, fits i, t.0.joined) in
    let spelled : to_be_bytes w16 (from_be_bytes w16 x.0) ≡ x.0 = be_bytes_2 x.0 (from_be_bytes w16 x.0) t.1 known refl in
    let P : ℕ × List ℕ → Type 0 = λ p. Takes bytes (to_be_bytes w16 p.0) p.1 × (p.0 < 2 ^ 16) in
    subst P both (record { joined = t.0.joined ∙ ap (λ s. s ++ x.1) (sym spelled); rest = t.0.rest }, small_port x.0 known)

address_again : (a : NetAddress) (more : List ℕ) → IsAddress a → address_at (address_spelling a ++ more) ≡ Ok (a, more)
unfolding address_at
address_again a more h =
    let after_ip = to_be_bytes w16 a.port ++ more in
    let after_services = a.ip ++ after_ip in
    let grouped : address_spelling a ++ more ≡ to_le_bytes w64 a.services ++ after_services = regroup_3 (to_le_bytes w64 a.services) a.ip (to_be_bytes w16 a.port) more in
    ap address_at grouped
    ∙ bind_is (number_at w64 (to_le_bytes w64 a.services ++ after_services)) (a.services, after_services) _ (u64_codec.again a.services after_services h.services)
    ∙ bind_is (bytes_at 16 after_services) (a.ip, after_ip) _ (bytes_again 16 a.ip after_ip h.ip)
    ∙ bind_is (port_at after_ip) (a.port, more) _ (port_again a.port more h.port)

address_taken : (bytes : List ℕ) (a : NetAddress) (rest : List ℕ) → IsBytes bytes → address_at bytes ≡ Ok (a, rest) → Takes bytes (address_spelling a) rest × IsAddress a
unfolding address_at
address_taken bytes a rest fits h =
    let s = bind_ok (number_at w64 bytes) _ _ h in
    let i = bind_ok (bytes_at 16 s.0.1) _ _ s.2 in
    let p = bind_ok (port_at i.0.1) _ _ i.2 in
    let ts = u64_taken bytes s.0.0 s.0.1 fits s.1 in
    let ti = bytes_taken 16 s.0.1 i.0.0 i.0.1 ts.0.rest i.1 in
    let tp = port_taken i.0.1 p.0.0 p.0.1 ti.0.rest p.1 in
    let read : NetAddress = record { services = s.0.0; ip = i.0.0; port = p.0.0 } in
    let made : Read NetAddress CutFault = Ok (read, p.0.1) in
    let both = value_of (read, p.0.1) (a, rest) made refl p.2 in
    let P : NetAddress × List ℕ → Type 0 = λ q. Takes bytes (address_spelling q.0) q.1 × IsAddress q.0 in
    subst P both (
      record {
        joined = ts.0.joined ∙ ap (λ t. to_le_bytes w64 s.0.0 ++ t) (ti.0.joined ∙ ap (λ t. i.0.0 ++ t) tp.0.joined) ∙ sym (regroup_3 (to_le_bytes w64 s.0.0) i.0.0 (to_be_bytes w16 p.0.0) p.0.1);
        rest = tp.0.rest;
      },
      record { services = ts.1; ip = ti.1; port = tp.1 },
    )

pub address_codec : Codec address_at address_spelling IsAddress
address_codec = record { again = address_again; taken = address_taken }

-- hashes and headers

pub hash_item_codec : Codec hash_item_at hash_spelling IsHash
hash_item_codec = of_cut_codec hash_at hash_spelling IsHash hash_codec

of_header_ok : (r : Read Header BlockFault) (x : Header × List ℕ) → of_header r ≡ Ok x → r ≡ Ok x
of_header_ok (Ok y) x h = let made : Read Header Cause = Ok y in ap Ok (value_of y x made refl h)
of_header_ok (Err e) x h = cc

item_again : (h : Header) (more : List ℕ) → IsHeader h → header_item_at (item_spelling h ++ more) ≡ Ok (h, more)
unfolding header_item_at
item_again h more fits =
    let after = 0 ∷ more in
    let grouped : item_spelling h ++ more ≡ header_spelling h ++ after = append_assoc (header_spelling h) (0 ∷ []) more in
    ap header_item_at grouped ∙ bind_is (of_header (header_at (header_spelling h ++ after))) (h, after) past_zero (ap of_header (header_again h after fits))

zero_taken : (bytes : List ℕ) (h x : Header) (rest after : List ℕ) → Takes bytes (header_spelling h) after × IsHeader h → past_zero (h, after) ≡ Ok (x, rest) → Takes bytes (item_spelling x) rest × IsHeader x
zero_taken bytes h x rest [] t e = cc
zero_taken bytes h x rest (zero ∷ after) t e =
    let made : Read Header Cause = Ok (h, after) in
    let both = value_of (h, after) (x, rest) made refl e in
    let P : Header × List ℕ → Type 0 = λ q. Takes bytes (item_spelling q.0) q.1 × IsHeader q.0 in
    subst P both (record { joined = t.0.joined ∙ sym (append_assoc (header_spelling h) (0 ∷ []) after); rest = λ i. t.0.rest (suc i) }, t.1)
zero_taken bytes h x rest (suc b ∷ after) t e = absurd (err_ok (NotZero, suc b ∷ after) (x, rest) (past_zero (h, suc b ∷ after)) (rw (eqb-suc-zero b) refl) e)

item_taken : (bytes : List ℕ) (h : Header) (rest : List ℕ) → IsBytes bytes → header_item_at bytes ≡ Ok (h, rest) → Takes bytes (item_spelling h) rest × IsHeader h
unfolding header_item_at
item_taken bytes h rest fits e =
    let first = bind_ok (of_header (header_at bytes)) past_zero (h, rest) e in
    let x = first.0 in
    zero_taken bytes x.0 h rest x.1 (header_taken bytes x.0 x.1 fits (of_header_ok (header_at bytes) x first.1)) first.2

pub item_codec : Codec header_item_at item_spelling IsHeader
item_codec = record { again = item_again; taken = item_taken }

-- counts

pub count_again : (limit n : ℕ) (more : List ℕ) → n ≤ limit → limit ≤ 33554432 → count_at limit (compact n ++ more) ≡ Ok (n, more)
count_again limit n more few small =
    let text = compact n ++ more in
    bind_is (of_cut (compact_at text)) (n, more) (limited limit text) (ap of_cut (compact_codec.again n more (omega arith)))
    ∙ rw (le-ltb limit n few) refl

limited_taken : (limit n m : ℕ) (bytes after rest : List ℕ) → limited limit bytes (m, after) ≡ Ok (n, rest) → Takes bytes (compact m) after → Takes bytes (compact n) rest × (n ≤ limit)
limited_taken limit n m bytes after rest h t = elim (cases_lt limit m) [
  | inl more ↦ absurd (let many = lt-ltb limit m more in over limit n m bytes after rest h many)
  | inr few ↦
      let kept : limited limit bytes (m, after) ≡ Ok (m, after) = rw (le-ltb limit m few) refl in
      let both = value_of (m, after) (n, rest) (limited limit bytes (m, after)) kept h in
      let P : ℕ × List ℕ → Type 0 = λ p. Takes bytes (compact p.0) p.1 × (p.0 ≤ limit) in
      subst P both (t, few)
] where
  over : (limit n m : ℕ) (bytes after rest : List ℕ) → limited limit bytes (m, after) ≡ Ok (n, rest) → nat_lt limit m ≡ true → ⊥
  over limit n m bytes after rest h many = let g = rw many at h in cc

pub count_taken : (limit : ℕ) (bytes : List ℕ) (n : ℕ) (rest : List ℕ) → IsBytes bytes → count_at limit bytes ≡ Ok (n, rest) → Takes bytes (compact n) rest × (n ≤ limit)
count_taken limit bytes n rest fits h =
    let first = bind_ok (of_cut (compact_at bytes)) (limited limit bytes) (n, rest) h in
    let x = first.0 in
    limited_taken limit n x.0 bytes x.1 rest first.2 (compact_codec.taken bytes x.0 x.1 fits (of_cut_ok (compact_at bytes) x first.1)).0
