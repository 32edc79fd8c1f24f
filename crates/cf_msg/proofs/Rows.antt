-- Each row of the table: what is spelled is read again, and what is read was spelled so.
use Rattle.std.proofs.Common.{◌≡◌, ℕ, ℤ, FitsSigned, ◌<◌, ◌≤◌, ◌^◌, List, [], ◌∷◌, ◌++◌, length, Option, Some, None, Ok, refl, sym, ap, ◌∙◌, append_assoc, arith, subst}
use Rattle.std.proofs.lemmas.List.{append-nil}
use Rattle.std.specs.Int.{w32, w64, to_le_bytes, cast_unsigned}
use Rattle.std.specs.List.{flat_map}
use Rattle.cf_bytes.specs.declared.hash.Hash32.{Hash32}
use Rattle.cf_bytes.specs.Cut.{Read, number_at, int_at, ◌>>=◌}
use Rattle.cf_bytes.specs.Compact.{compact}
use Rattle.cf_bytes.specs.Lists.{list_at, counted_bytes, counted_bytes_at}
use Rattle.cf_bytes.proofs.Codecs.{IsBytes, Codec, bind_ok, bind_is, value_of, u32_codec, u64_codec, counted_bytes_codec, list_again, list_taken}
use Rattle.cf_block.specs.declared.header.Header.{Header}
use Rattle.cf_block.specs.Header.{IsHash, IsHeader}
use Rattle.cf_block.proofs.HeaderTaken.{i32_codec, i64_codec}
use Rattle.cf_msg.specs.declared.msg.NetAddress.{NetAddress}
use Rattle.cf_msg.specs.declared.msg.Cause.{Cause}
use Rattle.cf_msg.specs.declared.msg.Msg.{Msg}
use Rattle.cf_msg.specs.declared.msg.Msg.TheVariants.{Version, Ping, Pong, GetHeaders, Headers}
use Rattle.cf_msg.specs.Command.{version_command, ping_command, pong_command, getheaders_command, headers_command}
use Rattle.cf_msg.specs.Message.{IsAddress, IsByteOrNone, HasSpelling, address_spelling, byte_or_none, hash_spelling, item_spelling, command_of, payload_of}
use Rattle.cf_msg.specs.Reading.{of_cut, address_at, byte_or_none_at, version_at, ping_at, pong_at, count_at, hash_item_at, getheaders_at, header_item_at, headers_at}
use Rattle.cf_msg.proofs.Codecs.{of_cut_codec, address_codec, hash_item_codec, item_codec, count_again, count_taken}

-- what is known where a row's payload was read
pub record IsRead (name bytes : List ℕ) (m : Msg) (rest : List ℕ) : Type 0 where
  pub command : command_of m ≡ name
  pub joined : bytes ≡ payload_of m ++ rest
  pub fits : HasSpelling m

-- fields that were read one after another

regroup_9 : (a b c d e f g h i more : List ℕ)
    → a ++ (b ++ (c ++ (d ++ (e ++ (f ++ (g ++ (h ++ (i ++ more)))))))) ≡ (a ++ (b ++ (c ++ (d ++ (e ++ (f ++ (g ++ (h ++ i)))))))) ++ more
regroup_9 a b c d e f g h i more = simp append_assoc

joined_9 : (b0 b1 b2 b3 b4 b5 b6 b7 b8 more a b c d e f g h i : List ℕ)
    → b0 ≡ a ++ b1 → b1 ≡ b ++ b2 → b2 ≡ c ++ b3 → b3 ≡ d ++ b4 → b4 ≡ e ++ b5 → b5 ≡ f ++ b6 → b6 ≡ g ++ b7 → b7 ≡ h ++ b8 → b8 ≡ i ++ more
    → b0 ≡ (a ++ (b ++ (c ++ (d ++ (e ++ (f ++ (g ++ (h ++ i)))))))) ++ more
joined_9 b0 b1 b2 b3 b4 b5 b6 b7 b8 more a b c d e f g h i e0 e1 e2 e3 e4 e5 e6 e7 e8 =
    (e0 ∙ ap (λ t. a ++ t) (e1 ∙ ap (λ t. b ++ t) (e2 ∙ ap (λ t. c ++ t) (e3 ∙ ap (λ t. d ++ t) (e4 ∙ ap (λ t. e ++ t) (e5 ∙ ap (λ t. f ++ t) (e6 ∙ ap (λ t. g ++ t) (e7 ∙ ap (λ t. h ++ t) e8))))))))
    ∙ regroup_9 a b c d e f g h i more

joined_4 : (b0 b1 b2 b3 more a b c d : List ℕ) → b0 ≡ a ++ b1 → b1 ≡ b ++ b2 → b2 ≡ c ++ b3 → b3 ≡ d ++ more → b0 ≡ (a ++ (b ++ (c ++ d))) ++ more
joined_4 b0 b1 b2 b3 more a b c d e0 e1 e2 e3 =
    let all : a ++ (b ++ (c ++ (d ++ more))) ≡ (a ++ (b ++ (c ++ d))) ++ more = simp append_assoc in
    (e0 ∙ ap (λ t. a ++ t) (e1 ∙ ap (λ t. b ++ t) (e2 ∙ ap (λ t. c ++ t) e3))) ∙ all

-- version

i32_cause : Codec (λ bytes. of_cut (int_at w32 bytes)) (λ z. to_le_bytes w32 (cast_unsigned w32 z)) (λ z. FitsSigned w32 z)
i32_cause = of_cut_codec (int_at w32) (λ z. to_le_bytes w32 (cast_unsigned w32 z)) (λ z. FitsSigned w32 z) i32_codec

i64_cause : Codec (λ bytes. of_cut (int_at w64 bytes)) (λ z. to_le_bytes w64 (cast_unsigned w64 z)) (λ z. FitsSigned w64 z)
i64_cause = of_cut_codec (int_at w64) (λ z. to_le_bytes w64 (cast_unsigned w64 z)) (λ z. FitsSigned w64 z) i64_codec

pub u32_cause : Codec (λ bytes. of_cut (number_at w32 bytes)) (to_le_bytes w32) (λ n. n < 2 ^ 32)
u32_cause = of_cut_codec (number_at w32) (to_le_bytes w32) (λ n. n < 2 ^ 32) u32_codec

u64_cause : Codec (λ bytes. of_cut (number_at w64 bytes)) (to_le_bytes w64) (λ n. n < 2 ^ 64)
u64_cause = of_cut_codec (number_at w64) (to_le_bytes w64) (λ n. n < 2 ^ 64) u64_codec

address_cause : Codec (λ bytes. of_cut (address_at bytes)) address_spelling IsAddress
address_cause = of_cut_codec address_at address_spelling IsAddress address_codec

pub counted_cause : Codec (λ bytes. of_cut (counted_bytes_at bytes)) counted_bytes (λ text. length text ≤ 33554432)
counted_cause = of_cut_codec counted_bytes_at counted_bytes (λ text. length text ≤ 33554432) counted_bytes_codec

relay_again : (relay : Option ℕ) → byte_or_none_at (byte_or_none relay) ≡ Ok (relay, [])
relay_again None = refl
relay_again (Some b) = refl

relay_taken : (bytes : List ℕ) (relay : Option ℕ) (rest : List ℕ) → IsBytes bytes → byte_or_none_at bytes ≡ Ok (relay, rest) → (bytes ≡ byte_or_none relay ++ rest) × IsByteOrNone relay
relay_taken [] relay rest fits h =
    let made : Read (Option ℕ) Cause = Ok (None, []) in
    let both = value_of (None, []) (relay, rest) made refl h in
    let P : Option ℕ × List ℕ → Type 0 = λ p. ([] ≡ byte_or_none p.0 ++ p.1) × IsByteOrNone p.0 in
    subst P both (refl, tt)
relay_taken (b ∷ bytes) relay rest fits h =
    let made : Read (Option ℕ) Cause = Ok (Some b, bytes) in
    let both = value_of (Some b, bytes) (relay, rest) made refl h in
    let P : Option ℕ × List ℕ → Type 0 = λ p. (b ∷ bytes ≡ byte_or_none p.0 ++ p.1) × IsByteOrNone p.0 in
    subst P both (refl, fits 0)

pub version_again : (version : ℤ) (services : ℕ) (time : ℤ) (to from : NetAddress) (nonce : ℕ) (agent : List ℕ) (height : ℤ) (relay : Option ℕ)
    → HasSpelling (Version version services time to from nonce agent height relay)
    → version_at (payload_of (Version version services time to from nonce agent height relay)) ≡ Ok (Version version services time to from nonce agent height relay, [])
unfolding version_at payload_of
version_again version services time to from nonce agent height relay h =
    let b8 = byte_or_none relay in
    let b7 = to_le_bytes w32 (cast_unsigned w32 height) ++ b8 in
    let b6 = counted_bytes agent ++ b7 in
    let b5 = to_le_bytes w64 nonce ++ b6 in
    let b4 = address_spelling from ++ b5 in
    let b3 = address_spelling to ++ b4 in
    let b2 = to_le_bytes w64 (cast_unsigned w64 time) ++ b3 in
    let b1 = to_le_bytes w64 services ++ b2 in
    bind_is (of_cut (int_at w32 (to_le_bytes w32 (cast_unsigned w32 version) ++ b1))) (version, b1) _ (i32_cause.again version b1 h.0)
    ∙ bind_is (of_cut (number_at w64 b1)) (services, b2) _ (u64_cause.again services b2 h.1)
    ∙ bind_is (of_cut (int_at w64 b2)) (time, b3) _ (i64_cause.again time b3 h.2)
    ∙ bind_is (of_cut (address_at b3)) (to, b4) _ (address_cause.again to b4 h.3)
    ∙ bind_is (of_cut (address_at b4)) (from, b5) _ (address_cause.again from b5 h.4)
    ∙ bind_is (of_cut (number_at w64 b5)) (nonce, b6) _ (u64_cause.again nonce b6 h.5)
    ∙ bind_is (of_cut (counted_bytes_at b6)) (agent, b7) _ (counted_cause.again agent b7 h.6)
    ∙ bind_is (of_cut (int_at w32 b7)) (height, b8) _ (i32_cause.again height b8 h.7)
    ∙ bind_is (byte_or_none_at b8) (relay, []) _ (relay_again relay)

-- what follows each field of `version`

abbrev Next : Type 0 → Type 0
Next X = X × List ℕ → Read Msg Cause

abbrev after_height : ℤ → ℕ → ℤ → NetAddress → NetAddress → ℕ → List ℕ → ℤ → Next (Option ℕ)
after_height v s t a f n g h = λ r. Ok (Version v s t a f n g h r.0, r.1)

abbrev after_agent : ℤ → ℕ → ℤ → NetAddress → NetAddress → ℕ → List ℕ → Next ℤ
after_agent v s t a f n g = λ h. byte_or_none_at h.1 >>= after_height v s t a f n g h.0

abbrev after_nonce : ℤ → ℕ → ℤ → NetAddress → NetAddress → ℕ → Next (List ℕ)
after_nonce v s t a f n = λ g. of_cut (int_at w32 g.1) >>= after_agent v s t a f n g.0

abbrev after_from : ℤ → ℕ → ℤ → NetAddress → NetAddress → Next ℕ
after_from v s t a f = λ n. of_cut (counted_bytes_at n.1) >>= after_nonce v s t a f n.0

abbrev after_to : ℤ → ℕ → ℤ → NetAddress → Next NetAddress
after_to v s t a = λ f. of_cut (number_at w64 f.1) >>= after_from v s t a f.0

abbrev after_time : ℤ → ℕ → ℤ → Next NetAddress
after_time v s t = λ a. of_cut (address_at a.1) >>= after_to v s t a.0

abbrev after_services : ℤ → ℕ → Next ℤ
after_services v s = λ t. of_cut (address_at t.1) >>= after_time v s t.0

abbrev after_version : ℤ → Next ℕ
after_version v = λ s. of_cut (int_at w64 s.1) >>= after_services v s.0

abbrev after_start : Next ℤ
after_start = λ v. of_cut (number_at w64 v.1) >>= after_version v.0

-- one field that was read, and what follows it
with_field : {X Y E : Type 0} (item : List ℕ → Read X E) (spell : X → List ℕ) (Fits : X → Type 0) → Codec item spell Fits → (bytes : List ℕ) → IsBytes bytes
    → (f : X × List ℕ → Read Y E) (y : Y × List ℕ) (P : Type 0) → (item bytes >>= f) ≡ Ok y
    → ((x : X) (rest : List ℕ) → bytes ≡ spell x ++ rest → IsBytes rest → Fits x → f (x, rest) ≡ Ok y → P) → P
with_field item spell Fits codec bytes fits f y P e then_known =
    let b = bind_ok (item bytes) f y e in
    let t = codec.taken bytes b.0.0 b.0.1 fits b.1 in
    then_known b.0.0 b.0.1 t.0.joined t.0.rest t.1 b.2

abbrev with_i32 : (bytes : List ℕ) → IsBytes bytes → (f : Next ℤ) (y : Msg × List ℕ) (P : Type 0) → (of_cut (int_at w32 bytes) >>= f) ≡ Ok y
    → ((x : ℤ) (rest : List ℕ) → bytes ≡ to_le_bytes w32 (cast_unsigned w32 x) ++ rest → IsBytes rest → FitsSigned w32 x → f (x, rest) ≡ Ok y → P) → P
with_i32 = with_field (λ bytes. of_cut (int_at w32 bytes)) (λ z. to_le_bytes w32 (cast_unsigned w32 z)) (λ z. FitsSigned w32 z) i32_cause

abbrev with_i64 : (bytes : List ℕ) → IsBytes bytes → (f : Next ℤ) (y : Msg × List ℕ) (P : Type 0) → (of_cut (int_at w64 bytes) >>= f) ≡ Ok y
    → ((x : ℤ) (rest : List ℕ) → bytes ≡ to_le_bytes w64 (cast_unsigned w64 x) ++ rest → IsBytes rest → FitsSigned w64 x → f (x, rest) ≡ Ok y → P) → P
with_i64 = with_field (λ bytes. of_cut (int_at w64 bytes)) (λ z. to_le_bytes w64 (cast_unsigned w64 z)) (λ z. FitsSigned w64 z) i64_cause

abbrev with_u64 : (bytes : List ℕ) → IsBytes bytes → (f : Next ℕ) (y : Msg × List ℕ) (P : Type 0) → (of_cut (number_at w64 bytes) >>= f) ≡ Ok y
    → ((x : ℕ) (rest : List ℕ) → bytes ≡ to_le_bytes w64 x ++ rest → IsBytes rest → x < 2 ^ 64 → f (x, rest) ≡ Ok y → P) → P
with_u64 = with_field (λ bytes. of_cut (number_at w64 bytes)) (to_le_bytes w64) (λ n. n < 2 ^ 64) u64_cause

abbrev with_address : (bytes : List ℕ) → IsBytes bytes → (f : Next NetAddress) (y : Msg × List ℕ) (P : Type 0) → (of_cut (address_at bytes) >>= f) ≡ Ok y
    → ((x : NetAddress) (rest : List ℕ) → bytes ≡ address_spelling x ++ rest → IsBytes rest → IsAddress x → f (x, rest) ≡ Ok y → P) → P
with_address = with_field (λ bytes. of_cut (address_at bytes)) address_spelling IsAddress address_cause

abbrev with_counted : (bytes : List ℕ) → IsBytes bytes → (f : Next (List ℕ)) (y : Msg × List ℕ) (P : Type 0) → (of_cut (counted_bytes_at bytes) >>= f) ≡ Ok y
    → ((x : List ℕ) (rest : List ℕ) → bytes ≡ counted_bytes x ++ rest → IsBytes rest → length x ≤ 33554432 → f (x, rest) ≡ Ok y → P) → P
with_counted = with_field (λ bytes. of_cut (counted_bytes_at bytes)) counted_bytes (λ text. length text ≤ 33554432) counted_cause

-- the last field, and the message
relay_end : (v : ℤ) (s : ℕ) (t : ℤ) (a f : NetAddress) (n : ℕ) (g : List ℕ) (h : ℤ) (bytes : List ℕ) (m : Msg) (rest : List ℕ) → IsBytes bytes
    → (byte_or_none_at bytes >>= after_height v s t a f n g h) ≡ Ok (m, rest) → (r : Option ℕ) × (bytes ≡ byte_or_none r ++ rest) × IsByteOrNone r × (Version v s t a f n g h r ≡ m)
relay_end v s t a f n g h bytes m rest fits e =
    let r = bind_ok (byte_or_none_at bytes) (after_height v s t a f n g h) (m, rest) e in
    let taken = relay_taken bytes r.0.0 r.0.1 fits r.1 in
    let made : Read Msg Cause = Ok (Version v s t a f n g h r.0.0, r.0.1) in
    let both = value_of (Version v s t a f n g h r.0.0, r.0.1) (m, rest) made refl r.2 in
    let after : r.0.1 ≡ rest = ap (λ p. p.1) both in
    (r.0.0, taken.0 ∙ ap (λ k. byte_or_none r.0.0 ++ k) after, taken.1, ap (λ p. p.0) both)

version_made : (v : ℤ) (s : ℕ) (t : ℤ) (a f : NetAddress) (n : ℕ) (g : List ℕ) (h : ℤ) (r : Option ℕ) (b0 b1 b2 b3 b4 b5 b6 b7 b8 rest : List ℕ)
    → b0 ≡ to_le_bytes w32 (cast_unsigned w32 v) ++ b1 → b1 ≡ to_le_bytes w64 s ++ b2 → b2 ≡ to_le_bytes w64 (cast_unsigned w64 t) ++ b3
    → b3 ≡ address_spelling a ++ b4 → b4 ≡ address_spelling f ++ b5 → b5 ≡ to_le_bytes w64 n ++ b6 → b6 ≡ counted_bytes g ++ b7
    → b7 ≡ to_le_bytes w32 (cast_unsigned w32 h) ++ b8 → b8 ≡ byte_or_none r ++ rest → HasSpelling (Version v s t a f n g h r)
    → IsRead version_command b0 (Version v s t a f n g h r) rest
unfolding payload_of
version_made v s t a f n g h r b0 b1 b2 b3 b4 b5 b6 b7 b8 rest e0 e1 e2 e3 e4 e5 e6 e7 e8 fits = record {
  command = refl;
  joined = joined_9 b0 b1 b2 b3 b4 b5 b6 b7 b8 rest
      (to_le_bytes w32 (cast_unsigned w32 v)) (to_le_bytes w64 s) (to_le_bytes w64 (cast_unsigned w64 t)) (address_spelling a) (address_spelling f)
      (to_le_bytes w64 n) (counted_bytes g) (to_le_bytes w32 (cast_unsigned w32 h)) (byte_or_none r) e0 e1 e2 e3 e4 e5 e6 e7 e8;
  fits = fits;
}

pub version_taken : (bytes : List ℕ) (m : Msg) (rest : List ℕ) → IsBytes bytes → version_at bytes ≡ Ok (m, rest) → IsRead version_command bytes m rest
unfolding version_at
version_taken bytes m rest fits e =
    let y : Msg × List ℕ = (m, rest) in
    let P : Type 0 = IsRead version_command bytes m rest in
    with_i32 bytes fits after_start y P e (λ v b1 e0 f1 fv k1.
    with_u64 b1 f1 (after_version v) y P k1 (λ s b2 e1 f2 fs k2.
    with_i64 b2 f2 (after_services v s) y P k2 (λ t b3 e2 f3 ft k3.
    with_address b3 f3 (after_time v s t) y P k3 (λ a b4 e3 f4 fa k4.
    with_address b4 f4 (after_to v s t a) y P k4 (λ f b5 e4 f5 ff k5.
    with_u64 b5 f5 (after_from v s t a f) y P k5 (λ n b6 e5 f6 fn k6.
    with_counted b6 f6 (after_nonce v s t a f n) y P k6 (λ g b7 e6 f7 fg k7.
    with_i32 b7 f7 (after_agent v s t a f n g) y P k7 (λ h b8 e7 f8 fh k8.
    let r = relay_end v s t a f n g h b8 m rest f8 k8 in
    subst (λ (x : Msg). IsRead version_command bytes x rest) r.3
    (version_made v s t a f n g h r.0 bytes b1 b2 b3 b4 b5 b6 b7 b8 rest e0 e1 e2 e3 e4 e5 e6 e7 r.1 (fv, fs, ft, fa, ff, fn, fg, fh, r.2))))))))))

-- ping and pong

number_again : (n : ℕ) → n < 2 ^ 64 → of_cut (number_at w64 (to_le_bytes w64 n)) ≡ Ok (n, [])
number_again n small = u64_cause.again n [] small

pub ping_again : (n : ℕ) → n < 2 ^ 64 → ping_at (payload_of (Ping n)) ≡ Ok (Ping n, [])
unfolding ping_at payload_of
ping_again n small = bind_is (of_cut (number_at w64 (to_le_bytes w64 n))) (n, []) (λ x. Ok (Ping x.0, x.1)) (number_again n small)

pub pong_again : (n : ℕ) → n < 2 ^ 64 → pong_at (payload_of (Pong n)) ≡ Ok (Pong n, [])
unfolding pong_at payload_of
pong_again n small = bind_is (of_cut (number_at w64 (to_le_bytes w64 n))) (n, []) (λ x. Ok (Pong x.0, x.1)) (number_again n small)

number_taken : (make : ℕ → Msg) (bytes : List ℕ) (m : Msg) (rest : List ℕ) → IsBytes bytes
    → ◌>>=◌ {B = Msg × List ℕ} (of_cut (number_at w64 bytes)) (λ x. Ok (make x.0, x.1)) ≡ Ok (m, rest)
    → (n : ℕ) × (bytes ≡ to_le_bytes w64 n ++ rest) × (n < 2 ^ 64) × (make n ≡ m)
number_taken make bytes m rest fits e =
    let n = bind_ok (of_cut (number_at w64 bytes)) _ _ e in
    let t = u64_cause.taken bytes n.0.0 n.0.1 fits n.1 in
    let both = value_of (make n.0.0, n.0.1) (m, rest) _ refl n.2 in
    (n.0.0, t.0.joined ∙ ap (λ (q : Msg × List ℕ). to_le_bytes w64 n.0.0 ++ q.1) both, t.1, ap (λ (q : Msg × List ℕ). q.0) both)

pub ping_taken : (bytes : List ℕ) (m : Msg) (rest : List ℕ) → IsBytes bytes → ping_at bytes ≡ Ok (m, rest) → IsRead ping_command bytes m rest
unfolding ping_at payload_of
ping_taken bytes m rest fits e =
    let t = number_taken (λ n. Ping n) bytes m rest fits e in
    subst (λ (x : Msg). IsRead ping_command bytes x rest) t.3 (record { command = refl; joined = t.1; fits = t.2 })

pub pong_taken : (bytes : List ℕ) (m : Msg) (rest : List ℕ) → IsBytes bytes → pong_at bytes ≡ Ok (m, rest) → IsRead pong_command bytes m rest
unfolding pong_at payload_of
pong_taken bytes m rest fits e =
    let t = number_taken (λ n. Pong n) bytes m rest fits e in
    subst (λ (x : Msg). IsRead pong_command bytes x rest) t.3 (record { command = refl; joined = t.1; fits = t.2 })

-- getheaders

pub getheaders_again : (version : ℕ) (locator : List Hash32) (stop : Hash32) → HasSpelling (GetHeaders version locator stop)
    → getheaders_at (payload_of (GetHeaders version locator stop)) ≡ Ok (GetHeaders version locator stop, [])
unfolding getheaders_at payload_of
getheaders_again version locator stop h =
    let b3 = stop.0 in
    let b2 = flat_map hash_spelling locator ++ b3 in
    let b1 = compact (length locator) ++ b2 in
    bind_is (of_cut (number_at w32 (to_le_bytes w32 version ++ b1))) (version, b1) _ (u32_cause.again version b1 h.0)
    ∙ bind_is (count_at 101 b1) (length locator, b2) _ (count_again 101 (length locator) b2 h.1 (omega arith))
    ∙ bind_is (list_at hash_item_at (length locator) b2) (locator, b3) _ (list_again hash_item_at hash_spelling IsHash hash_item_codec locator b3 h.2)
    ∙ bind_is (hash_item_at b3) (stop, []) _ (ap hash_item_at (sym (append-nil stop.0)) ∙ hash_item_codec.again stop [] h.3)

pub getheaders_taken : (bytes : List ℕ) (m : Msg) (rest : List ℕ) → IsBytes bytes → getheaders_at bytes ≡ Ok (m, rest) → IsRead getheaders_command bytes m rest
unfolding getheaders_at payload_of
getheaders_taken bytes m rest fits e =
    let v = bind_ok (of_cut (number_at w32 bytes)) _ _ e in
    let n = bind_ok (count_at 101 v.0.1) _ _ v.2 in
    let l = bind_ok (list_at hash_item_at n.0.0 n.0.1) _ _ n.2 in
    let s = bind_ok (hash_item_at l.0.1) _ _ l.2 in
    let tv = u32_cause.taken bytes v.0.0 v.0.1 fits v.1 in
    let tn = count_taken 101 v.0.1 n.0.0 n.0.1 tv.0.rest n.1 in
    let tl = list_taken hash_item_at hash_spelling IsHash hash_item_codec n.0.0 n.0.1 l.0.0 l.0.1 tn.0.rest l.1 in
    let ts = hash_item_codec.taken l.0.1 s.0.0 s.0.1 tl.0.rest s.1 in
    let both = value_of (GetHeaders v.0.0 l.0.0 s.0.0, s.0.1) (m, rest) _ refl s.2 in
    let joined : v.0.1 ≡ compact (length l.0.0) ++ n.0.1 = tn.0.joined ∙ ap (λ k. compact k ++ n.0.1) (sym tl.2) in
    let few : length l.0.0 ≤ 101 = omega (arith, tl.2, tn.1) in
    let P : Msg × List ℕ → Type 0 = λ q. IsRead getheaders_command bytes q.0 q.1 in
    subst P both (record {
      command = refl;
      joined = joined_4 bytes v.0.1 n.0.1 l.0.1 s.0.1 (to_le_bytes w32 v.0.0) (compact (length l.0.0)) (flat_map hash_spelling l.0.0) s.0.0.0
          tv.0.joined joined tl.0.joined ts.0.joined;
      fits = (tv.1, few, tl.1, ts.1);
    })

-- headers

pub headers_again : (headers : List Header) → HasSpelling (Headers headers) → headers_at (payload_of (Headers headers)) ≡ Ok (Headers headers, [])
unfolding headers_at payload_of
headers_again headers h =
    let items = flat_map item_spelling headers in
    let read : list_at header_item_at (length headers) items ≡ Ok (headers, []) =
    ap (list_at header_item_at (length headers)) (sym (append-nil items)) ∙ list_again header_item_at item_spelling IsHeader item_codec headers [] h.1 in
    bind_is (count_at 2000 (compact (length headers) ++ items)) (length headers, items) _ (count_again 2000 (length headers) items h.0 (omega arith))
    ∙ bind_is (list_at header_item_at (length headers) items) (headers, []) _ read

pub headers_taken : (bytes : List ℕ) (m : Msg) (rest : List ℕ) → IsBytes bytes → headers_at bytes ≡ Ok (m, rest) → IsRead headers_command bytes m rest
unfolding headers_at payload_of
headers_taken bytes m rest fits e =
    let n = bind_ok (count_at 2000 bytes) _ _ e in
    let l = bind_ok (list_at header_item_at n.0.0 n.0.1) _ _ n.2 in
    let tn = count_taken 2000 bytes n.0.0 n.0.1 fits n.1 in
    let tl = list_taken header_item_at item_spelling IsHeader item_codec n.0.0 n.0.1 l.0.0 l.0.1 tn.0.rest l.1 in
    let both = value_of (Headers l.0.0, l.0.1) (m, rest) _ refl l.2 in
    let few : length l.0.0 ≤ 2000 = omega (arith, tl.2, tn.1) in
    let items = flat_map item_spelling l.0.0 in
    let joined : bytes ≡ (compact (length l.0.0) ++ items) ++ l.0.1 =
    tn.0.joined ∙ ap (λ k. compact k ++ n.0.1) (sym tl.2) ∙ ap (λ t. compact (length l.0.0) ++ t) tl.0.joined ∙ sym (append_assoc (compact (length l.0.0)) items l.0.1) in
    let P : Msg × List ℕ → Type 0 = λ q. IsRead headers_command bytes q.0 q.1 in
    subst P both (record { command = refl; joined = joined; fits = (few, tl.1) })
