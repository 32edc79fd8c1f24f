-- Fields one after another, from which one value is made: what is spelled is read again, and what is read was spelled so.
use Rattle.std.proofs.Common.{◌≡◌, ℕ, ◌≤◌, List, ◌++◌, length, Ok, refl, sym, ap, ◌∙◌, append_assoc, arith, subst}
use Rattle.std.specs.List.{flat_map, AllByRecursion}
use Rattle.cf_bytes.specs.Cut.{Read, ◌>>=◌}
use Rattle.cf_bytes.specs.Compact.{compact}
use Rattle.cf_bytes.specs.Lists.{list_at}
use Rattle.cf_bytes.proofs.Codecs.{IsBytes, Takes, Codec, bind_ok, bind_is, value_of, list_again, list_taken}
use Rattle.cf_msg.specs.declared.msg.Cause.{Cause}
use Rattle.cf_msg.specs.Message.{counted_list}
use Rattle.cf_msg.specs.Reading.{count_at, counted_list_at}
use Rattle.cf_msg.proofs.Codecs.{count_again, count_taken}

-- a value that is made of fields

abbrev pub made_1 : {X W E : Type 0} → (X → W) → X × List ℕ → Read W E
made_1 make p = Ok (make p.0, p.1)

abbrev pub made_2 : {X Y W E : Type 0} → (List ℕ → Read Y E) → (X → Y → W) → X × List ℕ → Read W E
made_2 b make p = b p.1 >>= made_1 (make p.0)

abbrev pub made_3 : {X Y Z W E : Type 0} → (List ℕ → Read Y E) → (List ℕ → Read Z E) → (X → Y → Z → W) → X × List ℕ → Read W E
made_3 b c make p = b p.1 >>= made_2 c (make p.0)

abbrev pub made_4 : {X Y Z V W E : Type 0} → (List ℕ → Read Y E) → (List ℕ → Read Z E) → (List ℕ → Read V E) → (X → Y → Z → V → W) → X × List ℕ → Read W E
made_4 b c d make p = b p.1 >>= made_3 c d (make p.0)

-- with more bytes after them

pub read_1 : {X W E : Type 0} {a : List ℕ → Read X E} {sa : X → List ℕ} {A : X → Type 0}
    → Codec a sa A → (make : X → W) (x : X) (more : List ℕ) → A x → (a (sa x ++ more) >>= made_1 make) ≡ Ok (make x, more)
read_1 {a = a} {sa = sa} ka make x more hx = bind_is (a (sa x ++ more)) (x, more) (made_1 make) (ka.again x more hx)

pub read_2 : {X Y W E : Type 0} {a : List ℕ → Read X E} {sa : X → List ℕ} {A : X → Type 0} {b : List ℕ → Read Y E} {sb : Y → List ℕ} {B : Y → Type 0}
    → Codec a sa A → Codec b sb B → (make : X → Y → W) (x : X) (y : Y) (more : List ℕ) → A x → B y
    → (a ((sa x ++ sb y) ++ more) >>= made_2 b make) ≡ Ok (make x y, more)
read_2 {a = a} {sa = sa} {b = b} {sb = sb} ka kb make x y more hx hy =
    let rest = sb y ++ more in
    ap (λ t. a t >>= made_2 b make) (append_assoc (sa x) (sb y) more)
    ∙ bind_is (a (sa x ++ rest)) (x, rest) (made_2 b make) (ka.again x rest hx)
    ∙ read_1 kb (make x) y more hy

pub read_3 : {X Y Z W E : Type 0} {a : List ℕ → Read X E} {sa : X → List ℕ} {A : X → Type 0} {b : List ℕ → Read Y E} {sb : Y → List ℕ} {B : Y → Type 0}
    {c : List ℕ → Read Z E} {sc : Z → List ℕ} {C : Z → Type 0}
    → Codec a sa A → Codec b sb B → Codec c sc C → (make : X → Y → Z → W) (x : X) (y : Y) (z : Z) (more : List ℕ) → A x → B y → C z
    → (a ((sa x ++ (sb y ++ sc z)) ++ more) >>= made_3 b c make) ≡ Ok (make x y z, more)
read_3 {a = a} {sa = sa} {b = b} {sb = sb} {c = c} {sc = sc} ka kb kc make x y z more hx hy hz =
    let text = sb y ++ sc z in
    let rest = text ++ more in
    ap (λ t. a t >>= made_3 b c make) (append_assoc (sa x) text more)
    ∙ bind_is (a (sa x ++ rest)) (x, rest) (made_3 b c make) (ka.again x rest hx)
    ∙ read_2 kb kc (make x) y z more hy hz

pub read_4 : {X Y Z V W E : Type 0} {a : List ℕ → Read X E} {sa : X → List ℕ} {A : X → Type 0} {b : List ℕ → Read Y E} {sb : Y → List ℕ} {B : Y → Type 0}
    {c : List ℕ → Read Z E} {sc : Z → List ℕ} {C : Z → Type 0} {d : List ℕ → Read V E} {sd : V → List ℕ} {D : V → Type 0}
    → Codec a sa A → Codec b sb B → Codec c sc C → Codec d sd D → (make : X → Y → Z → V → W) (x : X) (y : Y) (z : Z) (v : V) (more : List ℕ) → A x → B y → C z → D v
    → (a ((sa x ++ (sb y ++ (sc z ++ sd v))) ++ more) >>= made_4 b c d make) ≡ Ok (make x y z v, more)
read_4 {a = a} {sa = sa} {b = b} {sb = sb} {c = c} {sc = sc} {d = d} {sd = sd} ka kb kc kd make x y z v more hx hy hz hv =
    let text = sb y ++ (sc z ++ sd v) in
    let rest = text ++ more in
    ap (λ t. a t >>= made_4 b c d make) (append_assoc (sa x) text more)
    ∙ bind_is (a (sa x ++ rest)) (x, rest) (made_4 b c d make) (ka.again x rest hx)
    ∙ read_3 kb kc kd (make x) y z v more hy hz hv

-- what was read, as it was spelled

pub taken_1 : {X W E : Type 0} {a : List ℕ → Read X E} {sa : X → List ℕ} {A : X → Type 0} → Codec a sa A → (make : X → W)
    (bytes : List ℕ) (w : W) (rest : List ℕ) (P : W → List ℕ → Type 0) → IsBytes bytes → (a bytes >>= made_1 make) ≡ Ok (w, rest)
    → ((x : X) (after : List ℕ) → Takes bytes (sa x) after → A x → P (make x) after) → P w rest
taken_1 {W = W} {E = E} {a = a} ka make bytes w rest P fits e known =
    let p = bind_ok (a bytes) (made_1 make) (w, rest) e in
    let tp = ka.taken bytes p.0.0 p.0.1 fits p.1 in
    let made : Read W E = Ok (make p.0.0, p.0.1) in
    let both = value_of (make p.0.0, p.0.1) (w, rest) made refl p.2 in
    let Q : W × List ℕ → Type 0 = λ t. P t.0 t.1 in
    subst Q both (known p.0.0 p.0.1 tp.0 tp.1)

-- a field before a text that was taken
before : (bytes middle rest a text : List ℕ) → bytes ≡ a ++ middle → Takes middle text rest → Takes bytes (a ++ text) rest
before bytes middle rest a text e t = record { joined = e ∙ ap (λ s. a ++ s) t.joined ∙ sym (append_assoc a text rest); rest = t.rest }

pub taken_2 : {X Y W E : Type 0} {a : List ℕ → Read X E} {sa : X → List ℕ} {A : X → Type 0} {b : List ℕ → Read Y E} {sb : Y → List ℕ} {B : Y → Type 0}
    → Codec a sa A → Codec b sb B → (make : X → Y → W) (bytes : List ℕ) (w : W) (rest : List ℕ) (P : W → List ℕ → Type 0) → IsBytes bytes
    → (a bytes >>= made_2 b make) ≡ Ok (w, rest)
    → ((x : X) (y : Y) (after : List ℕ) → Takes bytes (sa x ++ sb y) after → A x → B y → P (make x y) after) → P w rest
taken_2 {a = a} {sa = sa} {b = b} {sb = sb} ka kb make bytes w rest P fits e known =
    let p = bind_ok (a bytes) (made_2 b make) (w, rest) e in
    let x = p.0.0 in
    let tp = ka.taken bytes x p.0.1 fits p.1 in
    taken_1 kb (make x) p.0.1 w rest P tp.0.rest p.2 (λ y after t hy.
    known x y after (before bytes p.0.1 after (sa x) (sb y) tp.0.joined t) tp.1 hy)

pub taken_3 : {X Y Z W E : Type 0} {a : List ℕ → Read X E} {sa : X → List ℕ} {A : X → Type 0} {b : List ℕ → Read Y E} {sb : Y → List ℕ} {B : Y → Type 0}
    {c : List ℕ → Read Z E} {sc : Z → List ℕ} {C : Z → Type 0}
    → Codec a sa A → Codec b sb B → Codec c sc C → (make : X → Y → Z → W) (bytes : List ℕ) (w : W) (rest : List ℕ) (P : W → List ℕ → Type 0) → IsBytes bytes
    → (a bytes >>= made_3 b c make) ≡ Ok (w, rest)
    → ((x : X) (y : Y) (z : Z) (after : List ℕ) → Takes bytes (sa x ++ (sb y ++ sc z)) after → A x → B y → C z → P (make x y z) after) → P w rest
taken_3 {a = a} {sa = sa} {b = b} {sb = sb} {c = c} {sc = sc} ka kb kc make bytes w rest P fits e known =
    let p = bind_ok (a bytes) (made_3 b c make) (w, rest) e in
    let x = p.0.0 in
    let tp = ka.taken bytes x p.0.1 fits p.1 in
    taken_2 kb kc (make x) p.0.1 w rest P tp.0.rest p.2 (λ y z after t hy hz.
    known x y z after (before bytes p.0.1 after (sa x) (sb y ++ sc z) tp.0.joined t) tp.1 hy hz)

pub taken_4 : {X Y Z V W E : Type 0} {a : List ℕ → Read X E} {sa : X → List ℕ} {A : X → Type 0} {b : List ℕ → Read Y E} {sb : Y → List ℕ} {B : Y → Type 0}
    {c : List ℕ → Read Z E} {sc : Z → List ℕ} {C : Z → Type 0} {d : List ℕ → Read V E} {sd : V → List ℕ} {D : V → Type 0}
    → Codec a sa A → Codec b sb B → Codec c sc C → Codec d sd D → (make : X → Y → Z → V → W) (bytes : List ℕ) (w : W) (rest : List ℕ) (P : W → List ℕ → Type 0) → IsBytes bytes
    → (a bytes >>= made_4 b c d make) ≡ Ok (w, rest)
    → ((x : X) (y : Y) (z : Z) (v : V) (after : List ℕ) → Takes bytes (sa x ++ (sb y ++ (sc z ++ sd v))) after → A x → B y → C z → D v → P (make x y z v) after) → P w rest
taken_4 {a = a} {sa = sa} {b = b} {sb = sb} {c = c} {sc = sc} {d = d} {sd = sd} ka kb kc kd make bytes w rest P fits e known =
    let p = bind_ok (a bytes) (made_4 b c d make) (w, rest) e in
    let x = p.0.0 in
    let tp = ka.taken bytes x p.0.1 fits p.1 in
    taken_3 kb kc kd (make x) p.0.1 w rest P tp.0.rest p.2 (λ y z v after t hy hz hv.
    known x y z v after (before bytes p.0.1 after (sa x) (sb y ++ (sc z ++ sd v)) tp.0.joined t) tp.1 hy hz hv)

-- a list with its count before it

pub counted_again : {X : Type 0} (limit : ℕ) (item : List ℕ → Read X Cause) (spell : X → List ℕ) (Fits : X → Type 0) → limit ≤ 33554432 → Codec item spell Fits
    → (xs : List X) (more : List ℕ) → (length xs ≤ limit) × AllByRecursion Fits xs → counted_list_at limit item (counted_list spell xs ++ more) ≡ Ok (xs, more)
counted_again limit item spell Fits small codec xs more h =
    let items = flat_map spell xs in
    ap (counted_list_at limit item) (append_assoc (compact (length xs)) items more)
    ∙ bind_is (count_at limit (compact (length xs) ++ (items ++ more))) (length xs, items ++ more) _ (count_again limit (length xs) (items ++ more) h.0 small)
    ∙ list_again item spell Fits codec xs more h.1

pub counted_taken : {X : Type 0} (limit : ℕ) (item : List ℕ → Read X Cause) (spell : X → List ℕ) (Fits : X → Type 0) → Codec item spell Fits
    → (bytes : List ℕ) (xs : List X) (rest : List ℕ) → IsBytes bytes → counted_list_at limit item bytes ≡ Ok (xs, rest)
    → Takes bytes (counted_list spell xs) rest × ((length xs ≤ limit) × AllByRecursion Fits xs)
counted_taken limit item spell Fits codec bytes xs rest fits e =
    let n = bind_ok (count_at limit bytes) (λ n. list_at item n.0 n.1) (xs, rest) e in
    let tn = count_taken limit bytes n.0.0 n.0.1 fits n.1 in
    let tl = list_taken item spell Fits codec n.0.0 n.0.1 xs rest tn.0.rest n.2 in
    let items = flat_map spell xs in
    let counted : bytes ≡ compact (length xs) ++ n.0.1 = tn.0.joined ∙ ap (λ k. compact k ++ n.0.1) (sym tl.2) in
    let few : length xs ≤ limit = omega (arith, tl.2, tn.1) in (
      record { joined = counted ∙ ap (λ t. compact (length xs) ++ t) tl.0.joined ∙ sym (append_assoc (compact (length xs)) items rest); rest = tl.0.rest },
      (few, tl.1),
    )

pub counted_codec : {X : Type 0} (limit : ℕ) (item : List ℕ → Read X Cause) (spell : X → List ℕ) (Fits : X → Type 0) → limit ≤ 33554432 → Codec item spell Fits
    → Codec (counted_list_at limit item) (counted_list spell) (λ xs. (length xs ≤ limit) × AllByRecursion Fits xs)
counted_codec limit item spell Fits small codec = record {
  again = counted_again limit item spell Fits small codec;
  taken = counted_taken limit item spell Fits codec;
}
