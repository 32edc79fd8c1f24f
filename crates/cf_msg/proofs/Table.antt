-- The whole table.
use Rattle.std.proofs.Common.{◌≡◌, ℕ, ◌≤◌, ◌-◌, List, [], ◌∷◌, ◌++◌, length, Bool, true, false, if◌then◌else◌, Result, Ok, Err, refl, sym, ap, ◌∙◌, arith, subst}
use Rattle.std.proofs.lemmas.List.{append-nil}
use Rattle.std.proofs.lemmas.Slice.Eq.{bytes_eq-Decides}
use Rattle.std.proofs.Math.Dec.{eqb-suc-zero}
use Rattle.std.specs.Str.{bytes_eq}
use Rattle.cf_bytes.specs.Cut.{Read}
use Rattle.cf_bytes.proofs.Codecs.{IsBytes, bind_ok, bind_is, value_of}
use Rattle.cf_frame.specs.declared.frame.Frame.{Frame}
use Rattle.cf_frame.specs.Frame.{IsFrame, is_command}
use Rattle.cf_msg.specs.declared.command.Kind.{Kind}
use Rattle.cf_msg.specs.declared.command.Kind.TheVariants.{Version as VersionKind, Verack as VerackKind, Ping as PingKind, Pong as PongKind, GetHeaders as GetHeadersKind, Headers as HeadersKind, GetData as GetDataKind, Inv as InvKind, Block as BlockKind, GetCfilters as GetCfiltersKind, Cfilter as CfilterKind, GetCfheaders as GetCfheadersKind, Cfheaders as CfheadersKind, GetCfcheckpt as GetCfcheckptKind, Cfcheckpt as CfcheckptKind, Other as OtherKind}
use Rattle.cf_msg.specs.declared.msg.Cause.{Cause}
use Rattle.cf_msg.specs.declared.msg.Cause.TheVariants.{Rest}
use Rattle.cf_msg.proofs.Codecs.{err_ok}
use Rattle.cf_msg.specs.declared.msg.Malformed.{Malformed}
use Rattle.cf_msg.specs.declared.msg.Msg.{Msg}
use Rattle.cf_msg.specs.declared.msg.Msg.TheVariants.{Version, Verack, Ping, Pong, GetHeaders, Headers, GetData, Inv, Block, GetCfilters, Cfilter, GetCfheaders, Cfheaders, GetCfcheckpt, Cfcheckpt, Other}
use Rattle.cf_msg.specs.Command.{version_command, verack_command, ping_command, pong_command, getheaders_command, headers_command, getdata_command, inv_command, block_command, getcfilters_command, cfilter_command, getcfheaders_command, cfheaders_command, getcfcheckpt_command, cfcheckpt_command, kind_of}
use Rattle.cf_msg.specs.Message.{HasSpelling, IsWithinLimits, Spells, command_of, frame_of, payload_of}
use Rattle.cf_msg.specs.Reading.{fields_at, to_end, whole_at, placed, message_of}
use Rattle.cf_msg.proofs.Rows.{IsRead, version_again, version_taken, ping_again, ping_taken, pong_again, pong_taken, getheaders_again, getheaders_taken, headers_again, headers_taken}
use Rattle.cf_msg.proofs.FilterRows.{getdata_again, getdata_taken, inv_again, inv_taken, block_message_again, block_message_taken, getcfilters_again, getcfilters_taken, cfilter_again, cfilter_taken, getcfheaders_again, getcfheaders_taken, cfheaders_again, cfheaders_taken, getcfcheckpt_again, getcfcheckpt_taken, cfcheckpt_again, cfcheckpt_taken}

-- commands

abbrev name_of : Kind → List ℕ → List ℕ
name_of VersionKind command = version_command
name_of VerackKind command = verack_command
name_of PingKind command = ping_command
name_of PongKind command = pong_command
name_of GetHeadersKind command = getheaders_command
name_of HeadersKind command = headers_command
name_of GetDataKind command = getdata_command
name_of InvKind command = inv_command
name_of BlockKind command = block_command
name_of GetCfiltersKind command = getcfilters_command
name_of CfilterKind command = cfilter_command
name_of GetCfheadersKind command = getcfheaders_command
name_of CfheadersKind command = cfheaders_command
name_of GetCfcheckptKind command = getcfcheckpt_command
name_of CfcheckptKind command = cfcheckpt_command
name_of OtherKind command = command

abbrev IsNamed : List ℕ → Kind → Type 0
IsNamed command k = command ≡ name_of k command

-- one test of the chain
named_step : (command name : List ℕ) (b : Bool) (here else_kind k : Kind) → bytes_eq command name ≡ b → name_of here command ≡ name
    → (if b then here else else_kind) ≡ k → (else_kind ≡ k → IsNamed command k) → IsNamed command k
named_step command name true here else_kind k test is h next = subst (IsNamed command) h ((bytes_eq-Decides command name).0 test ∙ sym is)
named_step command name false here else_kind k test is h next = next h

-- a command of the table is known by what it announces
named : (command : List ℕ) (k : Kind) → kind_of command ≡ k → command ≡ name_of k command
unfolding kind_of
named command k h =
    named_step command version_command (bytes_eq command version_command) VersionKind _ k refl refl h (λ h1.
    named_step command verack_command (bytes_eq command verack_command) VerackKind _ k refl refl h1 (λ h2.
    named_step command ping_command (bytes_eq command ping_command) PingKind _ k refl refl h2 (λ h3.
    named_step command pong_command (bytes_eq command pong_command) PongKind _ k refl refl h3 (λ h4.
    named_step command getheaders_command (bytes_eq command getheaders_command) GetHeadersKind _ k refl refl h4 (λ h5.
    named_step command headers_command (bytes_eq command headers_command) HeadersKind _ k refl refl h5 (λ h6.
    named_step command getdata_command (bytes_eq command getdata_command) GetDataKind _ k refl refl h6 (λ h7.
    named_step command inv_command (bytes_eq command inv_command) InvKind _ k refl refl h7 (λ h8.
    named_step command block_command (bytes_eq command block_command) BlockKind _ k refl refl h8 (λ h9.
    named_step command getcfilters_command (bytes_eq command getcfilters_command) GetCfiltersKind _ k refl refl h9 (λ h10.
    named_step command cfilter_command (bytes_eq command cfilter_command) CfilterKind _ k refl refl h10 (λ h11.
    named_step command getcfheaders_command (bytes_eq command getcfheaders_command) GetCfheadersKind _ k refl refl h11 (λ h12.
    named_step command cfheaders_command (bytes_eq command cfheaders_command) CfheadersKind _ k refl refl h12 (λ h13.
    named_step command getcfcheckpt_command (bytes_eq command getcfcheckpt_command) GetCfcheckptKind _ k refl refl h13 (λ h14.
    named_step command cfcheckpt_command (bytes_eq command cfcheckpt_command) CfcheckptKind _ k refl refl h14 (λ h15.
    subst (IsNamed command) h15 refl)))))))))))))))

-- what was written is read

read_again : (command bytes : List ℕ) (k : Kind) (m : Msg) → kind_of command ≡ k → fields_at k command bytes ≡ Ok (m, []) → whole_at command bytes ≡ Ok (m, [])
unfolding whole_at
read_again command bytes k m kind read =
    bind_is (fields_at (kind_of command) command bytes) (m, []) to_end (ap (λ j. fields_at j command bytes) kind ∙ read)

whole_again : (m : Msg) → HasSpelling m → whole_at (command_of m) (payload_of m) ≡ Ok (m, [])
unfolding kind_of fields_at payload_of
whole_again (Version version services time to from nonce agent height relay) h =
    let m = Version version services time to from nonce agent height relay in
    read_again version_command (payload_of m) VersionKind m refl (version_again version services time to from nonce agent height relay h)
whole_again Verack h = read_again verack_command [] VerackKind Verack refl refl
whole_again (Ping n) h = read_again ping_command (payload_of (Ping n)) PingKind (Ping n) refl (ping_again n h)
whole_again (Pong n) h = read_again pong_command (payload_of (Pong n)) PongKind (Pong n) refl (pong_again n h)
whole_again (GetHeaders version locator stop) h =
    let m = GetHeaders version locator stop in read_again getheaders_command (payload_of m) GetHeadersKind m refl (getheaders_again version locator stop h)
whole_again (Headers headers) h =
    let m = Headers headers in read_again headers_command (payload_of m) HeadersKind m refl (headers_again headers h)
whole_again (GetData entries) h =
    let m = GetData entries in read_again getdata_command (payload_of m) GetDataKind m refl (getdata_again entries h)
whole_again (Inv entries) h =
    let m = Inv entries in read_again inv_command (payload_of m) InvKind m refl (inv_again entries h)
whole_again (Block block) h =
    let m = Block block in read_again block_command (payload_of m) BlockKind m refl (block_message_again block h)
whole_again (GetCfilters filter start stop) h =
    let m = GetCfilters filter start stop in read_again getcfilters_command (payload_of m) GetCfiltersKind m refl (getcfilters_again filter start stop h)
whole_again (Cfilter filter block bytes) h =
    let m = Cfilter filter block bytes in read_again cfilter_command (payload_of m) CfilterKind m refl (cfilter_again filter block bytes h)
whole_again (GetCfheaders filter start stop) h =
    let m = GetCfheaders filter start stop in read_again getcfheaders_command (payload_of m) GetCfheadersKind m refl (getcfheaders_again filter start stop h)
whole_again (Cfheaders filter stop previous hashes) h =
    let m = Cfheaders filter stop previous hashes in read_again cfheaders_command (payload_of m) CfheadersKind m refl (cfheaders_again filter stop previous hashes h)
whole_again (GetCfcheckpt filter stop) h =
    let m = GetCfcheckpt filter stop in read_again getcfcheckpt_command (payload_of m) GetCfcheckptKind m refl (getcfcheckpt_again filter stop h)
whole_again (Cfcheckpt filter stop headers) h =
    let m = Cfcheckpt filter stop headers in read_again cfcheckpt_command (payload_of m) CfcheckptKind m refl (cfcheckpt_again filter stop headers h)
whole_again (Other command payload) h = read_again command payload OtherKind (Other command payload) h.2 refl

pub again : (m : Msg) → HasSpelling m → message_of (frame_of m) ≡ Ok m
unfolding message_of
again m h = ap (placed (frame_of m)) (whole_again m h)

pub frame_fits : (m : Msg) → HasSpelling m → length (payload_of m) ≤ 4000000 → IsFrame (frame_of m)
frame_fits (Version version services time to from nonce agent height relay) h few = record { command = refl; twelve = refl; payload = few }
frame_fits Verack h few = record { command = refl; twelve = refl; payload = few }
frame_fits (Ping n) h few = record { command = refl; twelve = refl; payload = few }
frame_fits (Pong n) h few = record { command = refl; twelve = refl; payload = few }
frame_fits (GetHeaders version locator stop) h few = record { command = refl; twelve = refl; payload = few }
frame_fits (Headers headers) h few = record { command = refl; twelve = refl; payload = few }
frame_fits (GetData entries) h few = record { command = refl; twelve = refl; payload = few }
frame_fits (Inv entries) h few = record { command = refl; twelve = refl; payload = few }
frame_fits (Block block) h few = record { command = refl; twelve = refl; payload = few }
frame_fits (GetCfilters filter start stop) h few = record { command = refl; twelve = refl; payload = few }
frame_fits (Cfilter filter block bytes) h few = record { command = refl; twelve = refl; payload = few }
frame_fits (GetCfheaders filter start stop) h few = record { command = refl; twelve = refl; payload = few }
frame_fits (Cfheaders filter stop previous hashes) h few = record { command = refl; twelve = refl; payload = few }
frame_fits (GetCfcheckpt filter stop) h few = record { command = refl; twelve = refl; payload = few }
frame_fits (Cfcheckpt filter stop headers) h few = record { command = refl; twelve = refl; payload = few }
frame_fits (Other command payload) h few = record { command = h.1; twelve = h.0; payload = few }

pub limits_of : (m : Msg) → HasSpelling m → IsWithinLimits m
limits_of (Version version services time to from nonce agent height relay) h = h.6
limits_of Verack h = tt
limits_of (Ping n) h = tt
limits_of (Pong n) h = tt
limits_of (GetHeaders version locator stop) h = h.1
limits_of (Headers headers) h = h.0
limits_of (GetData entries) h = h.0
limits_of (Inv entries) h = h.0
limits_of (Block block) h = h
limits_of (GetCfilters filter start stop) h = tt
limits_of (Cfilter filter block bytes) h = h.2
limits_of (GetCfheaders filter start stop) h = tt
limits_of (Cfheaders filter stop previous hashes) h = h.3
limits_of (GetCfcheckpt filter stop) h = tt
limits_of (Cfcheckpt filter stop headers) h = h.2
limits_of (Other command payload) h = (h.1, h.2)

pub carries : (f : Frame) (m : Msg) → Spells m f.command f.payload → message_of f ≡ Ok m
carries f m s =
    ap (λ c. message_of (record { command = c; payload = f.payload })) s.command_is
    ∙ ap (λ p. message_of (record { command = command_of m; payload = p })) s.payload_is
    ∙ again m s.fits

-- what is read was written

other_kind : (command : List ℕ) → length command ≡ 12 → is_command command ≡ true → kind_of command ≡ OtherKind → (bytes : List ℕ) (m : Msg) (rest : List ℕ)
    → fields_at OtherKind command bytes ≡ Ok (m, rest) → IsRead command bytes m rest
unfolding fields_at payload_of
other_kind command twelve good kind bytes m rest e =
    let made : Read Msg Cause = Ok (Other command bytes, []) in
    let both = value_of (Other command bytes, []) (m, rest) made refl e in
    let P : Msg × List ℕ → Type 0 = λ q. IsRead command bytes q.0 q.1 in
    subst P both (record { command = refl; joined = sym (append-nil bytes); fits = (twelve, good, kind) })

verack_kind : (bytes : List ℕ) (m : Msg) (rest command : List ℕ) → fields_at VerackKind command bytes ≡ Ok (m, rest) → IsRead verack_command bytes m rest
unfolding fields_at payload_of
verack_kind bytes m rest command e =
    let made : Read Msg Cause = Ok (Verack, bytes) in
    let both = value_of (Verack, bytes) (m, rest) made refl e in
    let P : Msg × List ℕ → Type 0 = λ q. IsRead verack_command bytes q.0 q.1 in
    subst P both (record { command = refl; joined = refl; fits = tt })

fields_taken : (k : Kind) (command bytes : List ℕ) (m : Msg) (rest : List ℕ) → length command ≡ 12 → is_command command ≡ true → kind_of command ≡ k → IsBytes bytes
    → fields_at k command bytes ≡ Ok (m, rest) → IsRead (name_of k command) bytes m rest
unfolding fields_at
fields_taken VersionKind command bytes m rest twelve good kind fits e = version_taken bytes m rest fits e
fields_taken VerackKind command bytes m rest twelve good kind fits e = verack_kind bytes m rest command e
fields_taken PingKind command bytes m rest twelve good kind fits e = ping_taken bytes m rest fits e
fields_taken PongKind command bytes m rest twelve good kind fits e = pong_taken bytes m rest fits e
fields_taken GetHeadersKind command bytes m rest twelve good kind fits e = getheaders_taken bytes m rest fits e
fields_taken HeadersKind command bytes m rest twelve good kind fits e = headers_taken bytes m rest fits e
fields_taken GetDataKind command bytes m rest twelve good kind fits e = getdata_taken bytes m rest fits e
fields_taken InvKind command bytes m rest twelve good kind fits e = inv_taken bytes m rest fits e
fields_taken BlockKind command bytes m rest twelve good kind fits e = block_message_taken bytes m rest fits e
fields_taken GetCfiltersKind command bytes m rest twelve good kind fits e = getcfilters_taken bytes m rest fits e
fields_taken CfilterKind command bytes m rest twelve good kind fits e = cfilter_taken bytes m rest fits e
fields_taken GetCfheadersKind command bytes m rest twelve good kind fits e = getcfheaders_taken bytes m rest fits e
fields_taken CfheadersKind command bytes m rest twelve good kind fits e = cfheaders_taken bytes m rest fits e
fields_taken GetCfcheckptKind command bytes m rest twelve good kind fits e = getcfcheckpt_taken bytes m rest fits e
fields_taken CfcheckptKind command bytes m rest twelve good kind fits e = cfcheckpt_taken bytes m rest fits e
fields_taken OtherKind command bytes m rest twelve good kind fits e = other_kind command twelve good kind bytes m rest e

-- nothing is left
ended : (x : Msg) (rest : List ℕ) (m : Msg) (after : List ℕ) → to_end (x, rest) ≡ Ok (m, after) → (x ≡ m) × (rest ≡ [])
ended x [] m after e =
    let made : Read Msg Cause = Ok (x, []) in
    let both = value_of (x, []) (m, after) made refl e in
    (ap (λ p. p.0) both, refl)
ended x (b ∷ rest) m after e = absurd (err_ok (Rest, b ∷ rest) (m, after) (to_end (x, b ∷ rest)) (rw (eqb-suc-zero (length rest)) refl) e)

abbrev same_read : Read Msg Cause → Read Msg Cause → Type 0
same_read a b = a ≡ b

placed_ok : (f : Frame) (r : Read Msg Cause) (m : Msg) → placed f r ≡ Ok m → (rest : List ℕ) × (r ≡ Ok (m, rest))
placed_ok f (Ok x) m e =
    let made : Result Msg Malformed = Ok x.0 in
    let same : x.0 ≡ m = value_of x.0 m made refl e in
    let P : Msg → Type 0 = λ y. (rest : List ℕ) × same_read (Ok (x.0, x.1)) (Ok (y, rest)) in
    subst P same (x.1, refl)
placed_ok f (Err x) m e = cc

whole_taken : (command bytes : List ℕ) (m : Msg) (rest : List ℕ) → length command ≡ 12 → is_command command ≡ true → IsBytes bytes → whole_at command bytes ≡ Ok (m, rest) → Spells m command bytes
unfolding whole_at
whole_taken command bytes m rest twelve good fits e =
    let x = bind_ok (fields_at (kind_of command) command bytes) to_end (m, rest) e in
    let end = ended x.0.0 x.0.1 m rest x.2 in
    let row = fields_taken (kind_of command) command bytes x.0.0 x.0.1 twelve good refl fits x.1 in
    let spelled : Spells x.0.0 command bytes = record {
      fits = row.fits;
      command_is = named command (kind_of command) refl ∙ sym row.command;
      payload_is = row.joined ∙ ap (λ t. payload_of x.0.0 ++ t) end.1 ∙ append-nil (payload_of x.0.0);
    } in
    subst (λ (y : Msg). Spells y command bytes) end.0 spelled

pub carried : (f : Frame) (m : Msg) → IsFrame f → IsBytes f.payload → message_of f ≡ Ok m → Spells m f.command f.payload
unfolding message_of
carried f m frame fits e =
    let r = placed_ok f (whole_at f.command f.payload) m e in
    whole_taken f.command f.payload m r.0 frame.twelve frame.command fits r.1

-- refusals
err_is : {X E : Type 0} (x y : E) (r : Result X E) → r ≡ Err x → r ≡ Err y → x ≡ y
err_is x y r a b = cc

place_case : (f : Frame) (r : Read Msg Cause) (e : Malformed) → placed f r ≡ Err e → (e.command ≡ f.command) × (e.place ≤ length f.payload)
place_case f (Ok x) e h = cc
place_case f (Err x) e h =
    let made : Malformed = record { command = f.command; place = length f.payload - length x.1; cause = x.0 } in
    let answer : Result Msg Malformed = Err made in
    let same : made ≡ e = err_is made e answer refl h in
    let P : Malformed → Type 0 = λ g. (g.command ≡ f.command) × (g.place ≤ length f.payload) in
    subst P same (refl, omega arith)

pub place_within : (f : Frame) (e : Malformed) → message_of f ≡ Err e → (e.command ≡ f.command) × (e.place ≤ length f.payload)
unfolding message_of
place_within f e h = place_case f (whole_at f.command f.payload) e h
