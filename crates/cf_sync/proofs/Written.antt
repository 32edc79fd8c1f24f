-- The messages of the runs of two peers: each can be written, and is read as it was.
use Rattle.std.proofs.Common.{if◌then◌else◌, ◌≡◌, ℕ, List, [], ◌∷◌, ◌++◌, length, Option, Some, None, Bool, refl, ◌∙◌, ap, arith, length-append, eq-eqb}
use Rattle.std.specs.Prelude.{◌<◌, ◌^◌, FitsSigned, codes, pos}
use Rattle.std.specs.Int.{w32}
use Rattle.std.proofs.Math.Facts.{sfits_lit}
use Rattle.cf_bytes.specs.Compact.{compact}
use Rattle.cf_bytes.specs.declared.peer.PeerNo.{PeerNo}
use Rattle.cf_block.specs.Header.{block_hash_of, genesis_header}
use Rattle.cf_block.proofs.HeaderLaws.{block_hash_length}
use Rattle.cf_frame.specs.Stream.{StreamRead, read_stream}
use Rattle.cf_frame.proofs.Streams.{stream_of_spelling}
use Rattle.cf_headers.specs.Chain.{no_hash}
use Rattle.cf_msg.specs.declared.msg.Msg.{Msg}
use Rattle.cf_msg.specs.declared.msg.Msg.TheVariants.{Version, Verack, GetCfheaders, Cfheaders, Cfilter}
use Rattle.cf_msg.specs.Message.{IsAddress, IsEntry, payload_of, frame_of, no_address}
use Rattle.cf_msg.proofs.Table.{again, frame_fits}
use Rattle.cf_msg.proofs.Sizes.{entries_size}
use Rattle.cf_wires.specs.declared.event.Delivery.TheVariants.{Got}
use Rattle.cf_wires.specs.declared.event.Event.TheVariants.{Sent, Took}
use Rattle.cf_peer.specs.Acts.{bytes_of, IsSendable}
use Rattle.cf_peer.specs.Asking.{block_entry}
use Rattle.cf_wires.specs.Log.{Log}
use Rattle.cf_peer.specs.Trail.{Trail, Part, Said, Asked, item_of_read, part_after, heard_part, message_in, message_of_stream, spelled, asks, part_of, trail}
use Rattle.cf_sync.specs.Example.{only_header, only_hash, our_version, its_version, false_version, question, its_headers, false_headers, fetch, its_block, only_filter, only_filter_hash, its_first_filter_header, ask_claims, its_claims, ask_filter, its_filter}
use Rattle.cf_sync.proofs.Computed.{name_is, header_fits_type, block_length, block_fits, headers_size}

-- ---- bytes as they are read

pub read_back : (m : Msg) → IsSendable m → read_stream (bytes_of m) ≡ record { frames = frame_of m ∷ []; rest = []; fault = None }
read_back m good = stream_of_spelling (frame_of m) (frame_fits m good.spelled good.short)

pub spelled_is : (m : Msg) → IsSendable m → spelled (bytes_of m) ≡ Some m
spelled_is m good = ap message_of_stream (read_back m good) ∙ ap message_in (again m good.spelled)

-- a part with no bytes that wait
abbrev pub at_rest : Trail → Part
at_rest t = record { trail = t; waits = [] }

pub heard_is : (m : Msg) (t : Trail) → IsSendable m → heard_part (bytes_of m) (at_rest t) ≡ at_rest (Said m ∷ t)
heard_is m t good = ap (λ (r : StreamRead). part_after r t) (read_back m good) ∙ ap (λ r. at_rest (item_of_read r ∷ t)) (again m good.spelled)

pub sent_part : (p : PeerNo) (m : Msg) (log : Log) (t : Trail) → IsSendable m → part_of log p.0 ≡ at_rest t → part_of (Sent p (bytes_of m) ∷ log) p.0 ≡ at_rest (Asked m ∷ t)
sent_part p m log t good e =
    ap (λ (b : Bool). if b then record (part_of log p.0) { trail = asks (spelled (bytes_of m)) (trail log p.0) } else part_of log p.0) (eq-eqb p.0 p.0 refl)
    ∙ ap (λ (part : Part). record part { trail = asks (spelled (bytes_of m)) part.trail }) e
    ∙ ap (λ (o : Option Msg). at_rest (asks o t)) (spelled_is m good)

pub got_part : (p : PeerNo) (m : Msg) (log : Log) (t : Trail) → IsSendable m → part_of log p.0 ≡ at_rest t → part_of (Took (Got p (bytes_of m)) ∷ log) p.0 ≡ at_rest (Said m ∷ t)
got_part p m log t good e =
    ap (λ (b : Bool). if b then heard_part (bytes_of m) (part_of log p.0) else part_of log p.0) (eq-eqb p.0 p.0 refl) ∙ ap (heard_part (bytes_of m)) e ∙ heard_is m t good

-- ---- each message can be written

pub address_fits : IsAddress no_address
address_fits = record { services = omega arith; ip = refl; port = omega arith }

-- a version with this program's name
abbrev named_version : ℕ → ℕ → Msg
named_version services height =
    Version (pos 70016) services (pos 0) no_address no_address 0 (codes "/cf:1/") (pos height) (Some 0)

named_length : (services height : ℕ) → length (payload_of (named_version services height)) ≡ 92
unfolding payload_of compact
named_length services height = refl

named_sendable : (services height : ℕ) → services < 2 ^ 64 → FitsSigned w32 (pos height)
    → IsSendable (named_version services height)
named_sendable services height low fits = record {
  spelled = (sfits_lit tt, low, sfits_lit tt, address_fits, address_fits, omega arith, omega arith, fits, omega arith);
  short = omega (arith, named_length services height);
}

pub our_sendable : IsSendable our_version
our_sendable = named_sendable 0 0 (omega arith) (sfits_lit tt)

pub its_sendable : IsSendable its_version
its_sendable = named_sendable 65 1 (omega arith) (sfits_lit tt)

pub false_length : length (payload_of false_version) ≡ 86
unfolding payload_of compact
false_length = refl

pub false_sendable : IsSendable false_version
false_sendable = record {
  spelled = (sfits_lit tt, omega arith, sfits_lit tt, address_fits, address_fits, omega arith, omega arith, sfits_lit tt, omega arith);
  short = omega (arith, false_length);
}

pub verack_sendable : IsSendable Verack
unfolding payload_of
verack_sendable = record { spelled = tt; short = omega arith }

pub no_hash_32 : length no_hash ≡ 32
unfolding no_hash
no_hash_32 = refl

pub question_length : length (payload_of question) ≡ 69
unfolding payload_of compact
question_length = omega (arith, length-append (block_hash_of genesis_header ++ []) no_hash, length-append (block_hash_of genesis_header) [], block_hash_length genesis_header, no_hash_32)

pub question_sendable : IsSendable question
question_sendable = record { spelled = (omega arith, omega arith, (block_hash_length genesis_header, tt), no_hash_32); short = omega (arith, question_length) }

pub headers_sendable : IsSendable its_headers
headers_sendable = record { spelled = (omega arith, (header_fits_type, tt)); short = omega (arith, headers_size) }

pub none_length : length (payload_of false_headers) ≡ 1
unfolding payload_of compact
none_length = refl

pub none_sendable : IsSendable false_headers
none_sendable = record { spelled = (omega arith, tt); short = omega (arith, none_length) }

pub name_length : length only_hash.0 ≡ 32
name_length = block_hash_length only_header

pub claims_length : length (payload_of its_claims) ≡ 98
unfolding payload_of compact
claims_length = ap (λ (x : List ℕ). length (payload_of (Cfheaders 0 (record { 0 = x }) (record { 0 = its_first_filter_header }) (record { 0 = only_filter_hash } ∷ [])))) name_is

pub filter_length : length (payload_of its_filter) ≡ 38
unfolding payload_of compact
filter_length = ap (λ (x : List ℕ). length (payload_of (Cfilter 0 (record { 0 = x }) only_filter))) name_is

pub range_length : length (payload_of ask_claims) ≡ 37
unfolding payload_of
range_length = ap (λ (x : List ℕ). length (payload_of (GetCfheaders 0 1 (record { 0 = x })))) name_is

pub entry_fits : IsEntry (block_entry only_hash)
entry_fits = record { kind = omega arith; hash = block_hash_length only_header }

pub fetch_sendable : IsSendable fetch
unfolding payload_of
fetch_sendable = record { spelled = (omega arith, (entry_fits, tt)); short = omega (arith, entries_size (block_entry only_hash ∷ []) (entry_fits, tt)) }

pub claims_sendable : IsSendable its_claims
unfolding payload_of compact
claims_sendable = record { spelled = (omega arith, name_length, refl, omega arith, (refl, tt)); short = omega (arith, claims_length) }

pub filter_sendable : IsSendable its_filter
unfolding payload_of compact
filter_sendable = record { spelled = (omega arith, name_length, omega arith); short = omega (arith, filter_length) }

pub ask_claims_sendable : IsSendable ask_claims
unfolding payload_of
ask_claims_sendable = record { spelled = (omega arith, omega arith, name_length); short = omega (arith, range_length) }

pub ask_filter_sendable : IsSendable ask_filter
unfolding payload_of
ask_filter_sendable = record { spelled = (omega arith, omega arith, name_length); short = omega (arith, range_length) }

pub block_sendable : IsSendable its_block
unfolding payload_of
block_sendable = record { spelled = block_fits; short = omega (arith, block_length) }
