use Rattle.std.proofs.Common.{rules, ap, ◌∙◌}
use Rattle.std.proofs.Math.Facts.{to_z-of_z}
use Rattle.std.specs.Int.{w32, w64, to_le_bytes, cast_unsigned}
use Rattle.cf_bytes.specs.Lists.{counted_bytes}
use Rattle.cf_msg.specs.Message.{address_spelling, byte_or_none, payload_of}
use Rattle.cf_msg.proofs.Writes.{joined_9}
use Rattle.cf_msg.proofs.writer.put_payload.Goals as goal

pub returns-in_ok-put_addresses-in-Version : goal.returns-in_ok-put_addresses-in-Version
unfolding payload_of
returns-in_ok-put_addresses-in-Version c =
    let m = c.in-Version in
    let version = c.cast_unsigned.ensures ∙ ap (cast_unsigned w32) (to_z-of_z {w = w32} {z = m.version} (search rules)) in
    let time = c.cast_unsigned-in-Version.ensures ∙ ap (cast_unsigned w64) (to_z-of_z {w = w64} {z = m.time} (search rules)) in
    let height = c.cast_unsigned-in-Version-2.ensures ∙ ap (cast_unsigned w32) (to_z-of_z {w = w32} {z = m.height} (search rules)) in
    let sender = rw (version, time) at c.in_ok-put_sender-in-Version.ensures in
    let agent = rw height at c.put_agent.ensures in
    rw m.is (
    joined_9 c.put_agent.result c.args.out.now.items
    (to_le_bytes w32 (cast_unsigned w32 m.version)) (to_le_bytes w64 m.services) (to_le_bytes w64 (cast_unsigned w64 m.time))
    (address_spelling m.to) (address_spelling m.from) (to_le_bytes w64 m.nonce)
    (counted_bytes m.agent) (to_le_bytes w32 (cast_unsigned w32 m.height)) (byte_or_none m.relay)
    c.put_sender.new.out.items c.put_addresses.new.out.items c.put_agent.new.out.items
    sender c.in_ok-put_addresses-in-Version.ensures agent)
