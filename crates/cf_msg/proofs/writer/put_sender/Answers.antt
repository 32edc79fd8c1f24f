use Rattle.std.specs.Int.{w32, w64, to_le_bytes}
use Rattle.cf_msg.proofs.Writes.{joined_3}
use Rattle.cf_msg.proofs.writer.put_sender.Goals as goal

pub returns : goal.returns
returns c =
    joined_3 c.put_u64-2.result c.args.out.now.items
    (to_le_bytes w32 c.args.version) (to_le_bytes w64 c.args.services) (to_le_bytes w64 c.args.time)
    c.put_u32.new.out.items c.put_u64.new.out.items c.put_u64-2.new.out.items
    c.in_ok-put_u32.ensures c.in_ok-put_u64.ensures c.put_u64-2.ensures
