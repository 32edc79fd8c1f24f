use Rattle.cf_demo.proofs.Watched.{never_refused}
use Rattle.cf_demo.proofs.playing.watch.Goals as goal

pub unreachable-requires : goal.unreachable-requires
unreachable-requires c = never_refused c.args.scripts.now c.in-Err-No.field-0-0 c.in-Err-No.field-0 c.requires c.in-Err-No.field-0-is c.in-Err-No.ensures
