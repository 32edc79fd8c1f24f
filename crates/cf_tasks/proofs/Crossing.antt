-- What a thread may be given.
use denote.RattleType.{RattleType}
use denote.Param.Send.{IsSend, sendable}
use Rattle.std.proofs.Crossing.{crosses}
use Rattle.atomic_table.proofs.badge.Badge.TheSendSync.{the_send as badge}
use Rattle.atomic_table.proofs.shared.Seat.TheSendSync.{the_send as seat}
use Rattle.atomic_table.proofs.send_lease.SendLease.TheSendSync.{the_send as lease, the_sync as lent_lease}
use Rattle.atomic_table.proofs.shared.Shared.TheSendSync.{the_send as table, the_sync as lent_table}
use Rattle.cf_tasks.specs.contracts.workers.Waited as Waited

pub waited_send : (T U : RattleType) → IsSend T → IsSend U → IsSend (Waited.the_row T U)
waited_send T U j o = search (sendable, crosses, badge, seat, table, lent_table, lease, lent_lease) depth 60 fits 6000
