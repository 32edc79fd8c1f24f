pub mod Trail
pub mod Asking
pub mod Peer
pub mod Hearing
pub mod Acts
pub mod Held
pub mod Lent
pub use Rattle.cf_peer.specs.Trail.{is_connected, heard_part, is_unknown, own, Part, part_after, part_of, Passed, replies_owed, Said, spelled, trail, WasAsked, with_item}
pub use Rattle.cf_peer.specs.Asking.{block_entry, BlockOpen, claims, counted, Deserves, fetched_blocks, fetched_by, FiltersOpen, given_filters, is_open, lists, NothingOpen, PingOpen, pings, request, SameUse, verdict}
pub use Rattle.cf_peer.specs.Peer.{asked_for_claims, asked_for_filters, calm, Holds, is_idle_peer, IsReplySendable, IsRight}
pub use Rattle.cf_peer.specs.Acts.{bytes_of, IsDoable, IsSendable}
