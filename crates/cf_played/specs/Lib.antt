pub mod Hearing
pub mod Waiting
pub mod Answers
pub mod Frames
pub mod Ways
pub mod Peers
pub mod Players
pub mod Told
pub mod Turns
pub use Rattle.cf_played.specs.Peers.{Peer, still}
pub use Rattle.cf_played.specs.Told.{finished_of, HasAdded, keeps_of, log_of, peers_of}
