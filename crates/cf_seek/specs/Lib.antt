pub mod Tracking
pub mod Cursors
pub mod Ends
pub mod Spans
pub mod Opens
pub mod Listed
pub mod OpensOf
pub mod OpensAll
pub mod Seeking
pub mod Testing
pub mod Tried
pub mod Aims
pub mod Opening
pub use Rattle.cf_seek.specs.Tracking.{AreAmong, AreMarked, best_chain, IsBestChain, IsReport}
pub use Rattle.cf_seek.specs.Cursors.{marks_at, settled, unpassed, unsought}
pub use Rattle.cf_seek.specs.Spans.{asked_marks, GoesFar, IsAskedFor, IsAskedInPart, IsWish, MayBePut}
pub use Rattle.cf_seek.specs.Opens.{IsBlockFree, IsFilterFree}
pub use Rattle.cf_seek.specs.OpensAll.{opens_in}
pub use Rattle.cf_seek.specs.Seeking.{ArePassed, AreSought, IsToAsk, IsToGet, MoreOpens}
pub use Rattle.cf_seek.specs.Testing.{IsClaimedAs, IsExposed, IsNextTrial, IsTrial, IsTrying}
pub use Rattle.cf_seek.specs.Tried.{AreTriedTo, IsOn, IsTriedBelow, tried_at}
pub use Rattle.cf_seek.specs.Aims.{IsAimed}
pub use Rattle.cf_seek.specs.Opening.{Closes, IsSameElse, IsSameOpens, OpensBlock, OpensFilters, OpensSome}
