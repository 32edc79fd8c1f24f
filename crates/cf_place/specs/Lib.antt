pub mod Standing
pub mod Places
pub use Rattle.cf_place.specs.Standing.{EndsTell, Greeting, IsState, TellsGreeting}
pub use Rattle.cf_place.specs.Places.{ActTells, after, Allowed, AreCalm, CutFor, end_of, entry_of, Fits, Greets, is_busy, is_calm, is_here, is_idle, is_settled, is_wanting, IsFetch, IsGreeting, IsQuestion, MayAct, place_at, PlacesStand, state_of}
