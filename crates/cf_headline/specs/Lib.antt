pub mod Headline
pub mod Grounds
pub use Rattle.cf_headline.specs.Headline.{IsLongest, IsServing}
