pub mod Items
pub mod Lent
pub mod Walked
pub use Rattle.cf_view.specs.Lent.{AreThere, GivesFirst, items_in}
