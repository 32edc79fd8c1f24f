pub mod Texts
pub use Rattle.cf_run_text.specs.Texts.{run_text}
