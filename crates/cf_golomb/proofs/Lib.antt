pub mod AgainLemmas
pub mod BitLemmas
pub mod MeetLemmas
pub mod OnlyLemmas
pub mod ReadLemmas
pub mod WriteLemmas
