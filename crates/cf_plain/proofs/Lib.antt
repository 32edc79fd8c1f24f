pub mod Walking
pub mod Replaying
pub mod Syncing
pub mod Watching
