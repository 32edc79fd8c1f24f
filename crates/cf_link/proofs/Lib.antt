mod Gathers
mod Places
mod Sweeps
mod Taken
mod Steps
