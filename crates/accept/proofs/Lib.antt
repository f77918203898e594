pub mod Keeps
pub mod Settled
pub mod Stores
