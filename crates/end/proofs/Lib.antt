pub mod Clearing
pub mod Opened
pub mod Readiness
pub mod Rings
pub mod Settled
pub mod Slots
