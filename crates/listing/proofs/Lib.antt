pub mod Cases
pub mod Elements
pub mod Ended
pub mod Laws
pub mod Listed
pub mod Reading
pub mod Readings
pub mod Running
