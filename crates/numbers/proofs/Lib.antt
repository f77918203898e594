pub mod Ages
pub mod Cases
pub mod Laws
pub mod Steps
