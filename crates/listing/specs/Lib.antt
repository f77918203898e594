pub mod Cases
pub mod Laws
pub mod Line
pub mod Listing
pub mod Records
pub mod Run
