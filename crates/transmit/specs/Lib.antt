pub mod Polling
pub mod Sending
pub mod Store
pub mod Submit
