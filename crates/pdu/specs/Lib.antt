pub mod Answers
pub mod Cases
pub mod Decoding
pub mod Encoding
pub mod Layout
pub mod RoundTrip
