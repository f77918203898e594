pub mod Counted
pub mod Counting
pub mod Numbers
