pub mod Bytes
pub mod Layout
pub mod Records
pub mod Terms
pub mod Reading
pub mod Reads
pub mod Lengths
