pub mod Text
pub mod Puts
pub mod Lines
pub mod Report
