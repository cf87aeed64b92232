pub mod Lists
pub mod Machine
pub mod Search
pub mod Claims
pub mod Counts
pub mod Lockstep
pub mod Lent
