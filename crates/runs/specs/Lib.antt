pub mod Runs
pub mod Visits
pub mod Tables
pub mod Lists
pub mod Ends
pub mod Listings
