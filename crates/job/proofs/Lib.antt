pub mod Admitting
pub mod Highest
