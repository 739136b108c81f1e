pub mod Tables
pub mod Values
