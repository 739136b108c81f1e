pub mod Basics
pub mod Named
pub mod Values
pub mod Lines
pub mod Ordered
pub mod Reached
pub mod First
pub mod Accepted
