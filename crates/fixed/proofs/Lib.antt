pub mod Pushing
pub mod Pigeonhole
