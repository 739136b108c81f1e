pub mod Lawful
pub mod Counts
pub mod Generations
