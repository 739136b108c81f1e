pub mod Spoiling
pub mod Judging
pub mod Trying
pub mod Good
pub mod Rules
