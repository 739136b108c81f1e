pub mod Plain
pub mod Records
pub mod Admitted
pub mod Preview
pub mod Refusals
