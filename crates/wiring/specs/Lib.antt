pub mod Wires
pub mod Wiring
