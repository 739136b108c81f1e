pub mod Boards
pub mod Plain
pub mod Shifts
pub mod Shown
pub mod Points
pub mod Refusals
pub mod Laws
