pub mod Proposals
pub mod Verdicts
pub mod Tally
pub mod Spread
pub mod Paired
pub mod Counts
pub mod Laws
