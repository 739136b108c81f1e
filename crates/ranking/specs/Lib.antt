pub mod Orders
pub mod Standings
pub mod Pedigrees
pub mod Keys
pub mod Laws
