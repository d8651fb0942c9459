-- Laws that belong to no one function.
pub mod Listed
pub mod Tallies
pub mod Entering
pub mod Moving
pub mod Joining
