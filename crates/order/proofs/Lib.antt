-- How the loops of `order` give the definition's splits, its ranking and its patterns.
pub mod Compared
pub mod Asks
pub mod Cuts
pub mod Ranking
pub mod Arming
pub mod Peaks
pub mod Callers
