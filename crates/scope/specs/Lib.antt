-- What the contracts of `scope` cite.
pub mod Table
pub mod Drawn
pub mod States
pub mod Uses
pub mod Places
pub mod Classes
