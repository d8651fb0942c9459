-- Laws of scopes: the site table and its book, passes over the sites, uses and let lists, patterns and places, classes;
-- and that the code's scope stands for the definition's.
pub mod Drawings
pub mod Sweeps
pub mod Uses
pub mod Binds
pub mod Labels
pub mod Standing
