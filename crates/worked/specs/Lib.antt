-- The worked books of document 01: how bytes are laid out, the books, the calls, and the table of what each call comes to.
pub mod Layout
pub mod Books
pub mod Calls
pub mod Quick
pub mod Compute
pub mod Table
pub mod Listings
