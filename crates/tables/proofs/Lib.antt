-- Laws of the tables: their fields, the book that they are, and what refusals 4 and 5 leave of them.
pub mod Signs
pub mod Fields
pub mod Slots
pub mod Ends
pub mod Kept
