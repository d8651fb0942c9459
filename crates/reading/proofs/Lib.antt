-- Laws of the definition's readers.
pub mod Readers
pub mod Reach
pub mod Tests
pub mod Loops
