-- How the search for the greatest worth finds the definition's choice.
pub mod Answers
pub mod Nearby
pub mod Tops
pub mod Keys
pub mod Whole
pub mod Callers
