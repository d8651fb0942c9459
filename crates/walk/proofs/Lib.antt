-- Laws of the walker.
mod Tests
mod Folds
mod Whole
