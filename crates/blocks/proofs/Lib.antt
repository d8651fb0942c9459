-- What accepted tables give, states that stay states, and how the loops make a block.
pub mod Bounds
pub mod Ready
mod Scoping
mod Returning
mod Choosing
pub mod Laying
mod Stepping
mod Arms
mod Making
mod ArmsLoop
mod StepsLoop
