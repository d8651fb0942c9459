-- What the contracts cite: how two arrays are read as sets, what the public calls promise, what the private steps speak of; and
-- that the promises leave one answer.
pub mod View
pub mod Told
pub mod Promises
pub mod Entries
pub mod Determined
