-- What the contracts of the report cite: the texts, where they go, and how long they can get.
pub mod Text
pub mod Puts
pub mod Room
pub mod Samples
