-- The laws that the proofs of several functions cite.
pub mod Parts
pub mod Digits
pub mod Decimal
pub mod Lengths
pub mod Turns
pub mod Whole
pub mod Smallest
