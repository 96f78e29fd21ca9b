-- What the contracts of the bundle's program cite.
pub mod Prefix
