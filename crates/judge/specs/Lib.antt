-- What the contract of a judged case cites.
pub mod Output
