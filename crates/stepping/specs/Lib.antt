pub mod Range
pub mod Step
pub mod Said
pub mod Beyond
pub mod Follow
