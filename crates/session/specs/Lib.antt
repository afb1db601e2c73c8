pub mod Trails
pub mod Refusals
pub mod States
pub mod Held
pub mod Least
pub mod Causes
pub mod Histories
pub mod SessionLaw
