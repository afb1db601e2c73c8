pub mod Names
pub mod Forms
pub mod Prefixes
pub mod Laws
pub mod Machines
pub mod Readers
pub mod Views
pub mod Examples
