pub mod Simulations
pub mod PartRules
pub mod PartAgrees
pub mod PartKept
pub mod PartsWorked
pub mod CallLists
pub mod WorkedTable
