pub mod Machines
pub mod NameRuns
pub mod FormRuns
pub mod FormLaws
