pub mod Tables
pub mod Watch
pub mod HouseTable
pub mod GraphTable
pub mod GraphRules
pub mod GraphLaws
pub mod RuleLaws
