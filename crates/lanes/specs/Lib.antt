pub mod EdgeKinds
pub mod Lanes
pub mod Sides
