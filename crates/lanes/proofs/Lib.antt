pub mod LaneNumbers
pub mod SideNumbers
