pub mod Scans
pub mod SideSeeks
pub mod ItemPlaces
pub mod GraphTables
pub mod HouseRows
