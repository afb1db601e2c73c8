pub mod Calls
pub mod SettleLaw
