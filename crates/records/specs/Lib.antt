pub mod Graphs
pub mod Encoding
pub mod Frames
pub mod Fields
pub mod Bodies
