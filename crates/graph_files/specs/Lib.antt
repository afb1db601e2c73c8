pub mod Kinds
pub mod Bytes
pub mod Spelling
