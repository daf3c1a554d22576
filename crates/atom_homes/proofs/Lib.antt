pub mod Scans
pub mod Different
