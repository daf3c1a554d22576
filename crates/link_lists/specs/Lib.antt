pub mod Arrays
pub mod Members
pub mod Links
pub mod Queued
pub mod Buckets
pub mod Bits
