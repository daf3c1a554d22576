mod Cutting
mod Numbering
pub mod Spanning
mod Trimming
mod Wording
