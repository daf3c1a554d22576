mod Merges
mod Elements
mod Good
mod Ordering
mod Makers
mod Grouping
mod Reading
mod Whole
