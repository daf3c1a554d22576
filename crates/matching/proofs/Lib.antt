pub mod Counting
mod Steps
mod Sound
