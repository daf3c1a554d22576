mod Splitting
mod Reading
