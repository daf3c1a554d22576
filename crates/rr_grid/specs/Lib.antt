pub mod Firsts
pub mod Gathering
pub mod Refusing
pub mod Roots
pub mod Saying
pub mod Sizes
