pub mod Answers
pub mod Firsts
pub mod Owners
pub mod Inters
