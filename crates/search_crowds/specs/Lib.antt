pub mod Firsts
pub mod Webs
