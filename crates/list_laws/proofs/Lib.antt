pub mod Counting
pub mod Firsts
pub mod Members
pub mod Onces
pub mod Places
pub mod Picks
pub mod Searches
pub mod Sorting
