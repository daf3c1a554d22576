mod Lively
mod Decided
mod Behind
mod Nexts
mod Firsts
