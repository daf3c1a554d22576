mod Counting
mod Growing
