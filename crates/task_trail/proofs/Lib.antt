mod Above
mod Marks
mod Room
