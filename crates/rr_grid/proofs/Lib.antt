mod Found
mod Kept
mod Lent
mod OneReading
mod Sized
mod Steps
mod Whole
