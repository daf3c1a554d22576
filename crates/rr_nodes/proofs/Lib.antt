mod Kept
mod OneReading
mod Steps
