mod Keys
mod Latches
mod Naming
mod OneReading
mod Written
