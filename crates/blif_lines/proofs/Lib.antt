mod Cuts
mod Joining
mod OneReading
mod Parts
mod Texts
mod Wording
