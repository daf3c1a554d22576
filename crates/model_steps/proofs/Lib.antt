mod Growing
mod Appending
mod Pins
mod Changing
mod Lines
