mod Model
mod Faults
