mod Naming
mod Pairs
mod Pinning
mod Porting
