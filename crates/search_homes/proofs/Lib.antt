mod Pairing
mod Matched
