mod Counts
mod Listing
mod OneRoom
mod Tallies
