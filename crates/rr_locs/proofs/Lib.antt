mod Listed
mod OneList
mod Ordered
mod Sorted
mod Starts
