mod Written
mod Paths
mod Leaves
mod Measure
mod Apart
mod Spent
mod Ends
