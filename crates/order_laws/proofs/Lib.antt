mod Merging
mod Driving
mod Grouping
mod Naming
mod Keeping
