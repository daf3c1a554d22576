mod Growing
mod Across
mod Starting
