mod Lists
mod Taking
mod Growing
mod Spreading
mod Webbing
mod Across
mod Crossing
mod Joined
