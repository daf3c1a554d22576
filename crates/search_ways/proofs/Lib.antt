mod Spreading
mod Reaching
