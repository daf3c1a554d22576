mod Ways
mod Apart
