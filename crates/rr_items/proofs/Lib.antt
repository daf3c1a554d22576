mod Found
mod OneItem
