mod Shrinks
mod Options
mod Rooms
