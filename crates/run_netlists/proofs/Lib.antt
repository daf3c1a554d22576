mod Stopped
mod Complete
