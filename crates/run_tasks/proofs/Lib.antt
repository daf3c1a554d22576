mod Listed
mod Stopped
mod Complete
