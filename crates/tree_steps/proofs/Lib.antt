mod Path
mod Onward
