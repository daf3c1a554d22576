mod Turned
mod Parts
