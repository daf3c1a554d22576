mod OneFile
mod Keeping
