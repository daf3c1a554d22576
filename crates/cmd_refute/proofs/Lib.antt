mod Few
mod Atoms
mod Judged
mod Complete
