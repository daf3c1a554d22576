mod Base
mod Parts
mod Adding
mod Failing
mod Lines
