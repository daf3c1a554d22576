mod Base
mod Agrees
mod Grows
mod Covers
mod Bars
mod Crowds
mod Hopeless
mod OneNet
